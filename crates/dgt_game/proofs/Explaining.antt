-- The only legal half-move that explains a picture.
use Rattle.std.{proofs.Common.{rules, ◌≡◌, ◌∙◌, ◌<◌, ◌+◌, ℕ, List, arith, inl, inr, subst, sym}, specs.Prelude.{◌⊎◌, ◌≤◌, ⊤, Option, Some, None}}
use Rattle.dgt_values.specs.{declared.pieces.Piece.{Piece}, Board.{square_number}}
use Rattle.{dgt_chess.specs.declared.{pieces.Man.{Man, TheVariants.{Pawn, Knight, Bishop, Rook, Queen, King}}, state.{Move.{Move}, State.{State}}}}
use Rattle.dgt_chess.{specs.Rules.{CanGo, Legal, board}, proofs.Same.{same_move}}
use Rattle.dgt_game.specs.{declared.unseen.Found.{Found}, Lines.{IsMove}, Results.{Explains}, Unseen.{BeforeKingsIsOnly, ExplainsBy, FoundBy, added}, Ways.{Ends}}
use Rattle.{std.specs.Prelude.{◌↔◌, Bool, false, IsTrue}, dgt_values.specs.{declared.positions.Position.{Position}, Board.{pieces_of}}}
use Rattle.dgt_game.specs.{declared.{event.GameResult.{GameResult}, node.{Place.{Place}, Step.{Step}, Way.{Way}}}, Results.{ByKings, KingsMean}, Told.{as_shown}, Unseen.{OnlyExplains}}
use Rattle.dgt_game.proofs.{HalfMoves.{made_by}, Results.{explained_is_like}, Same.{one_next}}

-- each legal half-move of a set is in one of two others
pub joined : (H F G : Move → Type 0) (picture : List Piece) (state : State) (found other : Found)
    → ((one : Move) (new : State) → IsMove state one new → H one → F one ⊎ G one)
    → FoundBy F picture state found → FoundBy G picture state other
    → FoundBy H picture state (added found other)
joined H F G picture state Found.Nothing Found.Nothing parts f g =
    λ one new h is. elim (parts one new is.0 h) [
      | inl a ↦ f one new a is
      | inr b ↦ g one new b is
    ]
joined H F G picture state (Found.Only one new) Found.Nothing parts f g = (
  f.0,
  λ other end h is. elim (parts other end is.0 h) [
    | inl a ↦ f.1 other end a is
    | inr b ↦ absurd (g other end b is)
  ],
)
joined H F G picture state Found.Nothing (Found.Only one new) parts f g = (
  g.0,
  λ other end h is. elim (parts other end is.0 h) [
    | inl a ↦ absurd (f other end a is)
    | inr b ↦ g.1 other end b is
  ],
)
joined H F G picture state Found.Several Found.Nothing parts f g = tt
joined H F G picture state Found.Nothing Found.Several parts f g = tt
joined H F G picture state (Found.Only one new) (Found.Only other end) parts f g = tt
joined H F G picture state (Found.Only one new) Found.Several parts f g = tt
joined H F G picture state Found.Several (Found.Only other end) parts f g = tt
joined H F G picture state Found.Several Found.Several parts f g = tt

-- a set whose legal half-moves are in another
pub within : (H F : Move → Type 0) (picture : List Piece) (state : State) (found : Found)
    → ((one : Move) (new : State) → IsMove state one new → H one → F one)
    → FoundBy F picture state found → FoundBy H picture state found
within H F picture state Found.Nothing part f = λ one new h is. f one new (part one new is.0 h) is
within H F picture state (Found.Only one new) part f =
    (f.0, λ other end h is. f.1 other end (part other end is.0 h) is)
within H F picture state Found.Several part f = tt

pub before_kings_is_only : BeforeKingsIsOnly
before_kings_is_only picture state one other new end only move explains =
    let same = only.1 other end (move, explains) in (same, search (rules, one_next))

-- ---- sets by the ends of half-moves

pub one_found : (picture : List Piece) (state : State) (from to : ℕ) (promotion : Option Man)
    (one : Move) (new : State) → square_number one.from ≡ from → square_number one.to ≡ to
    → one.promotion ≡ promotion → ExplainsBy picture state one new
    → FoundBy (Ends from to (λ p. p ≡ promotion)) picture state (Found.Only one new)
one_found picture state from to promotion one new from_is to_is promotes is = (
  is,
  λ other end (a, b, p) _.
      same_move other one (a ∙ sym from_is) (b ∙ sym to_is) (p ∙ sym promotes),
)

pub none_found : (picture : List Piece) (state : State) (from to : ℕ) (promotion : Option Man)
    (one : Move) → square_number one.from ≡ from → square_number one.to ≡ to
    → one.promotion ≡ promotion → ((new : State) → ¬ (ExplainsBy picture state one new))
    → FoundBy (Ends from to (λ p. p ≡ promotion)) picture state Found.Nothing
none_found picture state from to promotion one from_is to_is promotes none =
    λ other end (a, b, p) is. none end (subst (λ (m : Move). ExplainsBy picture state m end)
    (same_move other one (a ∙ sym from_is) (b ∙ sym to_is) (p ∙ sym promotes)) is)

pub illegal : (picture : List Piece) (state : State) (one : Move)
    → ¬ (Legal state (square_number one.from) (square_number one.to) one.promotion)
    → (new : State) → ¬ (ExplainsBy picture state one new)
illegal picture state one none new is = none (made_by state one new is.0)

pub unexplained : (picture : List Piece) (state : State) (one : Move) (new : State)
    → IsMove state one new → ¬ (Explains picture (board new))
    → (end : State) → ¬ (ExplainsBy picture state one end)
unexplained picture state one new move none end is =
    none (subst (λ (s : State). Explains picture (board s)) (one_next state one end new is.0 move)
    is.1)

abbrev Between : ℕ → ℕ → Move → Type 0
Between from to one = (square_number one.from ≡ from) × (square_number one.to ≡ to)

-- one more promotion
more : (picture : List Piece) (state : State) (from to : ℕ) (P : Option Man → Type 0)
    (promotion : Option Man) (found other : Found)
    → FoundBy (Ends from to P) picture state found
    → FoundBy (Ends from to (λ p. p ≡ promotion)) picture state other
    → FoundBy (Ends from to (λ p. P p ⊎ (p ≡ promotion))) picture state (added found other)
more picture state from to P promotion found other f g =
    joined (Ends from to (λ p. P p ⊎ (p ≡ promotion))) (Ends from to P)
    (Ends from to (λ p. p ≡ promotion)) picture state found other
    (λ one new move (a, b, e). elim e [ inl p ↦ inl (a, b, p) | inr p ↦ inr (a, b, p) ]) f g

abbrev Five : Option Man → Type 0
Five p =
    ((((p ≡ None) ⊎ (p ≡ Some Queen)) ⊎ (p ≡ Some Rook)) ⊎ (p ≡ Some Bishop)) ⊎ (p ≡ Some Knight)

one_of_five : (p : Option Man) → ¬ (p ≡ Some Pawn) → ¬ (p ≡ Some King) → Five p
one_of_five p pawn king = search rules

promotes : (state : State) (one : Move) (new : State) → IsMove state one new → Five one.promotion
unfolding IsMove
promotes state one new (man, legal, after) =
    one_of_five one.promotion legal.promotes.1 legal.promotes.2

pub five : (picture : List Piece) (state : State) (from to : ℕ)
    (none queen rook bishop knight : Found)
    → FoundBy (Ends from to (λ p. p ≡ None)) picture state none
    → FoundBy (Ends from to (λ p. p ≡ Some Queen)) picture state queen
    → FoundBy (Ends from to (λ p. p ≡ Some Rook)) picture state rook
    → FoundBy (Ends from to (λ p. p ≡ Some Bishop)) picture state bishop
    → FoundBy (Ends from to (λ p. p ≡ Some Knight)) picture state knight
    → FoundBy (λ one. (square_number one.from ≡ from) × (square_number one.to ≡ to)) picture state
    (added (added (added (added none queen) rook) bishop) knight)
five picture state from to none queen rook bishop knight n q r b k =
    let two = more picture state from to (λ p. p ≡ None) (Some Queen) none queen n q in
    let three = more picture state from to (λ p. (p ≡ None) ⊎ (p ≡ Some Queen)) (Some Rook)
    (added none queen) rook two r in
    let four = more picture state from to
    (λ p. ((p ≡ None) ⊎ (p ≡ Some Queen)) ⊎ (p ≡ Some Rook)) (Some Bishop)
    (added (added none queen) rook) bishop three b in
    let all = more picture state from to
    (λ p. (((p ≡ None) ⊎ (p ≡ Some Queen)) ⊎ (p ≡ Some Rook)) ⊎ (p ≡ Some Bishop)) (Some Knight)
    (added (added (added none queen) rook) bishop) knight four k in
    within (Between from to) (Ends from to Five) picture state
    (added (added (added (added none queen) rook) bishop) knight)
    (λ one new move (a, b). (a, b, promotes state one new move)) all

pub no_goal : (picture : List Piece) (state : State) (from to : ℕ) → ¬ (CanGo state from to)
    → FoundBy (λ one. (square_number one.from ≡ from) × (square_number one.to ≡ to)) picture state
    Found.Nothing
unfolding CanGo
no_goal picture state from to none one new (a, b) is =
    let P : ℕ → ℕ → Type 0 = λ m n. Legal state m n one.promotion in
    none (one.promotion, subst (λ n. P from n) b (rw a at (made_by state one new is.0)))

-- one more goal
pub further : (picture : List Piece) (state : State) (from to : ℕ) (found other new : Found)
    → new ≡ added found other
    → FoundBy (λ one. (square_number one.from ≡ from) × (square_number one.to < to)) picture state
    found
    → FoundBy (λ one. (square_number one.from ≡ from) × (square_number one.to ≡ to)) picture state
    other
    → FoundBy (λ one. (square_number one.from ≡ from) × (square_number one.to < to + 1)) picture
    state new
further picture state from to found other new e f g =
    let F : Move → Type 0 = λ one. (square_number one.from ≡ from) × (square_number one.to < to) in
    let G : Move → Type 0 = λ one. (square_number one.from ≡ from) × (square_number one.to ≡ to) in
    let H : Move → Type 0 =
    λ one. (square_number one.from ≡ from) × (square_number one.to < to + 1) in
    rw e (joined H F G picture state found other (search rules) f g)

-- one more first square
pub next_from : (picture : List Piece) (state : State) (from : ℕ) (found other new : Found)
    → new ≡ added found other
    → FoundBy (λ one. square_number one.from < from) picture state found
    → FoundBy (λ one. square_number one.from ≡ from) picture state other
    → FoundBy (λ one. square_number one.from < from + 1) picture state new
next_from picture state from found other new e f g =
    let F : Move → Type 0 = λ one. square_number one.from < from in
    let G : Move → Type 0 = λ one. square_number one.from ≡ from in
    let H : Move → Type 0 = λ one. square_number one.from < from + 1 in
    rw e (joined H F G picture state found other (search rules) f g)

-- the goals below 64, and the first squares
pub all_goals : (picture : List Piece) (state : State) (from to : ℕ) (found : Found) → 64 ≤ to
    → FoundBy (λ one. (square_number one.from ≡ from) × (square_number one.to < to)) picture state
    found → FoundBy (λ one. square_number one.from ≡ from) picture state found
all_goals picture state from to found end f =
    within (λ one. square_number one.from ≡ from)
    (λ one. (square_number one.from ≡ from) × (square_number one.to < to)) picture state found
    (λ one new move a. (a, omega (arith, one.to.small, end))) f

pub all_from : (picture : List Piece) (state : State) (from : ℕ) (found : Found) → 64 ≤ from
    → FoundBy (λ one. square_number one.from < from) picture state found
    → FoundBy (λ one. ⊤) picture state found
all_from picture state from found end f =
    within (λ one. ⊤) (λ one. square_number one.from < from) picture state found
    (λ one new move a. omega (arith, one.from.small, end)) f

-- ---- what the board shows

pub unexplained_by : (found : Bool) (pieces shown : List Piece) (position : Position)
    (state : State) → found ≡ false → IsTrue found ↔ Explains pieces (pieces_of position)
    → pieces ≡ shown → position ≡ state.position → ¬ (Explains shown (board state))
unexplained_by found pieces shown position state fails h same at is =
    let wrong : IsTrue found = h.1 (rw same (rw at is)) in
    absurd (search rules)

-- the same from the side of the board
pub only_by : (pieces picture : List Piece) (from step : Step) (place : Place) (one : Move)
    (state : State) → pieces ≡ as_shown from.is_turned picture → step ≡ record {
      state = state;
      is_turned = from.is_turned;
      way = Way.Made one;
      parent = place;
    } → FoundBy (λ one. ⊤) pieces from.state (Found.Only one state)
    → OnlyExplains (as_shown from.is_turned picture) from.state one step.state
only_by pieces picture from step place one state same e found =
    let h : FoundBy (λ one. ⊤) (as_shown from.is_turned picture) from.state
    (Found.Only one state) =
    subst (λ (ps : List Piece). FoundBy (λ one. ⊤) ps from.state (Found.Only one state)) same found
    in rw e ((h.0, λ other end is. h.1 other end tt is))

pub ends_by : (picture : List Piece) (from step : Step) (place : Place) (one : Move)
    (state : State) (result : GameResult) → step ≡ record {
      state = state;
      is_turned = from.is_turned;
      way = Way.Made one;
      parent = place;
    } → KingsMean (as_shown from.is_turned picture) result
    → Explains (as_shown from.is_turned picture) (board state)
    → ByKings (as_shown step.is_turned picture) step.state result
ends_by picture from step place one state result e kings explains =
    rw e (explained_is_like (as_shown from.is_turned picture) state result kings explains)
