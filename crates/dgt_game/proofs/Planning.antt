-- What is planned, and how much is left to do.
use Rattle.std.specs.Prelude.{IfSome}
use Rattle.dgt_game.specs.Planning.{CastleFromHome, IsSetUp}
use Rattle.dgt_values.specs.declared.positions.Position.{Position}
use Rattle.std.proofs.Common.{rules, ◌≡◌, ◌∙◌, ◌⊎◌, ◌<◌, ◌≤◌, ◌+◌, inl, inr, refl, sym, ap, subst, arith, ℕ, zero, suc, Bool, true, false, List, [], ◌∷◌, Option, Some, None, Result, Ok, Err, length}
use Rattle.std.{proofs.{Common.{unwrap_or, slice_get, slice_index_or}, lemmas.Option.{get_or_from_slice_get, none-some, slice_get_read}}, specs.Prelude.{⊤, ◌↔◌, MatchOption, MatchResult, option_map}}
use Rattle.{std.{specs.Result.{result_ok}, proofs.Math.Logic.{∥∥₁_elim}}, dgt_values.specs.{declared.pieces.Piece.{Piece}, Board.{pieces_of, square_number}}}
use Rattle.dgt_chess.specs.{declared.{pieces.Colour.{Colour}, possible.{Impossible.{Impossible}, Rights.{Rights}}, state.State.{State}}, Attacks.{other, piece_at}, Possible.{HasKings, HasNoExtra}}
use Rattle.{dgt_chess.specs.{Possible.{HasNoStray, HasPassed, HasRights, IsPossible, Refuses}, Rules.{board}}, dgt_game.specs.declared.event.{Event.{Event}, GameResult.{GameResult}}}
use Rattle.dgt_game.specs.declared.{memory.Memory.{Memory}, node.{Node.{Node}, Origin.{Origin}, Place.{Place}, Step.{Step}}, recogniser.{Over.{Over}, Recogniser.{Recogniser}, Search.{Search}}}
use Rattle.dgt_game.specs.{declared.{resting.Next.{Next}, view.View.{View}}, Told.{as_shown}, Memory.{steps}, Waiting.{last_of}, Planning.{HasNothing, IsPlanned, IsRefused, Lacks, LacksSome}}
use Rattle.dgt_game.specs.Planning.{ElseMayBegin, FarIsCounted, InTurnIsNotRefused, IsFar, IsFarFrom, LiftedIsGone}
use Rattle.dgt_game.specs.Planning.{MovingBothIsSettingUp, SetsUp, differing, LostIsReported, NothingFits, OneFits, PossibleIsHopeful}
use Rattle.dgt_game.specs.Planning.{Plans, RestsAt, RestsBy, StaysPlaced, WhyHopeless, of_kings, of_place, of_search, todo}
use Rattle.dgt_game.specs.Results.{StandsAs}
use Rattle.dgt_game.proofs.{Chains.{get_step}, Standing.{some_of}, Waiting.{three_bad}}

abbrev pub over_of : Recogniser → Over
over_of self = self.over

-- ---- Pieces that are gone

pub piece_got : (picture : List Piece) (n at : ℕ) (piece : Piece) → n ≡ at
    → slice_get picture n ≡ Some piece → piece_at picture at ≡ piece
piece_got picture n at piece same is = search (rules, get_or_from_slice_get)

-- a square of a picture that lacks only pieces of a state
abbrev pub StandsAt : List Piece → State → ℕ → Type 0
StandsAt picture state k =
    (piece_at picture k ≡ piece_at (board state) k) ⊎ (piece_at picture k ≡ Piece.Empty)

pub stands_at : (picture : List Piece) (state : State) (n at : ℕ) (new old : Piece) → n ≡ at
    → slice_get picture n ≡ Some new → slice_get (board state) n ≡ Some old
    → ((new ≡ old) ⊎ (new ≡ Piece.Empty)) ↔ StandsAt picture state at
stands_at picture state n at new old same is was =
    let new_is = piece_got picture n at new same is in
    let old_is = piece_got (board state) n at old same was in search rules

-- the step of a node that was read
pub step_got : (nodes read : List Node) (k : ℕ) (node : Node) → read ≡ nodes → k < length read
    → node ≡ slice_index_or read k node → slice_get (steps nodes) k ≡ Some node.step
step_got nodes read k node same less is = search (rules, get_step, slice_get_read)

-- the step at a place is a node's
pub node_of : (nodes : List Node) (k : ℕ) (step : Step) → slice_get (steps nodes) k ≡ Some step
    → (node : Node) × (slice_get nodes k ≡ Some node) × (node.step ≡ step)
node_of [] k step e = absurd (subst (λ (o : Option Step). MatchOption o ⊤ (λ _. ⊥)) e tt)
node_of (first ∷ nodes) zero step e =
    (first, refl, ap (λ (o : Option Step). unwrap_or o first.step) e)
node_of (first ∷ nodes) (suc k) step e = node_of nodes k step e

abbrev pub LacksOf : View → Step → Type 0
LacksOf view step = LacksSome (as_shown step.is_turned (pieces_of view.shown)) step.state

pub lacks_last : (view : Option View) (shown : View) (memory : Memory) (back : ℕ)
    → view ≡ Some shown → MatchOption (last_of memory) ⊥ (LacksOf shown) → Lacks view memory back
unfolding Lacks
lacks_last view shown memory back e h =
    let (step, at, lacks) = some_of (last_of memory) (LacksOf shown) h in
    (shown, e, (step, inl (inl at), lacks))

pub lacks_back : (view : Option View) (shown : View) (memory : Memory) (back : ℕ)
    → view ≡ Some shown
    → MatchOption (slice_get (steps memory.line.items) back) ⊥ (LacksOf shown)
    → Lacks view memory back
unfolding Lacks
lacks_back view shown memory back e h =
    let (step, at, lacks) = some_of (slice_get (steps memory.line.items) back) (LacksOf shown) h in
    (shown, e, (step, inr at, lacks))

pub lacks_seen : (view : Option View) (shown : View) (memory : Memory) (back k : ℕ) (step : Step)
    → view ≡ Some shown → slice_get (steps memory.seen.items) k ≡ Some step → LacksOf shown step
    → Lacks view memory back
unfolding Lacks
lacks_seen view shown memory back k step e at h = (shown, e, (step, inl (inr (k, at)), h))

pub lacks_none : (view : Option View) (memory : Memory) (back : ℕ) → view ≡ None
    → ¬ (Lacks view memory back)
unfolding Lacks
lacks_none view memory back e h =
    absurd (subst (λ (o : Option View). MatchOption o ⊤ (λ _. ⊥)) (sym e ∙ h.1) tt)

not_some : (found : Option Step) (P : Step → Type 0) (step : Step) → ¬ (MatchOption found ⊥ P)
    → found ≡ Some step → ¬ (P step)
not_some found P step none e h = none (rw e h)

pub lacks_not : (view : Option View) (shown : View) (memory : Memory) (back : ℕ)
    → view ≡ Some shown → ¬ (MatchOption (last_of memory) ⊥ (LacksOf shown))
    → ¬ (MatchOption (slice_get (steps memory.line.items) back) ⊥ (LacksOf shown))
    → ((k : ℕ) (step : Step) → slice_get (steps memory.seen.items) k ≡ Some step
    → ¬ (LacksOf shown step)) → ¬ (Lacks view memory back)
unfolding Lacks
lacks_not view shown memory back e last line seen h =
    search (rules, not_some)

-- ---- Positions that are refused

refused_by : (why : Impossible) (pieces : List Piece) (turn : Colour) (rights : Rights)
    (state : State) → HasRights pieces rights → Refuses why pieces turn rights None 1
    → board state ≡ pieces → state.turn ≡ turn → ¬ (IsPossible (board state) state.turn
    state.rights (option_map square_number state.passed) state.number)
unfolding HasPassed
refused_by Impossible.Kings pieces turn rights state homes h same e possible =
    h (subst HasKings same possible.kings)
refused_by Impossible.Extra pieces turn rights state homes h same e possible =
    h.1 (subst HasNoExtra same possible.known)
refused_by Impossible.Pawn pieces turn rights state homes h same e possible =
    h.2 (subst HasNoStray same possible.pawns)
refused_by Impossible.Check pieces turn rights state homes h same e possible = search rules
refused_by Impossible.Rights pieces turn rights state homes h same e possible = h.4 homes
refused_by Impossible.Passed pieces turn rights state homes h same e possible =
    h.5 (λ square none. absurd (none-some square none))
refused_by Impossible.Number pieces turn rights state homes h same e possible = omega (arith, h.6)

-- what is refused with the castlings that the pieces allow is refused with any
refused : (why : Impossible) (pieces : List Piece) (turn : Colour) (rights : Rights)
    → HasRights pieces rights → Refuses why pieces turn rights None 1 → IsRefused pieces turn
refused why pieces turn rights homes h = λ state same e.
    ∥∥₁_elim state.possible (λ x y. absurd x)
    (λ possible. refused_by why pieces turn rights state homes h same e possible)

pub unmade : (made : Result State Impossible) (P : State → Type 0) (pieces : List Piece)
    (turn : Colour) (rights : Rights) → result_ok made ≡ None
    → MatchResult made P (λ why. Refuses why pieces turn rights None 1) → HasRights pieces rights
    → IsRefused pieces turn
unmade (Ok state) P pieces turn rights none h homes = absurd (none-some state (sym none))
unmade (Err why) P pieces turn rights none h homes = refused why pieces turn rights homes h

pub made_anew : (made : Result State Impossible) (position : Position) (turn : Colour)
    (rights : Rights) (Q : Impossible → Type 0)
    → MatchResult made (λ state. (state.position ≡ position) × (state.turn ≡ turn)
    × (state.rights ≡ rights) × (state.passed ≡ None) × (state.half_moves ≡ 0)
    × (state.number ≡ 1)) Q → CastleFromHome (pieces_of position) rights
    → IfSome (result_ok made) IsSetUp
made_anew (Ok state) position turn rights Q h homes = (h.5, h.4, h.3, rw (h.0, h.2) homes)
made_anew (Err why) position turn rights Q h homes = tt

pub either_side : (P : Colour → Type 0) → P Colour.White → P Colour.Black → (side : Colour) → P side
either_side P side black h = search rules

pub hopeless_stays : (old new : Recogniser) → StaysPlaced old new → WhyHopeless old
    → WhyHopeless new
hopeless_stays old new (view, search, here, running) h =
    λ shown e nowhere. let (hopeless, refused) = h shown (sym view ∙ e) (here nowhere) in (
      λ is. elim (hopeless (sym search ∙ is)) [
        | inl none ↦ inl none
        | inr shows ↦ inr (shows.0, grind arith)
      ],
      λ is. rw running (refused (sym search ∙ is)),
    )

-- ---- What is planned

plans_same : (self : Recogniser) (next plan : Option Next) (ended : Option (GameResult × Over))
    → Plans self plan → Plans (record self { next = next; ended = ended }) plan
plans_same self next plan ended h = search rules

pub plans_with : (self : Recogniser) (next plan : Option Next) → Plans self plan
    → Plans (record self { next = next }) plan
plans_with self next plan h = plans_same self next plan self.ended h

pub planned_quiet : (self new : Recogniser) → new ≡ record self { ended = None } → IsPlanned self
    → IsPlanned new
planned_quiet self new e h = rw e (plans_same self self.next self.next None h)

pub planned_then : (self new : Recogniser) (report : Option Event)
    → MatchOption report (new ≡ record self { ended = None }) (λ event. IsPlanned new)
    → IsPlanned self → IsPlanned new
planned_then self new None told h = planned_quiet self new told h
planned_then self new (Some event) told h = told

pub rests_here : (memory : Memory) (read : List Node) (place : Place) (returned wait k : ℕ)
    (node : Node) (origin : Origin) → place ≡ Place.Seen k → read ≡ memory.seen.items
    → k < length read → node ≡ slice_index_or read k node → node.origin ≡ origin
    → RestsBy origin node.depth returned wait → RestsAt place memory returned wait
rests_here memory read place returned wait k node origin here same less is by h =
    search (rules, slice_get_read)

-- ---- How much is left to do

pub todo_most : (self : Recogniser) → todo self ≤ 3
todo_most self = search rules

-- a result by kings leaves nothing to do
pub fewer_by_result : (old : Recogniser) (has : Bool) → old.has_kings ≡ true
    → (has ≡ true → false ≡ true) → of_kings has + of_search Search.Hopeless
    + of_place false Place.Nowhere Search.Hopeless < todo old
fewer_by_result old has kings none = search rules

pub nothing_left : (self : Recogniser) → todo self ≡ 0 → HasNothing self
nothing_left self e = search rules

-- ---- Laws

pub one_fits : OneFits
one_fits self = search rules

pub nothing_fits : NothingFits
nothing_fits self h h' fits = search rules

pub lost_is_reported : LostIsReported
lost_is_reported self why seen here done quiet on line lifted = search rules

pub possible_is_hopeful : PossibleIsHopeful
possible_is_hopeful self view why e here hopeless kings =
    elim ((why view e here).0 hopeless) [
      | inl missing ↦ absurd (missing.1 (kings missing.0))
      | inr shows ↦ shows
    ]

pub in_turn_is_not_refused : InTurnIsNotRefused
in_turn_is_not_refused self view turn why e here clock possible is =
    let (turned, cannot) = (why view e here).1 is in
    let (state, same, at) = possible turned in
    elim (cannot turn) [ inl other ↦ clock other | inr refused ↦ refused state same at ]

is_false : (b : Bool) → ¬ (b ≡ true) → b ≡ false
is_false true other = absurd (other refl)
is_false false other = refl

not_both : (b : Bool) (P : Type 0) → ¬ ((b ≡ true) × P) → (b ≡ false) ⊎ ¬ P
not_both true P none = inr (λ p. none (refl, p))
not_both false P none = inl refl

pub else_may_begin : ElseMayBegin
else_may_begin self = (
  λ h may. search rules,
  λ none. (
    λ line. none (inl line),
    λ over. none (inr (inl over)),
    is_false self.is_set_up (λ set. none (inr (inr (inl set)))),
    not_both self.is_behind (IsFar self) (λ far. none (inr (inr (inr far)))),
  ),
)

pub far_is_counted : FarIsCounted
unfolding IsFarFrom
far_is_counted self view step seen last = (
  λ (shown, is, (other, at, many)).
      let same : shown ≡ view = cc in
      let one : other ≡ step = cc in
      subst (λ (v : View). 24 < differing (as_shown step.is_turned (pieces_of v.shown))
      (board step.state)) same (subst (λ (s : Step). 24 < differing (as_shown s.is_turned
      (pieces_of shown.shown)) (board s.state)) one many),
  λ many. (view, seen, (step, last, many)),
)

-- the same is set up if the line stays
pub sets_up_same : (old new : Recogniser) (view : View) → new.memory.line ≡ old.memory.line
    → over_of new ≡ over_of old → SetsUp old view → SetsUp new view
sets_up_same old new view line over (off, inl none) = (off, inl (over ∙ none))
sets_up_same old new view line over (off, inr other) =
    (off, inr (λ almost. other (rw line at almost)))

pub moving_sets_up : MovingBothIsSettingUp
moving_sets_up self view step first second third last off one two three xy xz yz = (
  off,
  inr (λ almost.
      let (a, b, all) = rw last at almost in
      let fits : ℕ → Type 0 =
      StandsAs (as_shown step.is_turned (pieces_of view.shown)) (board step.state) in
      three.1 (three_bad fits a b first second third all one.0 two.0 three.0 xy xz yz one.1 two.1)),
)

pub lifted_is_gone : LiftedIsGone
unfolding Lacks
lifted_is_gone self view seen each (shown, is, (step, known, lacks)) =
    let same : shown ≡ view = cc in
    let (only, differs) = subst (λ (v : View). LacksOf v step) same lacks in
    search rules
