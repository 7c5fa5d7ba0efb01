-- What results and lost lines mean.
use Rattle.std.{proofs.Common.{rules, ◌≡◌, ◌∙◌, ◌++◌, sym, arith, ℕ, Bool, true, false, List, [], ◌∷◌, Option, Some, None, refl, zero, suc}, specs.Prelude.{Contains}}
use Rattle.dgt_game.specs.{declared.{event.{Event.{Event}, GameResult.{GameResult}}, recogniser.Recogniser.{Recogniser}}}
use Rattle.dgt_game.specs.Waiting.{CallsFollowOn, FollowOn, IsRight, ResultIsFound, RightIfAway, RunsInTurn}
use Rattle.dgt_game.specs.{Waiting.{events_in, has_result, is_lost}, Results.{AreLost, HasResults, LostInTurn, NotFound, NotLost, OneByKings, OneByRules, OneOther, OneResult, Stay}}
use Rattle.dgt_chess.specs.declared.state.State.{State}
use Rattle.{std.specs.Prelude.{◌≢◌, ◌⊎◌}, dgt_chess.specs.{Attacks.{piece_at}, Rules.{board}}, dgt_game.specs.Results.{FitsAt, IsCentre}}
use Rattle.std.proofs.Common.{inl, inr, ◌<◌, ◌+◌, ◌-◌, ◌/◌, ◌%◌, subst}
use Rattle.dgt_values.specs.{declared.pieces.Piece.{Piece}, Board.{square_name}}
use Rattle.dgt_game.specs.Results.{AreNamed, CentreIsMiddle, ExplainedIsLike, ExplainsAt, IsOnlyOn, ShownIsExplained, KingsAreNamed, KingsOn, MatedHasLost, OthersStand}

pub one_by_rules : OneByRules
one_by_rules state h h' h'' k = search rules

pub one_by_kings : OneByKings
one_by_kings picture h h' h'' k = search rules

pub one_other : OneOther
one_other picture pieces first second less more like wrong bad = search rules

second_result : (between : List Event) (second : GameResult) (had has : Bool) → had ≡ true
    → Stay between → HasResults had (between ++ Event.Ended second ∷ []) has → ⊥
second_result [] second had has e stay h = let none = h.1.0 in let wrong : ⊥ = cc in wrong
second_result (Event.Begun state is_turned ∷ events) second had has e stay h = stay
second_result (Event.Back count held ∷ events) second had has e stay h = stay
second_result (Event.Ended result ∷ events) second had has e stay h =
    let none = h.1.0 in let wrong : ⊥ = cc in wrong
second_result (Event.Made one ∷ events) second had has e stay h =
    second_result events second h.0 has (h.1 ∙ e) stay h.2
second_result (Event.Unseen moves ∷ events) second had has e stay h =
    second_result events second h.0 has (h.1 ∙ e) stay h.2
second_result (Event.Gap state count ∷ events) second had has e stay h =
    second_result events second h.0 has (h.1 ∙ e) stay h.2
second_result (Event.Lost squares ∷ events) second had has e stay h =
    second_result events second h.0 has (h.1 ∙ e) stay h.2
second_result (Event.Found ∷ events) second had has e stay h =
    second_result events second h.0 has (h.1 ∙ e) stay h.2

pub one_result : OneResult
one_result first second between had has stay =
    λ h. second_result between second h.0 has h.1.1 stay h.2

lost_twice : (between : List Event) (second : ℕ) (was now : Bool) → was ≡ true
    → NotFound between → AreLost was (between ++ Event.Lost second ∷ []) now → ⊥
lost_twice [] second was now e none h = let free = h.1.0 in let wrong : ⊥ = cc in wrong
lost_twice (Event.Found ∷ events) second was now e none h = none
lost_twice (Event.Lost squares ∷ events) second was now e none h =
    let free = h.1.0 in let wrong : ⊥ = cc in wrong
lost_twice (Event.Begun state is_turned ∷ events) second was now e none h =
    lost_twice events second h.0 now (h.1 ∙ e) none h.2
lost_twice (Event.Back count held ∷ events) second was now e none h =
    lost_twice events second h.0 now (h.1 ∙ e) none h.2
lost_twice (Event.Ended result ∷ events) second was now e none h =
    lost_twice events second h.0 now (h.1 ∙ e) none h.2
lost_twice (Event.Made one ∷ events) second was now e none h =
    lost_twice events second h.0 now (h.1 ∙ e) none h.2
lost_twice (Event.Unseen moves ∷ events) second was now e none h =
    lost_twice events second h.0 now (h.1 ∙ e) none h.2
lost_twice (Event.Gap state count ∷ events) second was now e none h =
    lost_twice events second h.0 now (h.1 ∙ e) none h.2

found_twice : (between : List Event) (was now : Bool) → was ≡ false → NotLost between
    → AreLost was (between ++ Event.Found ∷ []) now → ⊥
found_twice [] was now e none h = let lost = h.1.0 in let wrong : ⊥ = cc in wrong
found_twice (Event.Lost squares ∷ events) was now e none h = none
found_twice (Event.Found ∷ events) was now e none h =
    let lost = h.1.0 in let wrong : ⊥ = cc in wrong
found_twice (Event.Begun state is_turned ∷ events) was now e none h =
    found_twice events h.0 now (h.1 ∙ e) none h.2
found_twice (Event.Back count held ∷ events) was now e none h =
    found_twice events h.0 now (h.1 ∙ e) none h.2
found_twice (Event.Ended result ∷ events) was now e none h =
    found_twice events h.0 now (h.1 ∙ e) none h.2
found_twice (Event.Made one ∷ events) was now e none h =
    found_twice events h.0 now (h.1 ∙ e) none h.2
found_twice (Event.Unseen moves ∷ events) was now e none h =
    found_twice events h.0 now (h.1 ∙ e) none h.2
found_twice (Event.Gap state count ∷ events) was now e none h =
    found_twice events h.0 now (h.1 ∙ e) none h.2

pub lost_in_turn : LostInTurn
lost_in_turn between was now = search (rules, lost_twice, found_twice)

pub calls_follow_on : CallsFollowOn
calls_follow_on old mid new report reports first later = (mid, first, later)

runs_in_turn-from : (reports : List (Option Event)) (old new : Recogniser)
    → FollowOn old reports new
    → HasResults (has_result old.over) (events_in reports) (has_result new.over)
    × AreLost (is_lost old.lost) (events_in reports) (is_lost new.lost)
runs_in_turn-from [] old new h = search rules
runs_in_turn-from (None ∷ reports) old new h =
    let later = runs_in_turn-from reports h.0 new h.2 in search rules
runs_in_turn-from (Some event ∷ reports) old new h =
    let later = runs_in_turn-from reports h.0 new h.2 in
    ((has_result h.0.over, h.1.0, later.0), (is_lost h.0.lost, h.1.1, later.1))

pub runs_in_turn : RunsInTurn
runs_in_turn old new reports h = runs_in_turn-from reports old new h

-- a line that is lost stays so until it is found
stays_lost_through : (events : List Event) (was now : Bool) → was ≡ true → NotFound events
    → AreLost was events now → now ≡ true
stays_lost_through [] was now e none h = h ∙ e
stays_lost_through (Event.Found ∷ events) was now e none h = absurd none
stays_lost_through (Event.Lost squares ∷ events) was now e none h =
    let free = h.1.0 in let wrong : ⊥ = cc in absurd wrong
stays_lost_through (Event.Begun state is_turned ∷ events) was now e none h =
    stays_lost_through events h.0 now (h.1 ∙ e) none h.2
stays_lost_through (Event.Back count stays ∷ events) was now e none h =
    stays_lost_through events h.0 now (h.1 ∙ e) none h.2
stays_lost_through (Event.Ended result ∷ events) was now e none h =
    stays_lost_through events h.0 now (h.1 ∙ e) none h.2
stays_lost_through (Event.Made one ∷ events) was now e none h =
    stays_lost_through events h.0 now (h.1 ∙ e) none h.2
stays_lost_through (Event.Unseen moves ∷ events) was now e none h =
    stays_lost_through events h.0 now (h.1 ∙ e) none h.2
stays_lost_through (Event.Gap state count ∷ events) was now e none h =
    stays_lost_through events h.0 now (h.1 ∙ e) none h.2

pub result_is_found : ResultIsFound
result_is_found old mid new reports squares result first ends right none =
    let run = (runs_in_turn-from reports first.0 mid first.2).1 in
    let lost : is_lost mid.lost ≡ true =
    stays_lost_through (events_in reports) _ _ first.1.1.1 none run in
    let after : is_lost new.lost ≡ is_lost mid.lost = ends.1 in
    let free = right.3 in
    let wrong : ⊥ = cc in wrong

pub right_if_away : RightIfAway
unfolding Rattle.dgt_game.specs.Waiting.Show Rattle.dgt_game.specs.Waiting.Differs
right_if_away self away = (
  λ result h. (
    h.0,
    h.1,
    search rules,
  ),
  λ squares h. let e = sym away ∙ h.2.1 in cc,
)

first_has : (event : Event) (events : List Event) → Contains (event ∷ events) event
first_has event events = (zero, omega arith, refl)

-- what none of all are, none of the rest are
rest_not : (first event : Event) (events : List Event) → ¬ (Contains (first ∷ events) event)
    → ¬ (Contains events event)
rest_not first event events none (k, l, e) = none (suc k, omega (arith, l), e)

pub not_found : (events : List Event) → ¬ (Contains events Event.Found) → NotFound events
not_found [] none = tt
not_found (Event.Begun state is_turned ∷ events) none = not_found events (rest_not _ _ _ none)
not_found (Event.Made one ∷ events) none = not_found events (rest_not _ _ _ none)
not_found (Event.Unseen moves ∷ events) none = not_found events (rest_not _ _ _ none)
not_found (Event.Gap state count ∷ events) none = not_found events (rest_not _ _ _ none)
not_found (Event.Back count held ∷ events) none = not_found events (rest_not _ _ _ none)
not_found (Event.Ended result ∷ events) none = not_found events (rest_not _ _ _ none)
not_found (Event.Lost squares ∷ events) none = not_found events (rest_not _ _ _ none)
not_found (Event.Found ∷ events) none = absurd (none (first_has _ _))

pub not_lost : (events : List Event)
    → ((squares : ℕ) → ¬ (Contains events (Event.Lost squares))) → NotLost events
not_lost [] none = tt
not_lost (Event.Begun state is_turned ∷ events) none =
    not_lost events (λ n. rest_not _ _ _ (none n))
not_lost (Event.Made one ∷ events) none = not_lost events (λ n. rest_not _ _ _ (none n))
not_lost (Event.Unseen moves ∷ events) none = not_lost events (λ n. rest_not _ _ _ (none n))
not_lost (Event.Gap state count ∷ events) none = not_lost events (λ n. rest_not _ _ _ (none n))
not_lost (Event.Back count held ∷ events) none = not_lost events (λ n. rest_not _ _ _ (none n))
not_lost (Event.Ended result ∷ events) none = not_lost events (λ n. rest_not _ _ _ (none n))
not_lost (Event.Lost squares ∷ events) none = absurd (none squares (first_has _ _))
not_lost (Event.Found ∷ events) none = not_lost events (λ n. rest_not _ _ _ (none n))

pub stays : (events : List Event)
    → ((count : ℕ) (stays : Bool) → ¬ (Contains events (Event.Back count stays)))
    → ((state : State) (is_turned : Bool) → ¬ (Contains events (Event.Begun state is_turned)))
    → Stay events
stays [] back begun = tt
stays (Event.Begun state is_turned ∷ events) back begun =
    absurd (begun state is_turned (first_has _ _))
stays (Event.Made one ∷ events) back begun =
    stays events (λ n t. rest_not _ _ _ (back n t)) (λ s t. rest_not _ _ _ (begun s t))
stays (Event.Unseen moves ∷ events) back begun =
    stays events (λ n t. rest_not _ _ _ (back n t)) (λ s t. rest_not _ _ _ (begun s t))
stays (Event.Gap state count ∷ events) back begun =
    stays events (λ n t. rest_not _ _ _ (back n t)) (λ s t. rest_not _ _ _ (begun s t))
stays (Event.Back count held ∷ events) back begun = absurd (back count held (first_has _ _))
stays (Event.Ended result ∷ events) back begun =
    stays events (λ n t. rest_not _ _ _ (back n t)) (λ s t. rest_not _ _ _ (begun s t))
stays (Event.Lost squares ∷ events) back begun =
    stays events (λ n t. rest_not _ _ _ (back n t)) (λ s t. rest_not _ _ _ (begun s t))
stays (Event.Found ∷ events) back begun =
    stays events (λ n t. rest_not _ _ _ (back n t)) (λ s t. rest_not _ _ _ (begun s t))

-- ---- How games end

pub mated_has_lost : MatedHasLost
mated_has_lost state none = search rules

square_of : (square n : ℕ) → n < 64 → square_name square ≡ square_name n → square ≡ n
square_of square n less same =
    let files : 97 + square % 8 ≡ 97 + n % 8 = cc in
    let ranks : 56 - square / 8 ≡ 56 - n / 8 = cc in
    omega arith

only_on : (picture : List Piece) (piece : Piece) (a n : ℕ) → n < 64
    → square_name a ≡ square_name n → IsOnlyOn picture piece a → IsOnlyOn picture piece n
only_on picture piece a n less same on =
    subst (λ (k : ℕ). IsOnlyOn picture piece k) (square_of a n less same) on

-- the kings' squares, with the names of two
abbrev NamedKings : List Piece → ℕ → ℕ → Type 0
NamedKings picture a b =
    (white black : ℕ) × IsOnlyOn picture Piece.WhiteKing white
    × IsOnlyOn picture Piece.BlackKing black
    × AreNamed (square_name a) (square_name b) white black

to_names : (picture : List Piece) (a b : ℕ) → KingsOn picture a b → NamedKings picture a b
to_names picture a b (inl on) = (a, b, on.0, on.1, inl (refl, refl))
to_names picture a b (inr on) = (b, a, on.0, on.1, inr (refl, refl))

by_names : (picture : List Piece) (a b : ℕ) → a < 64 → b < 64 → NamedKings picture a b
    → KingsOn picture a b
by_names picture a b less more (white, black, here, there, inl (one, other)) = inl (
  only_on picture Piece.WhiteKing white a less one here,
  only_on picture Piece.BlackKing black b more other there,
)
by_names picture a b less more (white, black, here, there, inr (one, other)) = inr (
  only_on picture Piece.WhiteKing white b more one here,
  only_on picture Piece.BlackKing black a less other there,
)

pub kings_are_named : KingsAreNamed
kings_are_named picture GameResult.WhiteWins =
    (to_names picture 27 36, by_names picture 27 36 (omega arith) (omega arith))
kings_are_named picture GameResult.BlackWins =
    (to_names picture 28 35, by_names picture 28 35 (omega arith) (omega arith))
kings_are_named picture GameResult.Draw = (
  λ on. elim on [
    | inl e ↦ let k = to_names picture 28 36 e in (k.0, k.1, k.2, k.3, inl k.4)
    | inr d ↦ let k = to_names picture 27 35 d in (k.0, k.1, k.2, k.3, inr k.4)
  ],
  λ k. elim k.4 [
    | inl e ↦ inl (by_names picture 28 36 (omega arith) (omega arith) (k.0, k.1, k.2, k.3, e))
    | inr d ↦ inr (by_names picture 27 35 (omega arith) (omega arith) (k.0, k.1, k.2, k.3, d))
  ],
)

pub centre_is_middle : CentreIsMiddle
centre_is_middle square = (λ h. search rules, λ h. grind arith)

pub others_stand : OthersStand
others_stand picture pieces square outside king = search rules

-- a square in the middle, or one that isn't
middle : (square : ℕ) → IsCentre square ⊎ ¬ (IsCentre square)
middle square = grind arith

explained_at : (picture pieces : List Piece) (square : ℕ)
    → (¬ (IsCentre square) → piece_at picture square ≢ Piece.Empty
    → piece_at pieces square ≡ piece_at picture square) → ExplainsAt picture pieces square
explained_at picture pieces square h = elim (middle square) [
  | inl centre ↦ inl centre
  | inr outside ↦ search rules
]

pub shown_is_explained : ShownIsExplained
shown_is_explained picture pieces = (
  λ explains square small outside some. elim (explains square small) [
    | inl centre ↦ absurd (outside ((centre_is_middle square).0 centre))
    | inr rest ↦ elim rest [
      | inl same ↦ sym same
      | inr gone ↦ absurd (some gone)
    ]
  ],
  λ h square small. explained_at picture pieces square (λ outside some.
      h square small (λ inside. outside ((centre_is_middle square).1 inside)) some),
)

fits_at : (picture pieces : List Piece) (square : ℕ) → ExplainsAt picture pieces square
    → FitsAt picture pieces square
fits_at picture pieces square h = search rules

pub explained_is_like : ExplainedIsLike
explained_is_like picture state result kings explains = (
  kings,
  (
    64,
    λ square small differs.
        fits_at picture (board state) square (explains square small),
  ),
)
