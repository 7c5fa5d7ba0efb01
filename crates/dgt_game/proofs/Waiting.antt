-- What waits to be reported.
use Rattle.std.specs.Prelude.{IsTrue, is_some}
use Rattle.dgt_game.specs.Waiting.{EndsByRules, MustEnd}
use Rattle.dgt_game.specs.declared.node.Way.{Way}
use Rattle.dgt_chess.specs.Rules.{CanMove}
use Rattle.std.proofs.Common.{rules, ◌≡◌, ◌≢◌, ◌+◌, ◌-◌, ◌++◌, ◌<◌, ◌⊎◌, ◌∙◌, inl, inr, sym, refl, arith, below_more, ℕ, zero, suc, Bool, true, false, List, [], ◌∷◌, Option, Some, None}
use Rattle.std.specs.Prelude.{slice_get}
use Rattle.{std.{specs.{Prelude.{IfSome}, Option.{option_or}}, proofs.lemmas.Option.{none-some}}, dgt_values.specs.declared.pieces.Piece.{Piece}, dgt_chess.specs.Attacks.{piece_at}}
use Rattle.dgt_game.specs.declared.{event.{GameResult.{GameResult}, Event.{Event}}, memory.Memory.{Memory}, recogniser.{Over.{Over}, Lost.{Lost}}, node.{Node.{Node}, Step.{Step}}}
use Rattle.dgt_game.specs.{declared.{recogniser.Recogniser.{Recogniser}, view.View.{View}}, Memory.{steps, tip}, Results.{ByRules, FitsAt}, Waiting.{EndsBy, IsOfLine, IsRight, LostBy, Show, coming}}
use Rattle.dgt_game.specs.Waiting.{has_notice, has_result, is_lost, last_of, stays_lost}

pub right_of_line : (self : Recogniser) (event : Event) → IsOfLine event → IsRight self event
right_of_line self event h = search rules

-- no notice waits
pub silent : (lost : Lost) (view : Option View) (last : Option Step) → has_notice lost ≡ false
    → LostBy lost view last
silent lost view last e = search rules

-- a line that isn't lost then, and of which nothing waits, isn't lost
pub found_before : (lost : Lost) → has_notice lost ≡ false → stays_lost lost ≡ false
    → is_lost lost ≡ false
found_before lost silent found = search rules

-- the line without its last state
pub dropped : (nodes new : List Node) (back : ℕ) → ((first : Node) (rest : List Node)
    → nodes ≡ first ∷ rest → new ≡ rest) → (nodes ≡ [] → new ≡ []) → back ≢ 0
    → slice_get (steps new) (back - 1) ≡ slice_get (steps nodes) back
dropped nodes new zero drops none some = absurd (some refl)
dropped [] new (suc back) drops none some = rw (none refl) refl
dropped (first ∷ rest) new (suc back) drops none some =
    let less : suc back - 1 ≡ back = omega arith in
    rw (drops first rest refl) (rw less refl)

pub tip_some : (before : Option Step) (path : List Step) (step : Step)
    → tip None path ≡ Some step → tip before path ≡ Some step
tip_some before [] step e = absurd (none-some step e)
tip_some before (first ∷ path) step e = e

pub some_joined : (before : Option Step) (first path : List Step) (step : Step)
    → tip None path ≡ Some step → tip before (first ++ path) ≡ Some step
some_joined before [] path step e = tip_some before path step e
some_joined before (next ∷ first) path step e = some_joined (Some next) first path step e

pub or_some : {X : Type 0} (a b : Option X) (P : X → Type 0) → IfSome a P → IfSome b P
    → IfSome (option_or a b) P
or_some None b P h k = k
or_some (Some x) b P h k = h

pub not_found : (found : Bool) (P : Type 0) → (IsTrue found → P) → ¬ P → found ≡ false
not_found true P h none = absurd (none (h refl))
not_found false P h none = refl

pub some_end : {X : Type 0} (found : Option X) (P : X → Type 0) (is : Bool) → is ≡ is_some found
    → is ≡ true → IfSome found P → (x : X) × P x
some_end None P is e has h = let wrong : ⊥ = cc in absurd wrong
some_end (Some x) P is e has h = (x, h)

-- a mate or a stalemate gives a result
pub rules_end : (since : ℕ) (step : Step) (end : Option (GameResult × Over))
    → IfSome end (λ end. (end.1 ≡ Over.Rules since) × ByRules step.state end.0)
    → (end ≡ None → (step.way ≡ Way.Begun) ⊎ CanMove step.state) → MustEnd step
    → EndsByRules since step end
rules_end since step None is none must = search rules
rules_end since step (Some end) is none must = is

pub rules_first : (since : ℕ) (last : Option Step) (end other : Option (GameResult × Over))
    → IfSome last (λ step. MustEnd step → EndsByRules since step end)
    → IfSome last (λ step. MustEnd step → EndsByRules since step (option_or end other))
rules_first since None end other h = tt
rules_first since (Some step) None other h = λ must. absurd (h must)
rules_first since (Some step) (Some end) other h = h

-- once nothing waits, the last state is the one that was to come
pub last_comes : (memory : Memory) → memory.back ≡ 0 → memory.unsaid.items ≡ []
    → coming memory ≡ last_of memory
last_comes memory back unsaid = search rules

pub ended_right : (over : Over) (view : Option View) (step : Step) (result : GameResult)
    → EndsBy over view step result → (has_result over ≡ true)
    × (ByRules step.state result ⊎ Show view step result)
ended_right over view step result h = search rules

-- a square more, of the squares that fit but for one
abbrev pub Fitting : List Piece → List Piece → ℕ → Bool → Type 0
Fitting picture pieces at has_other =
    (has_other ≡ false → (square : ℕ) → square < at → FitsAt picture pieces square)
    × ((other : ℕ) × ((square : ℕ) → square < at → square ≢ other → FitsAt picture pieces square))

pub fitting_more : (picture pieces : List Piece) (at : ℕ) (has_other : Bool)
    → FitsAt picture pieces at → Fitting picture pieces at has_other
    → Fitting picture pieces (at + 1) has_other
fitting_more picture pieces at has_other fits h = (
  λ none. below_more (λ k. FitsAt picture pieces k) at (h.0 none) fits,
  (
    h.1.0,
    below_more (λ k. k ≢ h.1.0 → FitsAt picture pieces k) at h.1.1 (λ differs. fits),
  ),
)

pub fitting_but : (picture pieces : List Piece) (at : ℕ) (has_other : Bool)
    → has_other ≡ false → Fitting picture pieces at has_other → Fitting picture pieces (at + 1) true
fitting_but picture pieces at has_other none h = (
  λ wrong. absurd (cc),
  (
    at,
    search rules,
  ),
)

-- two squares that don't fit leave no third
third_is : (fits : ℕ → Type 0) (a b first second third : ℕ)
    → ((k : ℕ) → k < 64 → k ≢ a → k ≢ b → fits k) → first < 64 → second < 64 → first ≢ second
    → first ≢ third → second ≢ third → ¬ (fits first) → ¬ (fits second)
    → (third ≡ a) ⊎ (third ≡ b) → ⊥
third_is fits a b first second third h x y xy xz yz bad worse (inl e) =
    bad (h first x (λ is. xz (is ∙ sym e)) (λ is. worse (h second y (λ at. yz (at ∙ sym e))
    (λ at. xy (is ∙ sym at)))))
third_is fits a b first second third h x y xy xz yz bad worse (inr e) =
    bad (h first x (λ is. worse (h second y (λ at. xy (is ∙ sym at)) (λ at. yz (at ∙ sym e))))
    (λ is. xz (is ∙ sym e)))

-- the last squares but two that don't fit, so far
abbrev pub Almost : (ℕ → Type 0) → ℕ → Option ℕ → Option ℕ → Type 0
Almost fits at None other = (other ≡ None) × ((k : ℕ) → k < at → fits k)
Almost fits at (Some one) None =
    (one < at) × ¬ (fits one) × ((k : ℕ) → k < at → k ≢ one → fits k)
Almost fits at (Some one) (Some other) =
    (one < at) × (other < one) × ¬ (fits one) × ¬ (fits other)
    × ((k : ℕ) → k < at → k ≢ one → k ≢ other → fits k)

pub almost_more : (fits : ℕ → Type 0) (at : ℕ) (one other : Option ℕ) → fits at
    → Almost fits at one other → Almost fits (at + 1) one other
almost_more fits at None other is (none, h) = (none, below_more (λ k. fits k) at h is)
almost_more fits at (Some one) None is (less, bad, h) =
    (omega (arith, less), bad, below_more (λ k. k ≢ one → fits k) at h (λ differs. is))
almost_more fits at (Some one) (Some other) is (less, more, bad, worse, h) = (
  omega (arith, less),
  more,
  bad,
  worse,
  below_more (λ k. k ≢ one → k ≢ other → fits k) at h (λ differs moves. is),
)

pub almost_but : (fits : ℕ → Type 0) (at : ℕ) (one : Option ℕ) → ¬ (fits at)
    → Almost fits at one None → Almost fits (at + 1) (Some at) one
almost_but fits at None bad (none, h) = (
  omega arith,
  bad,
  below_more (λ k. k ≢ at → fits k) at (λ k less differs. h k less)
      (λ differs. absurd (differs refl)),
)
almost_but fits at (Some one) bad (less, worse, h) = (
  omega arith,
  less,
  bad,
  worse,
  below_more (λ k. k ≢ at → k ≢ one → fits k) at (λ k l differs moves. h k l moves)
      (λ differs. absurd (differs refl)),
)

-- at the end there are two squares at most
pub almost_all : (fits : ℕ → Type 0) (one other : Option ℕ) → Almost fits 64 one other
    → (a : ℕ) × (b : ℕ) × ((k : ℕ) → k < 64 → k ≢ a → k ≢ b → fits k)
almost_all fits None other (none, h) = (0, 0, λ k less differs moves. h k less)
almost_all fits (Some one) None (less, bad, h) = (one, one, λ k l differs moves. h k l differs)
almost_all fits (Some one) (Some other) (less, more, bad, worse, h) = (one, other, h)

-- a third one is too many
pub three_bad : (fits : ℕ → Type 0) (a b first second third : ℕ)
    → ((k : ℕ) → k < 64 → k ≢ a → k ≢ b → fits k) → first < 64 → second < 64 → third < 64
    → first ≢ second → first ≢ third → second ≢ third → ¬ (fits first) → ¬ (fits second)
    → fits third
three_bad fits a b first second third h x y z xy xz yz bad worse =
    h third z (λ e. third_is fits a b first second third h x y xy xz yz bad worse (inl e))
    (λ e. third_is fits a b first second third h x y xy xz yz bad worse (inr e))

pub almost_none : (fits : ℕ → Type 0) (at : ℕ) (one : Option ℕ) (other : ℕ) → at < 64
    → ¬ (fits at) → Almost fits at one (Some other)
    → ¬ ((a : ℕ) × (b : ℕ) × ((k : ℕ) → k < 64 → k ≢ a → k ≢ b → fits k))
almost_none fits at None other within bad (none, h) = absurd (let wrong : ⊥ = cc in wrong)
almost_none fits at (Some one) other within bad (less, more, worse, worst, h) = λ (a, b, all).
    bad (three_bad fits a b one other at all (omega (arith, less)) (omega (arith, less, more))
    within (λ e. let l = less in let m = more in omega (arith, m, e)) (λ e. omega (arith, less, e))
    (λ e. omega (arith, less, more, e)) worse worst)

-- what was found of a piece on the squares so far
abbrev pub FoundOn : List Piece → Piece → ℕ → Option ℕ → Type 0
FoundOn picture piece at None = (k : ℕ) → k < at → piece_at picture k ≢ piece
FoundOn picture piece at (Some found) =
    (piece_at picture found ≡ piece) × ((k : ℕ) → k < at → piece_at picture k ≡ piece → k ≡ found)

pub found_none : (picture : List Piece) (piece : Piece) (at : ℕ) (found : Option ℕ)
    → piece_at picture at ≢ piece → FoundOn picture piece at found
    → FoundOn picture piece (at + 1) found
found_none picture piece at None differs h = below_more (λ k. piece_at picture k ≢ piece) at h
    differs
found_none picture piece at (Some found) differs h =
    (h.0, below_more (λ k. piece_at picture k ≡ piece → k ≡ found) at h.1 (λ e. absurd (differs e)))

pub found_one : (picture : List Piece) (piece : Piece) (at : ℕ) (found : Option ℕ)
    → found ≡ None → piece_at picture at ≡ piece → FoundOn picture piece at found
    → FoundOn picture piece (at + 1) (Some at)
found_one picture piece at found none same h = search rules

-- only these wait
abbrev pub lost_of : Recogniser → Lost
lost_of self = self.lost

abbrev pub ended_of : Recogniser → Option (GameResult × Over)
ended_of self = self.ended
