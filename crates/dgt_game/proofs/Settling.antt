-- What is reported has rested.
use Rattle.std.proofs.Common.{arith}
use Rattle.std.{proofs.Common.{rules, ◌≡◌, ◌∙◌, ◌≤◌, ◌+◌, ◌⊎◌, inl, inr, refl, sym, subst, ◌<◌, ℕ, Bool, true, false, [], ◌∷◌, Option, Some, None}, specs.Prelude.{◌≢◌, IfSome, MatchOption, slice_get}}
use Rattle.{std.proofs.lemmas.{Bool.{false≢true}, Option.{none-some}}, dgt_game.specs.declared.{node.{Node.{Node}, Origin.{Origin}, Place.{Place}, Way.{Way}}, recogniser.Recogniser.{Recogniser}}}
use Rattle.dgt_game.specs.{declared.{resting.{Next.{Next}, Task.{Task}}, view.View.{View}}, Memory.{IsTold, steps}}
use Rattle.dgt_game.specs.{Planning.{IsPlanned, Lacks, Plans, RestsAt, RestsBefore, RestsBy}, Settling.{IsAt, NothingWaitsLong}}
use Rattle.dgt_game.specs.Settling.{LastIsShown, ReplacingHasRested, ReportedHasRested, ReportedHasSettled, ReportedIsNext, ReportedIsShown, SeenIsAnswered, ShowsEnd}
use Rattle.dgt_game.specs.{Standing.{IsThere, ShowsBut, ShowsLast, Stands, StandsAt, StandsOn}, Timing.{Acts, IsIdle, IsNext, TellsNext}}
use Rattle.dgt_game.specs.{Reading.{Shows}, Waiting.{coming}, declared.node.Step.{Step}}
use Rattle.dgt_game.proofs.Standing.{last_at_first, some_of}
use Rattle.dgt_game.specs.declared.recogniser.Search.{Search}
use Rattle.dgt_game.specs.Settling.{BeginningHasRested, KingsAreOutside, KingsAreTaken, KingsHaveRested}
use Rattle.{std.proofs.Common.{List}, dgt_values.specs.declared.pieces.Piece.{Piece}, dgt_chess.specs.{Attacks.{piece_at, piece_of}, declared.pieces.{Colour.{Colour}, Man.{Man}}}}
use Rattle.dgt_game.{specs.{Planning.{HasKing}, Results.{IsCentre, IsKing}, Settling.{KingsStand}}, proofs.Results.{centre_is_middle}}

pub reported_has_rested : ReportedHasRested
reported_has_rested self new event now (planned, quiet, small, ([], tells)) =
    absurd (none-some event (sym (tells.0.4 quiet).0))
reported_has_rested self new event now (planned, quiet, small, (next ∷ done, h)) = search rules

-- the board stands at the start of a game
abbrev IsAtStart : Recogniser → Type 0
IsAtStart self = (node : Node) × IsAt self node × (node.origin ≡ Origin.Start) × (node.depth ≡ 1)

node_settles : (self : Recogniser) (wait : ℕ) (node : Node) (origin : Origin) → IsAt self node
    → node.origin ≡ origin → RestsBy origin node.depth self.returned.count wait
    → (300 ≤ wait) ⊎ IsAtStart self
node_settles self wait node (Origin.Line base) at is h = inl h.0
node_settles self wait node Origin.Start at is (inl (first, none)) = inr (node, at, is, first)
node_settles self wait node Origin.Start at is (inr (later, rests)) = inl (omega (arith, rests))
node_settles self wait node Origin.Shadow at is h = inl h

found_settles : (self : Recogniser) (k wait : ℕ) (found : Option Node)
    → slice_get self.memory.seen.items k ≡ found → self.here ≡ Place.Seen k
    → MatchOption found (300 ≤ wait) (λ n. RestsBy n.origin n.depth self.returned.count wait)
    → (300 ≤ wait) ⊎ IsAtStart self
found_settles self k wait None is here h = inl h
found_settles self k wait (Some node) is here h =
    node_settles self wait node node.origin (k, here, is) refl h

place_settles : (self : Recogniser) (place : Place) (wait : ℕ) → self.here ≡ place
    → RestsAt place self.memory self.returned.count wait → (300 ≤ wait) ⊎ IsAtStart self
place_settles self (Place.Line k) wait here h = inl h
place_settles self (Place.Seen k) wait here h =
    found_settles self k wait (slice_get self.memory.seen.items k) refl here h
place_settles self Place.Nowhere wait here h = inl h

task_settles : (self : Recogniser) (task : Task) (wait : ℕ) → RestsBefore self task wait
    → (300 ≤ wait) ⊎ IsAtStart self
task_settles self task wait h = search (rules, place_settles)

pub reported_has_settled : ReportedHasSettled
reported_has_settled self new event now reports =
    let (sure, (task, wait, fits, rests, late)) = reported_has_rested self new event now reports in
    search (rules, task_settles)

on_shows : (next sure : Bool) (view : View) (step : Step) → sure ≡ true
    → StandsOn next sure view step → Shows view step ⊎ ShowsBut view step
on_shows true sure view step e h = inl (h.0 refl)
on_shows false sure view step e h = inr (h.1 e refl)

ends_shown : (new : Recogniser) (view : View) → Stands new → IsThere new → new.is_sure ≡ true
    → new.view ≡ Some view → ShowsEnd view new
ends_shown new view stands there sure seen =
    let at : StandsAt new.here new.memory new.is_next new.is_sure view =
    subst (λ (o : Option View). IfSome o (StandsAt new.here new.memory new.is_next new.is_sure))
    seen stands.0 in
    elim there [
      | inl here ↦ inl (subst (λ (p : Place). StandsAt p new.memory new.is_next new.is_sure view)
          here at)
      | inr other ↦ elim other [
        | inl (here, follows) ↦
            let on : StandsAt (Place.Seen 0) new.memory new.is_next new.is_sure view =
            subst (λ (p : Place). StandsAt p new.memory new.is_next new.is_sure view) here at in
            let (step, is, shows) = some_of (slice_get (steps new.memory.seen.items) 0) (StandsOn
            new.is_next new.is_sure view) on in
            let parent : step.parent ≡ Place.Line 0 =
            subst (λ (o : Option Step). MatchOption o ⊥ (λ step. step.parent ≡ Place.Line 0)) is
            follows in
            inr (inl (step, is, parent, on_shows new.is_next new.is_sure view step sure shows))
        | inr shows ↦ inr (inr shows)
      ]
    ]

pub reported_is_shown : ReportedIsShown
reported_is_shown self new view event now reports shown stands there seen =
    let sure : new.is_sure ≡ true = shown.2
    ∙ (reported_has_rested self new event now reports).0 in
    let back : (new.memory.back ≤ 4) ⊎ ShowsLast view new.memory = elim stands.3 [
      | inl few ↦ inl few
      | inr last ↦ inr (subst (λ (o : Option View). IfSome o (λ view. ShowsLast view new.memory))
          seen last)
    ] in (
      sure,
      ends_shown new view stands there sure seen,
      back,
      reported_has_settled self new event now reports,
    )

next_told : (self old done : Recogniser) (step : Step) → old ≡ self → IsPlanned self
    → IsNext self step → Acts old done → (coming done.memory ≡ Some step) × ¬ (IsTold done.memory)
next_told self old done step same planned is acts =
    subst (λ (r : Recogniser). TellsNext r done) same (acts.3 (rw same planned)) step is

pub reported_is_next : ReportedIsNext
reported_is_next self new event now step (planned, quiet, small, ([], h)) is =
    absurd (none-some event (sym (h.0.4 quiet).0))
reported_is_next self new event now step (planned, quiet, small, (done ∷ [], h)) is =
    h.4.0.6 ∙ (next_told self h.0 done step (h.1.4 quiet).1 planned is h.3).0
reported_is_next self new event now step (planned, quiet, small, (done ∷ next ∷ more, h)) is =
    absurd ((next_told self h.0 done step (h.1.4 quiet).1 planned is h.3).1 (h.4.1.5 refl))

pub last_is_shown : LastIsShown
last_is_shown self view shows stands told = elim shows [
  | inl lands ↦ elim lands.0 [
    | inl last ↦
        let found = some_of (coming self.memory) (Shows view) last in
        inl (found.0, sym (last_at_first self.memory told) ∙ found.1, found.2)
    | inr counts ↦ absurd (rw (stands.1 told) at counts)
  ]
  | inr other ↦ inr other
]

pub replacing_has_rested : ReplacingHasRested
replacing_has_rested self new event now base node reports kings at is far other =
    let (sure, (task, wait, fits, rests, late)) = reported_has_rested self new event now reports in
    search rules

no_next : (self : Recogniser) (now base : ℕ) (node : Node) (next : Option Next)
    → self.next ≡ next → Plans self next → self.is_sure ≡ true → IsIdle now self
    → self.since + 10000 ≤ now → IsAt self node → node.origin ≡ Origin.Line base → next ≡ None
no_next self now base node next same plans sure idle late at is = search rules

pub nothing_waits_long : NothingWaitsLong
unfolding Lacks
nothing_waits_long self view now base node stands planned seen sure confirmed idle late at is =
    let none = no_next self now base node self.next refl planned sure idle late at is in
    elim (subst (Plans self) none planned) [
      | inl doubt ↦ absurd (false≢true (sym doubt ∙ confirmed))
      | inr nothing ↦
          let (k, here, got) = at in
          let on = subst (λ (o : Option View). IfSome o (StandsAt (Place.Seen k) self.memory false
          true)) seen (search rules) in
          let found = some_of (slice_get (steps self.memory.seen.items) k) _ on in
          (view, seen, (found.0, inl (inr (k, found.1)), found.2.1 refl refl))
    ]

pub seen_is_answered : SeenIsAnswered
seen_is_answered self view stands answered seen waits = elim answered [
  | inl told ↦ absurd (waits told)
  | inr answers ↦
      let (node, is, by) = some_of self.memory.answer (λ n. n.step.way ≢ Way.Begun) answers in
      elim stands.2 [
        | inl told ↦ absurd (waits told)
        | inr meant ↦ elim meant.1 [
          | inl last ↦
              let lands = rw seen at last.1 in
              let shows = rw is at lands.1 in (node, is, by, shows (inl by))
          | inr kings ↦ absurd (none-some node (sym kings.2 ∙ is))
        ]
      ]
]

pub beginning_has_rested : BeginningHasRested
beginning_has_rested self new event now reports kings begins =
    let (sure, (task, wait, fits, rests, late)) = reported_has_rested self new event now reports in
    search rules

pub kings_have_rested : KingsHaveRested
kings_have_rested self new event now reports settled =
    let (sure, (task, wait, fits, rests, late)) = reported_has_rested self new event now reports in
    search rules

taken_by : (self : Recogniser) (now : ℕ) (next : Option Next) → self.next ≡ next
    → Plans self next → self.is_sure ≡ true → self.is_confirmed ≡ true → self.has_kings ≡ true
    → self.is_next ≡ false → self.search ≢ Search.Done → IsIdle now self
    → now < self.since + 1000
taken_by self now next is plans sure confirmed kings none done idle = search rules

pub kings_are_taken : KingsAreTaken
kings_are_taken self now planned sure confirmed kings none done idle =
    taken_by self now self.next refl planned sure confirmed kings none done idle

king_at : (picture : List Piece) (square : ℕ) (colour : Colour)
    → piece_at picture square ≡ piece_of colour Man.King → IsKing (piece_at picture square)
king_at picture square Colour.White is = inl is
king_at picture square Colour.Black is = inr is

pub kings_are_outside : KingsAreOutside
kings_are_outside picture = (
  λ (has, free). (
    has,
    λ square colour is inside. free square ((centre_is_middle square).1 inside)
        (king_at picture square colour is),
  ),
  λ (has, h). (
    has,
    λ square centre king. elim king [
      | inl white ↦ h square Colour.White white ((centre_is_middle square).0 centre)
      | inr black ↦ h square Colour.Black black ((centre_is_middle square).0 centre)
    ],
  ),
)

each_has : (picture : List Piece) (colour : Colour) → HasKing picture Colour.White
    → HasKing picture Colour.Black → HasKing picture colour
each_has picture Colour.White white black = white
each_has picture Colour.Black white black = black

pub kings_stand : (picture : List Piece) → HasKing picture Colour.White
    → HasKing picture Colour.Black
    → ((square : ℕ) → IsCentre square → ¬ (IsKing (piece_at picture square)))
    → KingsStand picture
kings_stand picture white black free = (λ colour. each_has picture colour white black, free)
