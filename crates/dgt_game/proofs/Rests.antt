-- What rests on the board is reported.
use Rattle.std.{proofs.Common.{rules, ◌≡◌, ◌≢◌, ◌∙◌, ◌⊎◌, refl, sym, subst, inl, inr, zero, suc, true, false, Some, None}, specs.Prelude.{IfSome, MatchOption, slice_get}}
use Rattle.dgt_game.specs.declared.memory.Memory.{Memory}
use Rattle.{std.proofs.Common.{ℕ, Bool, Option}, dgt_values.specs.Board.{pieces_of}, dgt_chess.specs.Rules.{board}}
use Rattle.dgt_game.{specs.Standing.{ShownIsNext, StandsOn}, proofs.Links.{turned_back}}
use Rattle.dgt_game.specs.{declared.{node.{Place.{Place}, Step.{Step}}, view.View.{View}}, Memory.{IsTold, steps}, Planning.{Lacks, Plans}, Reading.{Shows}, Standing.{OnlyShownIsReported}}
use Rattle.dgt_game.{specs.{Standing.{RestIsReported, StandsAt}, Waiting.{last_of}}, proofs.Standing.{last_at_first, some_of}}

-- what the board stands at, if that isn't to be reported
stood : (here : Place) (self : Memory) (back : ℕ) (view : View) → IsTold self → self.answer ≡ None
    → StandsAt here self false true view → here ≢ Place.Nowhere
    → ((step : Step) × (last_of self ≡ Some step) × Shows view step) ⊎ Lacks (Some view) self back
unfolding Lacks
stood (Place.Line zero) self back view told none (last, held) some = inl (elim last [
  | inl shows ↦
      let found = some_of _ (Shows view) shows in
      (found.0, sym (last_at_first self told) ∙ found.1, found.2)
  | inr counts ↦ absurd (rw none at counts)
])
stood (Place.Line (suc k)) self back view told none (next, at) some =
    absurd (let wrong : ⊥ = let no = next refl in cc in wrong)
stood (Place.Seen k) self back view told none at some =
    let found = some_of (slice_get (steps self.seen.items) k) _ at in
    inr (view, refl, (found.0, inl (inr (k, found.1)), found.2.1 refl refl))
stood Place.Nowhere self back view told none at some = absurd (some refl)

pub place_or : (place : Place) → (place ≢ Place.Nowhere) ⊎ (place ≡ Place.Nowhere)
place_or place = search rules

pub rest_is_reported : RestIsReported
rest_is_reported self view now stands planned why seen (sure, confirmed, late, idle) =
    let next : self.next ≡ None = search rules in
    let told = idle.0.0 in
    let at = rw seen at stands.0 in
    elim (subst (Plans self) next planned) [
      | inl doubted ↦ absurd (cc)
      | inr nothing ↦
          let here : StandsAt self.here self.memory false true view = search rules in
          elim (place_or self.here) [
            | inl some ↦ elim (stood self.here self.memory self.returned.count view told
                (stands.1 told) here some) [
                  | inl last ↦ inl last
                  | inr lifted ↦ inr (inl (rw seen lifted))
                ]
            | inr nowhere ↦ elim nothing.1.1 [
              | inl some ↦ absurd (some nowhere)
              | inr more ↦ elim more [
                | inl hopeless ↦ inr (inr (inr (elim ((why view seen nowhere).0 hopeless) [
                  | inl missing ↦ inl missing
                  | inr shows ↦ inr (inr shows)
                ])))
                | inr other ↦ elim other [
                  | inl refused ↦ inr (inr (inr (inr (inl
                      ((why view seen nowhere).1 refused)))))
                  | inr done ↦ elim done.1 [
                    | inl lifted ↦ inr (inl lifted)
                    | inr ended ↦ inr (inr (inl ended.1))
                  ]
                ]
              ]
            ]
          ]
    ]

pub only_shown : OnlyShownIsReported
only_shown self view stands seen waits = search rules

next_of : (next sure : Bool) (view : View) (step : Step) → sure ≡ true
    → StandsOn next sure view step → Shows view step → next ≡ true
next_of true sure view step e on shows = refl
next_of false sure view step e on shows = absurd ((on.1 e refl).1 (turned_back step.is_turned
    (pieces_of view.shown) (board step.state) (sym shows)))

pub shown_is_next : ShownIsNext
shown_is_next self view k step stands seen sure here is shows =
    let at : StandsAt self.here self.memory self.is_next self.is_sure view =
    subst (λ (o : Option View). IfSome o (StandsAt self.here self.memory self.is_next
    self.is_sure)) seen stands.0 in
    let there : StandsAt (Place.Seen k) self.memory self.is_next self.is_sure view =
    subst (λ (p : Place). StandsAt p self.memory self.is_next self.is_sure view) here at in
    let on : StandsOn self.is_next self.is_sure view step =
    subst (λ (o : Option Step). MatchOption o ⊥ (StandsOn self.is_next self.is_sure view)) is
    there in
    next_of self.is_next self.is_sure view step sure on shows
