-- What several half-moves lead to is found.
use Rattle.std.{proofs.{Common.{rules, ◌≡◌, ◌≢◌, ◌∙◌, ◌<◌, ◌+◌, ◌⊎◌, inl, inr, refl, sym, subst, arith, ℕ, Bool, true, false, Option, Some, None}, lemmas.Bool.{false≢true}}, specs.Prelude.{IfSome}}
use Rattle.{dgt_values.specs.Board.{pieces_of}, dgt_chess.specs.{declared.{pieces.Colour.{Colour}, state.State.{State}}, Rules.{board}}, dgt_game.specs.declared.node.Place.{Place}}
use Rattle.dgt_game.specs.{declared.{recogniser.{Recogniser.{Recogniser}, Search.{Search}}, resting.{Next.{Next}, Task.{Task}}, view.View.{View}}, Told.{as_shown}, Finding.{FindsLater, IsFound}}
use Rattle.dgt_game.specs.{Finding.{IsSearched, SearchIsDue, WhatFollowsIsFound}, Memory.{IsTold}, Planning.{EndsSearch, HasKing, IsLostOr, Plans, RestsBefore, StaysPlaced, TaskFits}}
use Rattle.dgt_game.{specs.{Reading.{HasSomeLines, IsLive}, Settling.{StaysShown}, Standing.{StandsAt}, Timing.{IsIdle}}, proofs.{Pictures.{king_seen, led_to}, Rests.{place_or}}}
use Rattle.dgt_game.specs.Finding.{MovedIsSearched}

-- what is looked for is found, if nothing else has changed
pub found_by_search : (old new : Recogniser) → ((view : View) → old.view ≡ Some view → IsLive old
    → IsSearched old (pieces_of view.shown) → HasSomeLines old.memory (pieces_of view.shown)
    → new.here ≢ Place.Nowhere) → (new.here ≢ Place.Nowhere)
    ⊎ (new ≡ record old { search = Search.Done; lost = new.lost })
    → new.search ≡ Search.Done → FindsLater new
found_by_search old new reads still done = (
  λ view is nowhere searched live fits lines. elim still [
    | inl here ↦ here nowhere
    | inr same ↦
        let before = subst (λ (r : Recogniser). (r.view ≡ Some view) × IsLive r
        × IsSearched r (pieces_of view.shown) × HasSomeLines r.memory (pieces_of view.shown)) same
        (is, live, fits, lines) in
        reads view before.0 before.1 before.2 before.3 nowhere
  ],
  λ nowhere waits. absurd (cc),
)

pub shown_then : (a b c : Recogniser) → StaysShown a b → StaysShown b c → StaysShown a c
shown_then a b c f g = (g.0 ∙ f.0, g.1 ∙ f.1, g.2 ∙ f.2)

-- once the board stands somewhere or nothing will come of it, there is nothing to find
pub found_placed : (new : Recogniser) → new.here ≡ Place.Line 0 → FindsLater new
found_placed new here = search rules

pub found_ended : (old new : Recogniser) → EndsSearch old new → FindsLater new
found_ended old new h = search rules

-- while nothing was found, nothing but a notice waits
pub found_later : (old new : Recogniser) → StaysPlaced old new → IsLostOr old
    → ¬ (IsTold old.memory × (old.ended ≡ None)) → IsFound new
found_later old new (view, search, here, running) lost waits = grind arith

-- ---- Laws

no_king : (view : View) (state : State) (turned : Bool) (colour : Colour)
    → board state ≡ as_shown turned (pieces_of view.shown)
    → ¬ (¬ (HasKing (pieces_of view.shown) colour))
no_king view state turned colour same none =
    false≢true (king_seen state turned (pieces_of
    view.shown) colour false view.shown.all same (search rules))

-- so it isn't a search, and nothing else is done with a position that has no place
undone : (self : Recogniser) (now : ℕ) (task : Task) (wait : ℕ) → self.here ≡ Place.Nowhere
    → self.is_next ≡ false → ¬ (self.search ≡ Search.Done) → SearchIsDue now self
    → now < self.since + wait → TaskFits self task → RestsBefore self task wait → ⊥
undone self now task wait nowhere next done due soon fits rests = search rules

no_plan : (self : Recogniser) (now : ℕ) (next : Option Next) → self.next ≡ next
    → self.is_sure ≡ true → IsIdle now self → Plans self next → self.here ≡ Place.Nowhere
    → self.is_next ≡ false → ¬ (self.search ≡ Search.Done) → SearchIsDue now self → next ≡ None
no_plan self now next is sure idle plans nowhere h done due = search rules

pub what_follows_is_found : WhatFollowsIsFound
what_follows_is_found self view now stands planned why found seen sure confirmed idle due live fits
    lines = elim (place_or self.here) [
      | inl some ↦ inl some
      | inr nowhere ↦
          let undone : ¬ (self.search ≡ Search.Done) = (λ done. found view seen nowhere done live
          fits lines) in
          let at = subst (λ (o : Option View). IfSome o (StandsAt self.here self.memory self.is_next
          self.is_sure)) seen stands.0 in
          let next : self.is_next ≡ false = search rules in
          let none = no_plan self now self.next refl sure idle planned nowhere next undone due in
          elim (subst (Plans self) none planned) [
            | inl doubt ↦ absurd (false≢true (sym doubt ∙ confirmed))
            | inr nothing ↦ elim nothing.1.1 [
              | inl some ↦ absurd (some nowhere)
              | inr more ↦ elim more [
                | inl hopeless ↦ elim ((why view seen nowhere).0 hopeless) [
                  | inl (colour, none) ↦
                      let (count, least, most, line) = lines in
                      let (state, turned, same) = led_to count self.memory (Place.Line 0) (pieces_of
                      view.shown) line in
                      absurd (no_king view state turned colour same none)
                  | inr shows ↦ inr (inr shows)
                ]
                | inr other ↦ elim other [
                  | inl refused ↦ inr (inl ((why view seen nowhere).1 refused))
                  | inr done ↦ absurd (undone done.0)
                ]
              ]
            ]
          ]
    ]

pub moved_is_searched : MovedIsSearched
moved_is_searched self picture last is moved (inl behind) =
    inl (behind, (last, is, moved last last.state.turn (inl is)))
moved_is_searched self picture last is moved (inr none) = inr (
  (last, is, λ colour. moved last colour (inl is)),
  λ step known. moved step step.state.turn known,
  none,
)
