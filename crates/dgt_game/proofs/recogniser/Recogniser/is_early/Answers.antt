use Rattle.dgt_game.{specs.{declared.view.View.{View}, Told.{as_shown}, Memory.{steps}, Reading.{HasMoved}}, proofs.{Chains.{same_some}, Moved.{moved_here}, Planning.{step_got}}}
use Rattle.{dgt_game.proofs.recogniser.Recogniser.is_early.Goals.{Then-moves_again}, dgt_values.specs.Board.{pieces_of}, std.proofs.Common.{rules, arith, ◌≡◌, ◌∙◌, inl, inr, Some, true, false, refl}}
use Rattle.std.{proofs.Common.{sym}, specs.Prelude.{slice_get}}
use Rattle.dgt_game.proofs.recogniser.Recogniser.is_early.Goals as goal

-- the side that moved last has not moved again
still : (c : Then-moves_again) (view : View) → c.args.self.now.view ≡ Some view
    → let step = c.in-Some-get.last.now.step in
    (slice_get (steps c.args.self.now.memory.line.items) 0 ≡ Some step)
    × ¬ (HasMoved (as_shown step.is_turned (pieces_of view.shown)) step.state step.state.turn)
still c view is =
    let look = c.in-Some-get.ensures.lookup in
    let last = c.in-Some-get.last.now in
    let same = same_some c.args.self.now.view view c.in-Some.view is c.in-Some.is in (
      step_got _ c.deref.result.now 0 last c.deref.ensures.0 look.3.0 look.1,
      λ moved.
          let no : c.moves_again.result ≡ false = c.moves_again.ensures.reads
          (rw c.from-shown.ensures (rw same at moved)) in
          let yes : c.moves_again.result ≡ true = c.if-moves_again.true in cc,
    )

pub returns-then-moves_again : goal.returns-then-moves_again
returns-then-moves_again c = record {
  reads = λ view is behind (step, at, moved).
      let (last_at, not_moved) = still c view is in
      let same = same_some _ step _ at last_at in absurd (not_moved (rw same at moved));
  all = λ view is every.
      let (last_at, not_moved) = still c view is in absurd (not_moved (every _ (inl last_at)));
}

pub returns-then-moves_again-2-clause-all : goal.returns-then-moves_again-2-clause-all
returns-then-moves_again-2-clause-all c = λ view is every.
    let seen = c.args.self.now.memory.seen.items in
    let node = c.index-deref-k.result in
    let k = c.loop-k.k in
    let shown = c.in-Some.view in
    let at = step_got seen seen k node refl (grind arith) (search rules) in
    sym c.if-moves_again-2.true ∙ c.moves_again-then-not-is_shadow.ensures.reads
    (rw c.from-shown-in-loop-k.ensures (moved_here node.step node.step view shown refl
    (same_some c.args.self.now.view view shown is c.in-Some.is) (every node.step (inr (k, at)))))
