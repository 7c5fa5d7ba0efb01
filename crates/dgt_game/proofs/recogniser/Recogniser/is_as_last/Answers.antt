use Rattle.{std.{proofs.{Common.{◌≡◌, Some, length, refl}, lemmas.Option.{slice_get_read}}, specs.Prelude.{slice_get}}, dgt_values.specs.Board.{pieces_of}}
use Rattle.{dgt_chess.specs.Rules.{board}, dgt_game.{specs.{Results.{IsAlmost}, Told.{as_shown}, Waiting.{last_of}, declared.node.Step.{Step}}, proofs.{Chains.{get_step}, Standing.{of_some}}}}
use Rattle.dgt_game.proofs.recogniser.Recogniser.is_as_last.Goals as goal

pub returns-in-Some : goal.returns-in-Some
returns-in-Some c =
    let self = c.args.self.now in
    let look = c.in-Some.ensures.lookup in
    let line = c.deref.result.now in
    let last = c.in-Some.last.now in
    let at : slice_get self.memory.line.items 0 ≡ Some last =
    rw c.deref.ensures.0 at (slice_get_read line (length line) 0 last refl look.3.0 look.1) in
    let step = get_step self.memory.line.items 0 last at in
    let almost : Step → Type 0 = λ step. IsAlmost (as_shown step.is_turned
    (pieces_of c.args.view.now.shown)) (board step.state) in
    let first = rw c.position.ensures at c.is_almost.ensures in
    let law = rw c.from.ensures at first in (
      λ yes. of_some (last_of self.memory) last.step almost step (law.0 yes),
      λ h. law.1 (rw step at h),
    )
