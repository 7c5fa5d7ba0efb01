use Rattle.{std.proofs.Common.{refl}, dgt_game.{specs.Memory.{steps}, proofs.Links.{fits_gap}}}
use Rattle.dgt_game.proofs.recogniser.Recogniser.unordered.Goals as goal

pub returns-clause-linked : goal.returns-clause-linked
returns-clause-linked c = λ pieces fits.
    let memory = c.args.self.now.memory in
    fits_gap (steps memory.line.items) (steps memory.seen.items) pieces c.args.node.step _
    c.halves.result c.halves.ensures refl fits
