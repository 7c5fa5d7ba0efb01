use Rattle.{std.proofs.Common.{rules, arith}, dgt_decode.proofs.{Framing.{kept-first, frames-first, frames-cut}, framer.Framer.begin_message.Goals.{then-have-eq0, else-have-eq0}}}
use Rattle.dgt_decode.proofs.framer.Framer.begin_message.Goals as goal

pub invariant_of-self : goal.invariant_of-self
invariant_of-self c = search (rules, kept-first)

pub returns : goal.returns
returns c = rw (c.push.ensures.kept (rw c.clear.ensures (omega arith)), c.clear.ensures)
    (elim c.if-have-eq0.branch [
      | then-have-eq0 w ↦
          rw w.result-is (frames-first c.args.self.now c.args.byte (omega arith) c.requires)
      | else-have-eq0 w ↦ rw (w.result-is, c.unfinished_len-have.ensures)
          (frames-cut c.args.self.now c.args.byte (omega arith) c.requires)
    ])
