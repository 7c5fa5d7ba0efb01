use Rattle.dgt_decode.proofs.{Beginnings.{frames-whole}, Framing.{prefix-stray}}
use Rattle.dgt_decode.proofs.framer.Framer.take_prefix.Goals as goal

pub returns-then-rest-lt-TOP_BIT : goal.returns-then-rest-lt-TOP_BIT
returns-then-rest-lt-TOP_BIT c = rw c.reset.ensures
    (prefix-stray c.args.self.now c.args.rest.now (c.is_between.ensures c.if-not-is_between.false)
    c.requires c.if-rest-lt-TOP_BIT.true)

pub returns : goal.returns
returns c =
    let field = c.begins_with_field.ensures.0 c.if-not-begins_with_field.false in
    rw c.set_prefix.ensures
    (frames-whole c.args.self.now c.args.rest.now 5 (c.is_between.ensures c.if-not-is_between.false)
    field.0 field.1)
