use Rattle.{std.proofs.Common.{rules, arith, ◌≡◌, ◌<◌, length, slice_index_or}, dgt_chess.specs.Rules.{board}, dgt_game.proofs.{Chains.{get_step}, Pictures.{read_at}}}
use Rattle.dgt_game.proofs.recogniser.Recogniser.same_node.Goals as goal

pub returns-then-eq-3 : goal.returns-then-eq-3
returns-then-eq-3 c =
    let seen = c.args.self.now.memory.seen.items in
    let node = c.index-deref-k.result in
    let other = node.step in
    let k = c.loop-k.k in
    let less : k < length seen = grind arith in
    let read : node ≡ slice_index_or seen k node = search rules in
    let turned : other.is_turned ≡ c.args.node.now.step.is_turned = search rules in
    let same : board other.state ≡ board c.args.node.now.step.state =
    (c.equal_is_same.ensures.position other.state.position
    c.args.node.now.step.state.position).0 (search rules) in (
      other,
      get_step seen k node (read_at seen k node less read),
      turned,
      same,
    )
