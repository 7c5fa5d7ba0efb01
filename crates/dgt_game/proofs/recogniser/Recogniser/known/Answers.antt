use Rattle.{std.proofs.Common.{rules, arith, ◌≡◌, ◌∙◌, ◌<◌, length, slice_index_or}, dgt_chess.specs.Rules.{board}, dgt_game.proofs.{Chains.{get_step}, Links.{reads, same_told}, Pictures.{read_at}}}
use Rattle.dgt_game.proofs.recogniser.Recogniser.known.Goals as goal

pub returns-clause-linked : goal.returns-clause-linked
returns-clause-linked c = λ shown pieces seen fits.
    reads shown c.args.self.now.memory pieces c.args.node seen fits

pub returns-then-eq-2-clause-at : goal.returns-then-eq-2-clause-at
returns-then-eq-2-clause-at c = λ view shows.
    let seen = c.args.self.now.memory.seen.items in
    let other = c.index-deref-k.result in
    let k = c.loop-k.k in
    let less : k < length seen = grind arith in
    let read : other ≡ slice_index_or seen k other = search rules in
    let turned : other.step.is_turned ≡ c.args.node.step.is_turned = search rules in
    let same : board other.step.state ≡ board c.args.node.step.state =
    (c.equal_is_same.ensures.position other.step.state.position
    c.args.node.step.state.position).0 (search rules) in (
      other.step,
      get_step seen k other (read_at seen k other less read),
      same_told other.step c.args.node.step turned same ∙ shows,
    )
