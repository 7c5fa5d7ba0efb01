use Rattle.{std.proofs.Common.{rules, arith, ◌≡◌, ◌-◌, ◌<◌, length, slice_index_or}, dgt_game.proofs.Pictures.{read_at, shows_seen}}
use Rattle.dgt_game.proofs.recogniser.Recogniser.seen_before.Goals as goal

pub returns-then-is : goal.returns-then-is
returns-then-is c =
    let seen = c.args.self.now.memory.seen.items in
    let node = c.index-deref-len.result in
    let k = c.len-len.result - 1 - c.loop-at.at in
    let less : k < length seen = grind arith in
    let read : node ≡ slice_index_or seen k node = search rules in
    record {
      at = shows_seen c.args.self.now.memory c.args.view.now k node
          (read_at seen k node less read) (c.is.ensures.0 c.if-is.true);
    }
