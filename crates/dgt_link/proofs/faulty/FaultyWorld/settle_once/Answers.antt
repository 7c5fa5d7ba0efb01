use Rattle.{std.proofs.Common.{refl, rules}, dgt_link.proofs.Settling.{hears, no_bytes, not_owing, sends, takes}}
use Rattle.dgt_link.proofs.faulty.FaultyWorld.settle_once.Goals as goal

pub returns-then-not-is_empty-clause-moved : goal.returns-then-not-is_empty-clause-moved
returns-then-not-is_empty-clause-moved c =
    λ _. hears c.args.self.now c.hear_all.new.self c.hear_all.result (search rules)
    c.hear_all.ensures

pub returns-then-has_to_send-clause-moved : goal.returns-then-has_to_send-clause-moved
returns-then-has_to_send-clause-moved c =
    λ _. sends c.bounded_backlog.ensures.falls c.args.self.now c.send.new.self c.send.result
    (search rules) (search rules) (search rules) c.send.ensures.room c.send.ensures.exact

pub returns-then-not-is_empty-2-clause-moved : goal.returns-then-not-is_empty-2-clause-moved
returns-then-not-is_empty-2-clause-moved c =
    let none = not_owing c.has_to_send.result c.args.self.now.board.state c.has_to_send.ensures
    c.if-has_to_send.false in
    λ _. takes c.words_are_short.ensures c.parts_of_words.ensures.no_word
    c.bounded_backlog.ensures.rises
    c.args.self.now c.take_all.new.self c.take_all.result (search rules) (search rules) none
    (c.nothing_to_send.ensures.none_owed c.args.self.now.board.state none) (search rules)
    c.take_all.ensures

pub returns-else-not-is_empty-2-clause-rests : goal.returns-else-not-is_empty-2-clause-rests
returns-else-not-is_empty-2-clause-rests c =
    let none = not_owing c.has_to_send.result c.args.self.now.board.state c.has_to_send.ensures
    c.if-has_to_send.false in
    λ _. (
      (
        no_bytes c.args.self.now.up.bytes (search rules),
        no_bytes c.args.self.now.down.bytes (search rules),
        none,
      ),
      refl,
    )
