use Rattle.{std.{proofs.Common.{inl}, specs.Prelude.{slice_get}}, dgt_game.{specs.Memory.{Chain, line_after, steps}, proofs.Told.{grows_none, makes, rooted_none, nothing_seen, same_tip}}}
use Rattle.dgt_game.proofs.memory.Memory.make.Goals as goal

pub returns-clause-told : goal.returns-clause-told
returns-clause-told c = λ shown line back h.
    let m = c.args.self.now in
    let node = c.in-Some.node in
    let rest = c.take_first.new.nodes.items in
    let kept = steps m.line.items in
    let new = steps c.put_first.new.nodes.items in
    let first : Chain shown (slice_get kept 0) (steps m.unsaid.items) =
    rw back at h.unsaid in
    let w = makes shown line kept new (steps rest) node.step h.kept h.shown_line
    (rw c.in-Some.ensures.rest at first) c.put_first.ensures.first in
    let none = nothing_seen (steps m.seen.items) m.unsaid.items rest node m.back h.quiet
    c.in-Some.ensures.rest in (
      line_after node.step line,
      rw c.told_event.ensures w.0,
      record {
        shown_line = w.1;
        kept = c.put_first.ensures.kept line h.kept;
        back = inl back;
        unsaid = rw back w.2;
        answer = rw (same_tip kept new m.unsaid.items rest node m.back back c.in-Some.ensures.rest
            c.put_first.ensures.first) at h.answer;
        answered = rw (same_tip kept new m.unsaid.items rest node m.back back c.in-Some.ensures.rest
            c.put_first.ensures.first) at h.answered;
        grows = rw none (grows_none shown new);
        rooted = rw none (rooted_none _);
        quiet = inl none;
      },
    )
