use Rattle.{std.proofs.{Common.{ap, ◌∙◌}, lemmas.Option.{IfSome_then}}, dgt_game.{specs.Memory.{step_at, steps}, proofs.{Chains.{found_before}, Pictures.{from_here, none_here}}}}
use Rattle.dgt_values.specs.Board.{pieces_of}
use Rattle.dgt_game.proofs.recogniser.Recogniser.made.Goals as goal

pub returns-clause-linked : goal.returns-clause-linked
returns-clause-linked c =
    let line = steps c.args.self.now.memory.line.items in
    let seen = steps c.args.self.now.memory.seen.items in
    IfSome_then c.next.result c.next.ensures.linked (λ node (parent, link, same). (
      rw (ap (step_at line seen) parent ∙ c.in_ok-from.ensures) link,
      same,
    ))

pub returns-in_err-from-clause-reads : goal.returns-in_err-from-clause-reads
returns-in_err-from-clause-reads c = λ line.
    absurd (none_here (step_at (steps c.args.self.now.memory.line.items)
    (steps c.args.self.now.memory.seen.items) c.args.place) 1 (pieces_of c.args.view.now.shown)
    c.in_err-from.ensures line)

pub returns-clause-reads : goal.returns-clause-reads
returns-clause-reads c = λ line.
    c.next.ensures.reads (from_here (step_at (steps c.args.self.now.memory.line.items)
    (steps c.args.self.now.memory.seen.items) c.args.place) c.in_ok-from.from.step 1
    (pieces_of c.args.view.now.shown) c.in_ok-from.ensures line)

pub returns-clause-room : goal.returns-clause-room
returns-clause-room c = λ near.
    let line = steps c.args.self.now.memory.line.items in
    let seen = steps c.args.self.now.memory.seen.items in
    IfSome_then c.next.result c.next.ensures.linked (λ node (parent, link, same).
    rw parent
    (found_before line seen c.args.place c.in_ok-from.from.step near c.in_ok-from.ensures))
