use Rattle.{std.proofs.{Common.{◌∙◌}, lemmas.Option.{IfSome_then}}, dgt_values.specs.Board.{pieces_of}, dgt_game.{specs.Memory.{step_at, steps}, proofs.{Chains.{found_before}, Links.{fits_at}}}}
use Rattle.dgt_game.proofs.{Links.{not_begun}, Pictures.{from_here, none_here}}
use Rattle.dgt_game.proofs.recogniser.Recogniser.jumped.Goals as goal

pub returns-clause-linked : goal.returns-clause-linked
returns-clause-linked c =
    let line = steps c.args.self.now.memory.line.items in
    let seen = steps c.args.self.now.memory.seen.items in
    let from = c.in_ok-from.from.step in
    IfSome_then c.jumped_from.result c.jumped_from.ensures.linked
    (λ node (parent, turned, by, same). (
      fits_at line seen c.args.place from node.step (pieces_of c.args.view.now.shown)
          c.in_ok-from.ensures parent turned by (same ∙ c.from.ensures),
      not_begun from.state node.step.state node.step.way by,
    ))

pub returns-in_err-from-clause-reads : goal.returns-in_err-from-clause-reads
returns-in_err-from-clause-reads c = λ some few line.
    absurd (none_here (step_at (steps c.args.self.now.memory.line.items)
    (steps c.args.self.now.memory.seen.items) c.args.place) c.args.halves
    (pieces_of c.args.view.now.shown) c.in_err-from.ensures line)

pub returns-clause-reads : goal.returns-clause-reads
returns-clause-reads c = λ some few line.
    let from = c.in_ok-from.from.step in
    c.jumped_from.ensures.reads some few
    (rw c.from.ensures (from_here (step_at (steps c.args.self.now.memory.line.items)
    (steps c.args.self.now.memory.seen.items) c.args.place) from c.args.halves
    (pieces_of c.args.view.now.shown) c.in_ok-from.ensures line))

pub returns-clause-room : goal.returns-clause-room
returns-clause-room c = λ near.
    let line = steps c.args.self.now.memory.line.items in
    let seen = steps c.args.self.now.memory.seen.items in
    IfSome_then c.jumped_from.result c.jumped_from.ensures.linked
    (λ node (parent, turned, by, same). rw parent
    (found_before line seen c.args.place c.in_ok-from.from.step near c.in_ok-from.ensures))
