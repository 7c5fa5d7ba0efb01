use Rattle.{std.proofs.Common.{◌∙◌}, dgt_values.specs.Board.{pieces_of}, dgt_game.{specs.{declared.node.Way.{Way}, Told.{as_shown}}, proofs.{Links.{follows}, Pictures.{no_line}}}}
use Rattle.dgt_game.proofs.recogniser.Recogniser.next.Goals as goal

pub returns-clause-linked : goal.returns-clause-linked
returns-clause-linked c =
    let made = c.in_ok-one.ensures in
    follows c.args.from.now.step c.args.place (Way.Made c.in_ok-one.one) c.in_ok-one.state
    c.follow.result.step (pieces_of c.args.view.now.shown) c.follow.ensures.step made.0
    (made.1 ∙ c.from.ensures)

pub returns-in_err-one-clause-reads : goal.returns-in_err-one-clause-reads
returns-in_err-one-clause-reads c = λ line.
    absurd (no_line 1 c.args.from.now.step.state (pieces_of c.from.result.now)
    (as_shown c.args.from.now.step.is_turned (pieces_of c.args.view.now.shown))
    c.in_err-one.ensures c.from.ensures line)
