use Rattle.{dgt_command.specs.Content.{command_event_content}, dgt_link.proofs.LineMoves.{prefix_bytes, stays_unfinished}}
use Rattle.dgt_link.proofs.moving.take_front.Goals as goal

pub returns-clause-earlier : goal.returns-clause-earlier
returns-clause-earlier c =
    stays_unfinished command_event_content c.args.board.now c.args.line.now.bytes _
    c.unwrap-used.result.used c.unwrap-used.result.event
    (prefix_bytes c.args.line.now.bytes c.front-front.result.now c.min.result
    c.unwrap-used.result.used
    c.front-front.ensures.front (rw c.unwrap-used.ensures at c.take.ensures.within))
    (rw c.unwrap-used.ensures at c.take.ensures.within) c.requires.room
    (rw c.unwrap-used.ensures at c.take.ensures.event)
    (rw c.unwrap-used.ensures at c.take.ensures.none)
