use Rattle.{std.proofs.Common.{◌++◌, take, rules}, dgt_decode.specs.{Feeding.{event_content_if_any}, Grammar.{unfinished_message}}}
use Rattle.dgt_follow.proofs.Hearing.{heard_once, is_some_seen, same_unfinished}
use Rattle.dgt_follow.proofs.follower.Follower.hear.Goals as goal

pub returns-clause-heard : goal.returns-clause-heard
returns-clause-heard c =
    let host = c.self.inside.host in
    let event = event_content_if_any c.hear.result.event in
    let bytes = take c.hear.result.used c.args.chunk.now in
    let noted =
    c.note.ensures host.awaited host.picture c.hear.ensures.unasked c.hear.ensures.changed
    (search (rules, is_some_seen)) in
    let timed =
    c.note_unread.ensures bytes (unfinished_message (host.unread ++ bytes)) (search rules)
    (search rules) in
    rw (← c.self.view_is, c.hear.follows.holds-at-none, timed, noted, same_unfinished)
    (heard_once host c.self.inside.pace c.args.now c.hear.result.used c.args.chunk.now event
    c.hear.ensures.first)

pub returns-clause-first : goal.returns-clause-first
returns-clause-first c =
    rw (← c.self.view_is) (event_content_if_any c.hear.result.event, c.hear.ensures.first)
