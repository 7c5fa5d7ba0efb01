use Rattle.{std.proofs.Common.{sym, subst, ◌∙◌, ap, drop, ◌<◌, ◌≡◌}, dgt_board.{proofs.SendingLemmas.{sending_lowers}, specs.{Kept.{due_message, state_of}, Sending.{after_sending, left_to_send}}}}
use Rattle.dgt_board.specs.State.{BoardState}
use Rattle.dgt_board.proofs.state.State.send.Goals as goal

pub returns-in-Ok-clause-falls : goal.returns-in-Ok-clause-falls
returns-in-Ok-clause-falls c =
    let before = state_of c.args.self.now in
    let message = due_message before c.in-Some.due in
    let Lower : BoardState → Type 0 = λ after. left_to_send after < left_to_send before in
    let next = rw c.in-Some.is at c.due.ensures.next in
    let with_less : BoardState → BoardState = λ board. record board { owed = drop 1 board.owed } in
    let sent : state_of c.drop_reply.new.self ≡ after_sending before message =
    c.drop_reply.ensures ∙ ap with_less c.note_reported.ensures in
    λ _ _. subst Lower (sym sent)
    (sending_lowers before message c.args.self.now.reported_squares.all next)
