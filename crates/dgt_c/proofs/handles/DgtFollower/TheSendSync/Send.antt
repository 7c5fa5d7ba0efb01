-- A handle can be sent to another thread, as the value that it owns can.
use denote.Param.Send.{IsSend}
use Rattle.{dgt_follow.proofs.follower.Follower.TheSendSync.{the_send}, dgt_c.{specs.contracts.handles.DgtFollower.{the_row}, proofs.{EachHandle.{follower}, HandleRow.{sends}}}}

pub send : IsSend the_row
send = sends follower the_send
