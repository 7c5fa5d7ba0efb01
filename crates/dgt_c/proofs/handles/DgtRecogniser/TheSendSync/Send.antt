-- A handle can be sent to another thread, as the value that it owns can.
use denote.Param.Send.{IsSend}
use Rattle.{dgt_game.proofs.recogniser.Recogniser.TheSendSync.{the_send}, dgt_c.{specs.contracts.handles.DgtRecogniser.{the_row}, proofs.{EachHandle.{recogniser}, HandleRow.{sends}}}}

pub send : IsSend the_row
send = sends recogniser the_send
