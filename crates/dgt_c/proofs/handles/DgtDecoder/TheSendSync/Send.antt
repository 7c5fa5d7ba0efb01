-- A handle can be sent to another thread, as the value that it owns can.
use denote.Param.Send.{IsSend}
use Rattle.{dgt_decode.proofs.decoder.Decoder.TheSendSync.{the_send}, dgt_c.{specs.contracts.handles.DgtDecoder.{the_row}, proofs.{EachHandle.{decoder}, HandleRow.{sends}}}}

pub send : IsSend the_row
send = sends decoder the_send
