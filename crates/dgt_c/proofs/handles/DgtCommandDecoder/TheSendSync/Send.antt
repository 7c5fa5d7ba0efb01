-- A handle can be sent to another thread, as the value that it owns can.
use denote.Param.Send.{IsSend}
use Rattle.{dgt_command.proofs.decoder.CommandDecoder.TheSendSync.{the_send}, dgt_c.{specs.contracts.handles.DgtCommandDecoder.{the_row}, proofs.{EachHandle.{command_decoder}, HandleRow.{sends}}}}

pub send : IsSend the_row
send = sends command_decoder the_send
