-- A handle can be sent to another thread, as the value that it owns can.
use denote.Param.Send.{IsSend}
use Rattle.{dgt_host.proofs.host.Host.TheSendSync.{the_send}, dgt_c.{specs.contracts.handles.DgtHost.{the_row}, proofs.{EachHandle.{host}, HandleRow.{sends}}}}

pub send : IsSend the_row
send = sends host the_send
