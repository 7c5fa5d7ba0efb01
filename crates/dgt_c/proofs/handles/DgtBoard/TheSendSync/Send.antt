-- A handle can be sent to another thread, as the value that it owns can.
use denote.Param.Send.{IsSend}
use Rattle.{dgt_board.proofs.boards.Board.TheSendSync.{the_send}, dgt_c.{specs.contracts.handles.DgtBoard.{the_row}, proofs.{EachHandle.{board}, HandleRow.{sends}}}}

pub send : IsSend the_row
send = sends board the_send
