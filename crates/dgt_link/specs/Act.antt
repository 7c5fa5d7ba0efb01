-- The acts in a world, without the addresses of their bytes.
use Rattle.std.specs.Prelude.{ℕ}
use Rattle.dgt_values.specs.declared.pieces.Piece.{Piece}
use Rattle.dgt_values.specs.Board.{square_number}
use Rattle.dgt_message.specs.Clock.{ClockState}
use Rattle.dgt_message.specs.Content.{clock_seen}
use Rattle.dgt_command.specs.Content.{CommandContent, command_content}
use Rattle.dgt_command.specs.Equality.{CommandHasArrays}
use Rattle.dgt_link.specs.declared.acts.Act.{Act}
use Rattle.dgt_link.specs.declared.acts.Act.TheVariants as act

pub data ActContent : Type 0 where
  Change : (square : ℕ) (piece : Piece) → ActContent
  ClockRead : (clock : ClockState) → ActContent
  Host : (command : CommandContent) → ActContent
  BoardSend : ActContent
  ToBoard : (count : ℕ) → ActContent
  ToHost : (count : ℕ) → ActContent
  Break : ActContent
  HostBreak : ActContent

abbrev pub act_content : Act → ActContent
act_content (act.Change square piece) = Change (square_number square) piece
act_content (act.ClockRead clock) = ClockRead (clock_seen clock)
act_content (act.Host command) = Host (command_content command)
act_content act.BoardSend = BoardSend
act_content (act.ToBoard count) = ToBoard count
act_content (act.ToHost count) = ToHost count
act_content act.Break = Break
act_content act.HostBreak = HostBreak

-- the arrays of its command are as long as their types say
abbrev pub ActHasArrays : Act → Type 0
ActHasArrays (act.Host command) = CommandHasArrays command
ActHasArrays _ = Unit {0}
