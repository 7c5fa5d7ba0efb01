-- What proofs use from the readers of messages and of commands.
use Rattle.std.specs.Prelude.{◌≡◌, ℕ, List, [], ◌++◌}
use Rattle.dgt_command.specs.Content.{EventContent}
use Rattle.dgt_command.specs.Laws.{DivisionsAppend, EachDividesOnce, PrefixesDivideFirst, ZerosSettleTheReader}
use Rattle.dgt_command.specs.Encoding.{AreBytes}
use Rattle.dgt_command.specs.Words.{Divides, IsPartial}
use Rattle.dgt_decode.specs.Grammar.{Placed, shifted}
use Rattle.dgt_decode.specs.Laws.{BeginsAnew, EventsAppend, UnfinishedAppend, QuietHeld, EncodingIsRead}
use Rattle.dgt_host.specs.Host.{HostView, host_after_events}

-- the laws of the decoder, and that the places of events don't affect a host
pub record Reads : Type 0 where
  pub append : EventsAppend
  pub unfinished_append : UnfinishedAppend
  pub quiet_held : QuietHeld
  pub encoding : EncodingIsRead
  pub places : (host : HostView) (n : ℕ) (reported : List Placed)
      → host_after_events host (shifted n reported) ≡ host_after_events host reported

-- the laws of both readers
pub record Grammars : Type 0 where
  pub reads : Reads
  pub begins_anew : BeginsAnew
  pub divisions_append : DivisionsAppend
  pub prefixes_divide_first : PrefixesDivideFirst
  pub once : EachDividesOnce
  pub zeros_settle : ZerosSettleTheReader
  pub nothing : IsPartial []
  pub left : (bytes rest : List ℕ) (events : List EventContent) → Divides bytes events rest
      → IsPartial rest
  pub bytes : (rest more : List ℕ) → IsPartial rest → AreBytes more → AreBytes (rest ++ more)
