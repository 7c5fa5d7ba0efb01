-- What `serve` writes, and the board that it leaves.
use Rattle.std.specs.Prelude.{◌≡◌, ℕ, ◌≤◌, true, false, List, ◌++◌, length, Result, Ok, Err, MatchResult}
use Rattle.std.specs.Io.KnownBytes.{Appends}
use Rattle.dgt_board.specs.View.{BoardView}
use Rattle.dgt_lines.specs.declared.faults.RunFault.{RunFault}
use Rattle.dgt_lines.specs.declared.faults.RunFault.TheVariants.{ReadFailed, WriteFailed, TooManyTurns, BadLine}
use Rattle.dgt_text.specs.Conversation.{Exchange, bytes_sent, Answers, HearsPrefix}
use Rattle.dgt_lines.specs.Monitoring.{IsPrefix}
use Rattle.dgt_lines.specs.Turns.{Change}
use Rattle.dgt_lines.specs.Writing.{Wrote}
use Rattle.dgt_lines.specs.declared.streams.Sink.{Ghosts as Sink}

-- the board answered the bytes, and all that it reported was written
abbrev pub IsAnswered : BoardView → BoardView → List ℕ → List ℕ → Type 0
IsAnswered before after bytes out =
    (steps : List Exchange) × Answers before bytes steps after × (out ≡ bytes_sent steps)

-- All that was sent was written, except for the last message, of which a prefix may be written.
pub record IsAlmostSent (steps : List Exchange) (out : List ℕ) : Type 0 where
  pub before : List Exchange
  pub last : List Exchange
  pub whole : steps ≡ before ++ last
  pub one : length last ≤ 1
  pub sure : IsPrefix (bytes_sent before) out
  pub prefix : IsPrefix out (bytes_sent steps)

-- the board was answering the bytes when a write or a flush was refused
pub record IsBrokenOff (before after : BoardView) (bytes out : List ℕ) : Type 0 where
  pub steps : List Exchange
  pub hears : HearsPrefix before bytes steps after
  pub sent : IsAlmostSent steps out

-- the board before and after, and the bytes that were read and written, if `serve` returned this
-- result
abbrev pub IsServed : {A : Type 0} → Result A RunFault → BoardView → BoardView → List ℕ → List ℕ
    → Type 0
IsServed (Ok _) before after bytes out = IsAnswered before after bytes out
IsServed (Err ReadFailed) before after bytes out = IsAnswered before after bytes out
IsServed (Err TooManyTurns) before after bytes out = IsAnswered before after bytes out
IsServed (Err WriteFailed) before after bytes out = IsBrokenOff before after bytes out
IsServed (Err (BadLine _ _)) before after bytes out = ⊥

-- ---- a call that hands the board some bytes

-- the board answered them, and the sink took what it reported
pub record Served {S : Type 0} (W : Sink S) (before after : BoardView) (old new : S)
    (bytes : List ℕ) : Type 0 where
  pub steps : List Exchange
  pub answers : Answers before bytes steps after
  pub wrote : Wrote W old new (bytes_sent steps)

-- the sink refused
pub record Halted {S : Type 0} (W : Sink S) (before after : BoardView) (old new : S)
    (bytes : List ℕ) : Type 0 where
  pub out : List ℕ
  pub breaks : IsBrokenOff before after bytes out
  pub appends : Appends (W.written old) (W.written new) out
  pub refused : W.failed new ≡ true
  pub in_time : W.failed old ≡ false → W.late new ≡ W.late old

abbrev pub Serves : {S A : Type 0} → Sink S → Change BoardView → Change S → Result A RunFault
    → List ℕ → Type 0
Serves W board sink r bytes =
    MatchResult r (λ _. Served W board.old board.new sink.old sink.new bytes)
    (λ e. (e ≡ WriteFailed) × Halted W board.old board.new sink.old sink.new bytes)
