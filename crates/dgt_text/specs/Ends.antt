-- How runs end: what the contracts of the engines determine, and what is written before a refused
-- write.
use Rattle.std.specs.Prelude.{◌≡◌, ◌≢◌, ℕ, Bool, false, List, [], ◌∷◌, ◌++◌, Result, Ok, Err, codes}
use Rattle.dgt_message.specs.Content.{Content}
use Rattle.dgt_message.specs.Encoding.{encoding}
use Rattle.dgt_board.specs.View.{BoardView}
use Rattle.dgt_link.specs.View.{WorldView}
use Rattle.dgt_link.specs.declared.acts.Outcome.{Outcome}
use Rattle.dgt_lines.specs.declared.faults.RunFault.{RunFault}
use Rattle.dgt_lines.specs.declared.faults.RunFault.TheVariants.{WriteFailed, BadLine}
use Rattle.dgt_lines.specs.Monitoring.{IsPrefix}
use Rattle.dgt_script.specs.Outcomes.{outcome_line}
use Rattle.dgt_script.specs.ScriptLines.{IsCut}
use Rattle.dgt_text.specs.Conversation.{sent}
use Rattle.dgt_text.specs.Serving.{IsAlmostSent, IsServed}
use Rattle.dgt_text.specs.Simulating.{IsSimulated, Plays, PlaysTorn, Rules}

-- ---- a board that answers

-- if no write was refused, the bytes determine the board that is left and what was written
abbrev pub OneAnswer : Type 0
OneAnswer =
    (r : Result (Unit {0}) RunFault) (before after other : BoardView) (bytes out more : List ℕ)
    → r ≢ Err WriteFailed → IsServed r before after bytes out → IsServed r before other bytes more
    → (after ≡ other) × (out ≡ more)

-- if a write was refused, what was written is a prefix of the whole answer
abbrev pub BrokenAnswersBegin : Type 0
BrokenAnswersBegin =
    (before after last : BoardView) (bytes out whole : List ℕ)
    → IsServed {A = Unit {0}} (Err WriteFailed) before after bytes out
    → IsServed {A = Unit {0}} (Ok tt) before last bytes whole → IsPrefix out whole

-- of two messages that the board sent, the first was written whole
abbrev pub OneIsCutOff : Type 0
OneIsCutOff =
    (first second : Content) (out : List ℕ)
    → IsAlmostSent (sent first ∷ sent second ∷ []) out → IsPrefix (encoding first) out

-- ---- a script

-- if no write was refused, the script determines what was written and the world that is left
abbrev pub OneEnd : Rules → Type 0
OneEnd rules =
    (r : Result (Unit {0}) RunFault) (at_end : Bool) (world last other : WorldView)
    (bytes out more : List ℕ) → r ≢ Err WriteFailed
    → IsSimulated rules at_end r world last bytes out
    → IsSimulated rules at_end r world other bytes more → (out ≡ more) × (last ≡ other)

-- one line is the first bad one, and it is wrong at one offset
abbrev pub OneBadLine : Rules → Type 0
OneBadLine rules =
    (at_end : Bool) (world last other : WorldView) (bytes out more : List ℕ)
    (number another at also : ℕ)
    → IsSimulated {A = Unit {0}} rules at_end (Err (BadLine number at)) world last bytes out
    → IsSimulated {A = Unit {0}} rules at_end (Err (BadLine another also)) world other bytes more
    → (number ≡ another) × (at ≡ also)

-- if a write was refused, what was written is a prefix of the whole text
abbrev pub TornTextsBegin : Rules → Type 0
TornTextsBegin rules =
    (at_end ended : Bool) (world last other : WorldView) (bytes out whole : List ℕ)
    → IsSimulated {A = Unit {0}} rules at_end (Err WriteFailed) world last bytes out
    → IsSimulated {A = Unit {0}} rules ended (Ok tt) world other bytes whole → IsPrefix out whole

-- before the end of the source it is a prefix of the outcomes of the whole lines
abbrev pub OnlyWholeLines : Rules → Type 0
OnlyWholeLines rules =
    (world last other : WorldView) (bytes out text rest : List ℕ) (lines : List (List ℕ))
    → IsSimulated {A = Unit {0}} rules false (Err WriteFailed) world last bytes out
    → IsCut bytes lines rest → Plays rules world lines text other → IsPrefix out text

-- of two lines that were played the outcome of the first was written whole
abbrev pub OneIsTorn : Rules → Type 0
OneIsTorn rules =
    (world last : WorldView) (first second out : List ℕ)
    → PlaysTorn rules world (first ∷ second ∷ []) out last
    → (outcome : Outcome) × (between : WorldView) × rules.does first world outcome between
    × IsPrefix (outcome_line outcome) out

-- ---- the closing lines

-- the text has the lines of board and host, and both have this placement
abbrev pub HasBoth : List ℕ → List ℕ → Type 0
HasBoth placement out =
    (before : List ℕ) × (rest : List ℕ)
    × (out ≡ before
    ++ (codes "board " ++ placement ++ codes "\nhost " ++ placement ++ codes "\n" ++ rest))
