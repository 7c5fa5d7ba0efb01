-- What `monitor` writes.
use Rattle.std.specs.Prelude.{◌≡◌, ℕ, List, ◌++◌, Result, Ok, Err}
use Rattle.dgt_lines.specs.declared.faults.RunFault.{RunFault}
use Rattle.dgt_lines.specs.declared.faults.RunFault.TheVariants.{ReadFailed, WriteFailed, TooManyTurns, BadLine}
use Rattle.dgt_lines.specs.Lines.{lines, monitor_text}

-- the first list is a prefix of the second
abbrev pub IsPrefix : List ℕ → List ℕ → Type 0
IsPrefix prefix whole = (rest : List ℕ) × (whole ≡ prefix ++ rest)

-- what the sink contains if an engine returned this result: the bytes that were read have the lines
-- `text`, and with the end of the input after them the lines `whole`
abbrev pub IsInSink : {A : Type 0} → Result A RunFault → List ℕ → List ℕ → List ℕ → Type 0
IsInSink (Ok _) text whole out = out ≡ whole
IsInSink (Err ReadFailed) text whole out = out ≡ text
IsInSink (Err TooManyTurns) text whole out = out ≡ text
IsInSink (Err WriteFailed) text whole out = IsPrefix out whole
IsInSink (Err (BadLine _ _)) text whole out = ⊥

-- what the sink contains if `monitor` read these bytes and returned this result
abbrev pub IsMonitored : {A : Type 0} → Result A RunFault → List ℕ → List ℕ → Type 0
IsMonitored r bytes out = IsInSink r (lines bytes) (monitor_text bytes) out
