-- What `picture` writes.
use Rattle.std.specs.Prelude.{Bool, ℕ, List, Result}
use Rattle.dgt_lines.specs.declared.faults.RunFault.{RunFault}
use Rattle.dgt_lines.specs.Reports.{report_text}
use Rattle.dgt_lines.specs.Monitoring.{IsInSink}

-- what the sink contains if an engine read these bytes, writes this text of them and returned this
-- result
abbrev pub HasText : {A : Type 0} → (List ℕ → List ℕ) → Result A RunFault → List ℕ → List ℕ
    → Type 0
HasText text r bytes out = IsInSink r (text bytes) (text bytes) out

-- the same for `picture`, with or without doubts and the clock
abbrev pub IsPictured : {A : Type 0} → Bool → Bool → Result A RunFault → List ℕ → List ℕ → Type 0
IsPictured doubts clock r bytes out = HasText (report_text doubts clock) r bytes out
