-- What `commands` writes.
use Rattle.std.specs.Prelude.{ℕ, List, ◌++◌, length, Result}
use Rattle.dgt_lines.specs.declared.faults.RunFault.{RunFault}
use Rattle.dgt_lines.specs.Lines.{unfinished_line}
use Rattle.dgt_lines.specs.CommandLines.{Prints}
use Rattle.dgt_lines.specs.Monitoring.{IsInSink}

-- what the sink contains if `commands` read these bytes and returned this result: they have this
-- text, and leave this rest of a frame
pub record IsListed {A : Type 0} (r : Result A RunFault) (bytes out : List ℕ) : Type 0 where
  pub text : List ℕ
  pub rest : List ℕ
  pub prints : Prints 0 bytes rest text
  pub stands : IsInSink r text (text ++ unfinished_line (length bytes) rest) out
