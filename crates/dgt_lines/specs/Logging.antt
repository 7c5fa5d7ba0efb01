-- What `log` writes.
use Rattle.std.specs.Prelude.{ℕ, List, Result}
use Rattle.dgt_decode.specs.Grammar.{events}
use Rattle.dgt_lines.specs.declared.faults.RunFault.{RunFault}
use Rattle.dgt_lines.specs.Logs.{HasLog}
use Rattle.dgt_lines.specs.Monitoring.{IsInSink}

-- what the sink contains if `log` read these bytes and returned this result: their events have this
-- text
pub record IsLogged {A : Type 0} (r : Result A RunFault) (bytes out : List ℕ) : Type 0 where
  pub text : List ℕ
  pub has : HasLog (events bytes) text
  pub stands : IsInSink r text text out
