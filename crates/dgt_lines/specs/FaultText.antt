-- The text of the fault of a run.
use Rattle.std.specs.Prelude.{ℕ, List, ◌++◌, codes, decimal}
use Rattle.dgt_lines.specs.declared.faults.RunFault.{RunFault}
use Rattle.dgt_lines.specs.declared.faults.RunFault.TheVariants.{ReadFailed, WriteFailed, TooManyTurns, BadLine}

abbrev pub run_fault_text : RunFault → List ℕ
run_fault_text ReadFailed = codes "read failed"
run_fault_text WriteFailed = codes "write failed"
run_fault_text TooManyTurns = codes "too many turns"
run_fault_text (BadLine line at) = codes "line " ++ decimal line ++ codes ": bad at " ++ decimal at
