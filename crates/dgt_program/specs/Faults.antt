-- The faults that end the program.
use Rattle.std.specs.Prelude.{◌≡◌, ℕ, List, ◌++◌, codes, decimal, string_bytes}
use Rattle.dgt_ask.specs.declared.tasks.BadArguments.{BadArguments}
use Rattle.dgt_ask.specs.declared.tasks.BadArguments.TheVariants as words
use Rattle.dgt_lines.specs.FaultText.{run_fault_text}
use Rattle.dgt_link.specs.declared.world.WorldFault.{WorldFault}
use Rattle.dgt_link.specs.declared.world.WorldFault.TheVariants as world
use Rattle.dgt_program.specs.declared.fault.Fault.{Fault}
use Rattle.dgt_program.specs.declared.fault.Fault.TheVariants.{CommandLine, BadHex, BadPlacement, LineTooSmall, Run, OutOfMemory}

abbrev pub fault_text : Fault → List ℕ
fault_text (CommandLine text) = string_bytes text
fault_text BadHex = codes "bad hex"
fault_text (BadPlacement at) = codes "bad placement at " ++ decimal at
fault_text LineTooSmall = codes "a line is too small"
fault_text (Run fault) = run_fault_text fault
fault_text OutOfMemory = codes "out of memory"

-- what reports a fault: a line, or the whole lines about a command line
abbrev pub fault_lines : Fault → List ℕ
fault_lines (CommandLine text) = string_bytes text
fault_lines fault = codes "dgt: " ++ fault_text fault ++ codes "\n"

-- the exit status of a fault
abbrev pub fault_status : Fault → ℕ
fault_status (Run _) = 1
fault_status (CommandLine _) = 2
fault_status BadHex = 2
fault_status (BadPlacement _) = 2
fault_status LineTooSmall = 2
fault_status OutOfMemory = 3

-- the fault, if the words are not a valid command line, or their reader was refused memory
abbrev pub IsOfWords : BadArguments → Fault → Type 0
IsOfWords (words.Refused text) fault = fault ≡ CommandLine text
IsOfWords words.OutOfMemory fault = fault ≡ OutOfMemory

-- the fault, if a world was not made
abbrev pub IsOfWorld : WorldFault → Fault → Type 0
IsOfWorld world.LineTooSmall fault = fault ≡ LineTooSmall
IsOfWorld world.OutOfMemory fault = fault ≡ OutOfMemory
