-- The result of an engine, and that of its task.
use Rattle.std.{proofs.{Common.{◌≡◌, ℕ, List, Option, Some, Result, Err, false, rules}}, specs.{Prelude.{IsErrAnd, MatchResult, OnOk}, Io.KnownBytes.{Consumes}}}
use Rattle.{std.specs.Io.KnownBytes.{IsAtEnd}, dgt_lines.specs.{Turns.{HasTurns, source_mark_after}, declared.faults.RunFault.{RunFault}}, dgt_program.specs.Tasks.{IsShown, task_answer}}
use Rattle.dgt_program.specs.declared.{fault.Fault.{Fault}, program.TheConstants.{MOST_TURNS}, fault.Fault.TheVariants.{Run}}

-- what holds for a result, if it follows in either case
pub either_result : {A B : Type 0} (P P₁ : A → Type 0) (Q Q₁ : B → Type 0) (r : Result A B)
    → ((a : A) → P a → P₁ a) → ((b : B) → Q b → Q₁ b) → MatchResult r P Q → MatchResult r P₁ Q₁
either_result P P₁ Q Q₁ r f g h = search rules

-- the fault of an engine is the task's
pub failed : (r : Result (Unit {0}) Fault) (fault : RunFault) → IsErrAnd r (λ e. e ≡ Run fault)
    → r ≡ task_answer (Err fault)
failed r fault is = search rules

-- what an engine leaves, if its source had these bytes and refused no read
pub shown : (leaves : Result (Unit {0}) RunFault → List ℕ → List ℕ → Type 0) (bytes : List ℕ)
    (left : Option (List ℕ)) (run : Result (Unit {0}) RunFault) (read out : List ℕ)
    → Consumes (Some bytes) left read → false ≡ source_mark_after run false
    → OnOk run (IsAtEnd left) → HasTurns MOST_TURNS run read → leaves run read out
    → IsShown leaves run bytes out
shown leaves bytes left run read out consumed unrefused end turns stands = search rules
