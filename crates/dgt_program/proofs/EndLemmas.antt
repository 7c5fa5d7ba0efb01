-- How tasks end.
use Rattle.{std.proofs.Common.{◌≡◌, ◌≢◌, ℕ, Bool, true, false, List, [], ◌∷◌, ◌++◌, Result, Ok, Err, arith, rules}, dgt_program.specs.{Ends.{IsBeforeRuns, ShowsNothing}, Tasks.{PlaysScript}}}
use Rattle.dgt_program.specs.{Tasks.{PlaysWith, task_answer}, declared.fault.Fault.{Fault}}
use Rattle.{dgt_link.specs.View.{WorldView}, dgt_lines.specs.{Lines.{monitor_text}, Monitoring.{IsPrefix}, Turns.{Change, Ran}, declared.{faults.RunFault.{RunFault}, streams.Sink.{Ghosts as Sink}}}}
use Rattle.{dgt_lines.specs.declared.{streams.Source.{Ghosts as Source}, faults.RunFault.TheVariants.{WriteFailed}}, dgt_text.specs.Simulating.{IsSimulated, Rules}}

-- ---- answers

pub ok_run : (run : Result (Unit {0}) RunFault) → Ok tt ≡ task_answer run → run ≡ Ok tt
ok_run run e = search rules

pub ok_not_failed : (run : Result (Unit {0}) RunFault) → run ≡ Ok tt → run ≢ Err WriteFailed
ok_not_failed run e h = cc

pub no_run : (run : Result (Unit {0}) RunFault) (fault : Fault) → IsBeforeRuns fault
    → Err fault ≡ task_answer run → ⊥
no_run run fault first e = search rules

-- ---- faults

module _ {S T : Type 0} (R : Source S) (W : Sink T) where
  pub no_script : (faults : Bool) (source : Change S) (sink : Change T) (fault : Fault)
      (world : WorldView) → IsBeforeRuns fault → PlaysWith faults R W source sink (Err fault) world
      → ⊥
  no_script false source sink fault world first p = no_run p.plays.run fault first p.plays.answer
  no_script true source sink fault world first p = no_run p.plays.run fault first p.plays.answer

  -- ---- runs that end well

  pub script_ends : (rules : Rules) (ShowsBoard : WorldView → List ℕ → Type 0) (source : Change S)
      (sink : Change T) (world : WorldView)
      → PlaysScript R W source sink (Ok tt) rules ShowsBoard world
      → (last : WorldView)
      × Ran R W source sink
      (IsSimulated {A = Unit {0}} rules (R.ended source.new) (Ok tt) world last)
      × Ran R W source sink (λ _ out. ShowsBoard last out)
  script_ends rules ShowsBoard source sink world p = grind arith

-- ---- what is shown

pub shows_nothing : ShowsNothing
shows_nothing out p = go p.0 p.1.0 p.1.1 p.2
  where
    go : (read rest : List ℕ) → [] ≡ read ++ rest → IsPrefix out (monitor_text read)
        → IsPrefix out (monitor_text [])
    go [] rest e q = q
    go (x ∷ read) rest e q = absurd (cc)
