-- How each act changes what is promised of a world's picture or its clock.
use Rattle.std.{proofs.{Common.{◌≡◌, refl, sym, ◌∙◌, ℕ, List, [], ◌∷◌, ◌++◌, Bool, Some, true, false, replicate, rules}, lemmas.Bool.{false≢true}}, specs.Prelude.{IsTrue}}
use Rattle.{dgt_command.specs.Content.{CommandContent}, dgt_board.specs.{State.{command_mode}, declared.modes.Mode.{Mode}}, dgt_link.specs.{Act.{ActContent}, Faults.{FaultyBecomes, FaultyContent}}}
use Rattle.dgt_link.specs.{Faults.{FaultyStep, begins_anew, is_break, sends}, Healing.{IsInStep, StandsWith}, Machine.{MachineState, Move, after_moves}, Promise.{IsPromisedBy, act_requests}}
use Rattle.dgt_link.specs.{Promise.{coming_mode, mode_after}, Settling.{IsSettling, SettlesIn}, Stands.{AreMovesOfStep}, Step.{Step}, View.{WorldView}, declared.acts.Outcome.{Outcome}}
use Rattle.dgt_link.proofs.{ActRuns.{run_keeps}, Asking.{mode-step}, Behind.{ActsBehind}, Counting.{forgotten, garbled_stands, plain_step}, Settling.{by_settling}}

-- the mode to come asks for changes
abbrev pub Follows : (Mode → Bool) → MachineState → Type 0
Follows asks x = IsTrue (asks (coming_mode x))

-- the property of the mode to come, what ends that, and what is to come
pub record Hope (asks : Mode → Bool) (ends : FaultyContent → Bool)
    (Comes : MachineState → Type 0) : Type 0 where
  pub command : (before : Mode) (command : CommandContent)
      → ends (sends command) ≡ false → IsTrue (asks before)
      → IsTrue (asks (mode_after before (Some command ∷ [])))
  pub breaks : ends (FaultyContent.Plain ActContent.Break) ≡ true
  pub settling : (act : ActContent) → IsSettling act → ends (FaultyContent.Plain act) ≡ false
  pub comes : (x : MachineState) (act : ActContent) (answer : Outcome) (moves : List Move)
      → is_break act ≡ false
      → AreMovesOfStep act answer moves → Comes x → Comes (after_moves x moves)

pub settling_is_plain : (act : ActContent) → IsSettling act → is_break act ≡ false
settling_is_plain = by_settling (λ act. is_break act ≡ false) refl (λ count. refl) (λ count. refl)

-- an act that isn't a break leads the state after the garbage by its moves
module _ (behind : ActsBehind) where
  pub led : (Q R : MachineState → Type 0) (act : ActContent) (world : WorldView) (answer : Outcome)
      (after : WorldView) → is_break act ≡ false
      → ((x : MachineState) (moves : List Move) → AreMovesOfStep act answer moves → Q x
      → R (after_moves x moves)) → StandsWith Q world → Step act world answer after
      → StandsWith R after
  led Q R act world answer after other leads is step =
      let reached = behind act is.garbage world answer after is.state other is.stands step in
      search rules

-- the bytes under way to the host are garbled, and the state knows nothing
pub garbled : (Q : MachineState → Type 0) → ((x : MachineState) → Q x → Q (forgotten x))
    → (bytes : List ℕ) (world after : WorldView) → StandsWith Q world
    → FaultyBecomes (FaultyContent.GarbleUp bytes) world after → StandsWith Q after
garbled Q keeps bytes world after is same = record {
  garbage = world.host.unread ++ bytes;
  state = forgotten is.state;
  stands = garbled_stands bytes world after is.garbage is.state is.stands same;
  holds = keeps is.state is.holds;
}

-- the host gives up what it awaits
pub given_up : (Q : MachineState → Type 0) (world after : WorldView) (answer : Outcome)
    → StandsWith Q world → FaultyStep FaultyContent.GiveUp world answer after → StandsWith Q after
given_up Q world after answer is step = search rules

module _ (asks : Mode → Bool) (ends : FaultyContent → Bool) (Comes : MachineState → Type 0)
    (hope : Hope asks ends Comes) where
  -- an act that doesn't end it leaves a mode that asks
  mode_stays : (before : Mode) (act : ActContent) (answer : Outcome) → is_break act ≡ false
      → ends (FaultyContent.Plain act) ≡ false → IsTrue (asks before)
      → IsTrue (asks (mode_after before (act_requests answer act)))
  mode_stays before act answer other going asked = search rules

  still_follows : (act : ActContent) (answer : Outcome) (x : MachineState) (moves : List Move)
      → is_break act ≡ false → ends (FaultyContent.Plain act) ≡ false
      → AreMovesOfStep act answer moves → Follows asks x → Follows asks (after_moves x moves)
  still_follows act answer x moves other going are asked =
      rw (mode-step x act answer moves are)
      (mode_stays (coming_mode x) act answer other going asked)

  pub stays_promised : (act : ActContent) (answer : Outcome) (x : MachineState) (moves : List Move)
      → is_break act ≡ false → ends (FaultyContent.Plain act) ≡ false
      → AreMovesOfStep act answer moves → IsPromisedBy Comes asks x
      → IsPromisedBy Comes asks (after_moves x moves)
  stays_promised act answer x moves other going are promised = search (rules, still_follows)

module _ (behind : ActsBehind) (asks : Mode → Bool) (ends : FaultyContent → Bool)
    (Comes : MachineState → Type 0)
    (hope : Hope asks ends Comes) where
  pub other_following : (act : ActContent) (world : WorldView) (answer : Outcome)
      (after : WorldView) → is_break act ≡ false → ends (FaultyContent.Plain act) ≡ false
      → StandsWith (Follows asks) world → Step act world answer after
      → StandsWith (Follows asks) after
  other_following act world answer after other going is step =
      led behind (Follows asks) (Follows asks) act world answer after other
      (λ x moves are asked.
      still_follows asks ends Comes hope act answer x moves other going are asked) is step

  pub other_promised : (act : ActContent) (world : WorldView) (answer : Outcome) (after : WorldView)
      → is_break act ≡ false → ends (FaultyContent.Plain act) ≡ false
      → StandsWith (IsPromisedBy Comes asks) world → Step act world answer after
      → StandsWith (IsPromisedBy Comes asks) after
  other_promised act world answer after other going is step =
      led behind (IsPromisedBy Comes asks) (IsPromisedBy Comes asks) act world answer after other
      (λ x moves are promised.
      stays_promised asks ends Comes hope act answer x moves other going are promised) is step

  mode_is_set : (mode : Mode) (command : CommandContent) (x : MachineState) (moves : List Move)
      → command_mode command ≡ Some mode → IsTrue (asks mode)
      → AreMovesOfStep (ActContent.Host command) Outcome.Done moves
      → Follows asks (after_moves x moves)
  mode_is_set mode command x moves sets asked are =
      rw (mode-step x (ActContent.Host command) Outcome.Done moves are, sets) asked

  pub asked_follows : (command : CommandContent) (mode : Mode) (world after : WorldView)
      → command_mode command ≡ Some mode → IsTrue (asks mode) → IsInStep world
      → FaultyStep (sends command) world Outcome.Done after → StandsWith (Follows asks) after
  asked_follows command mode world after sets asked is step =
      search (rules, led, mode_is_set, plain_step)

  -- a mode that asks is set, and that makes it come
  pub set_promises : (Q : MachineState → Type 0) (command : CommandContent) (mode : Mode)
      (world after : WorldView)
      → ((x : MachineState) (moves : List Move) → AreMovesOfStep (ActContent.Host command)
      Outcome.Done moves → Q x → Comes (after_moves x moves)) → command_mode command ≡ Some mode
      → IsTrue (asks mode) → StandsWith Q world
      → FaultyStep (sends command) world Outcome.Done after
      → StandsWith (IsPromisedBy Comes asks) after
  set_promises Q command mode world after comes sets asked is step =
      search (rules, led, mode_is_set, plain_step)

  -- it is requested, while the mode to come asks for changes
  pub asked_promises : (command : CommandContent) → ends (sends command) ≡ false
      → ((x : MachineState) (moves : List Move)
      → AreMovesOfStep (ActContent.Host command) Outcome.Done moves → Comes (after_moves x moves))
      → (world after : WorldView) → StandsWith (Follows asks) world
      → FaultyStep (sends command) world Outcome.Done after
      → StandsWith (IsPromisedBy Comes asks) after
  asked_promises command going comes world after is step =
      led behind (Follows asks) (IsPromisedBy Comes asks) (ActContent.Host command) world
      Outcome.Done after refl (λ x moves are asked.
      record {
        coming = comes x moves are;
        mode = still_follows asks ends Comes hope (ActContent.Host command) Outcome.Done x moves
            refl going are asked;
      }) is
      (plain_step (ActContent.Host command) world Outcome.Done after step)

  -- ---- every act but those that fail (by this test) and those that end it

  module _ (fails : FaultyContent → Bool)
      (down : (bytes : List ℕ) → fails (FaultyContent.GarbleDown bytes) ≡ true)
      (lost : fails FaultyContent.BoardLost ≡ true) (Q : MachineState → Type 0)
      (Given : WorldView → Type 0)
      (others : (act : ActContent) (world : WorldView) (answer : Outcome) (after : WorldView)
      → is_break act ≡ false
      → ends (FaultyContent.Plain act) ≡ false → StandsWith Q world → Step act world answer after
      → StandsWith Q after)
      (up : (bytes : List ℕ) (world after : WorldView)
      → fails (FaultyContent.GarbleUp bytes) ≡ false
      → StandsWith Q world → FaultyBecomes (FaultyContent.GarbleUp bytes) world after
      → StandsWith Q after)
      (anew : (act : FaultyContent) (world after : WorldView) → begins_anew act ≡ true
      → ends act ≡ false → Given world
      → FaultyStep act world Outcome.Done after → StandsWith Q after) where
    plain_kept : (act : ActContent) (world after : WorldView) (answer : Outcome)
        → ends (FaultyContent.Plain act) ≡ false → Given world → StandsWith Q world
        → FaultyStep (FaultyContent.Plain act) world answer after → StandsWith Q after
    plain_kept ActContent.Break world after answer going given is step =
        absurd (false≢true (sym going ∙ hope.breaks))
    plain_kept ActContent.HostBreak world after Outcome.Done going given is step =
        anew (FaultyContent.Plain ActContent.HostBreak) world after refl going given step
    plain_kept ActContent.HostBreak world after _ going given is step = cc
    plain_kept act world after answer going given is step =
        others act world answer after refl going is (plain_step act world answer after step)

    pub kept : (act : FaultyContent) (world after : WorldView) (answer : Outcome)
        → fails act ≡ false → ends act ≡ false → Given world → StandsWith Q world
        → FaultyStep act world answer after → StandsWith Q after
    kept (FaultyContent.Plain act) world after answer none going given is step =
        plain_kept act world after answer going given is step
    kept (FaultyContent.GarbleUp bytes) world after answer none going given is step = search rules
    kept (FaultyContent.GarbleDown bytes) world after answer none going given is step =
        absurd (false≢true (sym none ∙ down bytes))
    kept FaultyContent.BoardLost world after answer none going given is step =
        absurd (false≢true (sym none ∙ lost))
    kept FaultyContent.GiveUp world after answer none going given is step =
        given_up Q world after answer is step
    kept FaultyContent.Restart world after Outcome.Done none going given is step =
        anew FaultyContent.Restart world after refl going given step
    kept FaultyContent.Restart world after _ none going given is step = rw step.leaves is

  -- ---- acts that settle

  pub settled_promised : (count : ℕ) (old new : WorldView) → SettlesIn count old new
      → StandsWith (IsPromisedBy Comes asks) old → StandsWith (IsPromisedBy Comes asks) new
  settled_promised count old new settled is =
      run_keeps Step IsSettling (StandsWith (IsPromisedBy Comes asks))
      (search (rules, other_promised, settling_is_plain))
      settled.acts old new (replicate count Outcome.Done) settled.settling is settled.run
