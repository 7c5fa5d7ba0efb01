-- How each act changes what is promised of a picture: in step, following, and promised to heal.
use Rattle.std.{proofs.Common.{◌≡◌, refl, ℕ, List, [], ◌∷◌, Some, true, false, arith, map, replicate, rules}, specs.{List.{AllByRecursion}, Prelude.{IsTrue}}}
use Rattle.{dgt_command.specs.Content.{CommandContent}, dgt_board.specs.{State.{updates}, declared.modes.Mode.{Mode}}, dgt_link.specs.{Act.{ActContent}, Faults.{AreCalm, FaultyContent, FaultyRuns}}}
use Rattle.dgt_link.specs.{Faults.{FaultyStep, begins_anew, is_break, is_fault, loses_step, sends, stops}, Healing.{IsFollowing, IsInStep, IsInTurnWorld, IsPromisedWorld, IsSane}}
use Rattle.dgt_link.specs.{Machine.{MachineState, Move, after_moves, commands_anew}, Promise.{IsPromised, PictureIsComing, mode_after}, Readers.{Grammars}, Settling.{IsSettling, SettlesIn}}
use Rattle.dgt_link.{specs.{Stands.{AreMovesOfRun, AreMovesOfStep}, Step.{Step}, View.{WorldView}, declared.acts.Outcome.{Outcome}}, proofs.{ActRuns.{run_keeps}, Asking.{dump_is_coming}}}
use Rattle.dgt_link.proofs.{Asking.{step_keeps_coming}, Behind.{ActsBehind}, Clocks.{no_break}, Counting.{Follows as Counted, break_follows, follows_in_step, follows_with}}
use Rattle.dgt_link.proofs.{Counting.{host_break_follows, plain_step, restart_follows}, Hopes.{Follows, Hope, asked_promises, garbled, given_up, kept, led, other_following, other_promised}}
use Rattle.dgt_link.proofs.{Hopes.{settling_is_plain, stays_promised}, Promises.{anew_is_promised, coming_promise}, Settling.{by_settling}, Standing.{moves-append}}

-- ---- it is a hope

command_stays : (before : Mode) (command : CommandContent)
    → stops (sends command) ≡ false → IsTrue (updates before)
    → IsTrue (updates (mode_after before (Some command ∷ [])))
command_stays before command going asks = grind arith

stays_coming : (x : MachineState) (act : ActContent) (answer : Outcome) (moves : List Move)
    → is_break act ≡ false → AreMovesOfStep act answer moves → PictureIsComing x
    → PictureIsComing (after_moves x moves)
stays_coming x act answer moves other are coming =
    step_keeps_coming x act answer moves (no_break act other).0 are coming

pub picture_hope : Hope updates stops PictureIsComing
picture_hope = search (rules, by_settling, command_stays, stays_coming)

promised_follows : (world : WorldView) → IsPromisedWorld world → IsFollowing world
promised_follows world is =
    record { garbage = is.garbage; state = is.state; stands = is.stands; holds = is.holds.mode }

module _ (behind : ActsBehind) where
  pub dump_promises : (world after : WorldView) → IsFollowing world
      → FaultyStep (sends CommandContent.Dump) world Outcome.Done after → IsPromisedWorld after
  dump_promises = search (rules, asked_promises, picture_hope, dump_is_coming)

  module _ (laws : Grammars) where
    -- ---- a host that starts over

    anew_promised : (in_turn : _) (world : WorldView) → Counted in_turn commands_anew world
        → IsPromisedWorld world
    anew_promised in_turn world f = follows_with IsPromised f
        (coming_promise commands_anew f.state f.comes
        (record { dump = (1, omega arith, refl); mode = refl }))

    pub anew_heals : (act : FaultyContent) (world after : WorldView) → begins_anew act ≡ true
        → IsSane world → FaultyStep act world Outcome.Done after → IsPromisedWorld after
    anew_heals FaultyContent.Restart world after is sane step =
        anew_promised true after (restart_follows laws world after sane step.leaves)
    anew_heals (FaultyContent.Plain ActContent.HostBreak) world after is sane step =
        anew_promised true after (host_break_follows laws world after sane step.leaves)
    anew_heals (FaultyContent.Plain act) world after is sane step = cc
    anew_heals _ world after is sane step = cc

    -- ---- every act

    plain_in_step : (act : ActContent) (world : WorldView) (answer : Outcome) (after : WorldView)
        → IsSane world → IsInStep world → FaultyStep (FaultyContent.Plain act) world answer after
        → IsInStep after
    plain_in_step ActContent.Break world Outcome.Done after sane is step =
        follows_in_step true [] after (break_follows laws world after sane step.leaves)
    plain_in_step ActContent.Break world _ after sane is step = cc
    plain_in_step ActContent.HostBreak world Outcome.Done after sane is step =
        follows_in_step true commands_anew after
        (host_break_follows laws world after sane step.leaves)
    plain_in_step ActContent.HostBreak world _ after sane is step = cc
    plain_in_step act world answer after sane is step = search (rules, led, plain_step)

    pub keeps_in_step : (act : FaultyContent) (world after : WorldView) (answer : Outcome)
        → loses_step act ≡ false → IsSane world → IsInStep world → FaultyStep act world answer after
        → IsInStep after
    keeps_in_step (FaultyContent.Plain act) world after answer keeps sane is step =
        plain_in_step act world answer after sane is step
    keeps_in_step (FaultyContent.GarbleUp bytes) world after Outcome.Done keeps sane is step =
        garbled (λ x. Unit {0}) (λ x any. tt) bytes world after is step.leaves
    keeps_in_step (FaultyContent.GarbleUp bytes) world after _ keeps sane is step =
        rw step.leaves is
    keeps_in_step (FaultyContent.GarbleDown bytes) world after answer keeps sane is step = cc
    keeps_in_step FaultyContent.BoardLost world after answer keeps sane is step = cc
    keeps_in_step FaultyContent.GiveUp world after answer keeps sane is step =
        given_up (λ x. Unit {0}) world after answer is step
    keeps_in_step FaultyContent.Restart world after Outcome.Done keeps sane is step =
        follows_in_step true commands_anew after (restart_follows laws world after sane step.leaves)
    keeps_in_step FaultyContent.Restart world after _ keeps sane is step = rw step.leaves is

    pub keeps_following : (act : FaultyContent) (world after : WorldView) (answer : Outcome)
        → loses_step act ≡ false → stops act ≡ false → IsSane world → IsFollowing world
        → FaultyStep act world answer after → IsFollowing after
    keeps_following =
        kept behind updates stops PictureIsComing picture_hope loses_step (λ bytes. refl) refl
        (Follows updates) IsSane (other_following behind updates stops PictureIsComing picture_hope)
        (λ bytes old new keeps. garbled (Follows updates) (λ x mode. mode) bytes old new)
        (search (rules, promised_follows, anew_heals))

    pub keeps_promised : (act : FaultyContent) (world after : WorldView) (answer : Outcome)
        → is_fault act ≡ false → stops act ≡ false → IsSane world → IsPromisedWorld world
        → FaultyStep act world answer after → IsPromisedWorld after
    keeps_promised =
        kept behind updates stops PictureIsComing picture_hope is_fault (λ bytes. refl) refl
        IsPromised IsSane (other_promised behind updates stops PictureIsComing picture_hope)
        (λ bytes old new fault. cc)
        (λ act old new begins ends sane step. anew_heals act old new begins sane step)

    -- ---- the awaited replies

    turn_of : (asked : List CommandContent) (world : WorldView) → Counted true asked world
        → IsInTurnWorld world
    turn_of asked world f =
        record { garbage = f.garbage; state = f.state; stands = f.stands; holds = f.awaits refl }

    pub anew_in_turn : (act : FaultyContent) (world after : WorldView) → begins_anew act ≡ true
        → IsSane world → FaultyStep act world Outcome.Done after → IsInTurnWorld after
    anew_in_turn FaultyContent.Restart world after is sane step =
        turn_of commands_anew after (restart_follows laws world after sane step.leaves)
    anew_in_turn (FaultyContent.Plain ActContent.HostBreak) world after is sane step =
        turn_of commands_anew after (host_break_follows laws world after sane step.leaves)
    anew_in_turn (FaultyContent.Plain act) world after is sane step = cc
    anew_in_turn _ world after is sane step = cc

    pub other_in_turn : (act : ActContent) (world : WorldView) (answer : Outcome)
        (after : WorldView) → is_break act ≡ false → IsInTurnWorld world
        → Step act world answer after → IsInTurnWorld after
    other_in_turn act world answer after other is step =
        let reached = behind act is.garbage world answer after is.state other is.stands step in
        record {
          garbage = reached.0;
          state = after_moves is.state reached.1;
          stands = reached.3;
          holds = reached.4 is.holds;
        }

    plain_in_turn : (act : ActContent) (world : WorldView) (answer : Outcome) (after : WorldView)
        → IsSane world → IsInTurnWorld world
        → FaultyStep (FaultyContent.Plain act) world answer after → IsInTurnWorld after
    plain_in_turn ActContent.Break world Outcome.Done after sane is step =
        turn_of [] after (break_follows laws world after sane step.leaves)
    plain_in_turn ActContent.Break world _ after sane is step = cc
    plain_in_turn ActContent.HostBreak world Outcome.Done after sane is step =
        anew_in_turn (FaultyContent.Plain ActContent.HostBreak) world after refl sane step
    plain_in_turn ActContent.HostBreak world _ after sane is step = cc
    plain_in_turn act world answer after sane is step =
        other_in_turn act world answer after refl is (plain_step act world answer after step)

    -- nothing is awaited any more
    pub given_up_in_turn : (world after : WorldView) (answer : Outcome) → IsInStep world
        → FaultyStep FaultyContent.GiveUp world answer after → IsInTurnWorld after
    given_up_in_turn world after answer is step = search rules

    pub keeps_in_turn : (act : FaultyContent) (world after : WorldView) (answer : Outcome)
        → is_fault act ≡ false → IsSane world → IsInTurnWorld world
        → FaultyStep act world answer after → IsInTurnWorld after
    keeps_in_turn (FaultyContent.Plain act) world after answer none sane is step =
        plain_in_turn act world answer after sane is step
    keeps_in_turn FaultyContent.GiveUp world after answer none sane is step =
        search (rules, given_up_in_turn)
    keeps_in_turn FaultyContent.Restart world after Outcome.Done none sane is step =
        anew_in_turn FaultyContent.Restart world after refl sane step
    keeps_in_turn FaultyContent.Restart world after _ none sane is step = rw step.leaves is
    keeps_in_turn _ world after answer none sane is step = cc

    pub settled_in_turn : (count : ℕ) (old new : WorldView) → SettlesIn count old new
        → IsInTurnWorld old → IsInTurnWorld new
    settled_in_turn count old new settled is = run_keeps Step IsSettling IsInTurnWorld
        (search (rules, other_in_turn, settling_is_plain))
        settled.acts old new (replicate count Outcome.Done) settled.settling is settled.run

-- ---- a promise of a world without faults

calm_step : (act : ActContent) (answer : Outcome) (x : MachineState) (moves : List Move)
    → stops (FaultyContent.Plain act) ≡ false → AreMovesOfStep act answer moves → IsPromised x
    → IsPromised (after_moves x moves)
calm_step ActContent.Break answer x moves calm are is = cc
calm_step ActContent.HostBreak Outcome.Done x moves calm (noise, is_noise, e) is =
    rw e (anew_is_promised x noise is_noise)
calm_step ActContent.HostBreak _ x moves calm e is = rw e is
calm_step act answer x moves calm are is =
    stays_promised updates stops PictureIsComing picture_hope act answer x moves refl calm are is

pub calm_promised : (acts : List ActContent) (answers : List Outcome) (x : MachineState)
    (moves : List Move) → AreCalm (map FaultyContent.Plain acts) → AreMovesOfRun acts answers moves
    → IsPromised x → IsPromised (after_moves x moves)
calm_promised [] [] x moves calm none is = rw none is
calm_promised (act ∷ acts) (answer ∷ answers) x moves calm (first, later, one, others, both) is =
    rw (both, moves-append x first later)
    (calm_promised acts answers (after_moves x first) later calm.1 others
    (calm_step act answer x first calm.0.1 one is))
calm_promised _ _ x moves calm none is = absurd none

-- ---- acts in order

module _
    (sane : (acts : List FaultyContent) (world after : WorldView) (answers : List Outcome)
    → IsSane world → FaultyRuns acts world answers after → IsSane after) where
  pub sane_after : (act : FaultyContent) (world after : WorldView) (answer : Outcome) → IsSane world
      → FaultyStep act world answer after → IsSane after
  sane_after act world after answer is step =
      sane (act ∷ []) world after (answer ∷ []) is (after, step, refl)

  -- a property of a sane world that each of these acts keeps is kept by all of them
  pub sane_keeps : (P : FaultyContent → Type 0) (Q : WorldView → Type 0)
      → ((act : FaultyContent) (world after : WorldView) (answer : Outcome) → P act → IsSane world
      → Q world → FaultyStep act world answer after → Q after)
      → (acts : List FaultyContent) (world after : WorldView) (answers : List Outcome)
      → AllByRecursion P acts → IsSane world → Q world → FaultyRuns acts world answers after
      → Q after
  sane_keeps P Q kept acts world after answers all is q runs =
      (run_keeps FaultyStep P (λ w. IsSane w × Q w) (search (rules, sane_after)) acts world after
      answers all (is, q) runs).1
