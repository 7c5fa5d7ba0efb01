-- After the last fault, one request more than the patience heals the clock, in the modes that
-- report it.
use Rattle.{std.{proofs.Common.{rules, ◌≡◌, inl, inr, ◌+◌, false, Some, refl, ℕ, List, [], ◌∷◌, arith}, specs.Prelude.{IsTrue}}, dgt_command.specs.Content.{CommandContent}}
use Rattle.{dgt_board.specs.{State.{command_mode, follows_clock}, declared.modes.Mode.{Mode}}, dgt_follow.specs.{Follower.{asking_of}, Pace.{pace_after_asking, pace_at}}}
use Rattle.{dgt_follow.specs.declared.asking.{Asking.{Asking}, UpdateMode.{UpdateMode}}, dgt_link.specs.Clocks.{AreClockCalm, IsClockFollowing, IsClockPromisedWorld, stops_clock}}
use Rattle.dgt_link.specs.{Faults.{FaultyContent, FaultyRuns, FaultyStep, is_fault, sends}, Healing.{IsInStep, IsInStepBy, IsSane}, View.{WorldView}, declared.acts.Outcome.{Outcome}}
use Rattle.dgt_followed.{specs.Followed.{AfterAskings, FollowedStep, FollowedView, Happening, RunsDone, asking_acts, clock_count_after_asking, follower_of, unsettles_clock}, proofs.Askings.{Hope}}
use Rattle.dgt_followed.proofs.Askings.{Hopes, heartbeat_hope, neither, other_hope, promised_by_askings}

abbrev count : FollowedView → ℕ
count followed = followed.clock_since

-- the acts of a heartbeat and of a new start that request the clock, by their mode's command
abbrev heartbeat_acts : CommandContent → List FaultyContent
heartbeat_acts command = sends command ∷ sends CommandContent.Dump ∷ sends CommandContent.Clock ∷ []

abbrev anew_acts : CommandContent → List FaultyContent
anew_acts command = FaultyContent.Restart ∷ sends command ∷ sends CommandContent.Clock ∷ []

module _
    (stay_sane : (acts : List FaultyContent) (world after : WorldView) (answers : List Outcome)
    → IsSane world → FaultyRuns acts world answers after → IsSane after)
    (in_step : (acts : List FaultyContent) (world after : WorldView) (answers : List Outcome)
    → IsSane world → FaultyRuns acts world answers after → IsInStepBy acts answers → IsInStep after)
    (asked : (command : CommandContent) (mode : Mode) (world after : WorldView)
    → command_mode command ≡ Some mode → IsTrue (follows_clock mode) → IsInStep world
    → FaultyStep (sends command) world Outcome.Done after → IsClockFollowing after)
    (reading : (world after : WorldView) → IsClockFollowing world
    → FaultyStep (sends CommandContent.Clock) world Outcome.Done after → IsClockPromisedWorld after)
    (kept : (act : FaultyContent) (world after : WorldView) (answer : Outcome)
    → is_fault act ≡ false
    → stops_clock act ≡ false → IsClockPromisedWorld world → FaultyStep act world answer after
    → IsClockPromisedWorld after) where
  kept_by_all : (acts : List FaultyContent) (world after : WorldView) → AreClockCalm acts
      → IsClockPromisedWorld world → RunsDone acts world after → IsClockPromisedWorld after
  kept_by_all [] world after calm promised same = rw same promised
  kept_by_all (act ∷ acts) world after calm promised (between, step, later) =
      search (rules, kept_by_all acts between)

  heartbeat_keeps : (command : CommandContent) → stops_clock (sends command) ≡ false → (now : ℕ)
      → (before after : FollowedView) → asking_of (follower_of before) now ≡ Asking.Heartbeat
      → RunsDone (heartbeat_acts command) before.world after.world
      → after.pace ≡ pace_after_asking Asking.Heartbeat (pace_at before.pace now) now
      → after.clock_since ≡ before.clock_since + 1 → Hopes IsClockPromisedWorld count before
      → Hope IsClockPromisedWorld count after
  heartbeat_keeps command goes now before after e runs pace since hopes =
      heartbeat_hope IsClockPromisedWorld count now before after e pace since
      (λ promised. kept_by_all (heartbeat_acts command) before.world after.world
      ((refl, goes), ((refl, refl), ((refl, refl), tt))) promised runs) hopes

  -- the board is in step after a restart, follows the clock after the mode, and then reads it
  anew_promises : (command : CommandContent) (mode : Mode) → command_mode command ≡ Some mode
      → IsTrue (follows_clock mode) → (world after : WorldView) → IsSane world
      → RunsDone (anew_acts command) world after → IsClockPromisedWorld after
  anew_promises command mode is follows world after sane
      (first, step, (second, reported, (third, read, same))) =
      let stepped = in_step (FaultyContent.Restart ∷ []) world first (Outcome.Done ∷ []) sane
      (first, step, refl) refl
      in rw same
      (reading second third (asked command mode first second is follows stepped reported) read)

  ask_hope : (mode : UpdateMode) (what : Asking) (now : ℕ) (before after : FollowedView)
      → asking_of (follower_of before) now ≡ what
      → RunsDone (asking_acts mode what) before.world after.world
      → after.pace ≡ pace_after_asking what (pace_at before.pace now) now
      → after.clock_since ≡ clock_count_after_asking mode what before.clock_since
      → Hopes IsClockPromisedWorld count before → Hope IsClockPromisedWorld count after
  ask_hope mode Asking.Nothing now before after e same pace since hopes =
      rw (same, pace, since) hopes.hope
  ask_hope mode Asking.Identify now before after e runs pace since hopes =
      other_hope IsClockPromisedWorld count false before after (rw pace refl) (rw pace refl) since
      (λ e promised. kept_by_all (asking_acts mode Asking.Identify) before.world after.world
      ((refl, refl), tt) promised runs) hopes
  ask_hope UpdateMode.UpdateBoard Asking.Heartbeat now before after e runs pace since hopes =
      inr (rw (pace, since) (omega (arith, hopes.left)))
  ask_hope UpdateMode.UpdateBoard Asking.Anew now before after e runs pace since hopes =
      inr (rw (pace, since) (omega arith))
  ask_hope UpdateMode.Update Asking.Heartbeat now before after e runs pace since hopes =
      heartbeat_keeps CommandContent.Update refl now before after e runs pace since hopes
  ask_hope UpdateMode.Update Asking.Anew now before after e runs pace since hopes =
      inl (anew_promises CommandContent.Update Mode.Update refl refl _ _ hopes.sane runs)
  ask_hope UpdateMode.UpdateNice Asking.Heartbeat now before after e runs pace since hopes =
      heartbeat_keeps CommandContent.UpdateNice refl now before after e runs pace since hopes
  ask_hope UpdateMode.UpdateNice Asking.Anew now before after e runs pace since hopes =
      inl (anew_promises CommandContent.UpdateNice Mode.UpdateNice refl refl _ _ hopes.sane runs)

  hope_after : (happening : Happening) (before after : FollowedView)
      → FollowedStep happening before after → Hopes IsClockPromisedWorld count before
      → Hope IsClockPromisedWorld count after
  hope_after (Happening.Ask now) before after (runs, pace, since, clock_since) hopes =
      ask_hope before.pace.mode _ now before after refl runs pace clock_since hopes
  hope_after (Happening.Other act) before after (answer, step, keeps, since, clock_since) hopes =
      other_hope IsClockPromisedWorld count (unsettles_clock act) before after keeps.patience
      keeps.left clock_since (λ e promised. let both = neither (is_fault act) (stops_clock act) e in
      kept act before.world after.world answer both.0 both.1 promised step) hopes

  pub askings_promise_clock : AfterAskings count IsClockPromisedWorld
  askings_promise_clock = promised_by_askings IsClockPromisedWorld count stay_sane hope_after
