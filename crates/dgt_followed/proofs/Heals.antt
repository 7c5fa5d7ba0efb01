-- After the last fault, one request more than the patience heals the picture.
use Rattle.{std.proofs.Common.{rules, ◌≡◌, inl, true, false, refl, ℕ, List, [], ◌∷◌}, dgt_follow.specs.{Follower.{asking_of}, Pace.{mode_command, pace_after_asking, pace_at}}}
use Rattle.{dgt_follow.specs.declared.asking.{Asking.{Asking}, UpdateMode.{UpdateMode}}, dgt_link.specs.Faults.{AreCalm, FaultyContent, FaultyRuns, FaultyStep, begins_anew, is_fault, sends, stops}}
use Rattle.{dgt_link.specs.{Healing.{IsPromisedWorld, IsSane}, View.{WorldView}, declared.acts.Outcome.{Outcome}}, dgt_followed.specs.Followed.{AfterAskings, FollowedStep, FollowedView, Happening}}
use Rattle.dgt_followed.{specs.Followed.{RunsDone, asking_acts, count_after_asking, follower_of, reading_acts, unsettles}, proofs.Askings.{Hope, Hopes, heartbeat_hope, neither, other_hope}}
use Rattle.dgt_followed.proofs.Askings.{promised_by_askings}

abbrev count : FollowedView → ℕ
count followed = followed.since

-- after the mode's command and the clock's request the board keeps reporting its changes
mode_is_calm : (mode : UpdateMode) → AreCalm (sends (mode_command mode) ∷ reading_acts mode)
mode_is_calm mode = search rules

heartbeat_is_calm : (mode : UpdateMode) → AreCalm (asking_acts mode Asking.Heartbeat)
heartbeat_is_calm mode = search (rules, mode_is_calm)

module _
    (stay_sane : (acts : List FaultyContent) (world after : WorldView) (answers : List Outcome)
    → IsSane world → FaultyRuns acts world answers after → IsSane after)
    (anew : (act : FaultyContent) (world after : WorldView) → begins_anew act ≡ true → IsSane world
    → FaultyStep act world Outcome.Done after → IsPromisedWorld after)
    (kept : (act : FaultyContent) (world after : WorldView) (answer : Outcome)
    → is_fault act ≡ false
    → stops act ≡ false → IsSane world → IsPromisedWorld world → FaultyStep act world answer after
    → IsPromisedWorld after) where
  sane_after : (act : FaultyContent) (world after : WorldView) (answer : Outcome) → IsSane world
      → FaultyStep act world answer after → IsSane after
  sane_after act world after answer sane step =
      stay_sane (act ∷ []) world after (answer ∷ []) sane (after, step, refl)

  kept_by_all : (acts : List FaultyContent) (world after : WorldView) → AreCalm acts → IsSane world
      → IsPromisedWorld world → RunsDone acts world after → IsPromisedWorld after
  kept_by_all [] world after calm sane promised same = rw same promised
  kept_by_all (act ∷ acts) world after calm sane promised (between, step, later) =
      search (rules, kept_by_all acts between, sane_after)

  ask_hope : (what : Asking) (now : ℕ) (before after : FollowedView)
      → asking_of (follower_of before) now ≡ what
      → RunsDone (asking_acts before.pace.mode what) before.world after.world
      → after.pace ≡ pace_after_asking what (pace_at before.pace now) now
      → after.since ≡ count_after_asking what before.since
      → Hopes IsPromisedWorld count before → Hope IsPromisedWorld count after
  ask_hope Asking.Nothing now before after e same pace since hopes =
      rw (same, pace, since) hopes.hope
  ask_hope Asking.Identify now before after e runs pace since hopes =
      other_hope IsPromisedWorld count false before after (rw pace refl) (rw pace refl) since
      (λ e promised.
      kept_by_all (asking_acts before.pace.mode Asking.Identify) before.world after.world
      ((refl, refl), tt) hopes.sane promised runs) hopes
  ask_hope Asking.Heartbeat now before after e runs pace since hopes =
      let mode = before.pace.mode in
      heartbeat_hope IsPromisedWorld count now before after e pace since
      (λ promised. kept_by_all (asking_acts mode Asking.Heartbeat) before.world after.world
      (heartbeat_is_calm mode) hopes.sane promised runs) hopes
  ask_hope Asking.Anew now before after e (first, step, later) pace since hopes =
      let mode = before.pace.mode in
      inl
      (kept_by_all (sends (mode_command mode) ∷ reading_acts mode) first after.world
      (mode_is_calm mode)
      (sane_after FaultyContent.Restart before.world first Outcome.Done hopes.sane step)
      (anew FaultyContent.Restart before.world first refl hopes.sane step) later)

  hope_after : (happening : Happening) (before after : FollowedView)
      → FollowedStep happening before after → Hopes IsPromisedWorld count before
      → Hope IsPromisedWorld count after
  hope_after (Happening.Ask now) before after (runs, pace, since, clock_since) hopes =
      ask_hope _ now before after refl runs pace since hopes
  hope_after (Happening.Other act) before after (answer, step, keeps, since, clock_since) hopes =
      other_hope IsPromisedWorld count (unsettles act) before after keeps.patience keeps.left since
      (λ e promised. let both = neither (is_fault act) (stops act) e in
      kept act before.world after.world answer both.0 both.1 hopes.sane promised step) hopes

  pub askings_promise : AfterAskings count IsPromisedWorld
  askings_promise = promised_by_askings IsPromisedWorld count stay_sane hope_after
