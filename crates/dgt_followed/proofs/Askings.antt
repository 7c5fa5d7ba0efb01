-- The picture or the clock is promised to heal once there were enough requests since it was
-- unsettled: one more than the patience.
use Rattle.std.proofs.{Common.{rules, ◌≡◌, ◌⊎◌, inl, inr, ◌+◌, ◌-◌, ◌<◌, ◌≤◌, Bool, false, ◌||◌, if◌then◌else◌, Some, refl, ℕ, List, [], ◌∷◌, arith}, lemmas.Grind.{common_steps}}
use Rattle.{dgt_values.specs.declared.kinds.Kind.{Kind}, dgt_follow.specs.{Follower.{asking_of}, Pace.{PaceView, pace_after_asking, pace_at}, declared.asking.Asking.{Asking}}}
use Rattle.{dgt_host.specs.Host.{awaits_too_many}, dgt_link.specs.{Faults.{FaultyContent, FaultyRuns}, Healing.{IsSane}, View.{WorldView}, declared.acts.Outcome.{Outcome}}}
use Rattle.dgt_followed.{specs.Followed.{AfterAskings, FollowedRuns, FollowedStep, FollowedView, Happening, all_done, asking_acts, follower_of}, proofs.Acts.{heartbeat_is_left}}

pub neither : (a b : Bool) → (a || b) ≡ false → (a ≡ false) × (b ≡ false)
neither a b e = search rules

-- one request more, with one heartbeat less left
one_more : (since left patience : ℕ) → 0 < left → since + left ≤ patience
    → (since + 1) + (left - 1) ≤ patience
one_more since left patience some few = omega (arith, some, few)

left_after : (what : Asking) (now : ℕ) (before after : PaceView)
    → after ≡ pace_after_asking what (pace_at before now) now
    → before.left ≤ before.patience → after.left ≤ after.patience
left_after what now before after e few = grind (arith, common_steps)

-- It is promised to heal, or the follower has not yet sent enough requests.
abbrev pub Hope : (WorldView → Type 0) → (FollowedView → ℕ) → FollowedView → Type 0
Hope Promised count followed =
    Promised followed.world ⊎ (count followed + followed.pace.left ≤ followed.pace.patience)

-- facts that always hold
pub record Hopes (Promised : WorldView → Type 0) (count : FollowedView → ℕ)
    (followed : FollowedView) : Type 0 where
  pub sane : IsSane followed.world
  pub left : followed.pace.left ≤ followed.pace.patience
  pub hope : Hope Promised count followed

module _ (Promised : WorldView → Type 0) (count : FollowedView → ℕ) where
  -- any act but a request
  pub other_hope : (ends : Bool) (before after : FollowedView)
      → after.pace.patience ≡ before.pace.patience → after.pace.left ≡ before.pace.left
      → count after ≡ (if ends then 0 else count before)
      → (ends ≡ false → Promised before.world → Promised after.world) → Hopes Promised count before
      → Hope Promised count after
  other_hope ends before after patience left since keeps hopes = grind (arith, common_steps)

  pub heartbeat_hope : (now : ℕ) (before after : FollowedView)
      → asking_of (follower_of before) now ≡ Asking.Heartbeat
      → after.pace ≡ pace_after_asking Asking.Heartbeat (pace_at before.pace now) now
      → count after ≡ count before + 1 → (Promised before.world → Promised after.world)
      → Hopes Promised count before → Hope Promised count after
  heartbeat_hope now before after e pace since keeps hopes =
      let full = awaits_too_many before.world.host (Some Kind.Dump) in
      let some = heartbeat_is_left (pace_at before.pace now) full now e in
      elim hopes.hope [
        | inl promised ↦ inl (keeps promised)
        | inr few ↦ inr (rw since (rw pace (one_more _ _ _ some few)))
      ]

  -- ---- all happenings

  module _
      (stay_sane : (acts : List FaultyContent) (world after : WorldView) (answers : List Outcome)
      → IsSane world → FaultyRuns acts world answers after → IsSane after)
      (hope_after : (happening : Happening) (before after : FollowedView)
      → FollowedStep happening before after
      → Hopes Promised count before → Hope Promised count after) where
    happening_keeps : (happening : Happening) (before after : FollowedView)
        → FollowedStep happening before after → Hopes Promised count before
        → Hopes Promised count after
    happening_keeps (Happening.Ask now) before after (runs, pace, since, clock_since) hopes =
        let what = asking_of (follower_of before) now in
        let acts = asking_acts before.pace.mode what in
        record {
          sane = stay_sane acts before.world after.world (all_done acts) hopes.sane runs;
          left = left_after what now before.pace after.pace pace hopes.left;
          hope = hope_after (Happening.Ask now) before after (runs, pace, since, clock_since) hopes;
        }
    happening_keeps (Happening.Other act) before after (answer, step, keeps, since, clock_since)
        hopes = record {
          sane = stay_sane (act ∷ []) before.world after.world (answer ∷ []) hopes.sane
              (after.world, step, refl);
          left = omega (arith, keeps.patience, keeps.left, hopes.left);
          hope = hope_after (Happening.Other act) before after
              (answer, step, keeps, since, clock_since) hopes;
        }

    happenings_keep : (happenings : List Happening) (before after : FollowedView)
        → FollowedRuns happenings before after → Hopes Promised count before
        → Hopes Promised count after
    happenings_keep [] before after same hopes = rw same hopes
    happenings_keep (happening ∷ later) before after (between, step, runs) hopes =
        happenings_keep later between after runs
        (happening_keeps happening before between step hopes)

    pub promised_by_askings : AfterAskings count Promised
    promised_by_askings happenings before after sane left none runs often =
        let begun : Hopes Promised count before =
        record { sane = sane; left = left; hope = inr (omega (arith, left, none)) } in
        let ended = happenings_keep happenings before after runs begun in
        elim ended.hope [
          | inl promised ↦ promised
          | inr few ↦ absurd (omega (arith, few, often))
        ]
