-- A follower that asks in time on a sound line is never in doubt.
use Rattle.{std.proofs.{Common.{◌≡◌, ◌≢◌, true, false, refl, sym, subst, ℕ, List, [], ◌∷◌, take, rules}, lemmas.Bool.{false≢true}}, dgt_command.specs.Content.{CommandContent}}
use Rattle.dgt_follow.specs.{Calls.{Call, follower_after_call}, Follower.{FollowerView, asking_of, follower_after}, Pace.{mode_command}, declared.asking.{Asking.{Asking}, UpdateMode.{UpdateMode}}}
use Rattle.dgt_link.{specs.{Act.{ActContent}, Faults.{FaultyContent, FaultyStep, sends}, View.{WorldView}, declared.acts.Outcome.{Outcome}}, proofs.Counting.{plain_step}}
use Rattle.dgt_followed.specs.{Followed.{FollowedView, RunsDone, asking_acts, follower_of, reading_acts}, Heard.{HeardStep, TimedHappening, is_noticed, is_setting}, Restated.{ActsAtRest, HasNoDoubt}}
use Rattle.dgt_followed.{specs.Restated.{IsRestatedWorld, IsSoundHappening, SoundRuns, StepAtRest}, proofs.Undoubted.{asks_no_doubt}}

-- a world in which each dump restates the picture, and a pace without doubt
abbrev IsCalm : FollowedView → Type 0
IsCalm followed = IsRestatedWorld followed.world × HasNoDoubt followed.pace

set_is_calm : (before : FollowedView) (call : Call) → is_setting call ≡ true
    → IsSoundHappening (TimedHappening.Sets call) before → HasNoDoubt before.pace
    → HasNoDoubt (follower_after_call (follower_of before) call).pace
set_is_calm before call sets sound calm = search (rules, false≢true)

is_no_break : (act : ActContent) → is_noticed (FaultyContent.Plain act) ≡ false
    → act ≢ ActContent.HostBreak
is_no_break act unseen same = cc

module _
    (keeps : (act : ActContent) (world after : WorldView) (answer : Outcome)
    → act ≢ ActContent.HostBreak
    → IsRestatedWorld world → StepAtRest act world answer after → IsRestatedWorld after)
    (begins : (world after : WorldView) (answer : Outcome) → IsRestatedWorld world
    → world.host.awaited ≡ []
    → FaultyStep FaultyContent.Restart world answer after → IsRestatedWorld after)
    (heard : (world : WorldView) (follower : FollowerView) (now count : ℕ) → IsRestatedWorld world
    → follower.host ≡ world.host → HasNoDoubt follower.pace
    → HasNoDoubt (follower_after follower now (take count world.up.bytes)).pace) where
  plain_restates : (act : ActContent) (world after : WorldView) (answer : Outcome)
      → act ≢ ActContent.HostBreak → ActsAtRest act world → IsRestatedWorld world
      → FaultyStep (FaultyContent.Plain act) world answer after → IsRestatedWorld after
  plain_restates act world after answer other rest is step = search (rules, plain_step)

  sent_restates : (command : CommandContent) (world after : WorldView) → IsRestatedWorld world
      → FaultyStep (sends command) world Outcome.Done after → IsRestatedWorld after
  sent_restates command world after is step =
      plain_restates (ActContent.Host command) world after Outcome.Done (λ e. cc) tt is step

  reading_restates : (mode : UpdateMode) (world after : WorldView) → IsRestatedWorld world
      → RunsDone (reading_acts mode) world after → IsRestatedWorld after
  reading_restates UpdateMode.UpdateBoard world after is same = rw same is
  reading_restates _ world after is (between, step, same) =
      rw same (sent_restates CommandContent.Clock world between is step)

  asked_restates : (mode : UpdateMode) (what : Asking) (world after : WorldView)
      → (what ≡ Asking.Anew → world.host.awaited ≡ []) → IsRestatedWorld world
      → RunsDone (asking_acts mode what) world after → IsRestatedWorld after
  asked_restates mode Asking.Nothing world after idle is same = rw same is
  asked_restates mode Asking.Identify world after idle is (between, step, same) =
      rw same (sent_restates CommandContent.Serial world between is step)
  asked_restates mode Asking.Heartbeat world after idle is (first, step, (second, dump, later)) =
      reading_restates mode second after (search (rules, sent_restates)) later
  asked_restates mode Asking.Anew world after idle is (first, step, (second, sent, later)) =
      reading_restates mode second after (sent_restates (mode_command mode) first second
      (begins world first Outcome.Done is (idle refl) step) sent) later

  step_is_calm : (happening : TimedHappening) (before after : FollowedView) → IsCalm before
      → HeardStep happening before after → IsSoundHappening happening before → IsCalm after
  step_is_calm (TimedHappening.Asks now) before after (is, calm)
      ((runs, pace, since, clock_since), notes) in_time =
      let what = asking_of (follower_of before) now in (
        asked_restates before.pace.mode what before.world after.world in_time.idle is runs,
        rw pace
            (asks_no_doubt what before.pace now calm in_time.early in_time.fresh in_time.answered),
      )
  step_is_calm (TimedHappening.Hears now count) before after (is, calm)
      ((answer, step, keeps_patience, since, clock_since), noted) sound = (
        plain_restates (ActContent.ToHost count) before.world after.world answer (λ e. cc) tt is
            step,
        subst (λ (f : FollowerView). HasNoDoubt f.pace) (sym noted)
            (heard before.world (follower_of before) now count is refl calm),
      )
  step_is_calm (TimedHappening.Sets call) before after (is, calm)
      ((answer, step, keeps_patience, since, clock_since), (sets, set)) sound =
      search (rules, plain_restates, set_is_calm)
  step_is_calm (TimedHappening.Acts (FaultyContent.Plain act)) before after (is, calm)
      ((answer, step, keeps_patience, since, clock_since), (unseen, pace)) rest =
      search (rules, plain_restates, is_no_break)
  step_is_calm (TimedHappening.Acts _) before after calm step none = absurd none

  pub runs_are_calm : (happenings : List TimedHappening) (before after : FollowedView)
      → IsRestatedWorld before.world → HasNoDoubt before.pace → SoundRuns happenings before after
      → IsRestatedWorld after.world × HasNoDoubt after.pace
  runs_are_calm [] before after is calm same = rw same (is, calm)
  runs_are_calm (happening ∷ later) before after is calm (between, step, sound, runs) =
      search (rules, runs_are_calm later between, step_is_calm)
