-- How each act changes what is promised of a host's clock, and what counts for it after many acts.
use Rattle.{std.{proofs.Common.{◌≡◌, refl, inr, List, [], ◌∷◌, Some, None, true, false, arith, rules}, specs.Prelude.{IsTrue}}, dgt_command.specs.{Content.{CommandContent}, Laws.{EachDividesOnce}}}
use Rattle.{dgt_board.specs.{State.{command_mode, follows_clock}, declared.modes.Mode.{Mode}}, dgt_link.specs.Clocks.{ClockIsComing, IsClockFollowing, IsClockPromised, IsClockPromisedWorld}}
use Rattle.dgt_link.specs.{Clocks.{stops_clock}, Faults.{FaultyContent, FaultyStep, begins_anew, is_fault, loses_step, sends}, Healing.{Counted, IsClockHealing, IsInStep}, Promise.{last_mode}}
use Rattle.dgt_link.{specs.{Promise.{mode_after}, View.{IsQuietWorld, WorldView}, declared.acts.Outcome.{Outcome}}, proofs.{Behind.{ActsBehind}, Clocks.{clock_is_asked, promised_clock}}}
use Rattle.dgt_link.proofs.{Clocks.{step_keeps_clock}, Counting.{Holds, host_knows, quiet_behind}, Hopes.{Follows, Hope, garbled, asked_promises, kept, other_following, other_promised}}
use Rattle.dgt_link.proofs.{Hopes.{set_promises}, Settling.{by_settling}}

pub clock_at_quiet : EachDividesOnce → (world : WorldView) → IsClockPromisedWorld world
    → IsQuietWorld world → world.host.clock ≡ Some world.board.state.clock
clock_at_quiet once world is quiet =
    let still = quiet_behind once is.garbage world is.state is.stands quiet in
    rw is.stands.board
    (host_knows is.stands.clock (promised_clock is.state is.stands.sound is.holds still))

-- ---- it is a hope

command_stays : (before : Mode) (command : CommandContent)
    → stops_clock (sends command) ≡ false → IsTrue (follows_clock before)
    → IsTrue (follows_clock (mode_after before (Some command ∷ [])))
command_stays before command going asks = grind arith

pub clock_hope : Hope follows_clock stops_clock ClockIsComing
clock_hope = search (rules, by_settling, command_stays, step_keeps_clock)

-- starting over ends it
anew_ends : (act : FaultyContent) → begins_anew act ≡ true → stops_clock act ≡ false → ⊥
anew_ends act is going = search rules

module _ (behind : ActsBehind) where
  pub clock_owed_promises : (command : CommandContent) (mode : Mode) (world after : WorldView)
      → command_mode command ≡ Some mode → IsTrue (follows_clock mode)
      → world.board.state.reported_clock ≡ None → IsInStep world
      → FaultyStep (sends command) world Outcome.Done after → IsClockPromisedWorld after
  clock_owed_promises command mode world after sets asks none is step =
      set_promises behind follows_clock stops_clock ClockIsComing clock_hope
      (λ x. x.board.reported_clock ≡ None) command
      mode world after (λ x moves e reported. rw e (inr (inr (inr reported)))) sets asks
      (search rules) step

  pub clock_promises : (world after : WorldView) → IsClockFollowing world
      → FaultyStep (sends CommandContent.Clock) world Outcome.Done after
      → IsClockPromisedWorld after
  clock_promises = search (rules, asked_promises, clock_hope, clock_is_asked)

  pub keeps_clock_following : (act : FaultyContent) (world after : WorldView) (answer : Outcome)
      → loses_step act ≡ false → stops_clock act ≡ false → IsClockFollowing world
      → FaultyStep act world answer after → IsClockFollowing after
  keeps_clock_following act world after answer keeps going is step =
      kept behind follows_clock stops_clock ClockIsComing clock_hope loses_step (λ bytes. refl) refl
      (Follows follows_clock) (λ w. Unit {0})
      (other_following behind follows_clock stops_clock ClockIsComing clock_hope)
      (λ bytes old new keeps. garbled (Follows follows_clock) (λ x mode. mode) bytes old new)
      (λ anew old new begins ends. absurd (anew_ends anew begins ends)) act world after answer keeps
      going tt is step

  pub keeps_clock_promised : (act : FaultyContent) (world after : WorldView) (answer : Outcome)
      → is_fault act ≡ false → stops_clock act ≡ false → IsClockPromisedWorld world
      → FaultyStep act world answer after → IsClockPromisedWorld after
  keeps_clock_promised act world after answer none going is step =
      kept behind follows_clock stops_clock ClockIsComing clock_hope is_fault (λ bytes. refl) refl
      IsClockPromised (λ w. Unit {0})
      (other_promised behind follows_clock stops_clock ClockIsComing clock_hope)
      (λ bytes old new fault. cc)
      (λ anew old new begins ends. absurd (anew_ends anew begins ends)) act world after answer none
      going tt is step

-- ---- what counts after many acts

followed_from_any : (before : Mode) (modes : List Mode)
    → IsTrue (follows_clock (last_mode Mode.Idle modes))
    → IsTrue (follows_clock (last_mode before modes))
followed_from_any before [] h = cc
followed_from_any before (mode ∷ modes) h = h

pub clock_healing_promised : (c : Counted) (world : WorldView) → Holds c world → IsClockHealing c
    → IsClockPromisedWorld world
clock_healing_promised c world holds healing = search (rules, followed_from_any)
