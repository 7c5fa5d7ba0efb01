-- A doubt is asked again soon, but not too soon.
use Rattle.{std.proofs.Common.{◌≡◌, ◌≤◌, Bool, true, false, ◌||◌, nat_le, ℕ, arith}, dgt_follow.specs.{Follower.{DoubtIsAskedAgain, IsTimed, RequestsAreApart, TimedStaysTimed}, Pace.{PaceView}}}
use Rattle.dgt_follow.{specs.{Pace.{asks_at_once, due_time, is_before, time_after}, declared.pace.TheConstants.{RETRY}}, proofs.WhenDue.{writes}}

-- ---- a doubt has a cause, and its timeout is between a second and a period

pub stays_timed : TimedStaysTimed
stays_timed = (
  λ period patience mode confirm identify. grind arith,
  λ pace now timed. (λ awaited picture event. grind arith, λ what. grind arith, grind arith),
)

-- ---- soon

pub is_asked_again : DoubtIsAskedAgain
is_asked_again pace (cause, least, most) doubtful = grind arith

-- ---- but not too soon

no_sooner : (pace : PaceView) → IsTimed pace → asks_at_once pace ≡ false
    → time_after pace.asked RETRY ≤ due_time pace
no_sooner pace timed calm = grind arith

only_due : (due now : ℕ) (back : Bool) → back ≡ false → (nat_le due now || back) ≡ true → due ≤ now
only_due due now back forth e = grind arith

pub are_apart : RequestsAreApart
are_apart pace full now timed calm forth asks = omega (
  arith,
  no_sooner pace timed calm,
  only_due (due_time pace) now (is_before now pace.asked) forth
      ((writes pace full now).0 asks),
)
