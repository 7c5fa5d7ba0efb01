-- An overdue answer is a doubt, and is soon requested again. A confirmed picture is not in doubt.
use Rattle.{std.proofs.Common.{◌≡◌, ◌≤◌, Bool, false, if◌then◌else◌, min, ℕ, arith, rules}, dgt_follow.specs.Follower.{DisturbedIsAskedAnew, OverdueIsAskedAnew, OverdueIsDoubt, SureStaysSure}}
use Rattle.dgt_follow.specs.{Pace.{PaceView, asking, is_calm, pace_at, time_after, wait}, declared.asking.Asking.{Asking}}

-- ---- an overdue answer is a doubt

pub is_doubt : OverdueIsDoubt
is_doubt what pace now late = search rules

-- ---- and is soon requested again

no_later : (once confirming : Bool) (usual settled : ℕ)
    → (if once then 0 else if confirming then min usual settled else usual) ≤ usual
no_later once confirming usual settled = grind arith

-- a pace that isn't calm and is due by then starts over
due_anew : (pace : PaceView) (full : Bool) (now : ℕ) → is_calm pace ≡ false
    → time_after pace.asked (wait pace) ≤ now → asking pace full now ≡ Asking.Anew
due_anew pace full now busy late = search (rules, no_later)

pub is_asked_anew : OverdueIsAskedAnew
is_asked_anew pace full now owed late =
    due_anew (pace_at pace now) full now (grind arith) (grind arith)

pub is_asked_when_disturbed : DisturbedIsAskedAnew
is_asked_when_disturbed pace full now disturbed late =
    due_anew (pace_at pace now) full now (grind arith) (grind arith)

-- ---- a confirmed picture is not in doubt

pub stays_sure : SureStaysSure
stays_sure = (
  λ period patience mode confirm identify. search rules,
  λ pace now sure. (λ awaited picture event. grind arith, λ what. grind arith, search rules),
)
