-- A follower writes exactly if it has a reason, and `due_at` names the first time at which it isn't
-- idle.
use Rattle.std.proofs.{Common.{◌≡◌, ◌≢◌, ◌↔◌, ◌≤◌, ◌<◌, ◌^◌, Bool, true, false, not, ◌&&◌, ◌||◌, if◌then◌else◌, nat_le, min, Some, ℕ, arith}}
use Rattle.{std.{proofs.lemmas.Bool.Decides.{nat_tests}, specs.Prelude.{IfSome}}, dgt_values.specs.declared.kinds.Kind.{Kind}, dgt_host.specs.Host.{awaits_too_many}}
use Rattle.dgt_follow.specs.{Calls.{DueAtIsFirst}, Follower.{FollowerView, HasReason, asking_of, is_sure}, Pace.{PaceView, asking, asks_at_once, doubt_time, due_time}}
use Rattle.dgt_follow.specs.{Pace.{is_before, is_due, is_overdue, is_stuck, next_due, pace_at, time_after, wait, wants_confirming}, declared.asking.Asking.{Asking}}

-- ---- its reasons

no_later : (pace : PaceView) → due_time pace ≤ time_after pace.asked (wait pace)
no_later pace = grind arith

for_any : {R : Type 0} (once confirming back : Bool) (usual settled now : ℕ) → (once ≡ true → R)
    → (usual ≤ now → R) → (confirming ≡ true → settled ≤ now → R) → (back ≡ true → R)
    → (nat_le (if once then 0 else if confirming then min usual settled else usual) now || back)
    ≡ true → R
for_any once confirming back usual settled now o u s b due = grind arith

reason : (pace : PaceView) (now : ℕ) → is_due pace now ≡ true → HasReason pace now
reason pace now due =
    for_any (asks_at_once pace) (wants_confirming pace) (is_before now pace.asked) _ _ now
    (λ at_once. grind arith) (λ late. grind arith) (λ wants late. grind arith)
    (λ back. grind arith) due

due_for : (pace : PaceView) (now : ℕ) → HasReason pace now → is_due pace now ≡ true
due_for pace now why = grind (arith, nat_tests, no_later pace)

pub writes : (pace : PaceView) (full : Bool) (now : ℕ)
    → (asking pace full now ≢ Asking.Nothing) ↔ (is_due pace now ≡ true)
writes pace full now = (λ asks. grind arith, λ due. grind arith)

pub for_a_reason : (follower : FollowerView) (now : ℕ)
    → (asking_of follower now ≢ Asking.Nothing) ↔ HasReason (pace_at follower.pace now) now
for_a_reason follower now =
    let pace = pace_at follower.pace now in
    let due = writes pace (awaits_too_many follower.host (Some Kind.Dump)) now in
    (λ asks. reason pace now (due.0 asks), λ why. due.1 (due_for pace now why))

-- ---- idle before that time

unchanged : (pace : PaceView) (now : ℕ) → is_sure pace ≡ true → now < 2 ^ 64
    → IfSome (next_due pace) (λ due. now < due) → pace_at pace now ≡ pace
unchanged pace now sure small early = grind (arith, nat_tests)

doubted : (pace : PaceView) → doubt_time pace ≤ due_time pace
doubted pace = grind arith

not_due : (pace : PaceView) (now : ℕ) → now < 2 ^ 64 → IfSome (next_due pace) (λ due. now < due)
    → now < due_time pace
not_due pace now small early = grind (arith, nat_tests, doubted pace)

nothing : (pace : PaceView) (full : Bool) (now : ℕ) → now < due_time pace
    → IfSome pace.asked (λ asked. asked ≤ now) → asking pace full now ≡ Asking.Nothing
nothing pace full now early after = grind arith

-- ---- and not at that time

stuck : (pace : PaceView) (now : ℕ) → pace_at pace now ≡ pace → is_stuck pace now ≡ false
stuck pace now same = grind arith

overdue : (pace : PaceView) (now : ℕ) → pace_at pace now ≡ pace
    → (is_overdue pace now && not pace.doubtful) ≡ false
overdue pace now same = grind arith

not_idle : (pace : PaceView) (full : Bool) (now : ℕ) → next_due pace ≡ Some now
    → pace_at pace now ≡ pace → asking pace full now ≢ Asking.Nothing
not_idle pace full now due same =
    grind (arith, nat_tests, stuck pace now same, overdue pace now same, writes pace full now)

pub is_first : DueAtIsFirst
is_first follower sure = grind (arith, not_idle, unchanged, nothing, not_due)
