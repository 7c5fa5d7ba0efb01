-- What a follower hears on a sound line, and what it requests in time, is not a doubt.
use Rattle.std.proofs.{Common.{arith, rules, ◌≡◌, ◌⊎◌, false, Option, Some, None, ℕ, List, ◌∷◌, ◌++◌, All}, lemmas.Grind.{common_steps}}
use Rattle.{std.proofs.lemmas.List.Elements.{All-nil}, dgt_values.specs.declared.{kinds.Kind.{Kind}, pieces.Piece.{Piece}}, dgt_message.specs.Content.{Content, answered_kind, Content.{dump}}}
use Rattle.{dgt_decode.specs.Grammar.{Message}, dgt_host.proofs.ConfirmedLemmas.{unmoved}, dgt_follow.specs.{Follower.{FollowerView, follower_after_event}, Pace.{PaceView, contradicts}}}
use Rattle.dgt_follow.specs.{Pace.{is_overdue, is_stuck, is_unanswered, is_unasked, pace_after_asking, pace_after_event, pace_at}, declared.asking.Asking.{Asking}}
use Rattle.{dgt_link.{specs.{Machine.{MachineState, Move, after_move}, Sound.{IsExact}}, proofs.Subsequences.{same_kind_itself}}, dgt_followed.specs.Restated.{AllRestate, HasNoDoubt}}

-- ---- an awaited message, and a dump that restates the picture

pub restates : (picture : Option (List Piece)) (said : Content) (later : List Content)
    → AllRestate picture (said ∷ later) → contradicts picture said ≡ false
restates picture said later h = search (rules, unmoved)

-- the next reply under way is the one that is awaited first
abbrev pub FirstIsAwaited : Type 0
FirstIsAwaited =
    (x : MachineState) (before later : List Content) (message : Content) (kind : Kind) → IsExact x
    → x.up ≡ before ++ message ∷ later → All (λ other. answered_kind other ≡ None) before
    → answered_kind message ≡ Some kind → (others : List Kind) × (x.awaited ≡ kind ∷ others)

pub is_asked : FirstIsAwaited → (x : MachineState) (later : List Content) (said : Content)
    → IsExact x → x.up ≡ said ∷ later → is_unasked x.awaited (answered_kind said) ≡ false
is_asked first x later said exact up = search (rules, same_kind_itself, All-nil)

-- ---- the pace

pub hears_no_doubt : (pace : PaceView) (now : ℕ) (awaited : List Kind)
    (picture : Option (List Piece)) (said : Content)
    → is_unasked awaited (answered_kind said) ≡ false → contradicts picture said ≡ false
    → HasNoDoubt pace → HasNoDoubt (pace_after_event pace now awaited picture (Message said))
hears_no_doubt pace now awaited picture said asked agrees calm = search rules

-- an awaited dump that repeats the picture ends a doubt
pub agreeing_ends : (pace : PaceView) (now : ℕ) (pieces : List Piece) (later : List Kind)
    → (pace_after_event pace now (Kind.Dump ∷ later) (Some pieces) (Message (dump pieces))).doubtful
    ≡ false
agreeing_ends pace now pieces later =
    let none = unmoved (Some pieces) in grind (arith, common_steps)

-- time raises no doubt, if no answer is overdue and no message is unfinished
time_brings_none : (pace : PaceView) (now : ℕ) → HasNoDoubt pace → is_overdue pace now ≡ false
    → is_stuck pace now ≡ false → HasNoDoubt (pace_at pace now)
time_brings_none pace now calm early fresh = search rules

adds_none : (what : Asking) (pace : PaceView) (now : ℕ) → HasNoDoubt pace
    → (what ≡ Asking.Nothing) ⊎ ((what ≡ Asking.Identify) ⊎ (is_unanswered pace ≡ false))
    → HasNoDoubt (pace_after_asking what pace now)
adds_none what pace now calm owed = search rules

pub asks_no_doubt : (what : Asking) (pace : PaceView) (now : ℕ) → HasNoDoubt pace
    → is_overdue pace now ≡ false → is_stuck pace now ≡ false
    → (what ≡ Asking.Nothing) ⊎ ((what ≡ Asking.Identify) ⊎ (is_unanswered pace ≡ false))
    → HasNoDoubt (pace_after_asking what (pace_at pace now) now)
asks_no_doubt what pace now calm early fresh owed = search (rules, adds_none, time_brings_none)

-- ---- the machine's next message

pub hears_as_the_machine : FirstIsAwaited
    → (x : MachineState) (follower : FollowerView) (now : ℕ) (said : Content) (later : List Content)
    → IsExact x → AllRestate x.picture x.up → x.up ≡ said ∷ later
    → follower.host.picture ≡ x.picture → follower.host.awaited ≡ x.awaited
    → HasNoDoubt follower.pace
    → HasNoDoubt (follower_after_event follower now (Message said)).pace
    × ((follower_after_event follower now (Message said)).host.picture
    ≡ (after_move x Move.Hear).picture)
    × ((follower_after_event follower now (Message said)).host.awaited
    ≡ (after_move x Move.Hear).awaited)
hears_as_the_machine first x follower now said later exact all up picture awaited calm =
    let asked : is_unasked follower.host.awaited (answered_kind said) ≡ false
    = rw awaited (is_asked first x later said exact up) in
    let agrees : contradicts follower.host.picture said ≡ false
    = rw picture (restates x.picture said later (rw up at all)) in
    search (rules, hears_no_doubt)
