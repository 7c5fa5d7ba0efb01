-- The effect of consecutive calls of a follower, and facts about its picture after them.
use Rattle.std.specs.Prelude.{◌≡◌, ◌≤◌, ◌<◌, ◌^◌, ℕ, List, [], ◌∷◌, ◌++◌, Option, Some, Bool, false, true, option_to_list, IfSome, IsTrue}
use Rattle.std.specs.List.{AllByRecursion, flat_map}
use Rattle.dgt_values.specs.declared.kinds.Kind.{Kind}
use Rattle.dgt_values.specs.declared.pieces.Piece.{Piece}
use Rattle.dgt_message.specs.Content.{Content, IsMessage}
use Rattle.dgt_message.specs.Encoding.{encoding}
use Rattle.dgt_message.specs.Picture.{picture_after_all}
use Rattle.dgt_decode.specs.Grammar.{events, unfinished_message}
use Rattle.dgt_host.specs.Confirmed.{IsRight, confirmed_after_all, messages}
use Rattle.dgt_host.specs.Host.{host_awaiting}
use Rattle.dgt_follow.specs.declared.asking.Asking.{Asking}
use Rattle.dgt_follow.specs.declared.asking.UpdateMode.{UpdateMode}
use Rattle.dgt_follow.specs.Pace.{next_due, pace_after_asking, pace_at, pace_disturbed}
use Rattle.dgt_follow.specs.Follower.{FollowerView, asking_of, follower_after, following, host_after_asking, is_sure}

-- A call that is done. The loss of the line isn't included: it makes the follower as new.
pub data Call : Type 0 where
  Hears : (now : ℕ) (bytes : List ℕ) → Call
  Asks : (now : ℕ) → Call
  Sends : (kind : Option Kind) → Call  -- another command, which requests a reply of this kind
  SetsMode : (mode : UpdateMode) → Call
  SetsConfirm : (confirm : Bool) → Call
  SetsIdentify : (identify : Bool) → Call
  AsksNow : Call
  Disturbs : Call  -- bytes were lost or altered

abbrev pub follower_asking : Asking → FollowerView → ℕ → FollowerView
follower_asking what follower now =
    following (host_after_asking what follower.host)
    (pace_after_asking what (pace_at follower.pace now) now)

abbrev pub follower_after_call : FollowerView → Call → FollowerView
follower_after_call follower (Hears now bytes) = follower_after follower now bytes
follower_after_call follower (Asks now) = follower_asking (asking_of follower now) follower now
follower_after_call follower (Sends kind) =
    following (host_awaiting follower.host kind) follower.pace
follower_after_call follower (SetsMode mode) =
    following follower.host (record follower.pace { mode = mode })
follower_after_call follower (SetsConfirm confirm) =
    following follower.host (record follower.pace { confirm = confirm })
follower_after_call follower (SetsIdentify identify) =
    following follower.host (record follower.pace { identify = identify })
follower_after_call follower AsksNow =
    following follower.host (record follower.pace { wanted = true })
follower_after_call follower Disturbs =
    following follower.host (pace_disturbed follower.pace)

abbrev pub follower_after_calls : FollowerView → List Call → FollowerView
follower_after_calls follower [] = follower
follower_after_calls follower (call ∷ more) =
    follower_after_calls (follower_after_call follower call) more

-- a call of `ask` at this time writes nothing, and leaves the follower as it was
abbrev pub IsIdle : FollowerView → ℕ → Type 0
IsIdle follower now =
    (asking_of follower now ≡ Asking.Nothing)
    × (follower_after_call follower (Asks now) ≡ follower)

-- `due_at` names the first time at which a follower isn't idle, if its clock doesn't go back.
abbrev pub DueAtIsFirst : Type 0
DueAtIsFirst =
    (follower : FollowerView) → IsTrue (is_sure follower.pace) →
    ((due : ℕ) → next_due follower.pace ≡ Some due → ¬ (IsIdle follower due))
    × ((now : ℕ) → now < 2 ^ 64 → IfSome follower.pace.asked (λ asked. asked ≤ now) →
    IfSome (next_due follower.pace) (λ due. now < due) → IsIdle follower now)

-- the bytes that were heard, in whatever chunks and whatever else was called meanwhile
abbrev pub bytes_heard : List Call → List ℕ
bytes_heard [] = []
bytes_heard (Hears now bytes ∷ more) = bytes ++ bytes_heard more
bytes_heard (call ∷ more) = bytes_heard more

-- Whatever is called, the picture is that of the messages among the bytes, and it is confirmed only
-- if they confirm it. The unread bytes are those of an unfinished message, as always.
abbrev pub ConfirmedOverCalls : Type 0
ConfirmedOverCalls =
    (follower : FollowerView) (calls : List Call) →
    unfinished_message follower.host.unread ≡ follower.host.unread →
    let said = messages (events (follower.host.unread ++ bytes_heard calls)) in
    let after = follower_after_calls follower calls in
    (after.host.picture ≡ picture_after_all follower.host.picture said)
    × (IsTrue after.pace.confirmed →
    IsTrue (confirmed_after_all follower.pace.confirmed follower.host.picture said))

-- **After one stretch of faulty bytes, a picture that both sides confirm is right.** The follower
-- shows what the board has reported, or knows no picture. The board sends messages. The line alters
-- or loses at most one of them, or inserts bytes: what is heard instead contains at most one
-- message.
-- The bytes are heard in any chunks, and anything is asked and sent meanwhile. If the follower is
-- then confirmed, and the board has repeated its picture since its last change, the picture is what
-- the board has reported.
abbrev pub OneStretchIsSeen : Type 0
OneStretchIsSeen =
    (follower : FollowerView) (calls : List Call) (reported : List Piece)
    (before after : List Content) (bytes : List ℕ) (meant heard : Option Content) →
    AllByRecursion IsMessage before → AllByRecursion IsMessage after →
    follower.host.unread ≡ [] → follower.pace.confirmed ≡ false →
    IsRight reported follower.host.picture → messages (events bytes) ≡ option_to_list heard →
    bytes_heard calls ≡ flat_map encoding before ++ bytes ++ flat_map encoding after →
    let said = before ++ option_to_list meant ++ after in
    let ended = follower_after_calls follower calls in
    IsTrue (confirmed_after_all false (Some reported) said) → IsTrue ended.pace.confirmed →
    ended.host.picture ≡ picture_after_all (Some reported) said
