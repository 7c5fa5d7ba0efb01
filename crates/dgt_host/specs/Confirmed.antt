-- When a picture is confirmed, and the effects of a faulty line on one.
use Rattle.std.specs.Prelude.{◌≡◌, ◌≢◌, ◌↔◌, ◌⊎◌, IsSome, ◌≤◌, ℕ, ◌+◌, nat_eq, List, [], ◌∷◌, ◌++◌, Option, Some, None, Bool, true, false, not, ◌&&◌, IsTrue, IsFalse, option_to_list, slice_set}
use Rattle.std.specs.List.{AllByRecursion, flat_map}
use Rattle.dgt_values.specs.declared.pieces.Piece.{Piece}
use Rattle.dgt_values.specs.Board.{piece_code}
use Rattle.dgt_message.specs.Content.{Content, IsMessage}
use Rattle.dgt_message.specs.Encoding.{encoding}
use Rattle.dgt_message.specs.Content.Content.{dump, field}
use Rattle.dgt_decode.specs.Grammar.{Event, Message, Placed, events}
use Rattle.dgt_message.specs.Picture.{picture_after, picture_after_all}

-- ---- which message changes a picture, and which confirms it

-- the same pieces in the same order
abbrev pub same_pieces : List Piece → List Piece → Bool
same_pieces [] [] = true
same_pieces (a ∷ more) (b ∷ others) =
    nat_eq (piece_code a) (piece_code b) && same_pieces more others
same_pieces _ _ = false

-- two known pictures that differ
abbrev pub differ : Option (List Piece) → Option (List Piece) → Bool
differ (Some before) (Some after) = not (same_pieces before after)
differ _ _ = false

-- a message changes a known picture
abbrev pub changes : Option (List Piece) → Content → Bool
changes picture said = differ picture (picture_after picture said)

-- the message of an event, if it is one
abbrev pub message_in : Event → List Content
message_in (Message said) = said ∷ []
message_in _ = []

abbrev pub changes_by : Option (List Piece) → Option Event → Bool
changes_by picture (Some (Message said)) = changes picture said
changes_by picture _ = false

-- the messages among events
abbrev pub messages : List Placed → List Content
messages [] = []
messages (x ∷ more) = message_in x.event ++ messages more

-- A message counts as changing a picture exactly if the picture was known and differs afterwards.
abbrev pub ChangesIsExact : Type 0
ChangesIsExact =
    (picture : Option (List Piece)) (said : Content) →
    IsTrue (changes picture said) ↔ (IsSome picture × (picture_after picture said ≢ picture))

-- a picture that is known and that a dump repeats
abbrev pub repeats : Option (List Piece) → List Piece → Bool
repeats (Some known) pieces = same_pieces known pieces
repeats None pieces = false

-- Whether a picture is confirmed after a message, given whether it was before. A dump that repeats
-- the picture confirms it, another dump doesn't, and any other message that changes it ends that.
abbrev pub confirmed_after : Bool → Option (List Piece) → Content → Bool
confirmed_after confirmed picture (dump pieces) = repeats picture pieces
confirmed_after confirmed picture said = confirmed && not (changes picture said)

abbrev pub confirmed_after_all : Bool → Option (List Piece) → List Content → Bool
confirmed_after_all confirmed picture [] = confirmed
confirmed_after_all confirmed picture (said ∷ more) =
    confirmed_after_all (confirmed_after confirmed picture said) (picture_after picture said) more

-- none of the messages changes this picture
abbrev pub AllLeave : List Piece → List Content → Type 0
AllLeave pieces said = AllByRecursion (λ one. IsFalse (changes (Some pieces) one)) said

-- in plain words: each leaves the picture as it is
abbrev pub LeavingIsExact : Type 0
LeavingIsExact =
    (pieces : List Piece) (said : List Content) →
    AllLeave pieces said
    ↔ AllByRecursion (λ one. picture_after (Some pieces) one ≡ Some pieces) said

-- ---- a line with faults

-- The effect of a line on a message. A faulty passage alters a message that the board sent, loses
-- it (nothing is heard), or lets the host hear one that the board didn't send (also a repeated
-- one).
pub data Passage : Type 0 where
  Whole : (said : Content) → Passage
  Faulty : (sent heard : Option Content) → Passage

abbrev pub sent_in : Passage → List Content
sent_in (Whole said) = said ∷ []
sent_in (Faulty sent heard) = option_to_list sent

abbrev pub heard_in : Passage → List Content
heard_in (Whole said) = said ∷ []
heard_in (Faulty sent heard) = option_to_list heard

-- what the board sent, and what the host heard
abbrev pub sent : List Passage → List Content
sent line = flat_map sent_in line

abbrev pub heard : List Passage → List Content
heard line = flat_map heard_in line

-- the faults since the last whole dump
abbrev pub faults_after : ℕ → Passage → ℕ
faults_after faults (Whole (dump pieces)) = 0
faults_after faults (Whole said) = faults
faults_after faults (Faulty sent heard) = faults + 1

abbrev pub faults_after_all : ℕ → List Passage → ℕ
faults_after_all faults [] = faults
faults_after_all faults (passage ∷ more) = faults_after_all (faults_after faults passage) more

-- the host shows what the board has reported, or knows no picture
abbrev pub IsRight : List Piece → Option (List Piece) → Type 0
IsRight reported shown = (shown ≡ None) ⊎ (shown ≡ Some reported)

-- What the board had reported when it sent what was heard as a message: including the message, if
-- it was heard whole, and otherwise before it.
abbrev pub reported_by : Option (List Piece) → Passage → Option (List Piece)
reported_by reported (Whole said) = picture_after reported said
reported_by reported (Faulty sent heard) = reported

-- ---- a confirmed picture after a single fault

-- The host heard a dump that repeated its picture, and nothing changed the picture since. If there
-- was at most one fault up to that dump, since the last whole dump before it, then the picture is
-- what the board had reported when it sent that dump. Faults after the dump don't count.
abbrev pub ConfirmedWasReported : Type 0
ConfirmedWasReported =
    (reported pieces : List Piece) (shown : Option (List Piece)) (earlier later : List Passage)
    (passage : Passage) → IsRight reported shown → heard_in passage ≡ dump pieces ∷ [] →
    IsTrue (repeats (picture_after_all shown (heard earlier)) pieces) →
    AllLeave pieces (heard later) → faults_after (faults_after_all 0 earlier) passage ≤ 1 →
    picture_after_all shown (heard (earlier ++ passage ∷ later))
    ≡ reported_by (picture_after_all (Some reported) (sent earlier)) passage

-- The board, too, has repeated its picture since its last change, and there was at most one fault
-- since the last whole dump. Then a confirmed picture is all that the board has reported, however
-- late the fault.
abbrev pub ConfirmedIsReported : Type 0
ConfirmedIsReported =
    (reported : List Piece) (shown : Option (List Piece)) (line : List Passage) →
    IsRight reported shown → faults_after_all 0 line ≤ 1 →
    IsTrue (confirmed_after_all false (Some reported) (sent line)) →
    IsTrue (confirmed_after_all false shown (heard line)) →
    picture_after_all shown (heard line) ≡ picture_after_all (Some reported) (sent line)

-- Without a fault since the last whole dump, the host shows what the board has reported, or knows
-- no picture. A dump that differs from the picture then reports a change by itself.
abbrev pub FaultlessIsRight : Type 0
FaultlessIsRight =
    (reported : List Piece) (shown : Option (List Piece)) (line : List Passage) →
    IsRight reported shown → faults_after_all 0 line ≡ 0 →
    let now = picture_after_all shown (heard line) in
    (now ≡ None) ⊎ (now ≡ picture_after_all (Some reported) (sent line))

-- Whatever bytes are between whole messages, those before and after them are heard, and between
-- them the messages of these bytes.
abbrev pub StretchIsOne : Type 0
StretchIsOne =
    (before after : List Content) (bytes : List ℕ) → AllByRecursion IsMessage before →
    AllByRecursion IsMessage after →
    messages (events (flat_map encoding before ++ bytes ++ flat_map encoding after))
    ≡ before ++ messages (events bytes) ++ after

-- A picture is confirmed exactly if a dump repeated it, and nothing changed it since.
abbrev pub ConfirmedByDump : Type 0
ConfirmedByDump =
    (shown : Option (List Piece)) (said : List Content) →
    IsTrue (confirmed_after_all false shown said) →
    (pieces : List Piece) × (before : List Content) × (after : List Content)
    × (said ≡ before ++ dump pieces ∷ after)
    × IsTrue (repeats (picture_after_all shown before) pieces) × AllLeave pieces after

-- ---- what the premises are for

-- two dumps altered alike
abbrev pub two_alike : List Piece → List Piece → List Passage
two_alike a b = Faulty (Some (dump a)) (Some (dump b)) ∷ Faulty (Some (dump a)) (Some (dump b)) ∷ []

-- a change that is lost after a dump
abbrev pub lost_after_dump : List Piece → ℕ → Piece → List Passage
lost_after_dump a square piece = Whole (dump a) ∷ Faulty (Some (field square piece)) None ∷ []

-- one altered dump
abbrev pub one_altered : List Piece → List Piece → List Passage
one_altered a b = Faulty (Some (dump a)) (Some (dump b)) ∷ []

-- the effect of a line from a moment on at which the host shows what the board has reported
pub record Ends (start : List Piece) (line : List Passage) (faults : ℕ) (restated confirmed : Bool)
    (reported shown : List Piece) : Type 0 where
  pub counts : faults_after_all 0 line ≡ faults
  pub restates : confirmed_after_all false (Some start) (sent line) ≡ restated
  pub confirms : confirmed_after_all false (Some start) (heard line) ≡ confirmed
  pub reports : picture_after_all (Some start) (sent line) ≡ Some reported
  pub shows : picture_after_all (Some start) (heard line) ≡ Some shown

abbrev pub TwoFaultsSuffice : Type 0
TwoFaultsSuffice =
    (a b : List Piece) → Ends a (two_alike a b) 2 true true a b

abbrev pub LateFaultsSuffice : Type 0
LateFaultsSuffice =
    (a : List Piece) (square : ℕ) (piece : Piece) → IsTrue (changes (Some a) (field square piece)) →
    Ends a (lost_after_dump a square piece) 1 false true (slice_set a square piece) a

abbrev pub UnconfirmedIsWrong : Type 0
UnconfirmedIsWrong =
    (a b : List Piece) → Ends a (one_altered a b) 1 true (same_pieces a b) a b
