-- When nothing that a follower hears is a doubt: each dump is the picture that the host shows.
use Rattle.std.specs.Prelude.{◌≡◌, ◌⊎◌, ℕ, List, [], ◌∷◌, Option, Some, false}
use Rattle.dgt_values.specs.declared.kinds.Kind.{Kind}
use Rattle.dgt_values.specs.declared.pieces.Piece.{Piece}
use Rattle.dgt_message.specs.Content.{Content}
use Rattle.dgt_message.specs.Picture.{picture_after}
use Rattle.dgt_board.specs.declared.replies.Reply.{Reply}
use Rattle.dgt_board.specs.State.{BoardState}
use Rattle.dgt_follow.specs.declared.asking.Asking.{Asking}
use Rattle.dgt_follow.specs.Calls.{Call}
use Rattle.dgt_follow.specs.Follower.{asking_of}
use Rattle.dgt_follow.specs.Pace.{PaceView, is_overdue, is_stuck, is_unanswered}
use Rattle.dgt_link.specs.declared.acts.Outcome.{Outcome}
use Rattle.dgt_link.specs.Act.{ActContent}
use Rattle.dgt_link.specs.Faults.{FaultyContent}
use Rattle.dgt_link.specs.Machine.{MachineState, Move, after_move}
use Rattle.dgt_link.specs.Sound.{IsExact, IsUnknownOr}
use Rattle.dgt_link.specs.Stands.{StandsFor}
use Rattle.dgt_link.specs.Step.{RunsBy, Step}
use Rattle.dgt_link.specs.View.{WorldView}
use Rattle.dgt_followed.specs.Followed.{FollowedView, follower_of}
use Rattle.dgt_followed.specs.Heard.{HeardStep, TimedHappening}

-- A host that shows this picture, or knows none, hears these messages. Each dump among them is the
-- picture that the host then shows, if it knows one.
abbrev pub AllRestate : Option (List Piece) → List Content → Type 0
AllRestate picture [] = Unit {0}
AllRestate picture (Content.dump pieces ∷ later) =
    IsUnknownOr picture (Some pieces) × AllRestate (Some pieces) later
AllRestate picture (said ∷ later) = AllRestate (picture_after picture said) later

-- If the first of these replies is a dump, the board has reported each change of a square.
abbrev pub IsAtRest : BoardState → List Reply → Type 0
IsAtRest board (Reply.Of Kind.Dump ∷ later) = board.squares ≡ board.reported_squares
IsAtRest board owed = Unit {0}

-- If the move sends a dump, the board has reported each change of a square before it.
abbrev pub SendsAtRest : MachineState → Move → Type 0
SendsAtRest x Move.Reply = IsAtRest x.board x.board.owed
SendsAtRest x move = Unit {0}

-- Whenever one of these moves sends a dump, the board has reported each change of a square.
abbrev pub DumpsAtRest : MachineState → List Move → Type 0
DumpsAtRest x [] = Unit {0}
DumpsAtRest x (move ∷ moves) = SendsAtRest x move × DumpsAtRest (after_move x move) moves

-- The pace is in no doubt, and there was no disturbance since its last request.
pub record HasNoDoubt (pace : PaceView) : Type 0 where
  pub doubtful : pace.doubtful ≡ false
  pub disturbed : pace.disturbed ≡ false

-- ---- the same of worlds

-- The world stands for an exact state, and each dump under way restates the picture.
pub record IsRestatedWorld (world : WorldView) : Type 0 where
  pub state : MachineState
  pub stands : StandsFor world state
  pub exact : IsExact state
  pub restates : AllRestate state.picture state.up

-- If the act sends a dump, the board has reported each change of a square before it.
abbrev pub ActsAtRest : ActContent → WorldView → Type 0
ActsAtRest ActContent.BoardSend world = IsAtRest world.board.state world.board.state.owed
ActsAtRest act world = Unit {0}

pub record StepAtRest (act : ActContent) (world : WorldView) (answer : Outcome)
    (after : WorldView) : Type 0 where
  pub step : Step act world answer after
  pub rests : ActsAtRest act world

-- Acts in order, each with its outcome. Whenever one of them sends a dump, the board has reported
-- each change of a square.
abbrev pub RunsAtRest : List ActContent → WorldView → List Outcome → WorldView → Type 0
RunsAtRest = RunsBy StepAtRest

-- ---- a follower in such a world

-- At this time no answer is overdue, and no message is unfinished for a second. If a dump is
-- requested, none is owed. If the follower starts over, its host awaits nothing.
pub record AsksInTime (now : ℕ) (before : FollowedView) : Type 0 where
  pub early : is_overdue before.pace now ≡ false
  pub fresh : is_stuck before.pace now ≡ false
  pub answered : let what = asking_of (follower_of before) now in
      (what ≡ Asking.Nothing) ⊎ ((what ≡ Asking.Identify) ⊎ (is_unanswered before.pace ≡ false))
  pub idle : asking_of (follower_of before) now ≡ Asking.Anew → before.world.host.awaited ≡ []

-- It asks in time, or hears or sets something, or something happens that is not a fault, and none
-- is reported. A dump is sent only after each change of a square has been reported.
abbrev pub IsSoundHappening : TimedHappening → FollowedView → Type 0
IsSoundHappening (TimedHappening.Asks now) before = AsksInTime now before
IsSoundHappening (TimedHappening.Hears now count) before = Unit {0}
IsSoundHappening (TimedHappening.Sets Call.Disturbs) before = ⊥
IsSoundHappening (TimedHappening.Sets call) before = Unit {0}
IsSoundHappening (TimedHappening.Acts (FaultyContent.Plain act)) before =
    ActsAtRest act before.world
IsSoundHappening (TimedHappening.Acts act) before = ⊥

abbrev pub SoundRuns : List TimedHappening → FollowedView → FollowedView → Type 0
SoundRuns [] before after = after ≡ before
SoundRuns (happening ∷ later) before after =
    (between : FollowedView) × HeardStep happening before between
    × IsSoundHappening happening before × SoundRuns later between after
