-- In a world without faults each dump restates the picture, and a follower hears no doubt.
use Rattle.{std.{proofs.Common.{rules, ◌≡◌, ◌≢◌, refl, ℕ, zero, suc, List, [], ◌∷◌, ◌++◌, replicate, take, drop, map}, specs.List.{AllByRecursion}}, dgt_message.specs.Content.{Content}}
use Rattle.{dgt_decode.specs.Grammar.{Event, Message, Placed, events}, dgt_board.specs.State.{BoardState}, dgt_follow.specs.Follower.{FollowerView, follower_after, follower_after_event}}
use Rattle.{dgt_follow.specs.Follower.{follower_after_events}, dgt_link.specs.{Act.{ActContent}, Machine.{IsHostBreak, IsSending, MachineState, Move, after_move, after_moves}, Readers.{Reads}}}
use Rattle.dgt_link.specs.{Sound.{IsExact, IsSound}, Stands.{AreMovesOfAct, AreMovesOfStep, IsExactWorld, StandsAfterStep, StandsFor}, Step.{Step}, View.{WorldView}, declared.acts.Outcome.{Outcome}}
use Rattle.{dgt_link.proofs.{Asking.{step_is_other}, Counting.{nothing_said}, Hearing.{heard_prefix, known}, Standing.{prefix_of}}, dgt_followed.specs.Restated.{ActsAtRest, DumpsAtRest, HasNoDoubt}}
use Rattle.dgt_followed.{specs.Restated.{IsAtRest, IsRestatedWorld, RunsAtRest, SendsAtRest, StepAtRest}, proofs.{Restating.{Restates, move_restates, moves_restate}, Undoubted.{FirstIsAwaited}}}
use Rattle.dgt_followed.proofs.Undoubted.{hears_as_the_machine}

-- ---- the moves of acts

all_at_rest : (count : ℕ) (move : Move) → ((x : MachineState) → SendsAtRest x move)
    → (x : MachineState) → DumpsAtRest x (replicate count move)
all_at_rest zero move rests x = tt
all_at_rest (suc count) move rests x = (rests x, all_at_rest count move rests (after_move x move))

sending_rests : (x : MachineState) (board : BoardState) (move : Move) → board ≡ x.board
    → IsSending move → IsAtRest board board.owed → SendsAtRest x move
sending_rests x board move same sending rest = search rules

act_rests : (act : ActContent) (world : WorldView) (x : MachineState) (moves : List Move)
    → world.board.state ≡ x.board → ActsAtRest act world → AreMovesOfAct act moves
    → DumpsAtRest x moves
act_rests act world x moves same rest are = search (rules, sending_rests, all_at_rest)

step_rests : (answer : Outcome) (act : ActContent) (world : WorldView) (x : MachineState)
    (moves : List Move) → world.board.state ≡ x.board → ActsAtRest act world
    → AreMovesOfStep act answer moves → DumpsAtRest x moves
step_rests answer act world x moves same rest are = search (rules, act_rests)

-- ---- acts

abbrev pub ActsAreMoves : Type 0
ActsAreMoves = (act : ActContent) (world after : WorldView) (answer : Outcome) (x : MachineState)
    → StandsFor world x → Step act world answer after → StandsAfterStep act answer x after

abbrev pub MovesStayExact : Type 0
MovesStayExact =
    (x : MachineState) (moves : List Move) → AllByRecursion (λ move. ¬ (IsHostBreak move)) moves
    → IsExact x → IsExact (after_moves x moves)

module _ (reach : ActsAreMoves) (exact : MovesStayExact)
    (sound : (x : MachineState) (move : Move) → IsSound x → IsSound (after_move x move)) where
  pub act_restates : (act : ActContent) (world after : WorldView) (answer : Outcome)
      → act ≢ ActContent.HostBreak → IsRestatedWorld world → StepAtRest act world answer after
      → IsRestatedWorld after
  act_restates act world after answer other is step =
      let (moves, are, stands) = reach act world after answer is.state is.stands step.step in
      record {
        state = after_moves is.state moves;
        stands = stands;
        exact = exact is.state moves (step_is_other act answer moves other are) is.exact;
        restates = moves_restate sound is.state moves is.exact.sound is.restates
            (step_rests answer act world is.state moves is.stands.board step.rests are);
      }

  pub acts_restate : (acts : List ActContent) (world after : WorldView) (answers : List Outcome)
      → AllByRecursion (λ act. act ≢ ActContent.HostBreak) acts → IsRestatedWorld world
      → RunsAtRest acts world answers after → IsRestatedWorld after
  acts_restate [] world after [] others is same = rw same is
  acts_restate (act ∷ acts) world after (answer ∷ answers) others is (between, step, runs) =
      search (rules, acts_restate acts between, act_restates)
  acts_restate _ world after _ others is none = absurd none

-- nothing is under way
pub nothing_to_restate : (world : WorldView) → IsExactWorld world → world.host.unread ≡ []
    → world.up.bytes ≡ [] → IsRestatedWorld world
nothing_to_restate world is unread up = search (rules, nothing_said)

-- ---- what the follower hears

same_first : (x y : Event) (xs ys : List Event) → x ∷ xs ≡ y ∷ ys → x ≡ y
same_first x y xs ys e = cc

same_rest : (x y : Event) (xs ys : List Event) → x ∷ xs ≡ y ∷ ys → xs ≡ ys
same_rest x y xs ys e = cc

module _ (first : FirstIsAwaited)
    (exact : (x : MachineState) (move : Move) → ¬ (IsHostBreak move) → IsExact x
    → IsExact (after_move x move))
  where
    hears_messages : (heard left : List Content) (xs : List Placed) (x : MachineState)
        (follower : FollowerView) (now : ℕ) → known xs ≡ map Message heard → IsExact x → Restates x
        → x.up ≡ heard ++ left → follower.host.picture ≡ x.picture
        → follower.host.awaited ≡ x.awaited → HasNoDoubt follower.pace
        → HasNoDoubt (follower_after_events follower now xs).pace
    hears_messages [] left [] x follower now are is all up picture awaited calm = calm
    hears_messages [] left (y ∷ ys) x follower now are is all up picture awaited calm = cc
    hears_messages (said ∷ heard) left [] x follower now are is all up picture awaited calm = cc
    hears_messages (said ∷ heard) left (y ∷ ys) x follower now are is all up picture awaited calm =
        let step = hears_as_the_machine first x follower now said (heard ++ left) is all up picture
        awaited calm in
        let event : y.event ≡ Message said =
        same_first y.event (Message said) (known ys) (map Message heard) are in
        let others : known ys ≡ map Message heard
        = same_rest y.event (Message said) (known ys) (map Message heard) are in
        let later : HasNoDoubt
        (follower_after_events (follower_after_event follower now (Message said)) now ys).pace
        = hears_messages heard left ys (after_move x Move.Hear)
        (follower_after_event follower now (Message said)) now
        others (exact x Move.Hear (λ h. h) is) (move_restates x Move.Hear is.sound all tt)
        (rw up refl) step.1 step.2 step.0 in
        rw event later

    module _ (reads : Reads) where
      pub delivery_is_no_doubt : (world : WorldView) (follower : FollowerView) (now count : ℕ)
          → IsRestatedWorld world → follower.host ≡ world.host → HasNoDoubt follower.pace
          → HasNoDoubt (follower_after follower now (take count world.up.bytes)).pace
      delivery_is_no_doubt world follower now count is same calm =
          let prefix : List ℕ = world.host.unread ++ take count world.up.bytes in
          let says = heard_prefix reads prefix (drop count world.up.bytes) is.state.up
          (rw (prefix_of world.host.unread world.up.bytes count) at is.stands.up) in
          let heard : HasNoDoubt (follower_after_events follower now (events prefix)).pace
          = hears_messages says.heard says.left (events prefix) is.state follower now says.known
          is.exact
          is.restates says.all (rw same is.stands.picture) (rw same is.stands.awaited) calm in
          let calm_then : HasNoDoubt (follower_after_events follower now
          (events (follower.host.unread ++ take count world.up.bytes))).pace =
          rw (← same) at heard in
          record { doubtful = calm_then.doubtful; disturbed = calm_then.disturbed }
