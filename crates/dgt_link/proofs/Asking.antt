-- What acts request of the board, how they change the promise, and which of their moves are breaks.
use Rattle.std.{proofs.{Common.{◌≡◌, ◌≢◌, refl, ℕ, zero, suc, List, [], ◌∷◌, replicate, arith, rules}, lemmas.Grind.{flat_map-append}}, specs.{List.{AllByRecursion}, Prelude.{Contains, flat_map}}}
use Rattle.{dgt_command.specs.Content.{CommandContent}, dgt_link.specs.{Act.{ActContent}, Machine.{IsHostBreak, MachineState, Move, after_move, after_moves}, Promise.{IsAskedBy}}}
use Rattle.dgt_link.specs.{Promise.{IsPromised, IsRestarted, PictureIsComing, act_requests, coming_mode, mode_after, requests, run_requests}, Stands.{AreMovesOfAct, AreMovesOfRun, AreMovesOfStep}}
use Rattle.dgt_link.{specs.declared.acts.Outcome.{Outcome}, proofs.{AfterMoves.{moves-mode, moves_promise}, Lists.{all_append, all_replicate}, Promises.{anew_is_promised, dump_asked}}}
use Rattle.dgt_link.proofs.Promises.{picture_keeps_coming}

-- ---- the requests of moves are those of their acts

requests-takes : (count : ℕ) → flat_map requests (replicate count Move.Take) ≡ []
requests-takes zero = refl
requests-takes (suc count) = requests-takes count

requests-hears : (count : ℕ) → flat_map requests (replicate count Move.Hear) ≡ []
requests-hears zero = refl
requests-hears (suc count) = requests-hears count

pub requests-act : (act : ActContent) (moves : List Move) → AreMovesOfAct act moves
    → flat_map requests moves ≡ act_requests Outcome.Done act
requests-act act moves e = search (rules, requests-takes, requests-hears)

pub requests-step : (act : ActContent) (outcome : Outcome) (moves : List Move)
    → AreMovesOfStep act outcome moves → flat_map requests moves ≡ act_requests outcome act
requests-step act outcome moves are = search (rules, requests-takes, requests-hears)

requests-run : (acts : List ActContent) (outcomes : List Outcome) (moves : List Move)
    → AreMovesOfRun acts outcomes moves → flat_map requests moves ≡ run_requests acts outcomes
requests-run [] [] moves e = rw e refl
requests-run (act ∷ acts) (outcome ∷ outcomes) moves (first, later, are, follow, e) =
    search (rules, flat_map-append, requests-step, requests-run acts outcomes later follow)
requests-run _ _ moves none = absurd none

-- the acts that are done request the picture, and it is promised
pub run_promises : (x : MachineState) (acts : List ActContent) (outcomes : List Outcome)
    (moves : List Move) → AreMovesOfRun acts outcomes moves → IsAskedBy acts outcomes
    → IsPromised (after_moves x moves)
run_promises x acts outcomes moves are asked =
    moves_promise x moves (rw (requests-run acts outcomes moves are) asked)

pub mode-step : (x : MachineState) (act : ActContent) (outcome : Outcome) (moves : List Move)
    → AreMovesOfStep act outcome moves
    → coming_mode (after_moves x moves) ≡ mode_after (coming_mode x) (act_requests outcome act)
mode-step x act outcome moves are = search (rules, moves-mode, requests-step)

-- ---- a dump is requested, or everything starts over

pub dump_is_coming : (x : MachineState) (moves : List Move)
    → AreMovesOfStep (ActContent.Host CommandContent.Dump) Outcome.Done moves
    → PictureIsComing (after_moves x moves)
dump_is_coming x moves e = rw e (dump_asked x)

-- a host break is always done, and restarts the host
pub host_break_moves : (x : MachineState) (outcome : Outcome) (moves : List Move)
    → outcome ≡ Outcome.Done → AreMovesOfStep ActContent.HostBreak outcome moves
    → IsRestarted (after_moves x moves) × IsPromised (after_moves x moves)
host_break_moves x Outcome.Done moves e (noise, is_noise, are) =
    rw are
    (record { noise = noise; is_noise = is_noise; down = refl }, anew_is_promised x noise is_noise)
host_break_moves x _ moves e are = cc

-- ---- an act that isn't a break has other moves than that, and so has one that isn't a host break

pub act_is_no_break : (act : ActContent) (moves : List Move) → act ≢ ActContent.Break
    → AreMovesOfAct act moves → AllByRecursion (λ move. move ≢ Move.Break) moves
act_is_no_break (ActContent.Change square piece) moves other e = rw e (λ f. cc, tt)
act_is_no_break (ActContent.ClockRead clock) moves other e = rw e (λ f. cc, tt)
act_is_no_break (ActContent.Host command) moves other e = rw e (λ f. cc, tt)
act_is_no_break ActContent.BoardSend moves other (move, sending, e) = search rules
act_is_no_break (ActContent.ToBoard bytes) moves other (count, e) =
    rw e (all_replicate (λ move. move ≢ Move.Break) count Move.Take (λ f. cc))
act_is_no_break (ActContent.ToHost bytes) moves other (count, e) =
    rw e (all_replicate (λ move. move ≢ Move.Break) count Move.Hear (λ f. cc))
act_is_no_break ActContent.Break moves other e = absurd (other refl)
act_is_no_break ActContent.HostBreak moves other (noise, is_noise, e) = rw e (λ f. cc, tt)

act_is_other : (act : ActContent) (moves : List Move) → act ≢ ActContent.HostBreak
    → AreMovesOfAct act moves → AllByRecursion (λ move. ¬ (IsHostBreak move)) moves
act_is_other (ActContent.Change square piece) moves other e = rw e (λ is. is, tt)
act_is_other (ActContent.ClockRead clock) moves other e = rw e (λ is. is, tt)
act_is_other (ActContent.Host command) moves other e = rw e (λ is. is, tt)
act_is_other ActContent.BoardSend moves other (move, sending, e) = search rules
act_is_other (ActContent.ToBoard bytes) moves other (count, e) =
    rw e (all_replicate (λ move. ¬ (IsHostBreak move)) count Move.Take (λ is. is))
act_is_other (ActContent.ToHost bytes) moves other (count, e) =
    rw e (all_replicate (λ move. ¬ (IsHostBreak move)) count Move.Hear (λ is. is))
act_is_other ActContent.Break moves other e = rw e (λ is. is, tt)
act_is_other ActContent.HostBreak moves other e = absurd (other refl)

pub step_is_other : (act : ActContent) (outcome : Outcome) (moves : List Move)
    → act ≢ ActContent.HostBreak → AreMovesOfStep act outcome moves
    → AllByRecursion (λ move. ¬ (IsHostBreak move)) moves
step_is_other act outcome moves other are = search (rules, act_is_other)

pub run_is_other : (acts : List ActContent) (outcomes : List Outcome) (moves : List Move)
    → ¬ (Contains acts ActContent.HostBreak) → AreMovesOfRun acts outcomes moves
    → AllByRecursion (λ move. ¬ (IsHostBreak move)) moves
run_is_other [] [] moves none e = rw e tt
run_is_other (act ∷ acts) (outcome ∷ outcomes) moves none (first, later, are, follow, e) = rw e
    (all_append (λ move. ¬ (IsHostBreak move)) first later
    (step_is_other act outcome first (λ is. none (0, omega arith, is)) are)
    (run_is_other acts outcomes later (λ has. none (suc has.0, omega (arith, has.1), has.2))
    follow))
run_is_other _ _ moves none are = absurd are

-- ---- a picture to come stays so

moves_keep_coming : (x : MachineState) (moves : List Move)
    → AllByRecursion (λ move. move ≢ Move.Break) moves → PictureIsComing x
    → PictureIsComing (after_moves x moves)
moves_keep_coming x [] others coming = coming
moves_keep_coming x (move ∷ moves) others coming =
    moves_keep_coming (after_move x move) moves others.1
    (picture_keeps_coming x move others.0 coming)

pub step_keeps_coming : (x : MachineState) (act : ActContent) (outcome : Outcome)
    (moves : List Move) → act ≢ ActContent.Break → AreMovesOfStep act outcome moves
    → PictureIsComing x → PictureIsComing (after_moves x moves)
step_keeps_coming x act Outcome.Done moves other are coming =
    moves_keep_coming x moves (act_is_no_break act moves other are) coming
step_keeps_coming x act _ moves other e coming = rw e coming
