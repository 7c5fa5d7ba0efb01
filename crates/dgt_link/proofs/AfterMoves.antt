-- Facts after any moves.
use Rattle.std.{proofs.Common.{◌≡◌, refl, List, [], ◌∷◌, ◌++◌, Option, Some, None, rules}, specs.{List.{AllByRecursion}, Prelude.{flat_map, unwrap_or}}}
use Rattle.{dgt_command.specs.Content.{CommandContent}, dgt_board.specs.{State.{command_mode}, declared.modes.Mode.{Mode}}, dgt_link.specs.Machine.{IsHostBreak, MachineState, Move, after_move}}
use Rattle.dgt_link.{specs.{Machine.{after_moves}, Promise.{IsAsked, IsPromised, IsQuiet, coming_mode, commands_after, mode_after, requests}, Sound.{IsSound, IsExact}}, proofs.Promises.{IsComing}}
use Rattle.dgt_link.proofs.{Promises.{coming_promise, move-mode, move_comes, nothing_asked}, Quiet.{promised_picture}, Soundness.{move_sound, move_exact}}

pub moves_sound : (x : MachineState) (moves : List Move) → IsSound x → IsSound (after_moves x moves)
moves_sound x [] sound = sound
moves_sound x (move ∷ moves) sound = moves_sound (after_move x move) moves (move_sound x move sound)

pub moves_exact : (x : MachineState) (moves : List Move)
    → AllByRecursion (λ move. ¬ (IsHostBreak move)) moves → IsExact x
    → IsExact (after_moves x moves)
moves_exact x [] others exact = exact
moves_exact x (move ∷ moves) others exact =
    moves_exact (after_move x move) moves others.1 (move_exact x move others.0 exact)

-- ---- the requests of moves

pub commands_after-append : (before : List CommandContent)
    (asked more : List (Option CommandContent))
    → commands_after before (asked ++ more) ≡ commands_after (commands_after before asked) more
commands_after-append before [] more = refl
commands_after-append before (None ∷ asked) more = commands_after-append [] asked more
commands_after-append before (Some command ∷ asked) more =
    commands_after-append (before ++ command ∷ []) asked more

mode_after-append : (before : Mode) (asked more : List (Option CommandContent))
    → mode_after before (asked ++ more) ≡ mode_after (mode_after before asked) more
mode_after-append before [] more = refl
mode_after-append before (None ∷ asked) more = mode_after-append Mode.Idle asked more
mode_after-append before (Some command ∷ asked) more =
    mode_after-append (unwrap_or (command_mode command) before) asked more

pub moves_come : (commands : List CommandContent) (x : MachineState) (moves : List Move)
    → IsComing commands x
    → IsComing (commands_after commands (flat_map requests moves)) (after_moves x moves)
moves_come commands x [] coming = coming
moves_come commands x (move ∷ moves) coming =
    rw (commands_after-append commands (requests move) (flat_map requests moves))
    (moves_come (commands_after commands (requests move)) (after_move x move) moves
    (move_comes commands x move coming))

pub moves-mode : (x : MachineState) (moves : List Move)
    → coming_mode (after_moves x moves) ≡ mode_after (coming_mode x) (flat_map requests moves)
moves-mode x [] = refl
moves-mode x (move ∷ moves) =
    search (rules, move-mode, mode_after-append, moves-mode (after_move x move) moves)

pub moves_promise : (x : MachineState) (moves : List Move)
    → IsAsked (commands_after [] (flat_map requests moves)) → IsPromised (after_moves x moves)
moves_promise x moves asked = search (rules, coming_promise, moves_come, nothing_asked)

pub moves_picture : (x : MachineState) (moves : List Move) → IsSound x
    → IsAsked (commands_after [] (flat_map requests moves)) → IsQuiet (after_moves x moves)
    → (after_moves x moves).picture ≡ Some (after_moves x moves).board.squares
moves_picture x moves sound asked quiet =
    promised_picture (after_moves x moves) (moves_sound x moves sound) (moves_promise x moves asked)
    quiet
