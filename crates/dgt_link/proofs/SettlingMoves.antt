-- From each sound state takes, sendings and hears lead to a quiet one.
use Rattle.std.{proofs.{Common.{arith, ◌≡◌, ◌≢◌, refl, ◌∙◌, ◌⊎◌, inl, inr, ℕ, ◌<◌, ◌≤◌, zero, suc, List, [], ◌∷◌, Some, None, Option, rules}, lemmas.Grind.{common_steps}}, specs.List.{AllByRecursion}}
use Rattle.{dgt_message.specs.Content.{Content}, dgt_command.specs.Content.{EventContent}, dgt_board.specs.{Sending.{next_message}, declared.modes.Mode.{Mode}}, dgt_link.specs.Machine.{MachineState}}
use Rattle.dgt_link.specs.{Machine.{after_move, after_moves, IsSending, Move}, Promise.{IsPromised, IsQuiet, PictureIsComing, coming_mode, mode_after, requests}, Settling.{IsSettlingMove, SettlesBy}}
use Rattle.dgt_link.{specs.{Settling.{moves_left}, Sound.{IsSound}}, proofs.{AfterMoves.{moves_sound}, Backlogs.{BacklogFalls, BacklogRises}, Promises.{move-mode, picture_keeps_coming}}}
use Rattle.dgt_link.proofs.{Quiet.{promised_picture}, Sending.{next_is_sent}, Soundness.{move_sound}, Taking.{HasSameGame}, WorldsByState.{nothing_first}}

sending_settles : (move : Move) → IsSending move → IsSettlingMove move
sending_settles move is = search rules

-- ---- a move closer

-- a move after which fewer are left
abbrev NearerBy : MachineState → Move → Type 0
NearerBy x move = IsSettlingMove move × (moves_left (after_move x move) < moves_left x)

hears_nearer : (x : MachineState) (message : Content) (later : List Content)
    → x.up ≡ message ∷ later → NearerBy x Move.Hear
hears_nearer x message later e = (tt, rw e (omega arith))

module _ (falls : BacklogFalls) (rises : BacklogRises) where
  sends_nearer : (x : MachineState) (message : Content) → IsSound x
      → next_message x.board ≡ Some message → (move : Move) × NearerBy x move
  sends_nearer x message sound e =
      let sent = next_is_sent x message e in
      grind (arith, common_steps, sending_settles)

  takes_nearer : (x : MachineState) (event : EventContent) (later : List EventContent)
      → x.down ≡ event ∷ later → NearerBy x Move.Take
  takes_nearer x event later e =
      let more = rises x.board (event ∷ []) in
      (tt, rw e (omega (arith, more)))

  -- a state is quiet, or a move leads closer
  nearer : (x : MachineState) → IsSound x → IsQuiet x ⊎ ((move : Move) × NearerBy x move)
  nearer x sound = up x.up refl
    where
      down : x.up ≡ [] → next_message x.board ≡ None → (events : List EventContent)
          → x.down ≡ events → IsQuiet x ⊎ ((move : Move) × NearerBy x move)
      down none_up none [] e = inl (search (rules, nothing_first))
      down none_up none (event ∷ later) e = inr (Move.Take, takes_nearer x event later e)

      next : x.up ≡ [] → (message : Option Content) → next_message x.board ≡ message
          → IsQuiet x ⊎ ((move : Move) × NearerBy x move)
      next none_up None e = down none_up e x.down refl
      next none_up (Some message) e = inr (sends_nearer x message sound e)

      up : (messages : List Content) → x.up ≡ messages
          → IsQuiet x ⊎ ((move : Move) × NearerBy x move)
      up [] e = next e (next_message x.board) refl
      up (message ∷ later) e = inr (Move.Hear, hears_nearer x message later e)

  further : (x : MachineState) (move : Move) (moves : List Move) → NearerBy x move
      → SettlesBy moves (after_move x move) → SettlesBy (move ∷ moves) x
  further x move moves (is, less) settles = search rules

  reached_within : (most : ℕ) (x : MachineState) → IsSound x → moves_left x ≤ most
      → (moves : List Move) × SettlesBy moves x
  reached_within zero x sound few = grind (arith, common_steps)
  reached_within (suc most) x sound few = go (reached_within most) (nearer x sound)
    where
      go : ((y : MachineState) → IsSound y → moves_left y ≤ most
          → (moves : List Move) × SettlesBy moves y)
          → IsQuiet x ⊎ ((move : Move) × NearerBy x move) → (moves : List Move) × SettlesBy moves x
      go rest (inl quiet) = ([], record { settling = tt; few = omega arith; quiet = quiet })
      go rest (inr (move, (is, less))) =
          let later =
          rest (after_move x move) (move_sound x move sound) (omega (arith, less, few)) in
          (move ∷ later.0, further x move later.0 (is, less) later.1)

  pub quiet_is_reached : (x : MachineState) → IsSound x → (moves : List Move) × SettlesBy moves x
  quiet_is_reached x sound = reached_within (moves_left x) x sound (omega arith)

-- ---- what such moves keep

move_same_game : (x : MachineState) (move : Move) → IsSettlingMove move
    → HasSameGame x.board (after_move x move).board
move_same_game x move is = search rules

settling_keeps_mode : (before : Mode) (move : Move) → IsSettlingMove move
    → mode_after before (requests move) ≡ before
settling_keeps_mode before move is = search rules

settling_breaks_nothing : (move : Move) → IsSettlingMove move → move ≢ Move.Break
settling_breaks_nothing move is = search rules

pub settling_squares : (x : MachineState) (moves : List Move) → AllByRecursion IsSettlingMove moves
    → (after_moves x moves).board.squares ≡ x.board.squares
settling_squares x [] all = refl
settling_squares x (move ∷ moves) all =
    settling_squares (after_move x move) moves all.1 ∙ (move_same_game x move all.0).squares

pub settling_clock : (x : MachineState) (moves : List Move) → AllByRecursion IsSettlingMove moves
    → (after_moves x moves).board.clock ≡ x.board.clock
settling_clock x [] all = refl
settling_clock x (move ∷ moves) all =
    settling_clock (after_move x move) moves all.1 ∙ (move_same_game x move all.0).clock

pub settling_mode : (x : MachineState) (moves : List Move) → AllByRecursion IsSettlingMove moves
    → coming_mode (after_moves x moves) ≡ coming_mode x
settling_mode x [] all = refl
settling_mode x (move ∷ moves) all =
    settling_mode (after_move x move) moves all.1 ∙ move-mode x move
    ∙ settling_keeps_mode (coming_mode x) move all.0

settling_comes : (x : MachineState) (moves : List Move) → AllByRecursion IsSettlingMove moves
    → PictureIsComing x → PictureIsComing (after_moves x moves)
settling_comes x [] all comes = comes
settling_comes x (move ∷ moves) all comes = settling_comes (after_move x move) moves all.1
    (picture_keeps_coming x move (settling_breaks_nothing move all.0) comes)

pub settling_picture : (x : MachineState) (moves : List Move) → IsSound x → IsPromised x
    → AllByRecursion IsSettlingMove moves → IsQuiet (after_moves x moves)
    → (after_moves x moves).picture ≡ Some x.board.squares
settling_picture x moves sound promised all quiet =
    let promised' : IsPromised (after_moves x moves)
    = search (rules, settling_comes, settling_mode) in
    search (rules, promised_picture, moves_sound, settling_squares)
