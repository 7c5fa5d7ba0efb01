-- An act leads a world that stands for a state to one for a state that the machine reaches by it.
use Rattle.std.proofs.{Common.{◌≡◌, ◌≢◌, refl, sym, ap, ◌∙◌, ℕ, ◌≤◌, List, [], ◌∷◌, ◌++◌, length, take, drop, replicate, append_assoc, rules}, lemmas.{Grind.{flat_map-append}}}
use Rattle.{std.{proofs.lemmas.List.{take-append-drop}, specs.{Prelude.{Contains, map}}}, dgt_values.specs.declared.pieces.Piece.{Piece}, dgt_message.specs.Clock.{ClockState}}
use Rattle.{dgt_message.specs.{Content.{Content}, Encoding.{Encodes, encoding}}, dgt_command.specs.{Content.{CommandContent, EventContent}, Words.{Divides, IsPartial}}}
use Rattle.{dgt_board.specs.{Sending.{after_sending, next_message}, State.{IdentityContent, BoardState, effect, effects}, View.{BoardView, HasTaken}}, dgt_host.specs.Host.{HostView}}
use Rattle.{dgt_host.specs.Host.{host_after_message, follow_bytes}, dgt_link.specs.{Act.{ActContent}, Machine.{Move, MachineState, commands_anew, after_move, after_moves, new_state, after_hear}}}
use Rattle.dgt_link.specs.{Machine.{after_take}, Readers.{Grammars}, Stands.{AreEncoded, IsExactWorld, IsWorld, StandsFor, StandsAfterRun, StandsAfterStep}, Step.{Becomes, Runs, Step}}
use Rattle.dgt_link.{specs.{View.{WorldView, new_world}, declared.{acts.Outcome.{Outcome}, world.TheConstants.{MIN_DOWN, MIN_UP}}}, proofs.AfterMoves.{moves_exact, moves_sound}}
use Rattle.dgt_link.proofs.{Asking.{run_is_other, step_is_other}, Dividing.{anew_divides, divides_command}, Hearing.{heard_of, heard_prefix, host_after_messages}, Lists.{all_append}}
use Rattle.{dgt_link.proofs.{PromisedActs.{StepsAreMoves}, Sending.{next_is_sent}, Soundness.{move_sound, new_exact}}, dgt_decode.specs.Grammar.{events}}

pub moves-append : (x : MachineState) (moves more : List Move)
    → after_moves x (moves ++ more) ≡ after_moves (after_moves x moves) more
moves-append x [] more = refl
moves-append x (move ∷ moves) more = moves-append (after_move x move) moves more

-- ---- the machine takes what the board took, and hears what the host heard

abbrev pub taken_state : MachineState → List EventContent → List EventContent → MachineState
taken_state x events left = record x { board = effects x.board events; down = left }

pub takes : (events left : List EventContent) (x : MachineState) → x.down ≡ events ++ left
    → after_moves x (replicate (length events) Move.Take) ≡ taken_state x events left
takes [] left x e = ap (λ (down : List EventContent). record x { down = down }) e
takes (event ∷ events) left x e =
    let first : after_move x Move.Take
    ≡ record x { board = effect x.board event; down = events ++ left }
    = ap (after_take x) e in
    ap (λ (y : MachineState). after_moves y (replicate (length events) Move.Take)) first
    ∙ takes events left (record x { board = effect x.board event; down = events ++ left }) refl

-- the host's part of a state
abbrev pub with_host : MachineState → HostView → List Content → MachineState
with_host x host left =
    record x { picture = host.picture; host_clock = host.clock; awaited = host.awaited; up = left }

pub record IsHostOf (host : HostView) (x : MachineState) : Type 0 where
  pub picture : host.picture ≡ x.picture
  pub clock : host.clock ≡ x.host_clock
  pub awaited : host.awaited ≡ x.awaited

pub hears : (messages left : List Content) (x : MachineState) (host : HostView)
    → x.up ≡ messages ++ left → IsHostOf host x
    → after_moves x (replicate (length messages) Move.Hear)
    ≡ with_host x (host_after_messages host messages) left
hears [] left x host e of = rw (← e, of.picture, of.clock, of.awaited) refl
hears (message ∷ messages) left x host e of =
    let after = host_after_message host message in
    let first : after_move x Move.Hear ≡ with_host x after (messages ++ left)
    = ap (after_hear x) e ∙ rw (of.picture, of.clock, of.awaited) refl in
    ap (λ (y : MachineState). after_moves y (replicate (length messages) Move.Hear)) first
    ∙ hears messages left (with_host x after (messages ++ left)) after refl (search rules)

-- a prefix of a line, and the rest of it
pub prefix_of : (held bytes : List ℕ) (count : ℕ)
    → held ++ bytes ≡ (held ++ take count bytes) ++ drop count bytes
prefix_of held bytes count = search (rules, take-append-drop, append_assoc)

-- the machine takes what the board took of this many bytes
pub record IsTakenAs (world : WorldView) (moved : ℕ) (view : BoardView) (x : MachineState) : Type
    0 where
  pub events : List EventContent
  pub left : List EventContent
  pub all : x.down ≡ events ++ left
  pub led : after_moves x (replicate (length events) Move.Take) ≡ taken_state x events left
  pub board : view.state ≡ effects x.board events
  pub down : Divides (view.partial ++ drop moved world.down.bytes) left []
  pub partial : IsPartial view.partial

-- ---- a new world

pub new_stands : IsPartial []
    → (position : List Piece) (clock : ClockState) (identity : IdentityContent) (up down : ℕ)
    → length position ≡ 64
    → StandsFor (new_world position clock identity up down) (new_state position clock identity)
new_stands nothing position clock identity up down squares = search rules

pub new_is_world : IsPartial []
    → (position : List Piece) (clock : ClockState) (identity : IdentityContent) (up down : ℕ)
    → length position ≡ 64 → MIN_UP ≤ up → MIN_DOWN ≤ down
    → IsWorld (new_world position clock identity up down)
new_is_world nothing position clock identity up down squares up_room down_room = record {
  state = new_state position clock identity;
  stands = new_stands nothing position clock identity up down squares;
  up_room = up_room;
  down_room = down_room;
}

pub new_is_exact : IsPartial []
    → (position : List Piece) (clock : ClockState) (identity : IdentityContent) (up down : ℕ)
    → length position ≡ 64 → IsExactWorld (new_world position clock identity up down)
new_is_exact nothing position clock identity up down squares = record {
  state = new_state position clock identity;
  stands = new_stands nothing position clock identity up down squares;
  exact = new_exact position clock identity squares;
}

-- ---- an act that is done

encoded_more : (bytes : List ℕ) (messages : List Content) (message : Content)
    → Encodes message (encoding message) → AreEncoded messages bytes
    → AreEncoded (messages ++ message ∷ []) (bytes ++ encoding message)
encoded_more bytes messages message encodes encoded = search (rules, all_append, flat_map-append)

change_reaches : (world : WorldView) (square : ℕ) (piece : Piece) (after : WorldView)
    (x : MachineState) → StandsFor world x → Becomes (ActContent.Change square piece) world after
    → StandsAfterStep (ActContent.Change square piece) Outcome.Done x after
change_reaches world square piece after x stands same = search rules

clock_reaches : (world : WorldView) (clock : ClockState) (after : WorldView) (x : MachineState)
    → StandsFor world x → Becomes (ActContent.ClockRead clock) world after
    → StandsAfterStep (ActContent.ClockRead clock) Outcome.Done x after
clock_reaches world clock after x stands same = search rules

module _ (laws : Grammars) where
  ask_reaches : (world : WorldView) (command : CommandContent) (after : WorldView)
      (x : MachineState) → StandsFor world x → Becomes (ActContent.Host command) world after
      → StandsAfterStep (ActContent.Host command) Outcome.Done x after
  ask_reaches world command after x stands (encodes, same) =
      let sound = move_sound x (Move.Ask command) stands.sound in
      search (rules, divides_command)

  send_reaches : (world after : WorldView) (x : MachineState) → StandsFor world x
      → Becomes ActContent.BoardSend world after
      → StandsAfterStep ActContent.BoardSend Outcome.Done x after
  send_reaches world after x stands (message, is_next, encodes, same) =
      let by = next_is_sent x message (ap next_message (sym stands.board) ∙ is_next) in
      let sound = rw by.2 at (move_sound x by.0 stands.sound) in
      let board = ap (λ (state : BoardState). after_sending state message) stands.board in
      let up = rw (append_assoc world.host.unread world.up.bytes (encoding message)) at
      (encoded_more (world.host.unread ++ world.up.bytes) x.up message encodes stands.up) in
      (by.0 ∷ [], (by.0, by.1, refl), rw (same, by.2) assumption)

  pub taken_as : (world : WorldView) (moved : ℕ) (board : BoardView) (x : MachineState)
      → HasTaken world.board (take moved world.down.bytes) board → world.board.state ≡ x.board
      → Divides (world.board.partial ++ world.down.bytes) x.down [] → IsTakenAs world moved board x
  taken_as world moved board x taken same divides =
      let prefix = laws.prefixes_divide_first (world.board.partial ++ take moved world.down.bytes)
      (drop moved world.down.bytes) taken.events x.down board.partial [] taken.divided
      (rw (prefix_of world.board.partial world.down.bytes moved) at divides) in
      record {
        events = taken.events;
        left = prefix.0;
        all = prefix.1;
        led = takes taken.events prefix.0 x prefix.1;
        board = taken.state ∙ ap (λ (state : BoardState). effects state taken.events) same;
        down = prefix.2;
        partial = search rules;
      }

  take_reaches : (world : WorldView) (count : ℕ) (after : WorldView) (x : MachineState)
      → StandsFor world x → Becomes (ActContent.ToBoard count) world after
      → StandsAfterStep (ActContent.ToBoard count) Outcome.Done x after
  take_reaches world count after x stands delivers =
      let taken =
      taken_as world delivers.moved delivers.board x delivers.taken stands.board stands.down in
      let moves : List Move = replicate (length taken.events) Move.Take in
      let sound = rw taken.led at (moves_sound x moves stands.sound) in
      (moves, (length taken.events, refl), rw (delivers.leaves, taken.led) assumption)

  hear_reaches : (world : WorldView) (count : ℕ) (after : WorldView) (x : MachineState)
      → StandsFor world x → Becomes (ActContent.ToHost count) world after
      → StandsAfterStep (ActContent.ToHost count) Outcome.Done x after
  hear_reaches world count after x stands same =
      let bytes = world.host.unread ++ take count world.up.bytes in
      let prefix = heard_prefix laws.reads bytes (drop count world.up.bytes) x.up
      (rw (prefix_of world.host.unread world.up.bytes count) at stands.up) in
      let moves : List Move = replicate (length prefix.heard) Move.Hear in
      let led : after_moves x moves
      ≡ with_host x (host_after_messages world.host prefix.heard) prefix.left =
      search (rules, hears) in (search (rules, heard_of, moves_sound))

  break_reaches : (world after : WorldView) (x : MachineState) → StandsFor world x
      → Becomes ActContent.Break world after → StandsAfterStep ActContent.Break Outcome.Done x after
  break_reaches world after x stands same = search rules

  host_break_reaches : (world after : WorldView) (x : MachineState) → StandsFor world x
      → Becomes ActContent.HostBreak world after
      → StandsAfterStep ActContent.HostBreak Outcome.Done x after
  host_break_reaches world after x stands same =
      let noise = laws.zeros_settle world.board.partial stands.partial in (
        Move.HostBreak noise.0 noise.1 ∷ [],
        (noise.0, noise.1, refl),
        rw same
            (record {
              sound = move_sound x (Move.HostBreak noise.0 noise.1) stands.sound;
              board = stands.board;
              picture = refl;
              clock = refl;
              awaited = refl;
              up = record { are_messages = tt; in_a_row = refl };
              down = rw (append_assoc world.board.partial (replicate 255 0) follow_bytes) at
                  (laws.divisions_append (world.board.partial ++ replicate 255 0) follow_bytes
                  noise.0
                  (map EventContent.Read commands_anew) [] [] noise.2 (anew_divides laws.nothing));
              partial = stands.partial;
            }),
      )

  done_reaches : (act : ActContent) (world after : WorldView) (x : MachineState) → StandsFor world x
      → Becomes act world after → StandsAfterStep act Outcome.Done x after
  done_reaches (ActContent.Change square piece) world after x stands becomes =
      change_reaches world square piece after x stands becomes
  done_reaches (ActContent.ClockRead clock) world after x stands becomes =
      clock_reaches world clock after x stands becomes
  done_reaches (ActContent.Host command) world after x stands becomes =
      ask_reaches world command after x stands becomes
  done_reaches ActContent.BoardSend world after x stands becomes =
      send_reaches world after x stands becomes
  done_reaches (ActContent.ToBoard count) world after x stands becomes =
      take_reaches world count after x stands becomes
  done_reaches (ActContent.ToHost count) world after x stands becomes =
      hear_reaches world count after x stands becomes
  done_reaches ActContent.Break world after x stands becomes =
      break_reaches world after x stands becomes
  done_reaches ActContent.HostBreak world after x stands becomes =
      host_break_reaches world after x stands becomes

  pub step_stands : (act : ActContent) (world : WorldView) (answer : Outcome) (after : WorldView)
      (x : MachineState) → StandsFor world x → Step act world answer after
      → StandsAfterStep act answer x after
  step_stands act world Outcome.Done after x stands step =
      done_reaches act world after x stands step.leaves
  step_stands act world _ after x stands step = ([], refl, rw step.leaves stands)

  pub run_stands : (acts : List ActContent) (world : WorldView) (answers : List Outcome)
      (after : WorldView) (x : MachineState) → StandsFor world x → Runs acts world answers after
      → StandsAfterRun acts answers x after
  run_stands [] world [] after x stands same = ([], refl, rw same stands)
  run_stands (act ∷ acts) world (answer ∷ answers) after x stands (between, step, runs) =
      let first = step_stands act world answer between x stands step in
      let rest = run_stands acts between answers after (after_moves x first.0) first.2 runs in (
        first.0 ++ rest.0,
        (first.0, rest.0, first.1, rest.1, refl),
        rw (moves-append x first.0 rest.0) rest.2,
      )
  run_stands _ world _ after x stands none = absurd none

-- ---- what is kept

module _ (moves : StepsAreMoves) where
  -- an act leads to a world
  pub step_is_world : (act : ActContent) (world after : WorldView) (answer : Outcome)
      → IsWorld world → Step act world answer after → IsWorld after
  step_is_world act world after answer is step = search rules

  pub step_keeps_exact : (act : ActContent) (world after : WorldView) (answer : Outcome)
      → act ≢ ActContent.HostBreak → IsExactWorld world → Step act world answer after
      → IsExactWorld after
  step_keeps_exact act world after answer other is step = search (rules, moves_exact, step_is_other)

  -- a break makes a world exact
  pub break_is_exact : (world after : WorldView) (answer : Outcome) → IsWorld world
      → Step ActContent.Break world answer after → IsExactWorld after
  break_is_exact world after answer is step =
      let reached = moves ActContent.Break world after answer is.state is.stands step in
      search rules

pub run_keeps_exact : ((acts : List ActContent) (world after : WorldView) (answers : List Outcome)
    (x : MachineState) → StandsFor world x → Runs acts world answers after
    → StandsAfterRun acts answers x after)
    → (acts : List ActContent) (world after : WorldView) (answers : List Outcome)
    → ¬ (Contains acts ActContent.HostBreak) → IsExactWorld world → Runs acts world answers after
    → IsExactWorld after
run_keeps_exact moves acts world after answers none is runs =
    search (rules, moves_exact, run_is_other)
