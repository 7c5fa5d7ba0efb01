-- What a world at fault keeps, and how a host that starts over, or requests a dump, knows the board
-- again.
use Rattle.std.proofs.Common.{◌≡◌, ◌≢◌, ◌⊎◌, refl, sym, ap, ◌∙◌, inl, inr, ℕ, List, [], ◌∷◌, ◌++◌, length, drop, replicate, map, Option, Some, false, true, Bool, append_assoc, arith}
use Rattle.std.proofs.{Common.{rules}, lemmas.{Bool.{false≢true}, Grind.{common_steps}, List.{append-nil, Elements.{filter_map-append, Contains-append_right, Contains-push_cases}}}}
use Rattle.{std.specs.{List.{flat_map}, Prelude.{IsTrue, Contains, filter, filter_map}}, dgt_values.specs.declared.kinds.Kind.{Kind}, dgt_message.specs.Content.{Content}}
use Rattle.{dgt_message.specs.Encoding.{encoding}, dgt_command.specs.{Content.{CommandContent, EventContent}, Encoding.{AreBytes}, Laws.{EachDividesOnce}, Words.{Divides}}}
use Rattle.{dgt_command.{specs.Words.{IsNoiseList, IsPartial}, proofs.DivisionLemmas.{bytes_append, bytes_left, bytes_right}}, dgt_board.specs.{Sending.{pending_messages}, State.{BoardState}}}
use Rattle.{dgt_board.specs.{State.{after_line_lost, command_mode, effects, follows_clock}, declared.modes.Mode.{Mode}}, dgt_host.specs.Host.{follow_bytes, restart_bytes}}
use Rattle.dgt_link.specs.{Act.{ActContent}, Clocks.{ClockIsComing}, Faults.{FaultyBecomes, FaultyContent, FaultyRuns, FaultyStep, is_break}, Healing.{AwaitsWhatComes, Counted, IsFaultyWorld}}
use Rattle.dgt_link.specs.Healing.{IsInStep, IsInTurn, IsInTurnWorld, IsSane, StandsBehind, StandsWith, counted_after, counted_after_all, counted_by, nothing_counted, sets_mode}
use Rattle.dgt_link.specs.{Machine.{MachineState, Move, after_move, after_moves, commands_anew, state_of_board}, Promise.{IsQuiet, act_requests, commands_after, event_mode, last_mode}}
use Rattle.dgt_link.specs.{Readers.{Grammars}, Sound.{IsSound, IsSubsequence, IsUnknownOr, coming_kinds, kind_of_event, kind_of_reply}, Stands.{AreMovesOfStep, IsWorld, StandsFor}, Step.{Becomes}}
use Rattle.dgt_link.{specs.{Step.{Runs, Step}, View.{IsQuietWorld, LineContents, WorldView, line_holding}, declared.acts.Outcome.{Outcome}}, proofs.AfterMoves.{moves_come, moves_sound}}
use Rattle.dgt_link.proofs.{Asking.{requests-step}, Behind.{awaiting, step_behind}, Clocks.{clock_is_asked, step_keeps_clock}, Dividing.{anew_divides}, Lists.{nothing_contained, right_empty}}
use Rattle.dgt_link.proofs.{Promises.{IsComing, last_mode-append, nothing_asked}, Quiet.{quiet_awaited}, Sending.{next_is_sent}, Soundness.{asked_sound, board_sound, move_sound}}
use Rattle.dgt_link.proofs.{Soundness.{noise-kinds}, Standing.{taken_state, takes}, Subsequences.{subsequence_at_end}, WorldsByState.{nothing_first}}

-- ---- bytes

bytes_drop : (count : ℕ) (xs : List ℕ) → AreBytes xs → AreBytes (drop count xs)
bytes_drop count xs h = grind (arith, common_steps)

no_bytes : AreBytes []
no_bytes i = omega arith

bytes_zeros : (count : ℕ) → AreBytes (replicate count 0)
bytes_zeros count = grind (arith, common_steps)

bytes_follow : AreBytes (0x44 ∷ 0x42 ∷ [])
bytes_follow = search rules

bytes_restart : AreBytes restart_bytes
bytes_restart = bytes_append (replicate 255 0) follow_bytes (bytes_zeros 255) bytes_follow

-- ---- a world at fault stays sane

-- the state that knows nothing of what its board has sent, with these commands under way
abbrev commanded_state : BoardState → List EventContent → MachineState
commanded_state board events = record (state_of_board board) { down = events }

commanded_sound : (x : MachineState) (events : List EventContent) → IsSound x
    → IsSound (commanded_state x.board events)
commanded_sound x events sound =
    asked_sound (state_of_board x.board) events [] (board_sound x sound) tt

effects_sound : (board : BoardState) (events : List EventContent) → IsSound (state_of_board board)
    → IsSound (state_of_board (effects board events))
effects_sound board events sound =
    let x = commanded_state board events in
    let moves : List Move = replicate (length events) Move.Take in
    let led : after_moves x moves ≡ taken_state x events [] =
    takes events [] x (sym (append-nil events)) in
    commanded_sound (taken_state x events []) []
    (rw led at (moves_sound x moves (commanded_sound (state_of_board board) events sound)))

module _ (laws : Grammars) where
  becomes_sane : (act : ActContent) (world after : WorldView) → IsSane world
      → Becomes act world after → IsSane after
  becomes_sane (ActContent.Change square piece) world after sane same = search rules
  becomes_sane (ActContent.ClockRead clock) world after sane same = search rules
  becomes_sane (ActContent.Host command) world after sane (encodes, same) =
      search (rules, bytes_append)
  becomes_sane ActContent.BoardSend world after sane (message, is_next, encodes, same) =
      let x = state_of_board world.board.state in
      let by = next_is_sent x message is_next in
      let sound : IsSound (state_of_board (after_move x by.0).board)
      = commanded_sound (after_move x by.0) [] (move_sound x by.0 sane.board) in
      rw same (assumption (rw by.2 at sound))
  becomes_sane (ActContent.ToBoard count) world after sane delivers =
      let taken = delivers.taken in
      rw delivers.leaves
      (record {
        board = rw taken.state (effects_sound world.board.state taken.events sane.board);
        partial = laws.left _ delivers.board.partial taken.events taken.divided;
        down = bytes_drop delivers.moved world.down.bytes sane.down;
      })
  becomes_sane (ActContent.ToHost count) world after sane same =
      rw same (record { board = sane.board; partial = sane.partial; down = sane.down })
  becomes_sane ActContent.Break world after sane same = search rules
  becomes_sane ActContent.HostBreak world after sane same =
      rw same (record { board = sane.board; partial = sane.partial; down = bytes_restart })

  faulty_sane : (act : FaultyContent) (world after : WorldView) → IsSane world
      → FaultyBecomes act world after → IsSane after
  faulty_sane (FaultyContent.Plain act) world after sane becomes =
      becomes_sane act world after sane becomes
  faulty_sane (FaultyContent.GarbleUp bytes) world after sane same =
      rw same (record { board = sane.board; partial = sane.partial; down = sane.down })
  faulty_sane (FaultyContent.GarbleDown bytes) world after sane (are, same) =
      rw same (record { board = sane.board; partial = sane.partial; down = are })
  faulty_sane FaultyContent.BoardLost world after sane same = search rules
  faulty_sane FaultyContent.GiveUp world after sane same =
      rw same (record { board = sane.board; partial = sane.partial; down = sane.down })
  faulty_sane FaultyContent.Restart world after sane same =
      rw same (assumption (bytes_append world.down.bytes restart_bytes sane.down bytes_restart))

  pub step_sane : (act : FaultyContent) (world : WorldView) (answer : Outcome) (after : WorldView)
      → IsSane world → FaultyStep act world answer after → IsSane after
  step_sane act world answer after sane step = search (rules, faulty_sane)

-- ---- what counts, and the state of the world after it

-- the world stands for a state after garbage, and what was requested arrives
pub record Follows (in_turn : Bool) (asked : List CommandContent) (world : WorldView) : Type 0 where
  pub garbage : List ℕ
  pub state : MachineState
  pub stands : StandsBehind garbage world state
  pub comes : IsComing asked state
  pub clock : Contains asked CommandContent.Clock → ClockIsComing state
  pub awaits : IsTrue in_turn → AwaitsWhatComes world state

-- what is kept
pub record Holds (c : Counted) (world : WorldView) : Type 0 where
  pub sane : IsSane world
  pub follows : IsTrue c.in_step → Follows c.in_turn c.asked world

-- facts of that state
pub follows_with : {in_turn : Bool} {asked : List CommandContent} {world : WorldView}
    (Q : MachineState → Type 0) (f : Follows in_turn asked world) → Q f.state → StandsWith Q world
follows_with Q f holds =
    record { garbage = f.garbage; state = f.state; stands = f.stands; holds = holds }

pub follows_in_step : (in_turn : Bool) (asked : List CommandContent) (world : WorldView)
    → Follows in_turn asked world → IsInStep world
follows_in_step in_turn asked world f = follows_with (λ x. Unit {0}) f tt

-- nothing was requested yet
pub in_step_follows : (world : WorldView) → IsInStep world → Follows false [] world
in_step_follows world is = search rules

-- a requested reading arrives, even if it was just requested
asked_clock : (asked : List CommandContent) (command : CommandContent) (x : MachineState)
    (moves : List Move) → AreMovesOfStep (ActContent.Host command) Outcome.Done moves
    → (Contains asked CommandContent.Clock → ClockIsComing x)
    → Contains (asked ++ command ∷ []) CommandContent.Clock → ClockIsComing (after_moves x moves)
asked_clock asked command x moves are clock has =
    elim (Contains-push_cases asked command CommandContent.Clock has) [
      | inl earlier ↦
          step_keeps_clock x (ActContent.Host command) Outcome.Done moves refl are (clock earlier)
      | inr is ↦ clock_is_asked x moves (rw is at are)
    ]

clock_comes : (act : ActContent) (answer : Outcome) (x : MachineState) (moves : List Move)
    (asked : List CommandContent) → is_break act ≡ false → AreMovesOfStep act answer moves
    → (Contains asked CommandContent.Clock → ClockIsComing x)
    → Contains (commands_after asked (act_requests answer act)) CommandContent.Clock
    → ClockIsComing (after_moves x moves)
clock_comes (ActContent.Host command) Outcome.Done x moves asked other are clock has =
    asked_clock asked command x moves are clock has
clock_comes ActContent.Break Outcome.Done x moves asked other are clock has = cc
clock_comes ActContent.HostBreak Outcome.Done x moves asked other are clock has = cc
clock_comes act Outcome.Done x moves asked other are clock has =
    step_keeps_clock x act Outcome.Done moves other are (clock has)
clock_comes act answer x moves asked other are clock has =
    step_keeps_clock x act answer moves other are (clock has)

-- an act that isn't a break
plain_follows : Grammars
    → (act : ActContent) (world : WorldView) (answer : Outcome) (after : WorldView) (in_turn : Bool)
    (asked : List CommandContent) → is_break act ≡ false → Follows in_turn asked world
    → Step act world answer after
    → Follows in_turn (commands_after asked (act_requests answer act)) after
plain_follows laws act world answer after in_turn asked other f step =
    let reached = step_behind laws act f.garbage world answer after f.state other f.stands step in
    record {
      garbage = reached.0;
      state = after_moves f.state reached.1;
      stands = reached.3;
      comes =
          rw (requests-step act answer reached.1 reached.2) at (moves_come asked f.state reached.1
          f.comes);
      clock = clock_comes act answer f.state reached.1 asked other reached.2 f.clock;
      awaits = λ turn. reached.4 (f.awaits turn);
    }

-- ---- the up line is at fault

other_is_out : (other : CommandContent) → sets_mode other ≡ false → (commands : List CommandContent)
    → Contains (filter sets_mode commands) other → ⊥
other_is_out other none [] has = nothing_contained other has
other_is_out other none (CommandContent.Reset ∷ commands) has =
    search (rules, other_is_out other none commands)
other_is_out other none (CommandContent.Update ∷ commands) has =
    search (rules, other_is_out other none commands)
other_is_out other none (CommandContent.UpdateBoard ∷ commands) has =
    search (rules, other_is_out other none commands)
other_is_out other none (CommandContent.UpdateNice ∷ commands) has =
    search (rules, other_is_out other none commands)
other_is_out other none (_ ∷ commands) has = other_is_out other none commands has

modes_stay : (commands : List CommandContent)
    → filter_map command_mode (filter sets_mode commands) ≡ filter_map command_mode commands
modes_stay [] = refl
modes_stay (command ∷ commands) = search (rules, modes_stay commands)

-- the state that knows nothing of what its board has sent
abbrev pub forgotten : MachineState → MachineState
forgotten x = commanded_state x.board x.down

-- everything under way to the host may count as garbage
pub forgotten_stands : (garbage : List ℕ) (world : WorldView) (up : LineContents) (x : MachineState)
    → StandsBehind garbage world x
    → StandsBehind (world.host.unread ++ up.bytes) (record world { up = up }) (forgotten x)
forgotten_stands garbage world up x stands = search rules

-- garbage replaces what is under way to the host
pub garbled_stands : (bytes : List ℕ) (world after : WorldView) (garbage : List ℕ)
    (x : MachineState) → StandsBehind garbage world x
    → FaultyBecomes (FaultyContent.GarbleUp bytes) world after
    → StandsBehind (world.host.unread ++ bytes) after (forgotten x)
garbled_stands bytes world after garbage x stands same =
    rw same (forgotten_stands garbage world (line_holding bytes world.up.capacity) x stands)

garbled_follows : (in_turn : Bool) (asked : List CommandContent) (bytes : List ℕ)
    (world after : WorldView) → Follows in_turn asked world
    → FaultyBecomes (FaultyContent.GarbleUp bytes) world after
    → Follows false (filter sets_mode asked) after
garbled_follows in_turn asked bytes world after f same = record {
  garbage = world.host.unread ++ bytes;
  state = forgotten f.state;
  stands = garbled_stands bytes world after f.garbage f.state f.stands same;
  comes = record {
    picture = λ has. absurd (other_is_out CommandContent.Dump refl asked has);
    before = f.comes.before;
    mode = f.comes.mode ∙ sym (ap (last_mode f.comes.before) (modes_stay asked));
  };
  clock = λ has. absurd (other_is_out CommandContent.Clock refl asked has);
  awaits = λ none. absurd (false≢true none);
}

-- the awaited replies of the host don't affect the state of its world
pub given_up_stands : (world after : WorldView) (garbage : List ℕ) (x : MachineState)
    → StandsBehind garbage world x → FaultyBecomes FaultyContent.GiveUp world after
    → StandsBehind garbage after x
given_up_stands world after garbage x stands same = search rules

given_up_follows : (in_turn : Bool) (asked : List CommandContent) (world after : WorldView)
    → Follows in_turn asked world → FaultyBecomes FaultyContent.GiveUp world after
    → Follows true asked after
given_up_follows in_turn asked world after f same = record {
  garbage = f.garbage;
  state = f.state;
  stands = given_up_stands world after f.garbage f.state f.stands same;
  comes = f.comes;
  clock = f.clock;
  awaits = λ turn. rw same tt;
}

-- ---- a break, and a host that starts over

module _ (laws : Grammars) where
  pub break_follows : (world after : WorldView) → IsSane world
      → Becomes ActContent.Break world after → Follows true [] after
  break_follows world after sane same = rw same (record {
    garbage = [];
    state = state_of_board (after_line_lost world.board.state);
    stands = search rules;
    comes = nothing_asked (state_of_board (after_line_lost world.board.state));
    clock = λ has. absurd (nothing_contained CommandContent.Clock has);
    awaits = λ turn. tt;
  })

  -- the requests of a host that starts over, after other commands
  anew_mode : (before : Mode) (events noise : List EventContent) → IsNoiseList noise
      → last_mode before
      (filter_map event_mode (events ++ (noise ++ map EventContent.Read commands_anew)))
      ≡ Mode.UpdateBoard
  anew_mode before events noise is_noise = search (rules, filter_map-append, last_mode-append)

  anew_comes : (board : BoardState) (events noise : List EventContent) → IsNoiseList noise
      → IsComing commands_anew
      (commanded_state board (events ++ (noise ++ map EventContent.Read commands_anew)))
  anew_comes board events noise is_noise = record {
    picture = λ has. inr (inr
        (Contains-append_right events (noise ++ map EventContent.Read commands_anew)
        (EventContent.Read CommandContent.Dump)
        (Contains-append_right noise (map EventContent.Read commands_anew)
        (EventContent.Read CommandContent.Dump) (1, omega arith, refl))));
    before = Mode.Idle;
    mode = anew_mode board.mode events noise is_noise;
  }

  -- the dump that such a host awaits is the last
  anew_awaits : (board : BoardState) (events noise : List EventContent) → IsNoiseList noise
      → IsSubsequence (Kind.Dump ∷ [])
      (coming_kinds
      (commanded_state board (events ++ (noise ++ map EventContent.Read commands_anew))))
  anew_awaits board events noise is_noise =
      let anew = map EventContent.Read commands_anew in
      let owed : List Kind = filter_map kind_of_reply board.owed in
      let kinds : filter_map kind_of_event (events ++ (noise ++ anew))
      ≡ filter_map kind_of_event events ++ Kind.Dump ∷ []
      = search (rules, filter_map-append, noise-kinds) in
      let all : owed ++ filter_map kind_of_event (events ++ (noise ++ anew))
      ≡ (owed ++ filter_map kind_of_event events) ++ Kind.Dump ∷ []
      = search (rules, append_assoc) in
      search (rules, subsequence_at_end)

  -- the restart bytes after what leaves this rest
  anew_divides_behind : (bytes : List ℕ) (events : List EventContent) (rest : List ℕ)
      → Divides bytes events rest
      → (noise : List EventContent) × IsNoiseList noise × Divides (bytes ++ restart_bytes)
      (events ++ (noise ++ map EventContent.Read commands_anew)) []
  anew_divides_behind bytes events rest divides =
      let noise = laws.zeros_settle rest (laws.left bytes rest events divides) in (
        noise.0,
        noise.1,
        laws.divisions_append bytes restart_bytes events
            (noise.0 ++ map EventContent.Read commands_anew) rest [] divides
            (rw (append_assoc rest (replicate 255 0) follow_bytes) at
            (laws.divisions_append (rest ++ replicate 255 0) follow_bytes noise.0
            (map EventContent.Read commands_anew) [] [] noise.2 (anew_divides laws.nothing))),
      )

  -- a host that starts over requests no reading
  no_reading_anew : Contains commands_anew CommandContent.Clock → ⊥
  no_reading_anew has = search rules

  -- the host awaits only the dump, and its restart bytes follow these, and then garbage to the host
  anew_follows : (world after : WorldView) (bytes up : List ℕ) → IsSane world
      → AreBytes bytes → after.board ≡ world.board → after.down.bytes ≡ bytes ++ restart_bytes
      → after.host.unread ++ after.up.bytes ≡ up → after.host.awaited ≡ Kind.Dump ∷ []
      → Follows true commands_anew after
  anew_follows world after bytes up sane are board down heard awaited =
      let divided = laws.once.0 (world.board.partial ++ bytes)
      (laws.bytes world.board.partial bytes sane.partial are) in
      let anew = anew_divides_behind (world.board.partial ++ bytes) divided.0 divided.1 divided.2 in
      record {
        garbage = up;
        state = commanded_state world.board.state
            (divided.0 ++ (anew.0 ++ map EventContent.Read commands_anew));
        stands = search (rules, append_assoc);
        comes = anew_comes world.board.state divided.0 anew.0 anew.1;
        clock = λ has. absurd (no_reading_anew has);
        awaits = λ turn. rw awaited (anew_awaits world.board.state divided.0 anew.0 anew.1);
      }

  pub host_break_follows : (world after : WorldView) → IsSane world
      → Becomes ActContent.HostBreak world after → Follows true commands_anew after
  host_break_follows world after sane same =
      rw same (anew_follows world _ [] [] sane no_bytes refl refl refl refl)

  pub restart_follows : (world after : WorldView) → IsSane world
      → FaultyBecomes FaultyContent.Restart world after → Follows true commands_anew after
  restart_follows world after sane same = search (rules, anew_follows)

-- ---- each act, and acts in order

-- an act that isn't done
unchanged : (c : Counted) (world after : WorldView) → after ≡ world → Holds c world
    → IsTrue c.in_step → Follows c.in_turn c.asked after
unchanged c world after same holds in_step = rw same (holds.follows in_step)

pub undone : (act : FaultyContent) (world : WorldView) (answer : Outcome) (after : WorldView)
    → answer ≢ Outcome.Done → FaultyStep act world answer after → after ≡ world
undone act world answer after other step = search rules

pub plain_step : (act : ActContent) (world : WorldView) (answer : Outcome) (after : WorldView)
    → FaultyStep (FaultyContent.Plain act) world answer after → Step act world answer after
plain_step act world answer after step = record { answers = step.answers; leaves = step.leaves }

pub faulty_step : (act : ActContent) (world : WorldView) (answer : Outcome) (after : WorldView)
    → Step act world answer after → FaultyStep (FaultyContent.Plain act) world answer after
faulty_step act world answer after step = record { answers = step.answers; leaves = step.leaves }

pub faulty_runs : (acts : List ActContent) (world after : WorldView) (answers : List Outcome)
    → Runs acts world answers after → FaultyRuns (map FaultyContent.Plain acts) world answers after
faulty_runs [] world after [] same = same
faulty_runs (act ∷ acts) world after (answer ∷ answers) (between, step, runs) = (
  between,
  faulty_step act world answer between step,
  faulty_runs acts between after answers runs,
)
faulty_runs _ world after _ none = absurd none

pub plain_runs : (acts : List ActContent) (world after : WorldView) (answers : List Outcome)
    → FaultyRuns (map FaultyContent.Plain acts) world answers after → Runs acts world answers after
plain_runs [] world after [] same = same
plain_runs (act ∷ acts) world after (answer ∷ answers) (between, step, runs) =
    (between, plain_step act world answer between step, plain_runs acts between after answers runs)
plain_runs _ world after _ none = absurd none

module _ (laws : Grammars) where
  breaks_after : (c : Counted) (world : WorldView) (answer : Outcome) (after : WorldView)
      → IsSane world → Step ActContent.Break world answer after
      → Follows true (commands_after c.asked (act_requests answer ActContent.Break)) after
  breaks_after c world answer after sane step = search (rules, break_follows)

  host_breaks_after : (world : WorldView) (answer : Outcome) (after : WorldView) → IsSane world
      → Step ActContent.HostBreak world answer after → Follows true commands_anew after
  host_breaks_after world answer after sane step = search (rules, host_break_follows)

  plain_after : (c : Counted) (act : ActContent) (world : WorldView) (answer : Outcome)
      (after : WorldView) → Holds c world → Step act world answer after
      → IsTrue (counted_after c (FaultyContent.Plain act) answer).in_step
      → Follows (counted_after c (FaultyContent.Plain act) answer).in_turn
      (counted_after c (FaultyContent.Plain act) answer).asked after
  plain_after c ActContent.Break world answer after holds step in_step =
      breaks_after c world answer after holds.sane step
  plain_after c ActContent.HostBreak world answer after holds step in_step =
      host_breaks_after world answer after holds.sane step
  plain_after c act world answer after holds step in_step =
      plain_follows laws act world answer after c.in_turn c.asked refl (holds.follows in_step) step

  follows_after : (c : Counted) (act : FaultyContent) (world : WorldView) (answer : Outcome)
      (after : WorldView) → Holds c world → FaultyStep act world answer after
      → IsTrue (counted_after c act answer).in_step
      → Follows (counted_after c act answer).in_turn (counted_after c act answer).asked after
  follows_after c (FaultyContent.Plain act) world answer after holds step in_step =
      plain_after c act world answer after holds (plain_step act world answer after step) in_step
  follows_after c (FaultyContent.GarbleUp bytes) world Outcome.Done after holds step in_step =
      garbled_follows c.in_turn c.asked bytes world after (holds.follows in_step) step.leaves
  follows_after c (FaultyContent.GarbleUp bytes) world _ after holds step in_step =
      unchanged c world after step.leaves holds in_step
  follows_after c (FaultyContent.GarbleDown bytes) world Outcome.Done after holds step in_step =
      absurd (false≢true in_step)
  follows_after c (FaultyContent.GarbleDown bytes) world _ after holds step in_step =
      unchanged c world after step.leaves holds in_step
  follows_after c FaultyContent.BoardLost world answer after holds step in_step =
      absurd (false≢true in_step)
  follows_after c FaultyContent.GiveUp world Outcome.Done after holds step in_step =
      given_up_follows c.in_turn c.asked world after (holds.follows in_step) step.leaves
  follows_after c FaultyContent.GiveUp world _ after holds step in_step = cc
  follows_after c FaultyContent.Restart world Outcome.Done after holds step in_step =
      restart_follows laws world after holds.sane step.leaves
  follows_after c FaultyContent.Restart world _ after holds step in_step =
      unchanged c world after step.leaves holds in_step

  step_holds : (c : Counted) (act : FaultyContent) (world : WorldView) (answer : Outcome)
      (after : WorldView) → Holds c world → FaultyStep act world answer after
      → Holds (counted_after c act answer) after
  step_holds c act world answer after holds step = search (rules, step_sane, follows_after)

  run_holds : (acts : List FaultyContent) (world : WorldView) (answers : List Outcome)
      (after : WorldView) (c : Counted) → Holds c world → FaultyRuns acts world answers after
      → Holds (counted_after_all c acts answers) after
  run_holds [] world [] after c holds same = rw same holds
  run_holds (act ∷ acts) world (answer ∷ answers) after c holds (between, step, runs) =
      run_holds acts between answers after (counted_after c act answer)
      (step_holds c act world answer between holds step) runs
  run_holds _ world _ after c holds none = absurd none

-- ---- facts at the start

sane_holds : (world : WorldView) → IsSane world → Holds (nothing_counted false) world
sane_holds world sane = record { sane = sane; follows = λ none. absurd (false≢true none) }

in_step_holds : (world : WorldView) → IsSane world → IsInStep world
    → Holds (nothing_counted true) world
in_step_holds world sane is = record { sane = sane; follows = λ in_step. in_step_follows world is }

module _ (laws : Grammars) (acts : List FaultyContent) (world after : WorldView)
    (answers : List Outcome)
    (sane : IsSane world) (runs : FaultyRuns acts world answers after) where
  pub counted_holds : Holds (counted_by false acts answers) after
  counted_holds =
      run_holds laws acts world answers after (nothing_counted false) (sane_holds world sane) runs

  pub in_step_counted_holds : IsInStep world → Holds (counted_by true acts answers) after
  in_step_counted_holds is = search (rules, run_holds, in_step_holds)

-- ---- when everything is quiet

pub nothing_said : (messages : List Content) → flat_map encoding messages ≡ [] → messages ≡ []
nothing_said [] e = refl
nothing_said (message ∷ messages) e = cc

pub quiet_behind : EachDividesOnce → (garbage : List ℕ) (world : WorldView) (x : MachineState)
    → StandsBehind garbage world x → IsQuietWorld world → IsQuiet x
quiet_behind once garbage world x stands quiet =
    let up = nothing_said x.up (search (rules, right_empty)) in
    record {
      up = up;
      down = (once.1 [] x.down [] [] [] (rw (quiet.partial, quiet.down) at stands.down)
          (refl, rw quiet.partial at stands.partial)).0;
      pending = nothing_first (pending_messages x.board) (rw stands.board at quiet.pending);
    }

-- everything that the state knows the host knows
pub host_knows : {X : Type 0} {known seen : Option X} {x : X} → IsUnknownOr known seen
    → known ≡ Some x → seen ≡ Some x
host_knows h0 is = search rules

-- each awaited reply was yet to be heard, and nothing is under way any more
pub awaited_has_come : (world : WorldView) (is : IsInTurnWorld world) → IsQuiet is.state
    → world.host.awaited ≡ []
awaited_has_come world is still = quiet_awaited (awaiting is.state world.host.awaited)
    (asked_sound is.state is.state.down world.host.awaited is.stands.sound is.holds)
    (record { up = still.up; down = still.down; pending = still.pending })

pub in_turn_at_quiet : EachDividesOnce → (world : WorldView) → IsInTurnWorld world
    → IsQuietWorld world → world.host.awaited ≡ []
in_turn_at_quiet once world is quiet =
    awaited_has_come world is (quiet_behind once is.garbage world is.state is.stands quiet)

pub counted_in_turn : (c : Counted) (world : WorldView) → Holds c world → IsInTurn c
    → IsInTurnWorld world
counted_in_turn c world holds turn = search rules

-- ---- a world without a fault

-- bytes that divide are bytes
divided_bytes : (bytes : List ℕ) (events : List EventContent) (rest : List ℕ)
    → Divides bytes events rest → AreBytes bytes
divided_bytes bytes [] rest (same, partial) =
    rw same (bytes_left rest (partial.next ∷ partial.more) partial.word.are_bytes)
divided_bytes bytes (event ∷ events) rest (word, after, is, same, divides) =
    rw same (bytes_append word after is.are_bytes (divided_bytes after events rest divides))

stands_behind : (world : WorldView) (x : MachineState) → StandsFor world x → StandsBehind [] world x
stands_behind world x stands = search rules

pub world_in_step : (world : WorldView) → IsWorld world → IsInStep world
world_in_step world is = search (rules, stands_behind)

pub world_in_turn : (world : WorldView) → IsWorld world → IsInTurnWorld world
world_in_turn world is = search (rules, stands_behind)

-- nothing is under way to the board
pub empty_in_step : (world : WorldView) → IsSane world → world.down.bytes ≡ []
    → world.board.partial ≡ [] → IsInStep world
empty_in_step world sane down partial = record {
  garbage = world.host.unread ++ world.up.bytes;
  state = state_of_board world.board.state;
  stands = search rules;
  holds = tt;
}

pub sane_if : (world : WorldView) → length world.board.state.squares ≡ 64
    → length world.board.state.reported_squares ≡ 64
    → (IsTrue (follows_clock world.board.state.mode) → IsTrue world.board.state.times_owed
    ⊎ (world.board.state.reported_clock ≡ Some world.board.state.clock))
    → IsPartial world.board.partial → AreBytes world.down.bytes → IsSane world
sane_if world squares reported followed partial down = search rules

world_is_sane : (world : WorldView) (x : MachineState) → StandsFor world x → IsSane world
world_is_sane world x stands = record {
  board = rw stands.board (commanded_sound x [] stands.sound);
  partial = stands.partial;
  down = bytes_right world.board.partial world.down.bytes
      (divided_bytes (world.board.partial ++ world.down.bytes) x.down [] stands.down);
}

pub world_is_faulty : (world : WorldView) → IsWorld world → IsFaultyWorld world
world_is_faulty world is = search (rules, world_is_sane)

-- ---- the lines keep their capacities

pub step_is_faulty : Grammars → (act : FaultyContent) (world after : WorldView) (answer : Outcome)
    → IsFaultyWorld world → FaultyStep act world answer after → IsFaultyWorld after
step_is_faulty laws act world after answer is step = search (rules, step_sane)
