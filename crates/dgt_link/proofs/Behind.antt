-- The effect of an act on a world that stands for a state after garbage.
use Rattle.std.proofs.Common.{arith, ◌≡◌, refl, sym, ap, ◌∙◌, ◌⊎◌, inl, inr, ℕ, ◌≤◌, List, [], ◌∷◌, ◌++◌, length, take, drop, replicate, Some, None, false, append_assoc, rules}
use Rattle.{std.{proofs.lemmas.{Grind.{common_steps, flat_map-append}, List.{append-nil}}, specs.List.{flat_map}}, dgt_values.specs.declared.{kinds.Kind.{Kind}, pieces.Piece.{Piece}}}
use Rattle.{dgt_message.specs.{Clock.{ClockState}, Content.{Content, IsMessage, answered_kind}, Encoding.{Encodes, encoding}}, dgt_command.specs.Content.{CommandContent}}
use Rattle.{dgt_board.specs.{Sending.{after_sending, next_message}, State.{BoardState, after_change, after_hand_clock}}, dgt_decode.specs.Grammar.{Event, Placed, events, shifted, unfinished_message}}
use Rattle.{dgt_decode.specs.Laws.{BeginsAnew}, dgt_host.specs.Host.{HostView, awaited_after, host_after, host_after_event, host_after_events, host_after_message}, dgt_link.specs.Act.{ActContent}}
use Rattle.dgt_link.specs.{Faults.{is_break}, Healing.{AwaitsWhatComes, StandsBehind, StandsBehindAfter}, Machine.{MachineState, Move, after_moves}, Readers.{Grammars}, Sound.{IsSound, IsSubsequence}}
use Rattle.dgt_link.specs.{Sound.{IsUnknownOr, coming_kinds}, Step.{Becomes, Step, with_state}, View.{WorldView, with_bytes, without_first}, declared.acts.Outcome.{Outcome}}
use Rattle.dgt_link.proofs.{AfterMoves.{moves_sound}, Dividing.{divides_command}, Hearing.{heard_of, heard_prefix, host_after_messages}, Lists.{IsShorter, Reaches, all_append, prefixes, not_empty}}
use Rattle.dgt_link.proofs.{Sending.{next_is_sent}, Soundness.{ask-kinds, asked_sound, move_sound}, Standing.{prefix_of, hears, taken_state, takes, with_host, taken_as}}
use Rattle.dgt_link.proofs.Subsequences.{awaited_after-subsequence, subsequence_append}

-- a message is sent
abbrev pub Sends : Content → WorldView → WorldView → Type 0
Sends message world after =
    (next_message world.board.state ≡ Some message) × Encodes message (encoding message)
    × (after ≡ record (with_state world (after_sending world.board.state message)) {
      up = with_bytes world.up (encoding message);
    })

abbrev pub after_sent : MachineState → Content → MachineState
after_sent x message = record x { board = after_sending x.board message; up = x.up ++ message ∷ [] }

-- ---- the knowledge of a host that began with less

-- everything that the one knows the other knows, too
record KnowsNoMore (known host : HostView) : Type 0 where
  pub picture : IsUnknownOr known.picture host.picture
  pub clock : IsUnknownOr known.clock host.clock

knows_no_more : (known host : HostView) (messages : List Content) → KnowsNoMore known host
    → KnowsNoMore (host_after_messages known messages) (host_after_messages host messages)
knows_no_more known host [] less = less
knows_no_more known host (message ∷ messages) less =
    knows_no_more (host_after_message known message) (host_after_message host message) messages
    (search rules)

-- ---- what is awaited

event_awaits : (host : HostView) (event : Event) (kinds : List Kind)
    → IsSubsequence host.awaited kinds → IsSubsequence (host_after_event host event).awaited kinds
event_awaits host event kinds h = search (rules, awaited_after-subsequence)

events_await : (host : HostView) (reported : List Placed) (kinds : List Kind)
    → IsSubsequence host.awaited kinds
    → IsSubsequence (host_after_events host reported).awaited kinds
events_await host [] kinds h = h
events_await host (x ∷ reported) kinds h =
    events_await (host_after_event host x.event) reported kinds (event_awaits host x.event kinds h)

-- the awaited kinds after messages don't depend on what else is known
same_awaited : (host other : HostView) (messages : List Content) → host.awaited ≡ other.awaited
    → (host_after_messages host messages).awaited ≡ (host_after_messages other messages).awaited
same_awaited host other [] e = e
same_awaited host other (message ∷ messages) e =
    same_awaited (host_after_message host message) (host_after_message other message) messages
    (ap (λ (awaited : List Kind). awaited_after awaited (answered_kind message)) e)

-- the state with these awaited replies of its host
abbrev pub awaiting : MachineState → List Kind → MachineState
awaiting x awaited = record x { awaited = awaited }

-- ---- garbage, and what begins after it

events_in_a_row : (host : HostView) (reported more : List Placed)
    → host_after_events host (reported ++ more)
    ≡ host_after_events (host_after_events host reported) more
events_in_a_row host [] more = refl
events_in_a_row host (x ∷ reported) more =
    events_in_a_row (host_after_event host x.event) reported more

same_behind : (prefix xs ys : List ℕ) → prefix ++ xs ≡ prefix ++ ys → xs ≡ ys
same_behind [] xs ys e = e
same_behind (b ∷ prefix) xs ys e = same_behind prefix xs ys cc

-- encoded messages begin with a byte with a set top bit
first_has_top_bit : (messages : List Content) (b : ℕ) (rest : List ℕ)
    → flat_map encoding messages ≡ b ∷ rest → 128 ≤ b
first_has_top_bit [] b rest e = cc
first_has_top_bit (message ∷ messages) b rest e = search rules

-- whatever the effect of garbage on the host, it hears what begins after it
behind_garbage : BeginsAnew → ((host : HostView) (n : ℕ) (reported : List Placed)
    → host_after_events host (shifted n reported) ≡ host_after_events host reported)
    → (host : HostView) (garbage more : List ℕ) (b : ℕ) → 128 ≤ b
    → host_after_events host (events (garbage ++ b ∷ more))
    ≡ host_after_events (host_after_events host (events garbage)) (events (b ∷ more))
behind_garbage anew places host garbage more b top = search (rules, events_in_a_row)

-- the host of a state
abbrev host_of : MachineState → HostView
host_of x = record { picture = x.picture; clock = x.host_clock; awaited = x.awaited; unread = [] }

-- the world after its host has heard this many bytes
abbrev heard_world : WorldView → ℕ → WorldView
heard_world world count = record world {
  host = host_after world.host (take count world.up.bytes);
  up = without_first world.up count;
}

-- all bytes that the host holds of a message and then hears
abbrev all_heard : WorldView → ℕ → List ℕ
all_heard world count = world.host.unread ++ take count world.up.bytes

-- an act that isn't a break leads a state after garbage by its moves
abbrev pub ActsBehind : Type 0
ActsBehind =
    (act : ActContent) (garbage : List ℕ) (world : WorldView) (answer : Outcome) (after : WorldView)
    (x : MachineState)
    → is_break act ≡ false → StandsBehind garbage world x → Step act world answer after
    → StandsBehindAfter act answer world x after

module _ (laws : Grammars) where
  -- the host hears the beginning of a message, and knew at least what the state's host knows
  hear_true : (garbage more : List ℕ) (world : WorldView) (count : ℕ) (x : MachineState)
      (host : HostView) → StandsBehind garbage world x → KnowsNoMore (host_of x) host
      → (AwaitsWhatComes world x → IsSubsequence host.awaited (coming_kinds x))
      → host_after_events world.host (events (all_heard world count))
      ≡ host_after_events host (events more)
      → unfinished_message (all_heard world count) ≡ unfinished_message more
      → flat_map encoding x.up ≡ more ++ drop count world.up.bytes
      → StandsBehindAfter (ActContent.ToHost count) Outcome.Done world x (heard_world world count)
  hear_true garbage more world count x host stands less awaits reported unfinished f =
      let prefix = heard_prefix laws.reads more (drop count world.up.bytes) x.up
      (record { are_messages = stands.are_messages; in_a_row = sym f }) in
      let moves : List Move = replicate (length prefix.heard) Move.Hear in
      let led : after_moves x moves
      ≡ with_host x (host_after_messages (host_of x) prefix.heard) prefix.left =
      hears prefix.heard prefix.left x (host_of x) prefix.all
      (record { picture = refl; clock = refl; awaited = refl }) in
      let known = knows_no_more (host_of x) host prefix.heard less in
      let same : host_after_events world.host (events (all_heard world count))
      ≡ host_after_messages host prefix.heard
      = reported ∙ heard_of (events more) prefix.heard prefix.known host in (
        [],
        moves,
        (length prefix.heard, refl),
        rw led
            (record {
              sound = rw led at (moves_sound x moves stands.sound);
              board = stands.board;
              picture = rw same known.picture;
              clock = rw same known.clock;
              unheard = inl refl;
              are_messages = prefix.encoded.are_messages;
              up = rw unfinished prefix.encoded.in_a_row;
              down = stands.down;
              partial = stands.partial;
            }),
        rw (led, same) (λ a.
            let state_host : HostView = host_of (awaiting x host.awaited) in
            let ran : after_moves (awaiting x host.awaited) moves
            ≡ with_host (awaiting x host.awaited) (host_after_messages state_host prefix.heard)
            prefix.left =
            search (rules, hears) in
            let sound : IsSound
            (with_host (awaiting x host.awaited) (host_after_messages state_host prefix.heard)
            prefix.left)
            = rw ran at (moves_sound (awaiting x host.awaited) moves
            (asked_sound x x.down host.awaited stands.sound (awaits a))) in
            rw (same_awaited host state_host prefix.heard refl) sound.awaited),
      )

  -- the host hears only garbage
  hear_garbage : (garbage left : List ℕ) (world : WorldView) (count : ℕ) (x : MachineState)
      → StandsBehind garbage world x → (x.picture ≡ None) × (x.host_clock ≡ None)
      → drop count world.up.bytes ≡ left ++ flat_map encoding x.up
      → StandsBehindAfter (ActContent.ToHost count) Outcome.Done world x (heard_world world count)
  hear_garbage garbage left world count x stands unknown e = (
    unfinished_message (all_heard world count) ++ left,
    [],
    (0, refl),
    search (rules, append_assoc),
    λ a. events_await world.host (events (all_heard world count)) (coming_kinds x) a,
  )

  hear_behind : (garbage : List ℕ) (world : WorldView) (count : ℕ) (after : WorldView)
      (x : MachineState) → StandsBehind garbage world x
      → Becomes (ActContent.ToHost count) world after
      → StandsBehindAfter (ActContent.ToHost count) Outcome.Done world x after
  hear_behind garbage world count after x stands same =
      rw same (go (prefixes (all_heard world count) rest garbage said whole) stands.unheard)
    where
      rest : List ℕ
      rest = drop count world.up.bytes

      said : List ℕ
      said = flat_map encoding x.up

      whole : all_heard world count ++ drop count world.up.bytes ≡ garbage ++ flat_map encoding x.up
      whole = sym (prefix_of world.host.unread world.up.bytes count) ∙ stands.up

      go : IsShorter (all_heard world count) garbage
          ⊎ Reaches (all_heard world count) (drop count world.up.bytes) garbage
          (flat_map encoding x.up) → (garbage ≡ []) ⊎ ((x.picture ≡ None) × (x.host_clock ≡ None))
          → StandsBehindAfter (ActContent.ToHost count) Outcome.Done world x
          (heard_world world count)
      go (inl (next, more, e)) (inl none) =
          absurd (not_empty (all_heard world count) next more (sym e ∙ none))
      go (inl (next, more, e)) (inr unknown) =
          hear_garbage garbage (next ∷ more) world count x stands unknown
          (same_behind (all_heard world count) (drop count world.up.bytes)
          (next ∷ more ++ flat_map encoding x.up)
          (grind (arith, common_steps)))
      go (inr (more, e, f)) (inl none) =
          let is : all_heard world count ≡ more = e ∙ ap (λ (g : List ℕ). g ++ more) none in
          hear_true garbage more world count x world.host stands
          (record { picture = stands.picture; clock = stands.clock }) (λ a. a)
          (ap (λ (bytes : List ℕ). host_after_events world.host (events bytes)) is)
          (ap unfinished_message is) f
      go (inr ([], e, f)) (inr unknown) =
          hear_garbage garbage [] world count x stands unknown (sym f)
      go (inr (b ∷ more, e, f)) (inr unknown) =
          let top = first_has_top_bit x.up b (more ++ drop count world.up.bytes) f in
          hear_true garbage (b ∷ more) world count x (host_after_events world.host (events garbage))
          stands (record { picture = inl unknown.0; clock = inl unknown.1 })
          (λ a. events_await world.host (events garbage) (coming_kinds x) a)
          (search (rules, behind_garbage))
          (ap unfinished_message e ∙ (laws.begins_anew garbage more b top).1) f

  change_behind : (garbage : List ℕ) (world : WorldView) (square : ℕ) (piece : Piece)
      (after : WorldView) (x : MachineState) → StandsBehind garbage world x
      → Becomes (ActContent.Change square piece) world after
      → StandsBehindAfter (ActContent.Change square piece) Outcome.Done world x after
  change_behind garbage world square piece after x stands same =
      let sound = move_sound x (Move.Change square piece) stands.sound in
      let board = ap (λ (state : BoardState). after_change state square piece) stands.board in
      (garbage, Move.Change square piece ∷ [], refl, rw same assumption, rw same (λ a. a))

  clock_behind : (garbage : List ℕ) (world : WorldView) (clock : ClockState) (after : WorldView)
      (x : MachineState) → StandsBehind garbage world x
      → Becomes (ActContent.ClockRead clock) world after
      → StandsBehindAfter (ActContent.ClockRead clock) Outcome.Done world x after
  clock_behind garbage world clock after x stands same =
      let sound = move_sound x (Move.HandClock clock) stands.sound in
      let board = ap (λ (state : BoardState). after_hand_clock state clock) stands.board in
      (garbage, Move.HandClock clock ∷ [], refl, rw same assumption, rw same (λ a. a))

  ask_behind : (garbage : List ℕ) (world : WorldView) (command : CommandContent) (after : WorldView)
      (x : MachineState) → StandsBehind garbage world x
      → Becomes (ActContent.Host command) world after
      → StandsBehindAfter (ActContent.Host command) Outcome.Done world x after
  ask_behind garbage world command after x stands (encodes, same) = (
    garbage,
    Move.Ask command ∷ [],
    refl,
    rw same
        (search (rules, move_sound, divides_command)),
    rw same (search (rules, ask-kinds, subsequence_append)),
  )

  -- the board sends this message
  pub sent_behind : (garbage : List ℕ) (world after : WorldView) (x : MachineState)
      (message : Content) → StandsBehind garbage world x → Sends message world after
      → StandsBehind garbage after (after_sent x message)
  sent_behind garbage world after x message stands (is_next, encodes, same) =
      let by = next_is_sent x message (ap next_message (sym stands.board) ∙ is_next) in
      rw same
      (assumption (
        rw by.2 at (move_sound x by.0 stands.sound),
        ap (λ (board : BoardState). after_sending board message) stands.board,
        all_append IsMessage x.up (message ∷ []) stands.are_messages (encodes.is_message, tt),
        sym (append_assoc world.host.unread world.up.bytes (encoding message))
            ∙ ap (λ (prefix : List ℕ). prefix ++ encoding message) stands.up
            ∙ append_assoc garbage (flat_map encoding x.up) (encoding message)
            ∙ ap (λ (behind : List ℕ). garbage ++ behind)
            (sym (flat_map-append encoding x.up (message ∷ [])
            ∙ ap (λ (last : List ℕ). flat_map encoding x.up ++ last)
            (append-nil (encoding message)))),
      ))

  send_behind : (garbage : List ℕ) (world after : WorldView) (x : MachineState)
      → StandsBehind garbage world x → Becomes ActContent.BoardSend world after
      → StandsBehindAfter ActContent.BoardSend Outcome.Done world x after
  send_behind garbage world after x stands (message, is_next, encodes, same) =
      let by = next_is_sent x message (ap next_message (sym stands.board) ∙ is_next) in (
        garbage,
        by.0 ∷ [],
        (by.0, by.1, refl),
        rw by.2 (sent_behind garbage world after x message stands (is_next, encodes, same)),
        rw (same, by.2) (λ a.
            let also = next_is_sent (awaiting x world.host.awaited) message
            (ap next_message (sym stands.board) ∙ is_next) in
            let sound : IsSound (record (awaiting x world.host.awaited) {
              board = after_sending x.board message;
              up = x.up ++ message ∷ [];
            })
            = rw also.2 at (move_sound (awaiting x world.host.awaited) also.0
            (asked_sound x x.down world.host.awaited stands.sound a)) in
            sound.awaited),
      )

  take_behind : (garbage : List ℕ) (world : WorldView) (count : ℕ) (after : WorldView)
      (x : MachineState) → StandsBehind garbage world x
      → Becomes (ActContent.ToBoard count) world after
      → StandsBehindAfter (ActContent.ToBoard count) Outcome.Done world x after
  take_behind garbage world count after x stands delivers =
      let taken =
      taken_as laws world delivers.moved delivers.board x delivers.taken stands.board stands.down in
      let moves : List Move = replicate (length taken.events) Move.Take in (
        garbage,
        moves,
        (length taken.events, refl),
        rw (delivers.leaves, taken.led)
            (assumption (rw taken.led at (moves_sound x moves stands.sound))),
        rw (delivers.leaves, taken.led) (λ a.
            let ran : after_moves (awaiting x world.host.awaited) moves
            ≡ taken_state (awaiting x world.host.awaited) taken.events taken.left
            = takes taken.events taken.left (awaiting x world.host.awaited) taken.all in
            let sound : IsSound
            (taken_state (awaiting x world.host.awaited) taken.events taken.left)
            = rw ran at (moves_sound (awaiting x world.host.awaited) moves
            (asked_sound x x.down world.host.awaited stands.sound a)) in
            sound.awaited),
      )

  becomes_behind : (act : ActContent) (garbage : List ℕ) (world after : WorldView)
      (x : MachineState) → is_break act ≡ false → StandsBehind garbage world x
      → Becomes act world after → StandsBehindAfter act Outcome.Done world x after
  becomes_behind (ActContent.Change square piece) garbage world after x other stands becomes =
      change_behind garbage world square piece after x stands becomes
  becomes_behind (ActContent.ClockRead clock) garbage world after x other stands becomes =
      clock_behind garbage world clock after x stands becomes
  becomes_behind (ActContent.Host command) garbage world after x other stands becomes =
      ask_behind garbage world command after x stands becomes
  becomes_behind ActContent.BoardSend garbage world after x other stands becomes =
      send_behind garbage world after x stands becomes
  becomes_behind (ActContent.ToBoard count) garbage world after x other stands becomes =
      take_behind garbage world count after x stands becomes
  becomes_behind (ActContent.ToHost count) garbage world after x other stands becomes =
      hear_behind garbage world count after x stands becomes
  becomes_behind ActContent.Break garbage world after x other stands becomes = cc
  becomes_behind ActContent.HostBreak garbage world after x other stands becomes = cc

  pub step_behind : (act : ActContent) (garbage : List ℕ) (world : WorldView) (answer : Outcome)
      (after : WorldView) (x : MachineState) → is_break act ≡ false → StandsBehind garbage world x
      → Step act world answer after → StandsBehindAfter act answer world x after
  step_behind act garbage world Outcome.Done after x other stands step =
      becomes_behind act garbage world after x other stands step.leaves
  step_behind act garbage world _ after x other stands step =
      (garbage, [], refl, rw step.leaves stands, rw step.leaves (λ a. a))
