-- How a world at fault comes to rest, and that it is then quiet if it was promised to heal.
use Rattle.std.{proofs.Common.{◌≡◌, refl, sym, ap, ◌∙◌, ◌⊎◌, ℕ, List, [], ◌∷◌, ◌++◌, Option, Some, None, append_assoc, rules}, specs.{List.{AllByRecursion, flat_map}, Prelude.{IsSome}}}
use Rattle.{dgt_values.specs.declared.pieces.Piece.{Piece}, dgt_message.specs.{Clock.{ClockState}, Content.{Content, IsMessage}, Encoding.{encoding}}, dgt_command.specs.Laws.{EachDividesOnce}}
use Rattle.{dgt_board.specs.Sending.{pending_messages}, dgt_decode.specs.Grammar.{unfinished_message}, dgt_link.specs.{Clocks.{IsClockPromisedWorld}, Healing.{Counted, IsHealing, IsInTurnWorld}}}
use Rattle.dgt_link.specs.{Healing.{IsPromisedWorld, IsRestedWorld, StandsBehind}, Machine.{MachineState}, Promise.{IsPromised, IsQuiet}, Readers.{Reads}, Settling.{SettlesIn}, View.{IsQuietWorld}}
use Rattle.dgt_link.{specs.View.{WorldView}, proofs.{Clocks.{promised_clock}, Counting.{Holds, awaited_has_come, follows_with, host_knows, quiet_behind}, Lists.{right_empty}}}
use Rattle.dgt_link.proofs.{Promises.{coming_promise}, Quiet.{picture_has_come, promised_picture}, Settling.{nothing_left_unfinished, nothing_partial, settled_kept}, WorldsByState.{nothing_first}}

-- ---- what counts is promised

pub healing_promised : (c : Counted) (world : WorldView) → Holds c world → IsHealing c
    → IsPromisedWorld world
healing_promised c world holds healing =
    let f = holds.follows healing.in_step in
    follows_with IsPromised f (coming_promise c.asked f.state f.comes healing.asked)

-- a promised world that is quiet has the board's squares as its picture
pub promised_at_quiet : EachDividesOnce → (world : WorldView) → IsPromisedWorld world
    → IsQuietWorld world → world.host.picture ≡ Some world.board.state.squares
promised_at_quiet once world is quiet =
    let still = quiet_behind once is.garbage world is.state is.stands quiet in
    search (rules, promised_picture)

-- ---- at rest

module _ (reads : Reads) where
  -- no message is unfinished, whatever was received before
  nothing_unfinished_behind : (garbage : List ℕ) (message : Content) (messages : List Content)
      → AllByRecursion IsMessage (message ∷ messages)
      → unfinished_message (garbage ++ flat_map encoding (message ∷ messages)) ≡ []
  nothing_unfinished_behind garbage message messages are =
      ap unfinished_message
      (sym (append_assoc garbage (encoding message) (flat_map encoding messages)))
      ∙ reads.unfinished_append (garbage ++ encoding message) (flat_map encoding messages)
      ∙ ap (λ (held : List ℕ). unfinished_message (held ++ flat_map encoding messages))
      (reads.encoding garbage message are.0).1
      ∙ nothing_left_unfinished reads messages (flat_map encoding messages) (search rules)

  -- the unread bytes of a host contain no whole message
  none_unread : (unread garbage : List ℕ) (messages : List Content)
      → AllByRecursion IsMessage messages → unread ≡ garbage ++ flat_map encoding messages
      → unfinished_message unread ≡ unread → messages ≡ []
  none_unread unread garbage [] are e held = refl
  none_unread unread garbage (message ∷ messages) are e held =
      search (rules, nothing_unfinished_behind, right_empty)

  known_has_no_garbage : {X : Type 0} (picture : Option X) (garbage : List ℕ) (other : Type 0)
      → (garbage ≡ []) ⊎ ((picture ≡ None) × other) → IsSome picture → garbage ≡ []
  known_has_no_garbage picture garbage other either some = search rules

  module _ (once : EachDividesOnce) (garbage : List ℕ) (world : WorldView) (x : MachineState)
      (stands : StandsBehind garbage world x) (rested : IsRestedWorld world)
      (held : unfinished_message world.host.unread ≡ world.host.unread) where
    all_unread : world.host.unread ≡ garbage ++ flat_map encoding x.up
    all_unread = search rules

    no_part : world.board.partial ≡ []
    no_part =
        nothing_partial once x.down world.board.partial stands.partial (rw rested.1 at stands.down)

    -- a rested world stands for a quiet state
    still_behind : IsQuiet x
    still_behind = record {
      up = none_unread world.host.unread garbage x.up stands.are_messages all_unread held;
      down = (once.1 [] x.down [] [] [] (rw (no_part, rested.1) at stands.down)
          (refl, rw no_part at stands.partial)).0;
      pending = nothing_first (pending_messages x.board) (rw stands.board at rested.2);
    }

    rests_behind : IsPromised x → IsQuietWorld world
    rests_behind promised =
        let known = picture_has_come x stands.sound still_behind promised.coming in
        let clean : garbage ≡ []
        = known_has_no_garbage x.picture garbage (x.host_clock ≡ None) stands.unheard known in
        record {
          up = rested.0;
          down = rested.1;
          unread = all_unread ∙ rw (clean, still_behind.up) refl;
          partial = no_part;
          pending = rested.2;
        }

  module _ (once : EachDividesOnce) (world : WorldView) where
    pub promised_rests : IsPromisedWorld world → IsRestedWorld world
        → unfinished_message world.host.unread ≡ world.host.unread → IsQuietWorld world
    promised_rests is rested held =
        rests_behind once is.garbage world is.state is.stands rested held is.holds

    pub clock_at_rest : IsClockPromisedWorld world → IsRestedWorld world
        → unfinished_message world.host.unread ≡ world.host.unread
        → world.host.clock ≡ Some world.board.state.clock
    clock_at_rest is rested held =
        let still = still_behind once is.garbage world is.state is.stands rested held in
        rw is.stands.board
        (host_knows is.stands.clock (promised_clock is.state is.stands.sound is.holds still))

    pub in_turn_at_rest : IsInTurnWorld world → IsRestedWorld world
        → unfinished_message world.host.unread ≡ world.host.unread → world.host.awaited ≡ []
    in_turn_at_rest is rested held =
        awaited_has_come world is
        (still_behind once is.garbage world is.state is.stands rested held)

pub settled_squares : (count : ℕ) (old new : WorldView) → SettlesIn count old new
    → new.host.picture ≡ Some new.board.state.squares
    → new.host.picture ≡ Some old.board.state.squares
settled_squares count old new settled is =
    is ∙ ap (λ (squares : List Piece). Some squares) (settled_kept count old new settled).squares

pub settled_clock : (count : ℕ) (old new : WorldView) → SettlesIn count old new
    → new.host.clock ≡ Some new.board.state.clock → new.host.clock ≡ Some old.board.state.clock
settled_clock count old new settled is =
    is ∙ ap (λ (clock : ClockState). Some clock) (settled_kept count old new settled).clock
