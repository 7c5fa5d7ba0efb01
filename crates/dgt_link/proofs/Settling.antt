-- Why a world comes to rest, and what it keeps on the way.
use Rattle.std.proofs.Common.{arith, ◌≡◌, ◌≢◌, refl, sym, ap, subst, ◌∙◌, ◌⊎◌, inl, inr, ℕ, ◌+◌, ◌*◌, ◌^◌, ◌<◌, ◌≤◌, ◌==◌, List, [], ◌∷◌, ◌++◌, Some, None, Bool, true, false, cond, length, take}
use Rattle.std.proofs.{Common.{replicate, append-nil, rules}, Math.Nat.{mul-le-mul_left}, lemmas.{Bool.{ltb-false}, Grind.{common_steps}, List.{length-append}}}
use Rattle.std.{proofs.lemmas.List.{drop_all}, specs.{List.{AllByRecursion, flat_map}, Prelude.{◌↔◌, Contains, IsTrue, IsSome, nat_lt}}}
use Rattle.{dgt_values.specs.declared.pieces.Piece.{Piece}, dgt_message.specs.{Clock.{ClockState}, Content.{Content}, Encoding.{encoding}}, dgt_command.specs.Content.{EventContent}}
use Rattle.{dgt_command.specs.{Laws.{EachDividesOnce, NoWordBeginsAPart, WordsAreShort}, Words.{Divides, IsPartial}}, dgt_decode.specs.Grammar.{unfinished_message}, dgt_board.specs.Sending.{backlog}}
use Rattle.{dgt_board.specs.{Sending.{next_message}, State.{BoardState, follows_clock, updates}, declared.modes.Mode.{Mode}}, dgt_link.specs.{Act.{ActContent}, Healing.{IsRestedWorld}}}
use Rattle.dgt_link.specs.{Machine.{MachineState, after_moves}, Promise.{mode_after, act_requests, IsPromised, PictureIsComing, coming_mode}, Readers.{Reads}, Settling.{AreInOrder, IsNext}}
use Rattle.dgt_link.specs.{Settling.{IsSettling, SettlesIn, steps_left}, Sound.{IsUnknownOr}, Stands.{AreEncoded, IsExactWorld, IsWorld, StandsFor}, Step.{Becomes, Delivers, Runs}}
use Rattle.dgt_link.{specs.{Step.{Step, done_count}, View.{overflows, IsQuietWorld, WorldView}, Work.{work_left}, declared.acts.Outcome.{Outcome}}, proofs.ActRuns.{run-push, run_keeps}}
use Rattle.dgt_link.proofs.{Backlogs.{BacklogFalls, BacklogRises}, Hearing.{held_alone, nothing_unfinished}, Lists.{all_append, IsShorter, Reaches, prefixes}, PromisedActs.{Leads}}
use Rattle.dgt_link.proofs.{Taking.{HasSameGame, effects_same_game}, WorldsByState.{quiet_state, world_awaits_nothing, world_clock_known, world_clock_reported, world_picture, world_picture_reported}}

-- ---- each event has its own byte

module _ (short : WordsAreShort) (within : NoWordBeginsAPart) where
  few_events : (events : List EventContent) (bytes rest : List ℕ) → Divides bytes events rest
      → length events ≤ length bytes
  few_events [] bytes rest divides = omega arith
  few_events (event ∷ events) bytes rest (word, after, is, e, divides) =
      search (rules, length-append, few_events events after rest divides)

  -- bytes after a part of a frame complete at most as many events as there are bytes
  pub few_taken : (partial bytes rest : List ℕ) (events : List EventContent) → IsPartial partial
      → Divides (partial ++ bytes) events rest → length events ≤ length bytes
  few_taken partial bytes rest [] is divides = omega arith
  few_taken partial bytes rest (event ∷ events) is (word, after, is_word, e, divides) =
      go (prefixes partial bytes word after e)
    where
      more : length events ≤ length after
      more = few_events events after rest divides

      all : length partial + length bytes ≡ length word + length after
      all = sym (length-append partial bytes) ∙ ap length e ∙ length-append word after

      go : IsShorter partial word ⊎ Reaches partial bytes word after
          → length (event ∷ events) ≤ length bytes
      go (inl (next, others, f)) =
          let size = ap length f ∙ length-append partial (next ∷ others) in
          omega (arith, more, all, size)
      go (inr (others, f, g)) = absurd (within event word others is_word (rw f at is))

-- ---- what a step towards rest keeps and uses up

pub run_same : (acts : List ActContent) (world after : WorldView) (answers : List Outcome)
    → AllByRecursion IsSettling acts → Runs acts world answers after
    → HasSameGame world.board.state after.board.state
run_same [] world after [] all same = rw same (record { squares = refl; clock = refl })
run_same (act ∷ acts) world after (answer ∷ answers) all (between, step, runs) =
    search (rules, run_same acts between after answers all.1 runs, effects_same_game)
run_same _ world after _ all none = absurd none

pub settling_mode : (before : Mode) (act : ActContent) (answer : Outcome) → IsSettling act
    → mode_after before (act_requests answer act) ≡ before
settling_mode before act answer is = search rules

-- facts of the three acts that settle
pub by_settling : (P : ActContent → Type 0) → P ActContent.BoardSend
    → ((count : ℕ) → P (ActContent.ToBoard count)) → ((count : ℕ) → P (ActContent.ToHost count))
    → (act : ActContent) → IsSettling act → P act
by_settling P send board host act is = search rules

-- an act that settles isn't a break
pub settling_no_break : (act : ActContent) → IsSettling act → act ≢ ActContent.Break
settling_no_break =
    by_settling (λ act. act ≢ ActContent.Break) (λ e. cc) (λ count e. cc) (λ count e. cc)

-- acts that settle include no host break
pub settling_no_host_break : (acts : List ActContent) → AllByRecursion IsSettling acts
    → ¬ (Contains acts ActContent.HostBreak)
settling_no_host_break acts all = grind (arith, common_steps)

-- the world after stands for a state with the same mode to come, and its picture is still to come
pub record KeepsPromise (x : MachineState) (after : WorldView) : Type 0 where
  pub state : MachineState
  pub stands : StandsFor after state
  pub mode : coming_mode state ≡ coming_mode x
  pub picture : PictureIsComing x → PictureIsComing state

module _ (leads : Leads) where
  pub run_promise : (acts : List ActContent) (world after : WorldView) (answers : List Outcome)
      (x : MachineState) → AllByRecursion IsSettling acts → StandsFor world x
      → Runs acts world answers after → KeepsPromise x after
  run_promise [] world after [] x all stands same =
      record { state = x; stands = rw same stands; mode = refl; picture = λ h. h }
  run_promise (act ∷ acts) world after (answer ∷ answers) x all stands (between, step, runs) =
      let reached = leads.moves act world between answer x stands step in
      let y : MachineState = after_moves x reached.0 in
      let rest = run_promise acts between after answers y all.1 reached.2 runs in
      record {
        state = rest.state;
        stands = rest.stands;
        mode = rest.mode ∙ leads.mode act world between answer x y stands step reached.2
            ∙ settling_mode (coming_mode x) act answer all.0;
        picture = λ h. rest.picture
            (leads.kept act world between answer x y (settling_no_break act all.0) stands step
            reached.2 h);
      }
  run_promise _ world after _ x all stands none = absurd none

-- a world that settles leaves a world
pub run_is_world : ((act : ActContent) (world after : WorldView) (answer : Outcome) → IsWorld world
    → Step act world answer after → IsWorld after)
    → (count : ℕ) (old new : WorldView) → SettlesIn count old new → IsWorld old → IsWorld new
run_is_world keeps count old new settled is =
    run_keeps Step IsSettling IsWorld
    (λ act world after answer settling. keeps act world after answer) settled.acts
    old new (replicate count Outcome.Done) settled.settling is settled.run

-- ---- the measure

at_most_one : (n : ℕ) → cond (n == 0) 0 1 ≤ 1
at_most_one n = search rules

module _ (falls : BacklogFalls) where
  pub send_works : (world after : WorldView) → length world.board.state.reported_squares ≡ 64
      → Becomes ActContent.BoardSend world after → work_left after < work_left world
  send_works world after squares (message, is_next, encodes, same) = grind (arith, common_steps)

module _ (short : WordsAreShort) (within : NoWordBeginsAPart) (rises : BacklogRises) where
  -- each byte of it raises what the board has to send by at most one
  take_raises : (world after : WorldView) (count : ℕ) → IsPartial world.board.partial
      → (delivers : Delivers count world after)
      → backlog delivers.board.state ≤ backlog world.board.state + delivers.moved
  take_raises world after count partial delivers =
      let taken = delivers.taken in
      let few = few_taken short within world.board.partial
      (take delivers.moved world.down.bytes) delivers.board.partial taken.events partial
      taken.divided in
      grind (arith, common_steps)

module _ (short : WordsAreShort) (within : NoWordBeginsAPart) (rises : BacklogRises) where
  pub take_works : (world after : WorldView) (count : ℕ) → IsPartial world.board.partial
      → Becomes (ActContent.ToBoard count) world after → work_left after < work_left world
  take_works world after count partial delivers =
      let raised = take_raises short within rises world after count partial delivers in
      grind (arith, common_steps)

pub hear_works : (world after : WorldView) → (length world.up.bytes == 0) ≡ false
    → Becomes (ActContent.ToHost (length world.up.bytes)) world after
    → work_left after < work_left world
hear_works world after some same = search (rules, drop_all)

-- ---- at rest

-- nothing stays unfinished of messages in a row
module _ (reads : Reads) where
  pub nothing_left_unfinished : (messages : List Content) (bytes : List ℕ)
      → AreEncoded messages bytes → unfinished_message bytes ≡ []
  nothing_left_unfinished [] bytes encoded = rw encoded.in_a_row nothing_unfinished
  nothing_left_unfinished (message ∷ messages) bytes encoded =
      let rest : unfinished_message (flat_map encoding messages) ≡ []
      = nothing_left_unfinished messages (flat_map encoding messages) (search rules) in
      rw (
        encoded.in_a_row,
        reads.unfinished_append (encoding message)
            (flat_map encoding messages),
        held_alone reads message encoded.are_messages.0,
      ) rest

  pub nothing_unread : (messages : List Content) (unread : List ℕ)
      → AreEncoded messages (unread ++ []) → unfinished_message unread ≡ unread → unread ≡ []
  nothing_unread messages unread encoded held =
      sym held ∙ nothing_left_unfinished messages unread (rw (append-nil unread) at encoded)

pub nothing_partial : EachDividesOnce → (events : List EventContent) (partial : List ℕ)
    → IsPartial partial → Divides (partial ++ []) events [] → partial ≡ []
nothing_partial law events partial is divides =
    sym (law.1 (partial ++ []) events [] [] partial divides (append-nil partial, is)).1

-- one act towards rest
abbrev pub Moves : WorldView → WorldView → Type 0
Moves world after =
    (act : ActContent) × IsNext world act × Step act world Outcome.Done after
    × (work_left after < work_left world)

pub hears : (world after : WorldView) (answer : Outcome) → (length world.up.bytes == 0) ≡ false
    → Step (ActContent.ToHost (length world.up.bytes)) world answer after → Moves world after
hears world after answer some step = search (rules, hear_works)

pub no_bytes : (bytes : List ℕ) → (length bytes == 0) ≡ true → bytes ≡ []
no_bytes bytes h = grind (arith, common_steps)

pub sends : BacklogFalls
    → (world after : WorldView) (answer : Outcome) → length world.board.state.reported_squares ≡ 64
    → (length world.up.bytes == 0) ≡ true
    → IsSome (next_message world.board.state) → (world.up.bytes ≡ [] → answer ≢ Outcome.NoRoom)
    → Step ActContent.BoardSend world answer after → Moves world after
sends falls world after answer reported up some fits step = search (rules, no_bytes, send_works)

module _ (short : WordsAreShort) (within : NoWordBeginsAPart) (rises : BacklogRises) where
  pub takes : (world after : WorldView) (answer : Outcome) → IsPartial world.board.partial
      → (length world.up.bytes == 0) ≡ true → next_message world.board.state ≡ None
      → world.board.state.owed ≡ [] → (length world.down.bytes == 0) ≡ false
      → Step (ActContent.ToBoard (length world.down.bytes)) world answer after → Moves world after
  takes world after answer partial up quiet none some step = search (rules, no_bytes, take_works)

pub rests : Reads → EachDividesOnce → (world : WorldView) → IsWorld world → IsRestedWorld world
    → unfinished_message world.host.unread ≡ world.host.unread → IsQuietWorld world
rests reads law world is (up, down, none) unfinished_is =
    search (rules, nothing_unread, nothing_partial)

pub not_owing : (result : Bool) (board : BoardState) → (IsTrue result ↔ IsSome (next_message board))
    → result ≡ false → next_message board ≡ None
not_owing result board reports e = search rules

-- ---- the loop

-- the next act is a delivery or a sending
next_settles : (world : WorldView) (act : ActContent) → IsNext world act → IsSettling act
next_settles world act is = search rules

-- one more act, which is the next
in_order_more : (acts : List ActContent) (act : ActContent) (old now new : WorldView)
    → AreInOrder acts old now → IsNext now act → Step act now Outcome.Done new
    → AreInOrder (acts ++ act ∷ []) old new
in_order_more [] act old now new same next step = (
  new,
  rw same at next,
  search rules,
  refl,
)
in_order_more (first ∷ acts) act old now new (between, is, done, rest) next step =
    (between, is, done, in_order_more acts act between now new rest next step)

pub settled_more : (old now new : WorldView) (done : ℕ) → SettlesIn done old now → Moves now new
    → SettlesIn (done + 1) old new
settled_more old now new done settled (act, is, step, less) = record {
  acts = settled.acts ++ act ∷ [];
  settling =
      all_append IsSettling settled.acts (act ∷ []) settled.settling (next_settles now act is, tt);
  counted = rw (length-append settled.acts (act ∷ [])) (omega (arith, settled.counted));
  run = grind (arith, common_steps, run-push);
  in_order = in_order_more settled.acts act old now new settled.in_order is step;
}

pub settled_kept : (count : ℕ) (old new : WorldView) → SettlesIn count old new
    → HasSameGame old.board.state new.board.state
settled_kept count old new settled =
    run_same settled.acts old new (replicate count Outcome.Done) settled.settling settled.run

module _ (leads : Leads)
    (law : EachDividesOnce) (count : ℕ) (old new : WorldView) (settled : SettlesIn count old new)
    (quiet : IsQuietWorld new) (x : MachineState) (stands : StandsFor old x) where
  promise : KeepsPromise x new
  promise = search (rules, run_promise)

  pub settled_mode : new.board.state.mode ≡ coming_mode x
  settled_mode =
      let rest = quiet_state law new promise.state promise.stands quiet in
      let same : coming_mode promise.state ≡ promise.state.board.mode = rw rest.down refl in
      ap (λ (board : BoardState). board.mode) promise.stands.board ∙ sym same ∙ promise.mode

  pub settled_picture : IsPromised x → new.host.picture ≡ Some old.board.state.squares
  settled_picture promised =
      let same = (settled_kept count old new settled).squares in
      world_picture law new promise.state promise.stands quiet (record {
        coming = promise.picture promised.coming;
        mode = rw promise.mode promised.mode;
      })
      ∙ ap (λ (squares : List Piece). Some squares) same

  pub settled_reported : IsTrue (updates new.board.state.mode)
      → IsUnknownOr new.host.picture (Some old.board.state.squares)
  settled_reported asks =
      let same = (settled_kept count old new settled).squares in
      subst (λ (squares : List Piece). IsUnknownOr new.host.picture (Some squares)) same
      (world_picture_reported law new promise.state promise.stands quiet asks)

  pub settled_known : IsTrue (follows_clock new.board.state.mode)
      → IsUnknownOr new.host.clock (Some old.board.state.clock)
  settled_known follows =
      let same = (settled_kept count old new settled).clock in
      subst (λ (clock : ClockState). IsUnknownOr new.host.clock (Some clock)) same
      (world_clock_known law new promise.state promise.stands quiet follows)

  pub settled_awaited : new.host.awaited ≡ []
  settled_awaited = world_awaits_nothing law new promise.state promise.stands quiet

pub settled_clock : EachDividesOnce → (count : ℕ) (old new : WorldView) → SettlesIn count old new
    → IsExactWorld new → IsQuietWorld new → IsTrue (follows_clock new.board.state.mode)
    → new.host.clock ≡ Some old.board.state.clock
settled_clock law count old new settled exact quiet follows =
    let same = (settled_kept count old new settled).clock in
    search (rules, world_clock_reported)

pub work_fits : (world : WorldView)
    → ((board : BoardState) → backlog board ≤ length board.owed + 65)
    → length world.down.bytes < 2 ^ 64 → length world.board.state.owed ≤ 8
    → work_left world < 2 ^ 67
work_fits world bound down owed = search rules

pub most_work : (world : WorldView)
    → work_left world ≤ 3 * length world.down.bytes + 2 * backlog world.board.state + 1
most_work world = let flag = at_most_one (length world.up.bytes) in omega (arith, flag)

-- ---- in any order and in any chunks

fits : (capacity needed : ℕ) → nat_lt capacity needed ≡ false → needed ≤ capacity
fits capacity needed h = ltb-false capacity needed h

module _ (falls : BacklogFalls) where
  send_steps : (world after : WorldView) → length world.board.state.reported_squares ≡ 64
      → ((message : Content) → next_message world.board.state ≡ Some message
      → overflows world.up (encoding message) ≡ false) → Becomes ActContent.BoardSend world after
      → steps_left after < steps_left world
  send_steps world after squares room (message, is_next, encodes, same) =
      let less = falls world.board.state message squares is_next in
      let few = fits world.up.capacity (length world.up.bytes + length (encoding message))
      (room message is_next) in
      let size = length-append world.up.bytes (encoding message) in
      let weighed = mul-le-mul_left (world.up.capacity + 1) less in
      rw same (omega (arith, few, size, weighed))

pub count_first : (answer : Outcome) (answers : List Outcome)
    → done_count (answer ∷ answers) ≡ done_count (answer ∷ []) + done_count answers
count_first answer answers = search rules

module _ (short : WordsAreShort) (within : NoWordBeginsAPart) (rises : BacklogRises) where
  take_steps : (world after : WorldView) (count : ℕ) → IsPartial world.board.partial
      → Becomes (ActContent.ToBoard count) world after → steps_left after < steps_left world
  take_steps world after count partial delivers =
      let weighed = mul-le-mul_left (world.up.capacity + 1)
      (take_raises short within rises world after count partial delivers) in
      grind (arith, common_steps)

module _ (keeps : (act : ActContent) (world after : WorldView) (answer : Outcome) → IsWorld world
    → Step act world answer after → IsWorld after)
    (falls : BacklogFalls)
    (short : WordsAreShort) (within : NoWordBeginsAPart) (rises : BacklogRises) where
  step_steps : (act : ActContent) (world after : WorldView) (answer : Outcome) → IsWorld world
      → IsSettling act → Step act world answer after
      → done_count (answer ∷ []) + steps_left after ≤ steps_left world
  step_steps act world after answer is settling step =
      grind (arith, common_steps, send_steps, take_steps)

  pub run_steps : (acts : List ActContent) (world after : WorldView) (answers : List Outcome)
      → IsWorld world → AllByRecursion IsSettling acts → Runs acts world answers after
      → done_count answers ≤ steps_left world
  run_steps [] world after [] is all same = omega arith
  run_steps (act ∷ acts) world after (answer ∷ answers) is all (between, step, runs) =
      let first = step_steps act world between answer is all.0 step in
      let rest =
      run_steps acts between after answers (keeps act world between answer is step) all.1 runs in
      search rules
  run_steps _ world after _ is all none = absurd none
