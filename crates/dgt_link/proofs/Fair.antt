-- Whatever the schedule, a world comes to rest if each side moves again and again.
use Rattle.std.proofs.Common.{arith, ◌≡◌, refl, sym, ap, subst, ◌∙◌, ◌⊎◌, inl, inr, ℕ, ◌+◌, ◌<◌, ◌≤◌, zero, suc, List, [], ◌∷◌, ◌++◌, Some, None, Bool, true, cond, length, if◌then◌else◌, rules}
use Rattle.{std.{proofs.lemmas.List.{length-append, length-map}, specs.{List.{AllByRecursion}, Prelude.{Contains, slice_get, map}}}, dgt_message.specs.{Clock.{ClockState}, Content.{Content}}}
use Rattle.{dgt_message.specs.{Content.{clock_message}, Encoding.{encoding}}, dgt_command.specs.{Content.{EventContent}, Laws.{NoWordBeginsAPart, WordsAreShort}}, dgt_board.specs.Sending.{clock_news}}
use Rattle.dgt_board.specs.{Sending.{field_of, next_message, reply_message, unreported_squares}, State.{BoardState, IsShortClock, IsShortIdentity, effect, effects}, declared.replies.Reply.{Reply}}
use Rattle.dgt_link.specs.{Act.{ActContent}, Healing.{IsRestedWorld}, Settling.{HasRounds, IsRound, IsSettling, steps_left}, Stands.{IsWorld}, Step.{Runs, Step, done_count, moves_nothing, outcome}}
use Rattle.dgt_link.{specs.{Step.{Becomes}, View.{LineContents, WorldView}, declared.acts.Outcome.{Outcome}}, proofs.{Backlogs.{BacklogFalls, BacklogRises}, Lists.{Contains-cons, all_append}}}
use Rattle.dgt_link.proofs.{Lists.{nothing_contained}, Settling.{count_first, no_bytes, run_steps}, Taking.{HasSameGame, effects_same_game}}

-- each message that the board sends fits into the empty up line, whatever it owes and has reported
abbrev SendsFit : WorldView → Type 0
SendsFit world =
    (board : BoardState) (message : Content) → board.squares ≡ world.board.state.squares
    → board.clock ≡ world.board.state.clock → board.identity ≡ world.board.state.identity
    → next_message board ≡ Some message → length (encoding message) ≤ world.up.capacity

-- ---- no message is longer than a dump

clock_is_short : (clock : ClockState) → IsShortClock clock
    → length (encoding (clock_message clock)) ≤ 67
clock_is_short clock is = search (rules, length-append)

module _ (board : BoardState) (squares : length board.squares ≡ 64)
    (is : IsShortIdentity board.identity)
    (clock : IsShortClock board.clock) where
  news_is_short : (owed : Bool) (message : Content)
      → slice_get (if owed then clock_message board.clock ∷ [] else []) 0 ≡ Some message
      → length (encoding message) ≤ 67
  news_is_short owed message e = search (rules, clock_is_short)

  fields_are_short : (fields : List ℕ) (message : Content)
      → slice_get (map (field_of board) fields ++ clock_news board) 0 ≡ Some message
      → length (encoding message) ≤ 67
  fields_are_short [] message e = news_is_short board.times_owed message e
  fields_are_short (square ∷ fields) message e = search rules

  all_are_short : (owed : List Reply) (message : Content)
      → slice_get
      (map (reply_message board) owed
      ++ (map (field_of board) (unreported_squares board) ++ clock_news board)) 0 ≡ Some message
      → length (encoding message) ≤ 67
  all_are_short [] message e = fields_are_short (unreported_squares board) message e
  all_are_short (reply ∷ owed) message e = search (rules, length-map, clock_is_short)

-- ---- runs in two parts

pub record Split (first later : List ActContent) (world after : WorldView)
    (answers : List Outcome) : Type 0 where
  pub between : WorldView
  pub ones : List Outcome
  pub others : List Outcome
  pub both : answers ≡ ones ++ others
  pub runs : Runs first world ones between
  pub more : Runs later between others after

run_split : (first later : List ActContent) (world after : WorldView) (answers : List Outcome)
    → Runs (first ++ later) world answers after → Split first later world after answers
run_split [] later world after answers runs =
    record { between = world; ones = []; others = answers; both = refl; runs = refl; more = runs }
run_split (act ∷ first) later world after (answer ∷ answers) (next, step, runs) =
    let rest = run_split first later next after answers runs in
    record {
      between = rest.between;
      ones = answer ∷ rest.ones;
      others = rest.others;
      both = ap (λ (all : List Outcome). answer ∷ all) rest.both;
      runs = (next, step, rest.runs);
      more = rest.more;
    }
run_split (act ∷ first) later world after [] none = absurd none

count_both : (ones others : List Outcome)
    → done_count (ones ++ others) ≡ done_count ones + done_count others
count_both [] others = omega arith
count_both (one ∷ ones) others = search (rules, count_both ones others)

-- ---- acts of which none is done

same_if_none : (act : ActContent) (world after : WorldView) (answer : Outcome)
    → Step act world answer after → done_count (answer ∷ []) ≡ 0 → after ≡ world
same_if_none act world after answer step none = search rules

none_done : (acts : List ActContent) (world after : WorldView) (answers : List Outcome)
    → Runs acts world answers after → done_count answers ≡ 0 → after ≡ world
none_done [] world after [] same none = same
none_done (act ∷ acts) world after (answer ∷ answers) (between, step, runs) none =
    let both = count_first answer answers in
    none_done acts between after answers runs (omega (arith, none, both))
    ∙ same_if_none act world between answer step (omega (arith, none, both))
none_done _ world after _ never none = absurd never

-- each of them can't be done
none_can : (act : ActContent) (acts : List ActContent) (world after : WorldView)
    (answers : List Outcome) → Contains acts act → Runs acts world answers after
    → done_count answers ≡ 0 → done_count (outcome act world ∷ []) ≡ 0
none_can act [] world after [] found same none = absurd (nothing_contained act found)
none_can act (first ∷ acts) world after (answer ∷ answers) found (between, step, runs) none =
    go (λ later none'. none_can act acts between after answers later runs none')
    (Contains-cons act first acts found)
  where
    both : done_count (answer ∷ answers) ≡ done_count (answer ∷ []) + done_count answers
    both = count_first answer answers

    here : done_count (answer ∷ []) ≡ 0
    here = omega (arith, none, both)

    same : between ≡ world
    same = same_if_none first world between answer step here

    go : (Contains acts act → done_count answers ≡ 0 → done_count (outcome act between ∷ []) ≡ 0)
        → (first ≡ act) ⊎ Contains acts act → done_count (outcome act world ∷ []) ≡ 0
    go rest (inl e) = ap (λ (other : ActContent). done_count (outcome other world ∷ [])) (sym e)
        ∙ ap (λ (one : Outcome). done_count (one ∷ [])) (sym step.answers) ∙ here
    go rest (inr later) = search rules
none_can act _ world after _ found never none = absurd never

-- ---- a world in which no side can move

nothing_if : (nothing : Bool) → done_count (cond nothing Outcome.Nothing Outcome.Done ∷ []) ≡ 0
    → nothing ≡ true
nothing_if nothing h = search rules

line_empty : (count : ℕ) (line : LineContents) → 0 < count → moves_nothing count line ≡ true
    → line.bytes ≡ []
line_empty count line some none = search (rules, no_bytes)

none_sent : (world : WorldView) → SendsFit world → world.up.bytes ≡ []
    → done_count (outcome ActContent.BoardSend world ∷ []) ≡ 0
    → next_message world.board.state ≡ None
none_sent world fits empty h = search rules

none_taken : (count : ℕ) (world : WorldView) → 0 < count → world.board.state.owed ≡ []
    → done_count (outcome (ActContent.ToBoard count) world ∷ []) ≡ 0 → world.down.bytes ≡ []
none_taken count world some owed h =
    line_empty count world.down some (nothing_if (moves_nothing count world.down) (rw owed at h))

-- no act of a round can be done in a world only if it rests
stuck : ((board : BoardState) → next_message board ≡ None → board.owed ≡ [])
    → (round : List ActContent) (world after : WorldView) (answers : List Outcome) → SendsFit world
    → IsRound round → Runs round world answers after → done_count answers ≡ 0 → IsRestedWorld world
stuck none_owed round world after answers fits is runs none =
    let hears =
    none_can (ActContent.ToHost is.hears.0) round world after answers is.hears.2 runs none in
    search (rules, none_can, line_empty, nothing_if, none_sent, none_taken)

-- ---- a world that rests

rests_on : (acts : List ActContent) (world after : WorldView) (answers : List Outcome)
    → AllByRecursion IsSettling acts → IsRestedWorld world → Runs acts world answers after
    → after ≡ world
rests_on [] world after [] all rested same = same
rests_on (act ∷ acts) world after (answer ∷ answers) all rested (between, step, runs) =
    let same : between ≡ world = search rules in
    rests_on acts between after answers all.1 (rw same rested) runs ∙ same
rests_on _ world after _ all rested never = absurd never

-- ---- what a board sends still fits

abbrev KeepsFit : WorldView → WorldView → Type 0
KeepsFit world after = HasSameGame world.board.state after.board.state
    × (after.board.state.identity ≡ world.board.state.identity)
    × (after.up.capacity ≡ world.up.capacity)

effects_identity : (board : BoardState) (events : List EventContent)
    → (effects board events).identity ≡ board.identity
effects_identity board [] = refl
effects_identity board (EventContent.Read command ∷ events) =
    effects_identity (effect board (EventContent.Read command)) events
effects_identity board (event ∷ events) = effects_identity board events

becomes_fit : (act : ActContent) (world after : WorldView) → IsSettling act
    → Becomes act world after → KeepsFit world after
becomes_fit act world after is becomes = search (rules, effects_same_game, effects_identity)

step_fit : (act : ActContent) (world after : WorldView) (answer : Outcome) → IsSettling act
    → Step act world answer after → KeepsFit world after
step_fit act world after answer is step = search (rules, becomes_fit)

run_fit : (acts : List ActContent) (world after : WorldView) (answers : List Outcome)
    → AllByRecursion IsSettling acts → Runs acts world answers after → KeepsFit world after
run_fit [] world after [] all same = rw same (record { squares = refl; clock = refl }, refl, refl)
run_fit (act ∷ acts) world after (answer ∷ answers) all (between, step, runs) =
    let first = step_fit act world between answer all.0 step in
    let rest = run_fit acts between after answers all.1 runs in search rules
run_fit _ world after _ all never = absurd never

still_fits : (world after : WorldView) → KeepsFit world after → SendsFit world → SendsFit after
still_fits world after kept fits = search rules

-- ---- rounds

rounds_settle : (rounds : ℕ) (acts : List ActContent) → HasRounds rounds acts
    → AllByRecursion IsSettling acts
rounds_settle zero acts all = all
rounds_settle (suc rounds) acts (round, later, both, is, more) =
    search (rules, all_append, rounds_settle rounds later more)

module _ (none_owed : (board : BoardState) → next_message board ≡ None → board.owed ≡ []) where
  -- each round does something, or the world rests
  pub rounds_do : (rounds : ℕ) (acts : List ActContent) (world after : WorldView)
      (answers : List Outcome) → SendsFit world → HasRounds rounds acts
      → Runs acts world answers after → (rounds ≤ done_count answers) ⊎ IsRestedWorld after
  rounds_do zero acts world after answers fits has runs = inl (omega arith)
  rounds_do (suc rounds) acts world after answers fits (round, later, both, is, more) runs =
      go (rounds_do rounds later parts.between after parts.others fits_between more parts.more)
      (done_count parts.ones) refl
    where
      parts : Split round later world after answers
      parts = run_split round later world after answers
          (rw both at runs)

      counted : done_count answers ≡ done_count parts.ones + done_count parts.others
      counted = ap done_count parts.both ∙ count_both parts.ones parts.others

      fits_between : SendsFit parts.between
      fits_between = still_fits world parts.between
          (run_fit round world parts.between parts.ones is.settling parts.runs) fits

      go : (rounds ≤ done_count parts.others) ⊎ IsRestedWorld after → (done : ℕ)
          → done_count parts.ones ≡ done → (suc rounds ≤ done_count answers) ⊎ IsRestedWorld after
      go rest zero e =
          let rested = stuck none_owed round world parts.between parts.ones fits is parts.runs e in
          let same : parts.between ≡ world =
          none_done round world parts.between parts.ones parts.runs e in
          let last : after ≡ parts.between = search (rules, rests_on, rounds_settle) in
          inr (rw (last, same) rested)
      go (inl enough) (suc done) e = inl (omega (arith, enough, counted, e))
      go (inr rested) (suc done) e = inr rested

  real_fits : (world : WorldView) → IsWorld world → IsShortIdentity world.board.state.identity
      → IsShortClock world.board.state.clock → SendsFit world
  real_fits world is identity clock = λ board message squares' clock' identity' next.
      let sixty_four : length board.squares ≡ 64
      = search rules in
      let short = all_are_short board sixty_four (rw identity' identity) (rw clock' clock)
      board.owed message next in
      omega (arith, short, is.up_room)

  module _ (keeps : (act : ActContent) (world after : WorldView) (answer : Outcome) → IsWorld world
      → Step act world answer after → IsWorld after)
      (falls : BacklogFalls) (short : WordsAreShort) (within : NoWordBeginsAPart)
      (rises : BacklogRises) where
    pub rounds_rest : (rounds : ℕ) (acts : List ActContent) (world after : WorldView)
        (answers : List Outcome) → IsWorld world → IsShortIdentity world.board.state.identity
        → IsShortClock world.board.state.clock → HasRounds rounds acts → steps_left world < rounds
        → Runs acts world answers after → IsRestedWorld after
    rounds_rest rounds acts world after answers is identity clock has enough runs =
        elim (rounds_do rounds acts world after answers (real_fits world is identity clock) has
        runs) [
          | inl all ↦ search (rules, run_steps, rounds_settle)
          | inr rested ↦ rested
        ]
