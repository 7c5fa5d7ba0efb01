-- What counts, and continues to count after later acts.
use Rattle.std.proofs.{Common.{arith, ◌≡◌, ◌⊎◌, refl, sym, List, [], ◌∷◌, ◌++◌, ℕ, true, false, length, rules}, lemmas.{Bool.{false≢true}, List.Elements.{Contains-append_left}}}
use Rattle.{std.specs.{List.{AllByRecursion}, Prelude.{Contains, IsTrue, filter_map, unwrap_or}}, dgt_command.specs.Content.{CommandContent}, dgt_board.specs.State.{command_mode, follows_clock}}
use Rattle.{dgt_board.specs.{State.{updates}, declared.modes.Mode.{Mode}}, dgt_link.specs.{Act.{ActContent}, Clocks.{AreClockCalm, stops_clock}, Faults.{AreCalm, AreFaultless, FaultyContent}}}
use Rattle.dgt_link.specs.{Faults.{begins_anew, is_fault, loses_step, sends, stops}, Healing.{Counted, IsClockHealing, IsHealing, IsInTurn, counted_after, counted_after_all, counted_anew}}
use Rattle.dgt_link.{specs.{Healing.{nothing_counted}, Promise.{IsAsked, last_mode}, declared.acts.Outcome.{Outcome}}, proofs.{Promises.{asked-mode}}}

-- ---- lists of commands

pub one_of_two : (P : CommandContent → Type 0) (first second one : CommandContent) → P first
    → P second → Contains (first ∷ second ∷ []) one → P one
one_of_two P first second one p q has = search rules

pub one_of_three : (P : CommandContent → Type 0) (first second third one : CommandContent) → P first
    → P second → P third → Contains (first ∷ second ∷ third ∷ []) one → P one
one_of_three P first second third one p q r has = search rules

-- ---- a property that these acts keep counts after all of them

goes_on : (P : Counted → Type 0) (Q : FaultyContent → Type 0)
    → ((c : Counted) (act : FaultyContent) (answer : Outcome) → Q act → P c
    → P (counted_after c act answer))
    → (c : Counted) (acts : List FaultyContent) (answers : List Outcome) → AllByRecursion Q acts
    → P c → P (counted_after_all c acts answers)
goes_on P Q step c [] answers all is = is
goes_on P Q step c (act ∷ acts) [] all is = is
goes_on P Q step c (act ∷ acts) (answer ∷ answers) all is =
    goes_on P Q step (counted_after c act answer) acts answers all.1 (step c act answer all.0 is)

-- what counts after more acts, whatever counted after the first ones
after_any : (P : Counted → Type 0) (more : List FaultyContent) (others : List Outcome)
    → ((c : Counted) → P (counted_after_all c more others))
    → (c : Counted) (acts : List FaultyContent) (answers : List Outcome)
    → length answers ≡ length acts → P (counted_after_all c (acts ++ more) (answers ++ others))
after_any P more others always c [] [] same = always c
after_any P more others always c (act ∷ acts) (answer ∷ answers) same =
    after_any P more others always (counted_after c act answer) acts answers (omega (arith, same))
after_any P more others always c acts answers same = search rules

-- ---- the picture

anew_heals : IsHealing counted_anew
anew_heals =
    record { in_step = refl; asked = record { dump = (1, omega arith, refl); mode = refl } }

mode_goes_on : (command : CommandContent) (mode : Mode) → stops (sends command) ≡ false
    → IsTrue (updates mode) → IsTrue (updates (unwrap_or (command_mode command) mode))
mode_goes_on command mode calm is = search rules

pub still_asked : (commands : List CommandContent) (command : CommandContent)
    → stops (sends command) ≡ false → IsAsked commands → IsAsked (commands ++ command ∷ [])
still_asked commands command calm is =
    let mode : Mode = last_mode Mode.Idle (filter_map command_mode commands) in
    record {
      dump = Contains-append_left commands (command ∷ []) CommandContent.Dump is.dump;
      mode = rw (← asked-mode commands command Mode.Idle mode refl)
          (mode_goes_on command mode calm is.mode);
    }

plain_heals : (c : Counted) (act : ActContent) (answer : Outcome)
    → stops (FaultyContent.Plain act) ≡ false → IsHealing c
    → IsHealing (counted_after c (FaultyContent.Plain act) answer)
plain_heals c ActContent.HostBreak answer calm is = anew_heals
plain_heals c ActContent.Break answer calm is = absurd (false≢true (sym calm))
plain_heals c act Outcome.Done calm is = search (rules, still_asked)
plain_heals c _ _ calm is = record { in_step = is.in_step; asked = is.asked }

step_heals : (c : Counted) (act : FaultyContent) (answer : Outcome)
    → (is_fault act ≡ false) × (stops act ≡ false) → IsHealing c
    → IsHealing (counted_after c act answer)
step_heals c act answer calm is = search (rules, plain_heals)

pub healing_goes_on : (c : Counted) (acts : List FaultyContent) (answers : List Outcome)
    → AreCalm acts → IsHealing c → IsHealing (counted_after_all c acts answers)
healing_goes_on = goes_on IsHealing (λ act. (is_fault act ≡ false) × (stops act ≡ false)) step_heals

anew_counts : (P : Counted → Type 0) (c : Counted) (act : FaultyContent) → begins_anew act ≡ true
    → P counted_anew → P (counted_after c act Outcome.Done)
anew_counts P c act is p = search rules

-- ---- the awaited replies, and that the board reads what was sent

turn_step : (c : Counted) (act : FaultyContent) (answer : Outcome) → is_fault act ≡ false
    → IsInTurn c → IsInTurn (counted_after c act answer)
turn_step c act answer none is = search rules

-- the host starts over, or both sides lose the line
turn_begins : (c : Counted) (act : FaultyContent)
    → (begins_anew act ≡ true) ⊎ (act ≡ FaultyContent.Plain ActContent.Break)
    → IsInTurn (counted_after c act Outcome.Done)
turn_begins c act begins = search rules

abbrev InStep : Counted → Type 0
InStep c = IsTrue c.in_step

stays_in_step : (c : Counted) (act : FaultyContent) (answer : Outcome) → loses_step act ≡ false
    → InStep c → InStep (counted_after c act answer)
stays_in_step c act answer none is = search rules

-- ---- the clock

clock_mode_goes_on : (command : CommandContent) (mode : Mode) → stops_clock (sends command) ≡ false
    → IsTrue (follows_clock mode) → IsTrue (follows_clock (unwrap_or (command_mode command) mode))
clock_mode_goes_on command mode calm is = search rules

clock_step : (c : Counted) (act : FaultyContent) (answer : Outcome)
    → (is_fault act ≡ false) × (stops_clock act ≡ false) → IsClockHealing c
    → IsClockHealing (counted_after c act answer)
clock_step c (FaultyContent.Plain (ActContent.Host command)) Outcome.Done (none, calm) is =
    let mode : Mode = last_mode Mode.Idle (filter_map command_mode c.asked) in
    record {
      in_step = is.in_step;
      asked = Contains-append_left c.asked (command ∷ []) CommandContent.Clock is.asked;
      mode = rw (← asked-mode c.asked command Mode.Idle mode refl)
          (clock_mode_goes_on command mode calm is.mode);
    }
clock_step c act answer (none, calm) is = search rules

clock_goes_on : (c : Counted) (acts : List FaultyContent) (answers : List Outcome)
    → AreClockCalm acts → IsClockHealing c → IsClockHealing (counted_after_all c acts answers)
clock_goes_on =
    goes_on IsClockHealing (λ act. (is_fault act ≡ false) × (stops_clock act ≡ false)) clock_step

-- what counts after this command, and then a request of the clock
abbrev with_clock : Counted → CommandContent → Counted
with_clock c mode =
    counted_after_all c (sends mode ∷ sends CommandContent.Clock ∷ [])
    (Outcome.Done ∷ Outcome.Done ∷ [])

anew_clock : (mode : CommandContent)
    → Contains (CommandContent.Update ∷ CommandContent.UpdateNice ∷ []) mode
    → IsClockHealing (with_clock counted_anew mode)
anew_clock mode = search rules

-- ---- after any acts

module _ (acts later : List FaultyContent) (act : FaultyContent) (answers others : List Outcome)
    (same : length answers ≡ length acts) where
  pub anew_is_healing : begins_anew act ≡ true → AreCalm later
      → IsHealing
      (counted_after_all (nothing_counted false) (acts ++ act ∷ later)
      (answers ++ Outcome.Done ∷ others))
  anew_is_healing begins calm = after_any IsHealing (act ∷ later) (Outcome.Done ∷ others)
      (search (rules, healing_goes_on, anew_heals)) (nothing_counted false) acts answers same

  -- ---- the awaited replies, and that the board reads what was sent

  pub in_turn_again : (begins_anew act ≡ true) ⊎ (act ≡ FaultyContent.Plain ActContent.Break)
      → AreFaultless later
      → IsInTurn
      (counted_after_all (nothing_counted false) (acts ++ act ∷ later)
      (answers ++ Outcome.Done ∷ others))
  in_turn_again begins none = after_any IsInTurn (act ∷ later) (Outcome.Done ∷ others)
      (λ c. goes_on IsInTurn (λ act. is_fault act ≡ false) turn_step
      (counted_after c act Outcome.Done) later others
      none (turn_begins c act begins)) (nothing_counted false) acts answers same

  pub in_step_again : (begins_anew act ≡ true) ⊎ (act ≡ FaultyContent.Plain ActContent.Break)
      → AllByRecursion (λ act. loses_step act ≡ false) later
      → IsTrue (counted_after_all (nothing_counted false) (acts ++ act ∷ later)
      (answers ++ Outcome.Done ∷ others)).in_step
  in_step_again begins none = after_any InStep (act ∷ later) (Outcome.Done ∷ others)
      (λ c. goes_on InStep (λ act. loses_step act ≡ false) stays_in_step
      (counted_after c act Outcome.Done) later others
      none (turn_begins c act begins).in_step) (nothing_counted false) acts answers same

  -- ---- the clock

  pub clock_again : (mode : CommandContent) → begins_anew act ≡ true
      → Contains (CommandContent.Update ∷ CommandContent.UpdateNice ∷ []) mode → AreClockCalm later
      → IsClockHealing (counted_after_all (nothing_counted false)
      (acts ++ act ∷ sends mode ∷ sends CommandContent.Clock ∷ later)
      (answers ++ Outcome.Done ∷ Outcome.Done ∷ Outcome.Done ∷ others))
  clock_again mode begins asks calm =
      after_any IsClockHealing (act ∷ sends mode ∷ sends CommandContent.Clock ∷ later)
      (Outcome.Done ∷ Outcome.Done ∷ Outcome.Done ∷ others)
      (λ c. clock_goes_on _ later others calm
      (anew_counts (λ d. IsClockHealing (with_clock d mode)) c act begins (anew_clock mode asks)))
      (nothing_counted false) acts answers same

-- ---- the up line was garbled in a world in step

-- what counts after this command, garbage on the up line, and another command
abbrev garbled_between : List ℕ → Outcome → CommandContent → CommandContent → Counted
garbled_between bytes answer later mode =
    counted_after_all (nothing_counted true)
    (sends mode ∷ FaultyContent.GarbleUp bytes ∷ sends later ∷ [])
    (Outcome.Done ∷ answer ∷ Outcome.Done ∷ [])

dump_counts : (bytes : List ℕ) (answer : Outcome) (mode : CommandContent)
    → Contains (CommandContent.Update ∷ CommandContent.UpdateBoard ∷ CommandContent.UpdateNice ∷ [])
    mode → IsHealing (garbled_between bytes answer CommandContent.Dump mode)
dump_counts bytes Outcome.Done mode =
    one_of_three (λ m. IsHealing (garbled_between bytes Outcome.Done CommandContent.Dump m))
    CommandContent.Update CommandContent.UpdateBoard CommandContent.UpdateNice mode
    (record { in_step = refl; asked = record { dump = (1, omega arith, refl); mode = refl } })
    (record { in_step = refl; asked = record { dump = (1, omega arith, refl); mode = refl } })
    (record { in_step = refl; asked = record { dump = (1, omega arith, refl); mode = refl } })
dump_counts bytes answer mode =
    one_of_three (λ m. IsHealing (garbled_between bytes answer CommandContent.Dump m))
    CommandContent.Update CommandContent.UpdateBoard CommandContent.UpdateNice mode
    (record { in_step = refl; asked = record { dump = (1, omega arith, refl); mode = refl } })
    (record { in_step = refl; asked = record { dump = (1, omega arith, refl); mode = refl } })
    (record { in_step = refl; asked = record { dump = (1, omega arith, refl); mode = refl } })

reading_counts : (bytes : List ℕ) (answer : Outcome) (mode : CommandContent)
    → Contains (CommandContent.Update ∷ CommandContent.UpdateNice ∷ []) mode
    → IsClockHealing (garbled_between bytes answer CommandContent.Clock mode)
reading_counts bytes Outcome.Done mode =
    one_of_two (λ m. IsClockHealing (garbled_between bytes Outcome.Done CommandContent.Clock m))
    CommandContent.Update CommandContent.UpdateNice mode
    (record { in_step = refl; asked = (1, omega arith, refl); mode = refl })
    (record { in_step = refl; asked = (1, omega arith, refl); mode = refl })
reading_counts bytes answer mode =
    one_of_two (λ m. IsClockHealing (garbled_between bytes answer CommandContent.Clock m))
    CommandContent.Update CommandContent.UpdateNice mode
    (record { in_step = refl; asked = (1, omega arith, refl); mode = refl })
    (record { in_step = refl; asked = (1, omega arith, refl); mode = refl })

module _ (mode : CommandContent) (bytes : List ℕ) (later : List FaultyContent) (answer : Outcome)
    (others : List Outcome) where
  pub dump_is_healing
      : Contains
      (CommandContent.Update ∷ CommandContent.UpdateBoard ∷ CommandContent.UpdateNice ∷ []) mode
      → AreCalm later → IsHealing (counted_after_all (nothing_counted true)
      (sends mode ∷ FaultyContent.GarbleUp bytes ∷ sends CommandContent.Dump ∷ later)
      (Outcome.Done ∷ answer ∷ Outcome.Done ∷ others))
  dump_is_healing asks calm =
      healing_goes_on _ later others calm (dump_counts bytes answer mode asks)

  pub reading_is_healing : Contains (CommandContent.Update ∷ CommandContent.UpdateNice ∷ []) mode
      → AreClockCalm later
      → IsClockHealing
      (counted_after_all (nothing_counted true)
      (sends mode ∷ FaultyContent.GarbleUp bytes ∷ sends CommandContent.Clock ∷ later)
      (Outcome.Done ∷ answer ∷ Outcome.Done ∷ others))
  reading_is_healing asks calm =
      clock_goes_on _ later others calm (reading_counts bytes answer mode asks)

-- a host that gives up, in a world in step
pub given_up_is_in_turn : (later : List FaultyContent) (answer : Outcome) (others : List Outcome)
    → AreFaultless later
    → IsInTurn
    (counted_after_all (nothing_counted true) (FaultyContent.GiveUp ∷ later) (answer ∷ others))
given_up_is_in_turn later answer others none =
    goes_on IsInTurn (λ act. is_fault act ≡ false) turn_step _ later others none
    (record { in_step = refl; in_turn = refl })
