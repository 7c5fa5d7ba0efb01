-- Two reports of one chunk or of one struct are the same.
use Rattle.std.proofs.Common.{◌≡◌, ◌↔◌, refl, sym, ap, ◌∙◌, subst, ℕ, ◌-◌, ◌≤◌, List, [], ◌∷◌, ◌++◌, append_assoc, length, map, take, drop, Some, None, Option, Bool, IsTrue, arith, inl, inr, min}
use Rattle.{std.proofs.{Common.{length-drop, length-take, take-append-drop, rules}, lemmas.{Bool.{cases_lt}, Grind.{common_steps}}}, dgt_values.specs.Board.{piece_code}}
use Rattle.{dgt_values.specs.declared.pieces.Piece.{Piece}, dgt_decode.specs.{Feeding.{FirstEvent}, Grammar.{Event, Placed}}, dgt_command.specs.{Content.{EventContent}, Laws.{NoWordBeginsAPart}}}
use Rattle.{dgt_command.specs.{Laws.{NoWordBeginsAnother}, Words.{IsPartial, IsWord}}, dgt_host.specs.Host.{HostView, host_after_event}, dgt_c.specs.{Chunks.{Reports}, Commands.{CommandReporting}}}
use Rattle.dgt_c.specs.{Commands.{ReportsCommand}, Hearing.{Reporting, ReportsEvent, flag}, Once.{AreSameCommands, AreSameReports, BusyBoardsStay, ClocksAreInRange, IdentitiesAreInRange}}
use Rattle.dgt_c.specs.Once.{MessagesAreEncoded, MessagesAreRead, NothingIsEncoded, OneClock, OneEncoding, OneFeed, OneHearing, OneReportEach, OneStart, OneTaking, OneUse, OneWord}
use Rattle.dgt_c.specs.{Once.{RefusedCommandsStay, RoomIsLeft, TextsAreShown}, Reading.{ReadsWord}, Reported.{reported_at}, declared.header.DgtEvent.{DgtEvent}}
use Rattle.dgt_c.proofs.ChunkLemmas.{overwritten_nothing, prefix_and_rest}

-- ---- events

-- the properties required of a reader of messages
abbrev pub OneFirstEvent : Type 0
OneFirstEvent =
    (held chunk : List ℕ) (j k : ℕ) (x y : Option Event) → FirstEvent held chunk j x
    → FirstEvent held chunk k y → (j ≡ k) × (x ≡ y)

-- the struct of an event with its place, and whether it is unasked
abbrev struct_of : ℕ → Option Event → Bool → DgtEvent
struct_of place event unasked = record (reported_at place event) { unasked = flag unasked }

same_struct : (j k : ℕ) (x y : Option Event) (a b : Bool) → j ≡ k → x ≡ y → a ≡ b
    → struct_of j x a ≡ struct_of k y b
same_struct j k x y a b e f g = search rules

same_reports : (j k : ℕ) (x y : Option Event) (a b : Bool) (first second : Reporting)
    → first.old ≡ second.old → j ≡ k → x ≡ y → a ≡ b → ReportsEvent j x a first
    → ReportsEvent k y b second → AreSameReports first second
same_reports j k x y a b first second old e f g p q = search (rules, same_struct)

pub one_feed : OneFirstEvent → OneFeed
one_feed once held chunk used other first second old p q = search (rules, same_reports)

same_unasked : {A : Type 0} (P : A → Type 0) (x y : A) (a b : Bool) → x ≡ y → (IsTrue a ↔ P x)
    → (IsTrue b ↔ P y) → a ≡ b
same_unasked P x y a b e p q = search rules

pub one_hearing : OneFirstEvent → OneHearing
one_hearing once host chunk used other first second old p q =
    search (rules, same_unasked, same_reports)

pub one_use : OneUse
one_use held chunk capacity used other p q = search (rules, cases_lt)

pub room_is_left : RoomIsLeft
room_is_left = grind (arith, common_steps)

same_report : (before : ℕ) (host : HostView) (x : Placed) (first second : DgtEvent)
    → Reports before host.awaited x first → Reports before host.awaited x second → first ≡ second
same_report before host x first second p q = search (rules, same_unasked, same_struct)

pub one_report_each : OneReportEach
one_report_each before host [] [] [] p q = refl
one_report_each before host (x ∷ made) (f ∷ first) (s ∷ second) p q =
    search (rules, same_report, one_report_each before (host_after_event host x.event) made)
one_report_each before host _ _ _ p q = search rules

-- ---- commands

module _ (begins : NoWordBeginsAnother) (parts : NoWordBeginsAPart) where
  one_event : (held chunk : List ℕ) (j k : ℕ) (x y : EventContent) → j ≤ k → k ≤ length chunk
      → IsWord x (held ++ take j chunk) → IsWord y (held ++ take k chunk) → (j ≡ k) × (x ≡ y)
  one_event held chunk j k x y order fits p q =
      let more = take (k - j) (drop j chunk) in
      let longer : held ++ take k chunk ≡ (held ++ take j chunk) ++ more
      = search (rules, prefix_and_rest, append_assoc)
      in
      let same = begins x y (held ++ take j chunk) (held ++ take k chunk) more p q longer in
      let none : length more ≡ 0 = ap length same.1 in
      search (rules, min, length-take, length-drop)

  no_part : (held chunk : List ℕ) (k : ℕ) (y : EventContent) → IsPartial (held ++ chunk)
      → IsWord y (held ++ take k chunk) → ⊥
  no_part held chunk k y p q =
      let whole : held ++ chunk ≡ (held ++ take k chunk) ++ drop k chunk
      = search (rules, append_assoc, take-append-drop) in
      parts y (held ++ take k chunk) (drop k chunk) q (subst IsPartial whole p)

  one_read : (held chunk : List ℕ) (j k : ℕ) (x y : Option EventContent) → j ≤ length chunk
      → k ≤ length chunk → ReadsWord held chunk j x → ReadsWord held chunk k y → (j ≡ k) × (x ≡ y)
  one_read held chunk j k None None f g p q = (p.0 ∙ sym q.0, refl)
  one_read held chunk j k (Some x) (Some y) f g p q = search (rules, cases_lt, one_event)
  one_read held chunk j k None (Some y) f g p q = absurd (no_part held chunk k y p.1 q)
  one_read held chunk j k (Some x) None f g p q = absurd (no_part held chunk j x q.1 p)

  same_commands : (x y : Option EventContent) (first second : CommandReporting)
      → first.old ≡ second.old → x ≡ y → ReportsCommand x first → ReportsCommand y second
      → AreSameCommands first second
  same_commands x y first second old e p q = search rules

  pub one_word : OneWord
  one_word held chunk used other first second after rest f g old p q =
      search (rules, one_read, same_commands)

  pub one_taking : OneTaking
  one_taking before after last chunk used other first second f g old p q =
      search (rules, one_read, same_commands)

pub busy_boards_stay : BusyBoardsStay
busy_boards_stay before after chunk taken reported busy p = search (rules, overwritten_nothing)

-- ---- the values in structs

pub one_clock : OneClock
one_clock = search rules

pub clocks_are_in_range : ClocksAreInRange
clocks_are_in_range = (λ said times p. p.1, λ said absence p. p.1)

pub pieces_once : ((a b : Piece) → piece_code a ≡ piece_code b → a ≡ b) → (xs ys : List Piece)
    → map piece_code xs ≡ map piece_code ys → xs ≡ ys
pieces_once one [] [] e = refl
pieces_once one (x ∷ xs) (y ∷ ys) e = search (rules, pieces_once one xs ys)
pieces_once one _ _ e = absurd cc

pub one_start : ((a b : Piece) → piece_code a ≡ piece_code b → a ≡ b) → OneStart
one_start one codes clock identity board other p q =
    let pieces = pieces_once one p.0 q.0 (p.2 ∙ sym q.2) in
    search (rules, one_clock)

pub identities_are_in_range : IdentitiesAreInRange
identities_are_in_range codes clock identity board p = search rules

-- ---- encodings and refusals

pub one_encoding : OneEncoding
one_encoding bytes old new other reported also p q = search rules

pub nothing_is_encoded : NothingIsEncoded
nothing_is_encoded = search rules

pub messages_are_encoded : MessagesAreEncoded
messages_are_encoded = search rules

pub messages_are_read : MessagesAreRead
messages_are_read said body message says none = none message says

pub refused_commands_stay : RefusedCommandsStay
refused_commands_stay before after old new reported p = search rules

pub texts_are_shown : TextsAreShown
texts_are_shown written text old new dots beep before after reported (inl p) =
    (λ none. p, λ none. absurd (none p.0 p.1))
texts_are_shown written text old new dots beep before after reported (inr p) =
    (λ none. absurd (none p.0), λ none. p.1)
