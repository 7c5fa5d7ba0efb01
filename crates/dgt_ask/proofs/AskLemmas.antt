-- The words of commands.
use Rattle.std.proofs.Common.{◌≡◌, ◌≢◌, ◌+◌, ◌/◌, ◌<◌, ◌≤◌, ◌⊎◌, inl, inr, ℕ, false, List, [], ◌∷◌, ◌++◌, length, length-append, get_or, take, map, Bor, add-one, Option, Result, Ok, Err, None, Some}
use Rattle.std.proofs.lemmas.{Grind.{common_steps}, List.{append-nil, get_or-append-add, get_or-map, get_or_append_left, get_or_at, length-map, take_all, Folds.{concat-append}}}
use Rattle.std.specs.{List.{list_all, concat}, Prelude.{OnErr, IfNone, IfOk, IsErrAnd, IsOkAnd, MatchResult, Bool, true, not, codes, decimal, ◌==◌}, Result.{is_ok, result_ok}}
use Rattle.std.specs.Str.Parse.{AllDigits, ParsesUnsigned, digits_value}
use Rattle.{hex.{specs.Hex.{decode_pairs, decode_sized}, proofs.HexLemmas.{IsOk-decode_sized, decode_of-ok}}, dgt_values.specs.Segment.{IsShownBy}}
use Rattle.dgt_command.specs.{Content.{ClockContent, CommandContent, ClockMessage, EventContent, Stray, clock_content, known_clock}, Display.{HasNoSegments, Shows}, Words.{BeginsNoCommand, HasForm}}
use Rattle.{dgt_command.specs.{Words.{IsPartial, IsWord}, declared.{clock.ClockCommand.{ClockCommand}, ids.KnownId.{KnownId}}}}
use Rattle.dgt_ask.specs.{Asking.{Awaits, IsAfterId, WritesId, id_word}, Asks.{AskInOrder, padded}}
use Rattle.dgt_ask.specs.{Asks.{AsksBytes, AsksHelp, DetailAsks, HasBytes, IsNamed, IsRaw, LacksOperand, detail_text}, declared.{asking.{Awaited.{Awaited}, BadAsk.{BadAsk}}, details.Detail.{Detail}}}
use Rattle.dgt_ask.specs.declared.asking.{Awaited.TheVariants.{Name}, BadAsk.TheVariants.{Missing, OutOfMemory}}
use Rattle.std.proofs.{Common.{ap, arith, refl, subst, sym, ◌∙◌, slice_index as nth, rules}, Math.Seq.{take-suc}, lemmas.Bool.{cases_lt}}
use Rattle.std.proofs.lemmas.{Fmt.{decimal-digits_value, decimal_digit, first_decimal, parse-decimal}, Str.Parse.{IsNumeralModel, numerals_by_value, parse_plain, tells_digits}}
use Rattle.dgt_command.{proofs.CodeLemmas.{found_id}, specs.Ids.{id_number, id_with}}
use Rattle.std.{proofs.lemmas.List.{length-replicate}, specs.Prelude.{◌-◌, replicate}}
use Rattle.dgt_ask.specs.declared.details.Detail.TheVariants as detail
use Rattle.dgt_ask.specs.declared.asking.Awaited.TheVariants as awaited

-- a number of a beep, and its command
pub record Beeps (word : List ℕ) (asked : CommandContent) : Type 0 where
  pub number : ℕ
  pub small : number < 256
  pub said : word ≡ decimal number
  pub is : asked ≡ ClockMessage (known_clock KnownId.Beep (number ∷ []))

pub beeps : (word : List ℕ) (asked : CommandContent) → DetailAsks detail.Beep word asked
    → Beeps word asked
beeps word asked asks = search rules

-- a decimal number begins with a digit, and only one of a single digit with a zero
pub record BeginsWell (text : List ℕ) : Type 0 where
  pub some : 0 < length text
  pub digit : 48 ≤ get_or text 0 0
  pub single : get_or text 0 0 ≡ 48 → length text ≤ 1

some_first : (text : List ℕ) → 48 < get_or text 0 0 → 0 < length text
some_first text first = grind (arith, common_steps)

pub begins_well : (number : ℕ) → number < 256 → BeginsWell (decimal number)
begins_well number small = search (rules, decimal_digit, first_decimal, some_first)

-- the number of a beep is parsed
pub parsed : {E : Type 0} (word : List ℕ) (number : ℕ) (r : Result ℕ E) → number < 256
    → word ≡ decimal number → ParsesUnsigned 8 10 word r → r ≡ Ok number
parsed word number r small said parses =
    parse-decimal 8 number word r (omega arith) (omega arith) said parses

-- the bytes of digits are half as many
pub half : (text bytes : List ℕ) → HasBytes text bytes → text ≢ codes "-"
    → length text / 2 ≡ length bytes
half text bytes h2 other = search (rules, decode_of-ok)

pub inside : {A : Type 0} (x y : A) → Some x ≡ Some y → x ≡ y
inside x y e = cc

-- lists by their items
abbrev pub six_of : List ℕ → List ℕ
six_of xs = nth xs 0 ∷ nth xs 1 ∷ nth xs 2 ∷ nth xs 3 ∷ nth xs 4 ∷ nth xs 5 ∷ []

pub six : (xs : List ℕ) → length xs ≡ 6 → six_of xs ≡ xs
six (a ∷ b ∷ c ∷ d ∷ f ∷ g ∷ []) e = refl
six xs e = absurd (omega (arith, e))

pub eight : (xs : List ℕ) → length xs ≡ 8
    → nth xs 0 ∷ nth xs 1 ∷ nth xs 2 ∷ nth xs 3 ∷ nth xs 4 ∷ nth xs 5 ∷ nth xs 6 ∷ nth xs 7 ∷ 0 ∷ []
    ≡ xs ++ 0 ∷ []
eight (a ∷ b ∷ xs) e = ap (λ more. a ∷ b ∷ (more ++ 0 ∷ [])) (six xs (omega (arith, e)))
eight xs e = absurd (omega (arith, e))

-- segments show one character each
one_place : (character byte other : ℕ) → IsShownBy character byte → IsShownBy character other
    → byte ≡ other
one_place character byte other first second = grind arith

pub no_segments : {A E : Type 0} (word text : List ℕ) (r : Result A E) (message : ClockContent)
    → text ≡ word → OnErr r (HasNoSegments text) → false ≡ is_ok r → Shows word 0 0 message → ⊥
no_segments word text (Ok _) message same none refused shows = cc
no_segments word text (Err _) message same none refused shows =
    none.2 (shows.0 none.0) (rw same (shows.1 none.0 none.1))

pub same_display : (word text : List ℕ) (message other : ClockContent) → text ≡ word
    → Shows text 0 0 other → Shows word 0 0 message → other ≡ message
same_display word text message other same first second =
    let at : (i : ℕ) → i < 6 → first.0 i ≡ second.0 i =
    λ i small. one_place _ _ _ (rw same at (first.1 i small)) (second.1 i small) in
    first.2 ∙ rw (
      at 0 (omega arith),
      at 1 (omega arith),
      at 2 (omega arith),
      at 3 (omega arith),
      at 4 (omega arith),
      at 5 (omega arith),
    ) (sym second.2)

pub displayed : {E : Type 0} (word text : List ℕ) (r : Result ClockCommand E) (given : ClockCommand)
    (message : ClockContent) → text ≡ word
    → IfOk r (λ command. Shows text 0 0 (clock_content command)) → Some given ≡ result_ok r
    → Shows word 0 0 message → clock_content given ≡ message
displayed word text (Ok command) given message same shown is shows =
    ap clock_content (inside _ _ is) ∙ same_display word text message _ same shown shows
displayed word text (Err _) given message same shown is shows = cc

-- ---- short operands

-- no space is missing
pub full : (size : ℕ) (text : List ℕ) → length text ≡ size → padded size text ≡ text
full size text sized =
    let none : size - length text ≡ 0 = omega (arith, sized) in rw (none, append-nil) refl

padded_length : (size : ℕ) (text : List ℕ) → length text ≤ size
    → length (padded size text) ≡ size
padded_length size text short =
    simp (length-append, length-replicate) (omega (arith, short))

pub six_padded : (xs text : List ℕ) → length text ≤ 6 → xs ≡ padded 6 text
    → six_of xs ≡ padded 6 text
six_padded xs text short is = six xs (ap length is ∙ padded_length 6 text short) ∙ is

pub eight_padded : (xs text : List ℕ) → length text ≤ 8 → xs ≡ padded 8 text
    → nth xs 0 ∷ nth xs 1 ∷ nth xs 2 ∷ nth xs 3 ∷ nth xs 4 ∷ nth xs 5 ∷ nth xs 6 ∷ nth xs 7 ∷ 0 ∷ []
    ≡ padded 8 text ++ 0 ∷ []
eight_padded xs text short is =
    eight xs (ap length is ∙ padded_length 8 text short) ∙ ap (λ l. l ++ 0 ∷ []) is

-- ---- numbers of beeps

own : IsNumeralModel (AllDigits 10) (digits_value 10)
own = numerals_by_value (AllDigits 10) tells_digits

-- digits without a leading zero are the number that is parsed
pub said : {E : Type 0} (word : List ℕ) (number : ℕ) (r : Result ℕ E) → r ≡ Ok number
    → ParsesUnsigned 8 10 word r → get_or word 0 0 ≢ 43
    → (get_or word 0 0 ≡ 48 → length word ≤ 1) → (number < 256) × (word ≡ decimal number)
said word number r is parses no_plus single =
    let read = rw is at (parse_plain own 8 word r parses no_plus) in
    let some : 0 < length word = read.0.1 in
    let small : digits_value 10 word < 256 = read.0.2 in
    let whole = decimal-digits_value own word read.0.0 some
    (λ zero. let one = single zero in omega (arith, one, some)) (omega (arith, small)) in
    (rw read.1 small, sym whole ∙ ap decimal (sym read.1))

-- ---- words for ids

-- a message of this word, whose operand is this text
writes : (each : Detail) (text : List ℕ) (known : KnownId) (payload : List ℕ)
    → each ≢ detail.ClockMessage → DetailAsks each text (ClockMessage (known_clock known payload))
    → WritesId (detail_text each) (id_number known)
writes each text known payload other asks =
    (known_clock known payload, refl, inr (each, text, other, refl, asks))

named_id : (word : List ℕ) (known : KnownId) → IsNamed word (ClockMessage (known_clock known []))
    → WritesId word (id_number known)
named_id word known named = (known_clock known [], refl, inl named)

word_writes : (known : KnownId) → WritesId (id_word known) (id_number known)
unfolding decode_pairs
word_writes KnownId.Display =
    writes detail.Display (codes "0000000000000000") KnownId.Display
    (0 ∷ 0 ∷ 0 ∷ 0 ∷ 0 ∷ 0 ∷ 0 ∷ 0 ∷ []) (λ e. cc)
    (inl (0 ∷ 0 ∷ 0 ∷ 0 ∷ 0 ∷ 0 ∷ 0 ∷ 0 ∷ [], refl, refl))
word_writes KnownId.Icons =
    writes detail.Icons (codes "-") KnownId.Icons [] (λ e. cc)
    ([], inl (refl, refl), omega arith, refl)
word_writes KnownId.End = named_id (codes "end") KnownId.End (inl (refl, refl))
word_writes KnownId.Button = named_id (codes "button") KnownId.Button (inr (inl (refl, refl)))
word_writes KnownId.Version =
    named_id (codes "clockversion") KnownId.Version (inr (inr (refl, refl)))
word_writes KnownId.SetAndRun =
    writes detail.SetAndRun (codes "00000000000000") KnownId.SetAndRun
    (0 ∷ 0 ∷ 0 ∷ 0 ∷ 0 ∷ 0 ∷ 0 ∷ []) (λ e. cc)
    (0 ∷ 0 ∷ 0 ∷ 0 ∷ 0 ∷ 0 ∷ 0 ∷ [], refl, refl)
word_writes KnownId.Beep =
    writes detail.Beep (codes "0") KnownId.Beep (0 ∷ []) (λ e. cc)
    (0, omega arith, sym (decimal_digit 0 (omega arith)), refl)
word_writes KnownId.Text =
    writes detail.Text (codes "000000000000000000") KnownId.Text
    (0 ∷ 0 ∷ 0 ∷ 0 ∷ 0 ∷ 0 ∷ 0 ∷ 0 ∷ 0 ∷ []) (λ e. cc)
    (inl (0 ∷ 0 ∷ 0 ∷ 0 ∷ 0 ∷ 0 ∷ 0 ∷ 0 ∷ 0 ∷ [], refl, refl))

pub writes_id : (word : List ℕ) (id : ℕ) (known : KnownId) → word ≡ id_word known
    → id_with id ≡ Some known → WritesId word id
writes_id word id known is found =
    rw (is, found_id id known found) (word_writes known)

-- ---- where a word is split

-- a hexadecimal digit is not a space
pub digits_lack_space : (high low : ℕ) (bytes : List ℕ)
    → decode_sized (high ∷ low ∷ []) 1 ≡ Ok bytes → (i : ℕ) → i < 2
    → get_or (high ∷ low ∷ []) i 0 ≢ 32
digits_lack_space high low bytes decoded i small e =
    let digits = (IsOk-decode_sized (high ∷ low ∷ []) 1).0 (rw decoded refl) in
    let digit = rw e at (digits.1 i 0 small) in cc

-- no byte is a space
abbrev pub is_unspaced : List ℕ → Bool
is_unspaced word = list_all (λ byte. not (byte == 32)) word

-- a name has no space
named_is_unspaced : (word : List ℕ) (command : CommandContent) → IsNamed word command
    → is_unspaced word ≡ true
named_is_unspaced word command named = search rules

pub not_named : (word name rest : List ℕ) (command : CommandContent) → word ≡ name ++ 32 ∷ rest
    → IsNamed word command → ⊥
not_named word name rest command split named = grind (arith, common_steps, named_is_unspaced)

-- the operands of `clockmessage` are a clock message without another word
pub raw_name : (each : Detail) → detail_text each ≡ codes "clockmessage"
    → each ≡ detail.ClockMessage
raw_name each name = search rules

pub raw_command : (text : List ℕ) (command : CommandContent)
    → DetailAsks detail.ClockMessage text command
    → (message : ClockContent) × (command ≡ ClockMessage message) × IsRaw text message
raw_command text command asks = search rules

pub name_lacks_space : (each : Detail) (i : ℕ) → i < length (detail_text each)
    → get_or (detail_text each) i 0 ≢ 32
name_lacks_space each = search rules

-- ---- words in a row

-- a call is refused if a call in it is refused
pub refused : {A : Type 0} (P : A → Type 0) (r : Result A BadAsk) (fault : BadAsk)
    → IsErrAnd r (λ e. e ≡ fault) → fault ≡ OutOfMemory → MatchResult r P (λ e. e ≡ OutOfMemory)
refused P r fault is none = search rules

pub asks_at : (words : List (Bor (List ℕ))) (asked : List (List ℕ)) (i : ℕ)
    → AskInOrder (map (λ word. word.now) words) asked → i < length words
    → AsksBytes (get_or words i (record { ref_ptr = (0, 0); now = [] })).now (get_or asked i [])
asks_at words asked i order small = search (rules, get_or-map, length-map)

pub next_bytes : (asked : List (List ℕ)) (i : ℕ) → i < length asked
    → concat (take (i + 1) asked) ≡ concat (take i asked) ++ get_or asked i []
next_bytes asked i small = rw (add-one, take-suc asked i [] small, concat-append, append-nil) refl

-- ---- bytes that begin no command

no_clock : (byte : ℕ) → BeginsNoCommand byte → byte ≢ 0x2b
no_clock byte none e =
    none (ClockMessage (record { id = 0; payload = [] })) (3 ∷ 3 ∷ 0 ∷ 0 ∷ []) (rw e refl)

-- a frame that begins with such a byte is that byte
pub stray_alone : (byte : ℕ) (more : List ℕ) (event : EventContent) → BeginsNoCommand byte
    → HasForm event (byte ∷ more) → (event ≡ Stray byte) × (more ≡ [])
stray_alone byte more event none form = search (rules, no_clock)

pub no_partial : (byte : ℕ) → BeginsNoCommand byte → IsPartial (byte ∷ []) → ⊥
no_partial byte none partial =
    let alone =
    stray_alone byte (partial.next ∷ partial.more) partial.event none partial.word.form in cc

pub if_none : {A P : Type 0} (found : Option A) → IfNone found P → ((each : A) → found ≢ Some each)
    → P
if_none None holds other = holds
if_none (Some each) holds other = absurd (other each refl)

-- the frame of one byte is stray exactly if the byte begins no command
pub only_stray : (byte used : ℕ) (event : EventContent) → used ≤ 1 → 0 < used
    → IsWord event (take used (byte ∷ []))
    → (BeginsNoCommand byte → event ≡ Stray byte)
    × ((other : ℕ) → event ≡ Stray other → BeginsNoCommand byte)
only_stray byte used event most some word =
    let one : used ≡ 1 = omega arith in
    let form = rw one at word.form in (
      (λ none. (stray_alone byte [] event none form).0),
      (λ other is. let stray = rw is at form in let same : byte ≡ other = cc in rw same stray.0),
    )

-- the digits that a reader of one byte finds
pub read_byte : {E : Type 0} (read : Result (List ℕ) E) (byte : ℕ)
    → MatchResult read (λ bytes. Some byte ≡ Some (nth bytes 0)) (λ _. Some byte ≡ None)
    → IsOkAnd read (λ bytes. byte ≡ nth bytes 0)
read_byte (Ok bytes) byte found = inside _ _ found
read_byte (Err fault) byte found = cc

pub same_byte : {E : Type 0} (read : Result (List ℕ) E) (byte other : ℕ)
    → MatchResult read (λ bytes. Some byte ≡ Some (nth bytes 0)) (λ _. Some byte ≡ None)
    → IsOkAnd read (λ bytes. other ≡ nth bytes 0) → other ≡ byte
same_byte (Ok bytes) byte other found is = is ∙ sym (inside _ _ found)
same_byte (Err fault) byte other found is = absurd is

pub stray_name : (each : Detail) → detail_text each ≡ codes "stray" → each ≡ detail.Stray
stray_name each name = search rules

-- ---- missing operands

-- a word that has a space has no operand after it
pub spaced : (each : Detail) (word name rest : List ℕ) → word ≡ name ++ 32 ∷ rest
    → word ≡ detail_text each → ⊥
spaced each word name rest split same =
    let is : detail_text each ≡ name ++ 32 ∷ rest = sym same ∙ split in
    let small : length name < length (detail_text each) =
    rw (is, length-append name (32 ∷ rest)) (omega arith) in
    name_lacks_space each (length name) small (rw is (get_or_at name 32 rest 0 (length name) refl))

pub no_help : (each : Detail) (word : List ℕ) → word ≡ detail_text each → ¬ AsksHelp word
no_help each word same help = search rules

pub next_awaited : (before rest asked : List (List ℕ)) (at : ℕ) (word : List ℕ) (was next : Awaited)
    (old new : List ℕ) → word ≡ get_or (before ++ rest) at [] → AskInOrder before asked
    → Awaits before rest asked at was old
    → ((bytes : List ℕ) → was ≡ Name → AsksBytes word bytes → (next ≡ Name) × (new ≡ old ++ bytes))
    → ((each : Detail) → was ≡ Name → word ≡ detail_text each → next ≡ awaited.Detail each)
    → (was ≡ awaited.Detail detail.ClockMessage → ¬ AsksHelp word → IsAfterId next)
    → Awaits before rest asked (at + 1) next new
next_awaited before rest asked at word was next old new is order awaits takes operand id = record {
  name = λ small.
      let inside : at < length before = omega (arith, small) in
      let now = awaits.name (omega (arith, small)) in
      let same : word ≡ get_or before at [] = is ∙ get_or_append_left before rest [] at inside in
      let more = takes (get_or asked at []) now.0 (rw same (order.each at inside)) in (
        more.0,
        more.1 ∙ ap (λ bytes. bytes ++ get_or asked at []) now.1
            ∙ sym (next_bytes asked at (rw order.all inside)),
      );
  operand = λ each more end follows.
      let here : length before ≡ at = omega (arith, end) in
      operand each (awaits.name (omega (arith, here))).0
      (is ∙ rw follows (get_or_at before (detail_text each) more [] at here));
  id = λ number more end follows other.
      let here : at ≡ length before + 1 = omega (arith, end) in
      let held = get_or-append-add before (detail_text detail.ClockMessage ∷ number ∷ more) 1 [] in
      let same : word ≡ number = is ∙ rw (here, follows) held in
      id (awaits.operand detail.ClockMessage (number ∷ more) here follows) (rw same other);
}

-- such a line is refused at its end, or for memory before
pub ends_before : (before rest asked : List (List ℕ)) (word : Detail) (at : ℕ) (next : Awaited)
    (bytes : List ℕ) → Awaits before rest asked at next bytes → LacksOperand word rest
    → at ≡ length (before ++ rest)
    → (next ≡ awaited.Detail word) ⊎ ((word ≡ detail.ClockMessage) × IsAfterId next)
ends_before before rest asked word at next bytes awaits lacks end = elim lacks [
  | inl alone ↦
      inl
      (awaits.operand word [] (end ∙ rw alone (length-append before (detail_text word ∷ []))) alone)
  | inr id ↦
      inr (
        id.0,
        awaits.id id.1 [] (end ∙ rw id.2 (length-append before (detail_text word ∷ id.1 ∷ [])))
            (rw id.0 at id.2) id.3,
      )
]

pub stopped : (before rest asked : List (List ℕ)) (lack : Detail) (at : ℕ) (word : List ℕ)
    (was : Awaited) (old : List ℕ) (fault : BadAsk) → word ≡ get_or (before ++ rest) at []
    → at < length (before ++ rest) → AskInOrder before asked → Awaits before rest asked at was old
    → LacksOperand lack rest
    → ((bytes : List ℕ) → was ≡ Name → AsksBytes word bytes → fault ≡ OutOfMemory)
    → ((each : Detail) → was ≡ Name → word ≡ detail_text each → ⊥)
    → (was ≡ awaited.Detail detail.ClockMessage → ¬ AsksHelp word → ⊥) → fault ≡ OutOfMemory
stopped before rest asked lack at word was old fault is small order awaits lacks takes operand id =
    elim (cases_lt at (length before)) [
      | inl inside ↦
          takes (get_or asked at []) (awaits.name (omega (arith, inside))).0
          (rw (is ∙ get_or_append_left before rest [] at inside) (order.each at inside))
      | inr past ↦ absurd (elim lacks [
        | inl alone ↦
            let inside = rw (alone, length-append before (detail_text lack ∷ [])) at small in
            let here : length before ≡ at = omega (arith, past, inside) in
            operand lack (awaits.name (omega (arith, here))).0
            (is ∙ rw alone (get_or_at before (detail_text lack) [] [] at here))
        | inr number ↦
            let inside =
            rw (number.2, length-append before (detail_text lack ∷ number.1 ∷ [])) at small in
            elim (cases_lt (length before) at) [
              | inl beyond ↦
                  let here : at ≡ length before + 1 = omega (arith, beyond, inside) in
                  let same : word ≡ number.1 = is ∙ rw (here, number.2)
                  (get_or-append-add before (detail_text lack ∷ number.1 ∷ []) 1 []) in
                  id (rw number.0 at (awaits.operand lack (number.1 ∷ []) here number.2))
                  (rw same number.3)
              | inr upto ↦
                  let here : length before ≡ at = omega (arith, past, upto) in
                  operand lack (awaits.name (omega (arith, here))).0
                  (is ∙ rw number.2
                  (get_or_at before (detail_text lack) (number.1 ∷ []) [] at here))
            ]
      ])
    ]

pub word_at : (words : List (Bor (List ℕ))) (line : List (List ℕ)) (i : ℕ)
    → map (λ word. word.now) words ≡ line → i < length words
    → (get_or words i (record { ref_ptr = (0, 0); now = [] })).now ≡ get_or line i []
word_at words line i same small = search (rules, get_or-map, length-map)

pub inside_line : (words : List (Bor (List ℕ))) (line : List (List ℕ)) (i : ℕ)
    → map (λ word. word.now) words ≡ line → i < length words → i < length line
inside_line words line i same small = search (rules, length-map)

pub none_awaited : (before rest asked : List (List ℕ)) → Awaits before rest asked 0 Name []
none_awaited before rest asked = record {
  name = λ small. (refl, refl);
  operand = λ word more end follows. absurd (omega (arith, end));
  id = λ id more end follows other. absurd (omega (arith, end));
}

pub refused_or : {A : Type 0} (word : Detail) (r : Result A BadAsk) (fault : BadAsk)
    → IsErrAnd r (λ e. e ≡ fault) → fault ≡ OutOfMemory
    → IsErrAnd r (λ e. (e ≡ Missing word) ⊎ (e ≡ OutOfMemory))
refused_or word r fault is none = search rules

pub all_read : (line asked : List (List ℕ)) (at : ℕ) (next : Awaited) (bytes : List ℕ)
    → AskInOrder line asked → Awaits line [] asked at next bytes → at ≡ length line
    → (next ≡ Name) × (bytes ≡ concat asked)
all_read line asked at next bytes order awaits end =
    let now = awaits.name (omega (arith, end)) in
    (now.0, now.1 ∙ ap concat (take_all at asked (rw (order.all, end) (omega arith))))

pub at_end : (words : List (Bor (List ℕ))) (line : List (List ℕ)) (i : ℕ)
    → map (λ word. word.now) words ≡ line → i ≡ length words → i ≡ length line
at_end words line i same end = search (rules, length-map)
