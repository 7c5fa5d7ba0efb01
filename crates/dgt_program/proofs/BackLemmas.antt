-- The text of a command requests it.
use Rattle.std.proofs.Common.{◌≡◌, ◌∙◌, ◌+◌, ◌/◌, ◌%◌, ◌<◌, ◌≤◌, ◌⊎◌, ℕ, zero, suc, Bool, true, false, List, [], ◌∷◌, ◌++◌, length, get_or, map, None, arith, inl, inr, refl, sym}
use Rattle.{std.specs.{List.{list_all}, Prelude.{decimal, find, if◌then◌else◌, ◌==◌, ◌&&◌}, Str.{IsAscii}}, hex.{specs.Hex.{encode_with, lower_digits}, proofs.HexLemmas.{decode_of-encode_lower}}}
use Rattle.{hex.proofs.HexLemmas.{decode_sized-encode_lower}, dgt_values.specs.Segment.{IsShownBy}, dgt_command.specs.Content.{ClockContent, CommandContent, Reset, ClockMessage, Leds, known_clock}}
use Rattle.dgt_command.specs.{Encoding.{AreBytes, EncodesCommand, command_encoding}, Ids.{has_own_case, has_size, id_number, id_with, known_ids}, declared.ids.KnownId.{KnownId}}
use Rattle.{dgt_command.proofs.DivisionLemmas.{bytes_left}, dgt_lines.specs.CommandWords.{command_text, display_word, is_printable, is_shown, known_words, raw_words, shown_character, text_word}}
use Rattle.{dgt_lines.specs.{CommandWords.{words_with}, Lines.{bytes_text, words_text}}, dgt_ask.specs.Asks.{AskInOrder, Asks, HasBytes, HasPayload, IsDisplay, IsText}}
use Rattle.std.{proofs.{Common.{slice_index as nth, rules}, lemmas.{Bool.{eqb-true}, Grind.{common_steps}, List.{get_or-map, length-map}}}, specs.List.{All}}
use Rattle.dgt_ask.specs.declared.details.Detail.TheVariants as detail

-- bytes are read back from their text
has_bytes : (bytes : List ℕ) → AreBytes bytes → HasBytes (bytes_text bytes) bytes
unfolding encode_with
has_bytes bytes are = search (rules, decode_of-encode_lower)

has_payload : (known : KnownId) (size : ℕ) (payload : List ℕ) → AreBytes payload
    → length payload ≡ suc size
    → HasPayload known (suc size) (bytes_text payload) (known_clock known payload)
has_payload known size payload are sized = search (rules, decode_sized-encode_lower)

leds_back : (leds bytes : List ℕ) → EncodesCommand (Leds leds) bytes
    → Asks (command_text (Leds leds)) (Leds leds)
leds_back leds bytes encodes =
    let are : AreBytes (0x60 ∷ length leds ∷ leds) = rw (← encodes.encoded) encodes.are_bytes in
    let few : length leds < 256 = are 1 in
    inr (
      detail.Leds,
      bytes_text leds,
      refl,
      (has_bytes leds (λ i. are (suc (suc i))), omega (arith, few)),
    )

-- ---- clock messages

pub record Carried (message : ClockContent) : Type 0 where
  pub id_is_byte : message.id < 256
  pub few : length message.payload ≤ 252
  pub are_bytes : AreBytes message.payload

carried : (message : ClockContent) (bytes : List ℕ) → EncodesCommand (ClockMessage message) bytes
    → Carried message
carried message bytes encodes =
    let are : AreBytes
    (0x2b ∷ (length message.payload + 3) ∷ 0x03 ∷ message.id ∷ (message.payload ++ 0x00 ∷ []))
    = rw (← encodes.encoded) encodes.are_bytes in
    let size : length message.payload + 3 < 256 = are 1 in
    record {
      id_is_byte = are 3;
      few = omega (arith, size);
      are_bytes = bytes_left message.payload (0x00 ∷ []) (λ i. are (suc (suc (suc (suc i)))));
    }

raw_back : (message : ClockContent) → Carried message
    → has_own_case message.id (length message.payload) ≡ false
    → Asks (words_text (raw_words message.id message.payload)) (ClockMessage message)
unfolding encode_with
raw_back message carries other =
    let high = nth lower_digits (message.id / 16) in
    let low = nth lower_digits (message.id % 16) in
    let rest = bytes_text message.payload in
    inr (
      detail.ClockMessage,
      high ∷ low ∷ 32 ∷ rest,
      refl,
      (
        high,
        low,
        rest,
        refl,
        decode_sized-encode_lower (message.id ∷ []) 1 refl (search rules),
        has_bytes message.payload carries.are_bytes,
        carries.few,
        other,
      ),
    )

by_eight : (P : List ℕ → Type 0) → ((a b c d e f g h : ℕ) → P (a ∷ b ∷ c ∷ d ∷ e ∷ f ∷ g ∷ h ∷ []))
    → (xs : List ℕ) → length xs ≡ 8 → P xs
by_eight P holds (a ∷ b ∷ c ∷ d ∷ e ∷ f ∷ g ∷ h ∷ []) z = holds a b c d e f g h
by_eight P holds xs z = absurd (omega (arith, z))

by_nine : (P : List ℕ → Type 0)
    → ((a b c d e f g h i : ℕ) → P (a ∷ b ∷ c ∷ d ∷ e ∷ f ∷ g ∷ h ∷ i ∷ [])) → (xs : List ℕ)
    → length xs ≡ 9 → P xs
by_nine P holds [] z = absurd (omega (arith, z))
by_nine P holds (x ∷ xs) z = by_eight (λ ys. P (x ∷ ys)) (holds x) xs (omega (arith, z))

shown : (segments : ℕ) → is_shown (shown_character segments) ≡ true
    → IsShownBy (shown_character segments) segments
shown segments is = grind arith

both : (a b : Bool) → a && b ≡ true → (a ≡ true) × (b ≡ true)
both a b e = search rules

-- places that all show characters
all_shown : (places : List ℕ) → list_all is_shown (map shown_character places) ≡ true → (i : ℕ)
    → i < length places → IsShownBy (nth (map shown_character places) i) (nth places i)
all_shown [] are i small = absurd (omega (arith, small))
all_shown (x ∷ xs) are zero small = shown x (both _ _ are).0
all_shown (x ∷ xs) are (suc i) small = all_shown xs (both _ _ are).1 i (omega (arith, small))

-- the display of eight bytes
display_choice : (a b c d e f g h : ℕ) → AreBytes (a ∷ b ∷ c ∷ d ∷ e ∷ f ∷ g ∷ h ∷ [])
    → (plain : Bool)
    → (list_all is_shown (map shown_character (c ∷ b ∷ a ∷ f ∷ e ∷ d ∷ [])) && g == 0 && h == 0)
    ≡ plain
    → IsDisplay
    (if plain then map shown_character (c ∷ b ∷ a ∷ f ∷ e ∷ d ∷ []) else bytes_text
    (a ∷ b ∷ c ∷ d ∷ e ∷ f ∷ g ∷ h ∷ []))
    (known_clock KnownId.Display (a ∷ b ∷ c ∷ d ∷ e ∷ f ∷ g ∷ h ∷ []))
display_choice a b c d e f g h are false is = inl (has_payload KnownId.Display 7 _ are refl)
display_choice a b c d e f g h are true is =
    let outer = both _ (h == 0) is in let inner = both _ (g == 0) outer.0 in
    inr (
      omega arith,
      (
        λ i. nth (c ∷ b ∷ a ∷ f ∷ e ∷ d ∷ []) i,
        all_shown (c ∷ b ∷ a ∷ f ∷ e ∷ d ∷ []) inner.0,
        rw (eqb-true g 0 inner.1, eqb-true h 0 outer.1) refl,
      ),
    )

display_back : (payload : List ℕ) → AreBytes payload → length payload ≡ 8
    → IsDisplay (display_word payload) (known_clock KnownId.Display payload)
display_back payload are sized =
    by_eight
    (λ payload. AreBytes payload
    → IsDisplay (display_word payload) (known_clock KnownId.Display payload))
    (search (rules, display_choice))
    payload sized are

-- the text of nine
ascii_all : (xs : List ℕ) → list_all is_printable xs ≡ true → IsAscii xs
ascii_all xs are = grind (arith, common_steps)

text_choice : (a b c d e f g h i : ℕ) → AreBytes (a ∷ b ∷ c ∷ d ∷ e ∷ f ∷ g ∷ h ∷ i ∷ [])
    → (plain : Bool)
    → (list_all is_printable (a ∷ b ∷ c ∷ d ∷ e ∷ f ∷ g ∷ h ∷ []) && i == 0) ≡ plain
    → IsText
    (if plain then a ∷ b ∷ c ∷ d ∷ e ∷ f ∷ g ∷ h
    ∷ [] else bytes_text (a ∷ b ∷ c ∷ d ∷ e ∷ f ∷ g ∷ h ∷ i ∷ []))
    (known_clock KnownId.Text (a ∷ b ∷ c ∷ d ∷ e ∷ f ∷ g ∷ h ∷ i ∷ []))
text_choice a b c d e f g h i are false is = inl (has_payload KnownId.Text 8 _ are refl)
text_choice a b c d e f g h i are true is =
    let parts = both _ (i == 0) is in
    inr (
      omega arith,
      ascii_all (a ∷ b ∷ c ∷ d ∷ e ∷ f ∷ g ∷ h ∷ []) parts.0,
      rw (eqb-true i 0 parts.1) refl,
    )

text_back : (payload : List ℕ) → AreBytes payload → length payload ≡ 9
    → IsText (text_word payload) (known_clock KnownId.Text payload)
text_back payload are sized =
    by_nine
    (λ payload. AreBytes payload → IsText (text_word payload) (known_clock KnownId.Text payload))
    (search (rules, text_choice))
    payload sized are

-- a clock message of a known kind
known_back : (known : KnownId) (payload : List ℕ) → AreBytes payload → length payload ≤ 252
    → has_size known (length payload) ≡ true
    → Asks (words_text (known_words known payload)) (ClockMessage (known_clock known payload))
known_back KnownId.Display payload are few size =
    inr (detail.Display, display_word payload, refl, display_back payload are (eqb-true _ _ size))
known_back KnownId.Icons payload are few size =
    inr (detail.Icons, bytes_text payload, refl, (payload, has_bytes payload are, few, refl))
known_back KnownId.End [] are few size = inl (inl (refl, refl))
known_back KnownId.Button [] are few size = inl (inr (inl (refl, refl)))
known_back KnownId.Version [] are few size = inl (inr (inr (refl, refl)))
known_back KnownId.SetAndRun payload are few size = inr (
  detail.SetAndRun,
  bytes_text payload,
  refl,
  has_payload KnownId.SetAndRun 6 payload are (eqb-true _ _ size),
)
known_back KnownId.Beep (x ∷ []) are few size =
    inr (detail.Beep, decimal x, refl, (x, are 0, refl, refl))
known_back KnownId.Text payload are few size =
    inr (detail.Text, text_word payload, refl, text_back payload are (eqb-true _ _ size))
known_back known payload are few size = grind arith

-- an id is known, or its clock messages are of no known kind
abbrev IsOneOf : ℕ → List KnownId → Type 0
IsOneOf number ids =
    ((known : KnownId) × (number ≡ id_number known))
    ⊎ (find (λ id. id_number id == number) ids ≡ None)

one_of : (number : ℕ) (ids : List KnownId) → IsOneOf number ids
one_of number [] = inr refl
one_of number (id ∷ ids) = search (rules, one_of number ids)

owned_back : (known : KnownId) (payload : List ℕ) → AreBytes payload → length payload ≤ 252
    → has_own_case (id_number known) (length payload) ≡ true
    → Asks (words_text (words_with (id_with (id_number known)) (id_number known) payload))
    (ClockMessage (known_clock known payload))
owned_back KnownId.Display payload are few own = known_back KnownId.Display payload are few own
owned_back known payload are few own = known_back known payload are few own

chosen_back : (message : ClockContent) → Carried message → (own : Bool)
    → has_own_case message.id (length message.payload) ≡ own
    → Asks (words_text (if own then words_with (id_with message.id) message.id message.payload
    else raw_words message.id message.payload)) (ClockMessage message)
chosen_back message carries false is = raw_back message carries is
chosen_back message carries true is = elim (one_of message.id known_ids) [
  | inl known ↦ search (rules, owned_back)
  | inr none ↦ let other = rw none at is in cc
]

clock_back : (message : ClockContent) (bytes : List ℕ) → EncodesCommand (ClockMessage message) bytes
    → Asks (command_text (ClockMessage message)) (ClockMessage message)
clock_back message bytes encodes = search (rules, chosen_back, carried)

pub asked_back : (command : CommandContent) (bytes : List ℕ) → EncodesCommand command bytes
    → Asks (command_text command) command
asked_back (ClockMessage message) bytes encodes = clock_back message bytes encodes
asked_back (Leds leds) bytes encodes = leds_back leds bytes encodes
asked_back command bytes encodes = inl refl

pub asked_in_order : (commands : List CommandContent)
    → All (λ command. AreBytes (command_encoding command)) commands
    → AskInOrder (map command_text commands) (map command_encoding commands)
asked_in_order commands are = record {
  all = length-map commands command_encoding ∙ sym (length-map commands command_text);
  each = λ i small.
      let within : i < length commands = rw (← length-map commands command_text) small in
      let command = get_or commands i Reset in
      rw (
        get_or-map command_text commands i Reset [] within,
        get_or-map command_encoding commands i Reset [] within,
      )
      (inl (
        command,
        asked_back command _ (record { are_bytes = are i Reset within; encoded = refl }),
        refl,
      ));
}
