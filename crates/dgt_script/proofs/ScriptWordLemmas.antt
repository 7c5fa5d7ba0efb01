-- The words of a script line: each one has one value at most, and what a reader of them relies on.
use Prim.Native.Char.{code as ascii}
use Rattle.std.proofs.Common.{◌≡◌, ℕ, ◌-◌, ◌<◌, ◌≤◌, true, false, List, [], ◌∷◌, length, get_or, Option, Some, Result, Ok, Err, is_ok, sym, ap, ◌∙◌, arith, length-append, rules}
use Rattle.std.proofs.lemmas.{Fmt.{IsAscii-decimal, decimal-digits_value, decimal_digit, decimal_injective, decimal_nonempty, digits_decimal, first_decimal, parse-decimal}, Grind.{common_steps}}
use Rattle.std.proofs.lemmas.{Str.{IsUtf8-from_ascii}, List.Elements.{All-append, All-from_recursion}, Str.Parse.{IsNumeralModel, digit_at, numerals_by_value, parse_plain, tells_digits}}
use Rattle.std.specs.{Prelude.{◌↔◌, All, MatchOption, MatchResult, decimal, slice_index}, Result.{result_ok}, Str.{IsUtf8, Parse.{AllDigits, ParsesUnsigned, digits_value}}}
use Rattle.{hex.{specs.Hex.{decode_sized}, proofs.HexLemmas.{decode_of-ok, decode_of-same, decode_sized-ok, decode_sized-twice}}, dgt_values.specs.{Board.{square_name}, Bytes.{Refuses}}}
use Rattle.{dgt_values.{specs.declared.{pieces.Piece.{Piece}, refusals.BodyError.{BodyError}}, proofs.PieceCodes.{letter_one}}, dgt_message.specs.{Clock.{ClockState}, Code.{known_number}}}
use Rattle.dgt_message.specs.{Content.{clock_message, clock_seen, Content, IsCarried}, Encoding.{Fits}, Reading.{IsFaultOf, reading}, declared.{clock.Clock.{Clock}, known.KnownCode.{KnownCode}}}
use Rattle.{dgt_message.specs.declared.viewing.BodyFault.{BodyFault}, dgt_command.specs.{Content.{CommandContent, Read}, Encoding.{EncodesCommand}, Laws.{EncodingsGiveCommands, WordsAreShort}}}
use Rattle.dgt_script.specs.ScriptWords.{IsClockWord, IsCommandWord, IsCountWord, IsHexOf, IsPieceWord, IsSquareWord, ReportsClock}

-- ---- What a call answers

-- an answer with no value is an error
pub error_of : {T E : Type 0} (P : T → Type 0) (Q : E → Type 0) (r : Result T E) → false ≡ is_ok r
    → MatchResult r P Q → (e : E) × Q e
error_of P Q r h m = search rules

-- what holds of the value of an answer that has one
pub value_of : {T E : Type 0} (P : T → Type 0) (Q : E → Type 0) (r : Result T E) (x : T)
    → Some x ≡ result_ok r → MatchResult r P Q → P x
value_of P Q r x h m = search rules

-- an answer that has a value is that value
pub ok_of : {T E : Type 0} (r : Result T E) (x : T) → Some x ≡ result_ok r → r ≡ Ok x
ok_of r x h = search rules

-- no answer has a value and is an error
pub not_ok : {T E : Type 0} (r : Result T E) (x : T) → r ≡ Ok x → false ≡ is_ok r → ⊥
not_ok r x e h = absurd (let clash : false ≡ true = rw e at h in cc clash)

-- ---- Squares

-- the name of a square is text
pub square_is_text : (word : List ℕ) (square : ℕ) → IsSquareWord word square → IsUtf8 word
square_is_text word square h = rw h.1 (IsUtf8-from_ascii (square_name square) (search rules))

-- a word names one square at most
pub one_square : (word : List ℕ) (a b : ℕ) → IsSquareWord word a → IsSquareWord word b → a ≡ b
one_square word a b h k = search rules

-- ---- Pieces

-- a word names one piece at most
pub one_piece : (word : List ℕ) (a b : Piece) → IsPieceWord word a → IsPieceWord word b → a ≡ b
one_piece word a b h k = letter_one a b (ap (λ w. slice_index w 0) (sym h ∙ k))

-- ---- Hexadecimal digits

-- what is decoded into room of some size is what the digits encode
pub sized_hex : (word : List ℕ) (n : ℕ) (bytes : List ℕ) → decode_sized word n ≡ Ok bytes
    → IsHexOf word bytes
sized_hex word n bytes h = sym (decode_sized-twice word n (decode_sized-ok word n bytes h)) ∙ h

-- the digits of this many bytes are decoded into room of that size
pub hex_sized : (word : List ℕ) (n : ℕ) (bytes : List ℕ) → IsHexOf word bytes → length bytes ≡ n
    → decode_sized word n ≡ Ok bytes
hex_sized word n bytes h e =
    decode_sized-twice word n (omega (arith, (decode_of-ok word bytes h).2)) ∙ h

-- ---- Clocks

-- a message reports one clock at most
pub same_clock : (a b : ClockState) → clock_message a ≡ clock_message b → a ≡ b
same_clock a b h = search rules

-- the bytes of a clock are seven
pub length-clock : (clock : ClockState) (body : List ℕ)
    → Fits (clock_message clock) (known_number KnownCode.Clock) body → length body ≡ 7
length-clock clock body h = search (rules, length-append)

-- each byte of a clock is below 128
pub clock_is_seven_bit : (clock : ClockState) (body : List ℕ)
    → Fits (clock_message clock) (known_number KnownCode.Clock) body → All (λ byte. byte < 128) body
clock_is_seven_bit (ClockState.times readings) body h = search rules
clock_is_seven_bit (ClockState.no_clock absence) body h =
    rw h.encoded
    (All-append (λ byte. byte < 128) absence.raw (absence.status ∷ []) h.is_message.1
    (All-from_recursion (λ byte. byte < 128) (absence.status ∷ []) (h.is_message.3, tt)))

-- a message that fits a code and a body is their reading
abbrev pub IsRead : Type 0
IsRead = (code : ℕ) (body : List ℕ) (said : Content) → code < 128 → IsCarried body
    → (reading code body ≡ Ok said) ↔ Fits said code body

-- a fault that fits a code and a body is their reading
abbrev pub IsRefused : Type 0
IsRefused = (code : ℕ) (body : List ℕ) (why : BodyFault) → code < 128 → IsCarried body
    → (reading code body ≡ Err why) ↔ IsFaultOf code body why

-- the reading of a clock's bytes
clock_read : IsRead → (clock : ClockState) (body : List ℕ)
    → Fits (clock_message clock) (known_number KnownCode.Clock) body
    → IsCarried body × (reading (known_number KnownCode.Clock) body ≡ Ok (clock_message clock))
clock_read exact clock body h = search (rules, length-clock, clock_is_seven_bit)

-- no other message fits them
one_message : IsRead → (clock : ClockState) (said : Content) (body : List ℕ)
    → Fits (clock_message clock) (known_number KnownCode.Clock) body
    → Fits said (known_number KnownCode.Clock) body → clock_message clock ≡ said
one_message exact clock said body h k = search (rules, clock_read)

-- the word of a clock is decoded into room for seven bytes
pub clock_decoded : (word : List ℕ) (clock : ClockState) (h : IsClockWord word clock)
    → decode_sized word 7 ≡ Ok h.body
clock_decoded word clock h = hex_sized word 7 h.body h.digits (length-clock clock h.body h.fits)

-- what the word of a clock is decoded to is the body of that clock
pub clock_fits : (word bytes : List ℕ) (clock : ClockState) → decode_sized word 7 ≡ Ok bytes
    → IsClockWord word clock → Fits (clock_message clock) (known_number KnownCode.Clock) bytes
clock_fits word bytes clock e h = search (rules, decode_of-same, sized_hex)

-- the body that the word of a clock encodes is not refused
pub clock_not_refused : (word bytes : List ℕ) (clock : ClockState) (why : BodyError)
    → decode_sized word 7 ≡ Ok bytes → IsClockWord word clock → Refuses bytes why → ⊥
clock_not_refused word bytes clock why e h r =
    search (rules, length-clock, clock_fits, clock_is_seven_bit)

-- what the word of a clock is decoded to has no fault
pub clock_not_faulty : IsRead → IsRefused
    → (word bytes : List ℕ) (clock : ClockState) (why : BodyFault) → decode_sized word 7 ≡ Ok bytes
    → IsClockWord word clock → IsFaultOf (known_number KnownCode.Clock) bytes why → ⊥
clock_not_faulty exact refused word bytes clock why e h r = search (rules, clock_read, clock_fits)

-- what a message of these bytes reports of the clock is what the word says
pub clock_reported : IsRead → (word bytes : List ℕ) (said : Content) (r : Option Clock)
    → decode_sized word 7 ≡ Ok bytes → Fits said (known_number KnownCode.Clock) bytes
    → MatchOption r ((clock : ClockState) → ¬ (ReportsClock said clock))
    (λ clock. ReportsClock said (clock_seen clock))
    → MatchOption r ((clock : ClockState) → ¬ (IsClockWord word clock))
    (λ clock. IsClockWord word (clock_seen clock))
clock_reported exact word bytes said r e f m = search (rules, one_message, clock_fits, sized_hex)

-- a word says one clock at most
pub one_clock : IsRead → (word : List ℕ) (a b : ClockState) → IsClockWord word a
    → IsClockWord word b → a ≡ b
one_clock exact word a b h k = search (rules, same_clock, one_message, decode_of-same)

-- ---- Commands

-- the bytes of a command are no more than 257
pub length-command : WordsAreShort → (command : CommandContent) (bytes : List ℕ)
    → EncodesCommand command bytes → length bytes ≤ 257
length-command short command bytes h =
    (short (Read command) bytes (record { form = h.encoded; are_bytes = h.are_bytes })).1

-- a word says one command at most
pub one_command : EncodingsGiveCommands → (word : List ℕ) (a b : CommandContent)
    → IsCommandWord word a → IsCommandWord word b → a ≡ b
one_command gives word a b h k = grind (arith, common_steps, decode_of-same)

-- ---- Counts

-- a word says one count at most
pub one_count : (word : List ℕ) (m n : ℕ) → IsCountWord word m → IsCountWord word n → m ≡ n
one_count word m n h k = decimal_injective m n (omega arith) (omega arith) (sym h.2 ∙ k.2)

-- a count is text
pub count_is_text : (word : List ℕ) (n : ℕ) → IsCountWord word n → IsUtf8 word
count_is_text word n h = rw h.2 (IsUtf8-from_ascii (decimal n) (IsAscii-decimal n (omega arith)))

-- texts of decimal digits, and their numbers
numerals : IsNumeralModel (AllDigits 10) (digits_value 10)
numerals = numerals_by_value (AllDigits 10) tells_digits

-- the first digit of a count is one of 1 to 9
pub count_first : (word : List ℕ) (n : ℕ) → IsCountWord word n
    → (0 < length word) × (ascii "0" < get_or word 0 0) × (get_or word 0 0 ≤ ascii "9")
count_first word n h =
    search (rules, decimal_nonempty, digit_at, digits_decimal, numerals, first_decimal)

-- a count is parsed
pub count_parsed : {E : Type 0} (word : List ℕ) (n : ℕ) (r : Result ℕ E) → IsCountWord word n
    → ParsesUnsigned 16 10 word r → r ≡ Ok n
count_parsed word n r h p = parse-decimal 16 n word r (omega arith) (omega arith) h.2 p

-- what is parsed is a count if its first byte is above the digit 0
pub parsed_count : {E : Type 0} (word : List ℕ) (n : ℕ) (r : Result ℕ E)
    → ParsesUnsigned 16 10 word r → r ≡ Ok n → ascii "0" < get_or word 0 0 → IsCountWord word n
parsed_count {E} word n r h e first =
    let same : ParsesUnsigned {E = E} 16 10 word (Ok n) = rw e at h in
    let parsed = parse_plain numerals {E = E} 16 word (Ok n) same (λ plus. omega arith) in
    let encoded : decimal (digits_value 10 word) ≡ word =
    decimal-digits_value numerals word parsed.0.0 parsed.0.1
    (λ none. absurd (omega arith)) (omega (arith, parsed.0.2)) in
    search (rules, decimal_digit)
