-- No frame begins another. A long enough list begins with one, and zeros complete any other.
use Rattle.std.proofs.Common.{suc, ◌≡◌, ◌≢◌, ℕ, ◌+◌, ◌-◌, ◌<◌, ◌≤◌, false, List, [], ◌∷◌, ◌++◌, length, get_or, take, drop, refl, sym, ap, subst, ◌∙◌, inl, inr, arith, length-append, Option, Some}
use Rattle.std.proofs.Common.{None}
use Rattle.std.proofs.{Common.{rules}, lemmas.{Bool.{cases_eq, cases_lt, le-ltb, ne_eqb}, List.{append_cancel_left, take_at, get_or_push, length-take-le, take-append-drop}}}
use Rattle.{std.specs.Prelude.{◌==◌, slice_index, if◌then◌else◌}, dgt_command.specs.Content.{command_content, ClockContent, CommandContent, ClockMessage, Leds, EventContent, Read, BadSize, BadStart}}
use Rattle.dgt_command.specs.{Content.{BadEnd, Stray}, Encoding.{bare_command, after_code, command_code, command_encoding}, Lengths.{word_length}, Words.{BeginsNoCommand, HasForm}}
use Rattle.dgt_command.{specs.declared.command.Command.{Command}, proofs.CodeLemmas.{bare_form, no_command}}

-- the length of a clock message of a valid size
abbrev pub body_length : ℕ → List ℕ → ℕ
body_length size rest = if slice_index rest 0 == 3 then size + 2 else 3

-- some clock message
nothing : ClockContent
nothing = record { id = 0; payload = [] }

-- a byte that doesn't begin a command isn't the code of one
not_first : (b : ℕ) (c : CommandContent) → BeginsNoCommand b → (b == command_code c) ≡ false
not_first b c h =
    ne_eqb b (command_code c) (λ e. h c (after_code c) (ap (λ x. x ∷ after_code c) (sym e)))

-- the frame that a list begins with has this length
encoding_length : (c : CommandContent) (x : List ℕ) → word_length (command_encoding c ++ x) ≡ length
    (command_encoding c)
encoding_length c x = search (rules, length-append)

-- a frame with any bytes after it reports its own length
pub form_length : (e : EventContent) (w x : List ℕ) → HasForm e w → word_length (w ++ x) ≡ length w
form_length (Read c) w x h =
    subst (λ (v : List ℕ). word_length (v ++ x) ≡ length v) (sym h) (encoding_length c x)
form_length BadSize w x (size, small, is) = search rules
form_length BadStart w x (size, third, large, other, is) = search rules
form_length BadEnd w x (size, inner, last, long, other, some, is) = search (rules, length-append)
form_length (Stray b) w x (none, is) =
    subst (λ (v : List ℕ). word_length (v ++ x) ≡ length v) (sym is)
    (rw (not_first b (ClockMessage nothing) none, not_first b (Leds []) none) refl)

-- the event of one byte, by its command
abbrev pub event_of_byte : Option Command → ℕ → EventContent
event_of_byte (Some each) b = Read (command_content each)
event_of_byte None b = Stray b

-- a byte that doesn't begin a command is stray
stray_byte : (found : Option Command) (b : ℕ) → bare_command b ≡ found → BeginsNoCommand b
    → event_of_byte found b ≡ Stray b
stray_byte None b e none = refl
stray_byte (Some each) b e none = absurd (none (command_content each) [] (sym (bare_form b each e)))

-- the event of a clock message of this id, by the bytes after it
abbrev pub end_event : ℕ → List ℕ → EventContent
end_event id more =
    if get_or more (length more - 1) 0 == 0 then Read
    (ClockMessage (record { id = id; payload = take (length more - 1) more }))
    else BadEnd

-- the same, after the first byte of a clock message
abbrev pub clock_event : List ℕ → EventContent
clock_event (size ∷ third ∷ id ∷ more) = end_event id more
clock_event (size ∷ third ∷ []) = BadStart
clock_event _ = BadSize

-- the same, of all bytes
abbrev pub event_of : List ℕ → EventContent
event_of [] = BadSize
event_of (b ∷ rest) =
    if b == 0x2b then clock_event rest else if b == 0x60 then Read (Leds (drop 1 rest))
    else event_of_byte (bare_command b) b

-- all but the last byte
pub prefix : (p : List ℕ) (x : ℕ) → take (length (p ++ x ∷ []) - 1) (p ++ x ∷ []) ≡ p
prefix p x = take_at p (x ∷ []) (length (p ++ x ∷ []) - 1) (omega (arith, length-append p (x ∷ [])))

-- the last byte
pub last_of : (p : List ℕ) (x : ℕ) → get_or (p ++ x ∷ []) (length (p ++ x ∷ []) - 1) 0 ≡ x
last_of p x = get_or_push p x 0 (length (p ++ x ∷ []) - 1) (omega (arith, length-append p (x ∷ [])))

-- a clock message that ends with zero is read
end_read : (id : ℕ) (p : List ℕ)
    → end_event id (p ++ 0 ∷ []) ≡ Read (ClockMessage (record { id = id; payload = p }))
end_read id p = rw (last_of p 0, prefix p 0) refl

-- the event of an encoding is its command
event_of_encoding : (c : CommandContent) → event_of (command_encoding c) ≡ Read c
event_of_encoding c = search (rules, end_read)

-- a clock message with a wrong last byte is a fault
end_bad : (inner : List ℕ) (x : ℕ) (size : ℕ) → 0 < length inner → x ≢ 0
    → clock_event (size ∷ 3 ∷ (inner ++ x ∷ [])) ≡ BadEnd
end_bad [] x size some h = absurd (omega arith)
end_bad (id ∷ p) x size some h = rw (last_of p x, ne_eqb x 0 h) refl

-- a frame reports its event
pub form_event : (e : EventContent) (w : List ℕ) → HasForm e w → event_of w ≡ e
form_event (Read c) w h = ap event_of h ∙ event_of_encoding c
form_event BadSize w (size, small, is) = ap event_of is
form_event BadStart w (size, third, large, other, is) = ap event_of is
form_event BadEnd w (size, inner, final, long, other, some, is) =
    ap event_of is ∙ end_bad inner final size (omega arith) other
form_event (Stray b) w (none, is) =
    ap event_of is
    ∙ rw (not_first b (ClockMessage nothing) none, not_first b (Leds []) none)
    (stray_byte (bare_command b) b refl none)

-- Two lists with the same beginning begin with the same frame.
pub record SameWord (e f : EventContent) (w v x y : List ℕ) : Type 0 where
  pub event : e ≡ f
  pub word : w ≡ v
  pub after : x ≡ y

-- frames of one length that begin the same bytes are the same
same_prefix : (w v x y : List ℕ) → length w ≡ length v → w ++ x ≡ v ++ y → w ≡ v
same_prefix w v x y h is = cc (take_at w x (length w) refl, take_at v y (length w) (sym h))

-- frames that begin the same bytes are the same
pub same_word : (e f : EventContent) (w v x y : List ℕ) → HasForm e w → HasForm f v
    → w ++ x ≡ v ++ y → SameWord e f w v x y
same_word e f w v x y h k is =
    let long : length w ≡ length v =
    sym (form_length e w x h) ∙ (ap word_length is ∙ form_length f v y k) in
    search (rules, same_prefix, form_event, append_cancel_left)

-- a byte that doesn't begin a longer frame is a frame itself, by its command
word_of_byte : (found : Option Command) (b : ℕ) → bare_command b ≡ found → b ≢ 0x2b → b ≢ 0x60
    → (e : EventContent) × HasForm e (b ∷ [])
word_of_byte (Some each) b e not_clock not_leds = (Read (command_content each), bare_form b each e)
word_of_byte None b e not_clock not_leds = (Stray b, (no_command b e not_clock not_leds, refl))

-- a clock message of this id and payload
pub clock_word : (id : ℕ) (p : List ℕ) (size : ℕ) → length p + 3 ≡ size
    → (c : ClockContent) × HasForm (Read (ClockMessage c)) (0x2b ∷ size ∷ 3 ∷ id ∷ (p ++ 0 ∷ []))
clock_word id p size h =
    (record { id = id; payload = p }, ap (λ (n : ℕ). 0x2b ∷ n ∷ 3 ∷ id ∷ (p ++ 0 ∷ [])) (sym h))

-- a clock message that is long enough, right or not
full_word : (id : ℕ) (p : List ℕ) (x size : ℕ) → length p + 3 ≡ size → (e : EventContent)
    × HasForm e (0x2b ∷ size ∷ 3 ∷ id ∷ (p ++ x ∷ []))
full_word id p x size h = elim (cases_eq x 0) [
  | inl is ↦ let found = clock_word id p size h in (
    Read (ClockMessage found.0),
    subst (λ (y : ℕ). HasForm (Read (ClockMessage found.0)) (0x2b ∷ size ∷ 3 ∷ id ∷ (p ++ y ∷ [])))
        (sym is) found.1,
  )
  | inr other ↦ (BadEnd, (size, id ∷ p, x, omega arith, other, omega arith, refl))
]

-- a list of at least one, by its last
pub final_of : (x : ℕ) (ys : List ℕ)
    → (prefix : List ℕ) × (final : ℕ) × (x ∷ ys ≡ prefix ++ final ∷ [])
final_of x [] = ([], x, refl)
final_of x (y ∷ ys) = let more = final_of y ys in (x ∷ more.0, more.1, ap (λ zs. x ∷ zs) more.2)

-- a list that begins with a frame
pub record Begins (s : List ℕ) : Type 0 where
  pub event : EventContent
  pub word : List ℕ
  pub after : List ℕ
  pub form : HasForm event word
  pub is : s ≡ word ++ after

-- the frame is the first n bytes
first_bytes : (n : ℕ) (s : List ℕ) (e : EventContent) → HasForm e (take n s) → Begins s
first_bytes n s e form =
    let is = sym (take-append-drop n s) in
    record { event = e; word = take n s; after = drop n s; form = form; is = is }

-- the same, by the bytes after the third
ends_word : (ys : List ℕ) (size : ℕ) → 2 ≤ length ys → length ys + 1 ≡ size → (e : EventContent)
    × HasForm e (0x2b ∷ size ∷ 3 ∷ ys)
ends_word [] size some h = absurd (omega arith)
ends_word (id ∷ []) size some h = absurd (omega arith)
ends_word (id ∷ y ∷ ys) size some h =
    let ends = final_of y ys in
    let long : length ends.0 + 3 ≡ size =
    omega (arith, ap length ends.2, length-append ends.0 (ends.1 ∷ [])) in
    let found = full_word id ends.0 ends.1 size long in
    (found.0, subst (λ zs. HasForm found.0 (0x2b ∷ size ∷ 3 ∷ id ∷ zs)) (sym ends.2) found.1)

-- bytes as long as a clock message of the right third byte begin with it
whole_body : (size : ℕ) (rest : List ℕ) → 3 ≤ size → size + 2 ≤ length rest + 3
    → Begins (0x2b ∷ size ∷ 3 ∷ rest)
whole_body size rest large h =
    let long : length (take (size - 1) rest) ≡ size - 1 =
    length-take-le (size - 1) rest (omega arith) in
    let found = ends_word (take (size - 1) rest) size (omega arith) (omega arith) in
    first_bytes (suc (suc (suc (size - 1)))) (0x2b ∷ size ∷ 3 ∷ rest) found.0 found.1

-- bytes as long as a clock message of a large size begin with a frame
body_begins : (size : ℕ) (rest : List ℕ) → 3 ≤ size → body_length size rest ≤ length rest + 2
    → Begins (0x2b ∷ size ∷ rest)
body_begins size [] large h = absurd (omega arith)
body_begins size (third ∷ rest) large h = elim (cases_eq third 3) [
  | inl is ↦ search (rules, whole_body)
  | inr other ↦
      first_bytes 3 (0x2b ∷ size ∷ third ∷ rest) BadStart (size, third, large, other, refl)
]

-- bytes as long as the beginning of a clock message begin with a frame
clock_begins : (rest : List ℕ) → word_length (0x2b ∷ rest) ≤ length rest + 1 → Begins (0x2b ∷ rest)
clock_begins [] h = absurd (omega arith)
clock_begins (size ∷ rest) h = elim (cases_lt size 3) [
  | inl small ↦ first_bytes 2 (0x2b ∷ size ∷ rest) BadSize (size, small, refl)
  | inr large ↦ body_begins size rest large
      (let k : body_length size rest ≤ length (size ∷ rest) + 1 = rw (le-ltb size 3 large) at h in
      omega (arith, k))
]

-- bytes as long as an LED frame begin with it
led_begins : (rest : List ℕ) → word_length (0x60 ∷ rest) ≤ length rest + 1 → Begins (0x60 ∷ rest)
led_begins [] h = absurd (omega arith)
led_begins (size ∷ rest) h =
    let long : length (take size rest) ≡ size = length-take-le size rest (omega arith) in
    first_bytes (suc (suc size)) (0x60 ∷ size ∷ rest) (Read (Leds (take size rest)))
    (ap (λ (n : ℕ). 0x60 ∷ n ∷ take size rest) (sym long))

-- a list as long as its frame begins with it
pub begins : (s : List ℕ) → word_length s ≤ length s → Begins s
begins [] h = absurd (omega arith)
begins (b ∷ rest) h = elim (cases_eq b 0x2b) [
  | inl is ↦ search (rules, clock_begins)
  | inr other ↦ elim (cases_eq b 0x60) [
    | inl is ↦ search (rules, led_begins)
    | inr neither ↦ let found = word_of_byte (bare_command b) b refl other neither in
        first_bytes 1 (b ∷ rest) found.0 found.1
  ]
]
