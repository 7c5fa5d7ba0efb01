-- Zeros complete each partial frame, and each list of bytes divides into frames in one way.
use Rattle.std.proofs.Common.{◌≡◌, ℕ, suc, zero, ◌+◌, ◌-◌, ◌<◌, ◌≤◌, List, [], ◌∷◌, ◌++◌, length, refl, sym, ap, subst, ◌∙◌, inl, inr, arith, append_assoc, length-append, replicate, map, rules}
use Rattle.std.proofs.lemmas.{Bool.{cases_eq, cases_lt, le-ltb, lt-ltb, ne_eqb, eq-eqb}, List.{append-nil, length-replicate, replicate_more, replicate-append-replicate, get_or-replicate, get_or_past}}
use Rattle.{std.specs.{List.{flat_map, AllByRecursion}, Prelude.{Bool, false, slice_index, if◌then◌else◌}}, dgt_command.specs.Content.{CommandContent, ClockContent, ClockMessage, Leds, EventContent}}
use Rattle.dgt_command.specs.Content.{Read, BadSize}
use Rattle.dgt_command.specs.{Content.{BadStart, Stray}, Encoding.{AreBytes, command_encoding, EncodesCommand}, Laws.{EachDividesOnce, EachHasItsWords, NoWordBeginsAPart, NoWordBeginsAnother}}
use Rattle.dgt_command.specs.{Laws.{CommandsAreReadBack, ZerosSettleTheReader, DivisionsAppend, PrefixesDivideFirst}, Lengths.{word_length}, Words.{BeginsNoCommand, HasForm, IsWord, IsPartial}}
use Rattle.dgt_command.{specs.Words.{Divides, Word, AreWords, word_bytes, IsNoise, IsNoiseList}, proofs.{CodeLemmas.{no_command}, WordLemmas.{body_length, same_word, begins, clock_word}}}

-- this many zeros
abbrev pub zeros : ℕ → List ℕ
zeros n = replicate n 0

-- this many zeros are this many bytes
length_zeros : (n : ℕ) → length (zeros n) ≡ n
length_zeros n = length-replicate {A = ℕ} n 0

-- bytes after bytes are bytes
pub bytes_append : (xs ys : List ℕ) → AreBytes xs → AreBytes ys → AreBytes (xs ++ ys)
bytes_append [] ys h k i = k i
bytes_append (x ∷ xs) ys h k zero = h 0
bytes_append (x ∷ xs) ys h k (suc i) = bytes_append xs ys (λ j. h (suc j)) k i

-- the beginning of bytes is bytes
pub bytes_left : (xs ys : List ℕ) → AreBytes (xs ++ ys) → AreBytes xs
bytes_left [] ys h i = omega arith
bytes_left (x ∷ xs) ys h zero = h 0
bytes_left (x ∷ xs) ys h (suc i) = bytes_left xs ys (λ j. h (suc j)) i

-- the rest of bytes is bytes
pub bytes_right : (xs ys : List ℕ) → AreBytes (xs ++ ys) → AreBytes ys
bytes_right [] ys h i = h i
bytes_right (x ∷ xs) ys h i = bytes_right xs ys (λ j. h (suc j)) i

-- zeros are bytes
pub bytes_zeros : (n : ℕ) → AreBytes (zeros n)
bytes_zeros n i = search (rules, get_or-replicate, get_or_past, length_zeros)

-- zeros complete the frame
pub record Completed (r : List ℕ) : Type 0 where
  pub event : EventContent
  pub count : ℕ
  pub few : count < 255
  pub noise : IsNoise event
  pub form : HasForm event (r ++ 0 ∷ zeros count)

-- zeros complete the frame of this event
completes : {r : List ℕ} (event : EventContent) (count : ℕ) → HasForm event (r ++ 0 ∷ zeros count)
    → count < 255 → IsNoise event → Completed r
completes event count form few noise =
    record { event = event; count = count; few = few; noise = noise; form = form }

-- zero doesn't begin a command
zero_begins_none : BeginsNoCommand 0
zero_begins_none = no_command 0 refl (λ e. omega arith) (λ e. omega arith)

-- a clock message whose payload ends with this many zeros
payload_zeros : (size id : ℕ) (p : List ℕ) (n : ℕ) → length p + n + 3 ≡ size
    → (c : ClockContent)
    × HasForm (Read (ClockMessage c)) (0x2b ∷ size ∷ 3 ∷ id ∷ (p ++ 0 ∷ zeros n))
payload_zeros size id p n long =
    let found =
    clock_word id (p ++ zeros n) size (omega (arith, length-append p (zeros n), length_zeros n)) in
    (found.0, search (rules, append_assoc, replicate_more))

-- zeros complete a clock message with the right size and third byte
body_zeros : (size : ℕ) (rest : List ℕ) → 3 ≤ size → size < 256 → length rest + 3 < size + 2
    → Completed (0x2b ∷ size ∷ 3 ∷ rest)
body_zeros size [] large byte short =
    let found = payload_zeros size 0 [] (size - 3) (omega arith) in
    completes (Read (ClockMessage found.0)) (suc (size - 3)) found.1 (omega arith) tt
body_zeros size (id ∷ p) large byte short =
    let n : ℕ = size - 3 - length p in
    let found = payload_zeros size id p n (omega arith) in
    completes (Read (ClockMessage found.0)) n found.1 (omega arith) tt

-- zeros complete the beginning of a clock message
clock_zeros : (rest : List ℕ) → slice_index rest 0 < 256
    → length rest + 1 < word_length (0x2b ∷ rest) → Completed (0x2b ∷ rest)
clock_zeros [] byte h = completes BadSize 0 (0, omega arith, refl) (omega arith) tt
clock_zeros (size ∷ rest) byte h = elim (cases_lt size 3) [
  | inl small ↦ absurd
      (let k : length (size ∷ rest) + 1 < 2 = rw (lt-ltb size 3 small) at h in omega (arith, k))
  | inr large ↦ size_zeros size rest large byte
      (let k : length (size ∷ rest) + 1 < body_length size rest = rw (le-ltb size 3 large) at h in
      k)
]
  where
    size_zeros : (size : ℕ) (rest : List ℕ) → 3 ≤ size → size < 256
        → length (size ∷ rest) + 1 < body_length size rest → Completed (0x2b ∷ size ∷ rest)
    size_zeros size [] large byte h =
        completes BadStart 0 (size, 0, large, (λ e. omega arith), refl) (omega arith) tt
    size_zeros size (third ∷ rest) large byte h = elim (cases_eq third 3) [
      | inl is ↦ subst (λ (x : ℕ). Completed (0x2b ∷ size ∷ x ∷ rest)) (sym is)
          (body_zeros size rest large byte
          (let k : length (size ∷ third ∷ rest) + 1 < size + 2 = rw (eq-eqb third 3 is) at h in
          omega (arith, k)))
      | inr other ↦ absurd
          (let k : length (size ∷ third ∷ rest) + 1 < 3 = rw (ne_eqb third 3 other) at h in
          omega (arith, k))
    ]

-- zeros complete an LED frame
led_zeros : (rest : List ℕ) → slice_index rest 0 < 256 → length rest + 1 < word_length (0x60 ∷ rest)
    → Completed (0x60 ∷ rest)
led_zeros [] byte h = completes (Read (Leds [])) 0 refl (omega arith) tt
led_zeros (size ∷ rest) byte h =
    let n : ℕ = size - 1 - length rest in
    let long : length (rest ++ 0 ∷ zeros n) ≡ size =
    omega (arith, length-append rest (0 ∷ zeros n), length_zeros n) in
    completes (Read (Leds (rest ++ 0 ∷ zeros n))) n
    (ap (λ (k : ℕ). 0x60 ∷ k ∷ (rest ++ 0 ∷ zeros n)) (sym long)) (omega arith) tt

-- bytes shorter than their frame become one by zeros
pub completed : (r : List ℕ) → AreBytes r → length r < word_length r → Completed r
completed [] bytes h = completes (Stray 0) 0 (zero_begins_none, refl) (omega arith) tt
completed (b ∷ rest) bytes h = elim (cases_eq b 0x2b) [
  | inl is ↦ subst (λ (x : ℕ). Completed (x ∷ rest)) (sym is)
      (clock_zeros rest (bytes 1)
      (let k : length (b ∷ rest) < word_length (0x2b ∷ rest) = rw (eq-eqb b 0x2b is) at h in
      omega (arith, k)))
  | inr other ↦ elim (cases_eq b 0x60) [
    | inl is ↦ subst (λ (x : ℕ). Completed (x ∷ rest)) (sym is)
        (led_zeros rest (bytes 1)
        (search rules))
    | inr neither ↦ search rules
  ]
]

-- a proper prefix of a frame is shorter than its frame, and conversely
pub IsPartial-from_short : (r : List ℕ) → AreBytes r → length r < word_length r → IsPartial r
IsPartial-from_short r bytes h =
    let found = completed r bytes h in
    search (rules, bytes_append, bytes_zeros)

-- a partial frame doesn't begin with a frame
pub not_both : (r : List ℕ) (e : EventContent) (w x : List ℕ) → IsPartial r → HasForm e w
    → r ≡ w ++ x → ⊥
not_both r e w x partial form is =
    let whole : List ℕ = r ++ partial.next ∷ partial.more in
    let prefix : w ++ (x ++ partial.next ∷ partial.more) ≡ whole ++ [] =
    search (rules, append_assoc) in
    let same = same_word e partial.event w whole (x ++ partial.next ∷ partial.more) [] form
    partial.word.form prefix in
    omega (
      arith,
      ap length same.word,
      ap length is,
      length-append w x,
      length-append r (partial.next ∷ partial.more),
    )

-- a proper prefix of a frame is shorter than its frame
pub short_from_IsPartial : (r : List ℕ) → IsPartial r → length r < word_length r
short_from_IsPartial r partial = elim (cases_lt (length r) (word_length r)) [
  | inl h ↦ h
  | inr h ↦ let found = begins r h in
      absurd (not_both r found.event found.word found.after partial found.form found.is)
]

-- a list that begins with a frame isn't part of one
pub no_word_within : NoWordBeginsAPart
no_word_within e w x word partial = not_both (w ++ x) e w x partial word.form refl

-- bytes after a part of a frame are bytes with it
pub partial_bytes : (r more : List ℕ) → IsPartial r → AreBytes more → AreBytes (r ++ more)
partial_bytes r more partial are =
    bytes_append r more (bytes_left r (partial.next ∷ partial.more) partial.word.are_bytes) are

-- the rest of a division
pub partial_left : (bytes rest : List ℕ) (events : List EventContent) → Divides bytes events rest
    → IsPartial rest
partial_left bytes rest [] divides = divides.1
partial_left bytes rest (e ∷ events) divides = partial_left divides.1 rest events divides.4

-- no byte is a proper prefix of a frame
pub nothing_is_partial : IsPartial []
nothing_is_partial = IsPartial-from_short [] (λ i. omega arith) (omega arith)

-- a frame has at least one byte
pub some_word : (e : EventContent) (w : List ℕ) → HasForm e w → 0 < length w
some_word e w h = search rules

-- bytes up to some length divide
divide : (n : ℕ) (s : List ℕ) → length s ≤ n → AreBytes s
    → (events : List EventContent) × (rest : List ℕ) × Divides s events rest
divide zero [] short bytes = ([], [], (refl, nothing_is_partial))
divide zero (b ∷ s) short bytes = absurd (omega arith)
divide (suc n) s short bytes = elim (cases_lt (length s) (word_length s)) [
  | inl h ↦ ([], s, (refl, IsPartial-from_short s bytes h))
  | inr h ↦
      let found = begins s h in
      let both : AreBytes (found.word ++ found.after) = subst AreBytes found.is bytes in
      let less : length found.after ≤ n = search (rules, length-append) in
      let more = divide n found.after less (bytes_right found.word found.after both) in
      (found.event ∷ more.0, more.1, search (rules, bytes_left))
]

-- the frames of a division
divided_words : (s : List ℕ) (events : List EventContent) (rest : List ℕ) → Divides s events rest
    → (words : List Word) × AreWords s words rest
    × (map (λ (word : Word). word.event) words ≡ events)
divided_words s [] rest h = ([], record { each = tt; whole = h.0; partial = h.1 }, refl)
divided_words s (event ∷ events) rest h = let more = divided_words h.1 events rest h.4 in (
  record { event = event; bytes = h.0 } ∷ more.0,
  search (rules, append_assoc),
  ap (λ (es : List EventContent). event ∷ es) more.2,
)

-- consecutive frames, and a part of one after them, are no others
words_once : (xs ys : List Word) (r q : List ℕ)
    → AllByRecursion (λ word. IsWord word.event word.bytes) xs
    → AllByRecursion (λ word. IsWord word.event word.bytes) ys → IsPartial r → IsPartial q
    → word_bytes xs ++ r ≡ word_bytes ys ++ q → (xs ≡ ys) × (r ≡ q)
words_once [] [] r q h k o p e = (refl, e)
words_once [] (y ∷ ys) r q h k o p e =
    absurd (not_both r y.event y.bytes (word_bytes ys ++ q) o k.0.form
    (e ∙ append_assoc y.bytes (word_bytes ys) q))
words_once (x ∷ xs) [] r q h k o p e =
    absurd (not_both q x.event x.bytes (word_bytes xs ++ r) p h.0.form
    (sym e ∙ append_assoc x.bytes (word_bytes xs) r))
words_once (x ∷ xs) (y ∷ ys) r q h k o p e =
    let both : x.bytes ++ (word_bytes xs ++ r) ≡ y.bytes ++ (word_bytes ys ++ q) =
    cc (append_assoc x.bytes (word_bytes xs) r, append_assoc y.bytes (word_bytes ys) q) in
    let same = same_word x.event y.event x.bytes y.bytes (word_bytes xs ++ r) (word_bytes ys ++ q)
    h.0.form k.0.form both in
    search (rules, words_once xs ys r q h.1 k.1 o p same.after)

-- bytes are frames and a rest in one way, and in only one
pub each_has_its_words : EachHasItsWords
each_has_its_words = (
  (λ bytes are.
      let found = divide (length bytes) bytes (omega arith) are in
      let words = divided_words bytes found.0 found.1 found.2 in (words.0, found.1, words.1)),
  (λ bytes xs ys r q h k.
      words_once xs ys r q h.each k.each h.partial k.partial (sym h.whole ∙ k.whole)),
)

-- two divisions of bytes are the same
once : (s : List ℕ) (es fs : List EventContent) (r q : List ℕ) → Divides s es r → Divides s fs q
    → (es ≡ fs) × (r ≡ q)
once s es fs r q h k =
    let first = divided_words s es r h in
    let second = divided_words s fs q k in
    let same = each_has_its_words.1 s first.0 second.0 r q first.1 second.1 in
    (sym first.2 ∙ ap (map (λ (word : Word). word.event)) same.0 ∙ second.2, same.1)

-- bytes divide in one way, and in only one
pub each_divides_once : EachDividesOnce
each_divides_once = (
  (λ bytes are. divide (length bytes) bytes (omega arith) are),
  (λ bytes es fs r q h k. once bytes es fs r q h k),
)

-- a frame that begins a frame is that frame
pub no_word_begins_another : NoWordBeginsAnother
no_word_begins_another e f w v more h k is =
    let same = same_word e f w v more [] h.form k.form (sym is ∙ sym (append-nil v)) in
    (same.event, same.after)

-- encodings in a row divide into their commands
read_back : (cs : List CommandContent)
    → AllByRecursion (λ c. EncodesCommand c (command_encoding c)) cs
    → Divides (flat_map command_encoding cs) (map Read cs) []
read_back [] h = (refl, nothing_is_partial)
read_back (c ∷ cs) h = search (rules, read_back cs h.1)

-- bytes that follow others are divided from their rest on
pub Divides-append : DivisionsAppend
Divides-append s t [] fs r q h k = subst (λ (z : List ℕ). Divides (z ++ t) fs q) (sym h.0) k
Divides-append s t (e ∷ es) fs r q h k =
    (h.0, h.1 ++ t, h.2, cc (append_assoc h.0 h.1 t), Divides-append h.1 t es fs r q h.4 k)

-- the events of a prefix of bytes are the first of theirs, and its rest is continued
pub divides_prefix : PrefixesDivideFirst
divides_prefix s t [] fs r q h k = (fs, refl, subst (λ (z : List ℕ). Divides (z ++ t) fs q) h.0 k)
divides_prefix s t (e ∷ es) [] r q h k =
    absurd (not_both q e h.0 (h.1 ++ t) k.1 h.2.form (cc (append_assoc h.0 h.1 t)))
divides_prefix s t (e ∷ es) (f ∷ fs) r q h k =
    let same = same_word e f h.0 k.0 (h.1 ++ t) k.1 h.2.form k.2.form
    (cc (append_assoc h.0 h.1 t)) in
    let on = divides_prefix h.1 t es fs r q h.4
    (subst (λ (z : List ℕ). Divides z fs q) (sym same.after) k.4) in
    (on.0, cc, on.2)

-- the same after frames
pub commands_are_read_back : CommandsAreReadBack
commands_are_read_back bytes es cs h all =
    Divides-append bytes (flat_map command_encoding cs) es (map Read cs) [] [] h (read_back cs all)

-- zeros are stray bytes
zeros_stray : (n : ℕ) → (es : List EventContent) × IsNoiseList es × Divides (zeros n) es []
zeros_stray zero = ([], tt, (refl, nothing_is_partial))
zeros_stray (suc n) =
    let word : IsWord (Stray 0) (0 ∷ []) =
    record { form = (zero_begins_none, refl); are_bytes = bytes_zeros 1 } in
    let more = zeros_stray n in
    (Stray 0 ∷ more.0, (tt, more.1), (0 ∷ [], zeros n, word, refl, more.2))

-- a part of a frame and 255 zeros are noise
pub zeros_settle_the_reader : ZerosSettleTheReader
zeros_settle_the_reader r partial =
    let bytes : AreBytes r = bytes_left r (partial.next ∷ partial.more) partial.word.are_bytes in
    let found = completed r bytes (short_from_IsPartial r partial) in
    let left : ℕ = 255 - suc found.count in
    let more = zeros_stray left in
    let word : List ℕ = r ++ zeros (suc found.count) in
    let split : r ++ replicate 255 0 ≡ word ++ zeros left =
    ap (λ (n : ℕ). r ++ zeros n)
    (let e : 255 ≡ suc found.count + left = omega (arith, found.few) in e)
    ∙ (search (rules, replicate-append-replicate, append_assoc)) in (
      found.event ∷ more.0,
      (found.noise, more.1),
      (search (rules, bytes_append, bytes_zeros)),
    )

-- nothing is held of a whole frame, and otherwise a part of one
pub held_is_partial : (is_whole : Bool) (word : List ℕ) → (is_whole ≡ false → IsPartial word)
    → IsPartial (if is_whole then [] else word)
held_is_partial is_whole word h = search (rules, nothing_is_partial)
