-- Reading byte by byte.
use Rattle.std.proofs.{Common.{◌≡◌, ℕ, ◌-◌, ◌<◌, ◌≤◌, List, [], ◌∷◌, ◌++◌, length, take, drop, sym, ap, subst, ◌∙◌, inl, inr, arith, rules}, lemmas.{Bool.{cases_lt}, List.{append-nil, take_at}}}
use Rattle.{std.{proofs.lemmas.{List.{take_all, take-append-drop, take-take}}, specs.Prelude.{Bool, true, false}}, dgt_command.specs.Encoding.{AreBytes}}
use Rattle.dgt_command.{specs.{Laws.{WordsAreShort}, Lengths.{IsWholeWord, word_length}, Words.{IsPartial}}, proofs.DivisionLemmas.{some_word, not_both, short_from_IsPartial, IsPartial-from_short}}
use Rattle.dgt_command.proofs.{DivisionLemmas.{bytes_left}, WordLemmas.{form_length, begins}}

-- bytes as long as their frame begin with it
pub whole_prefix : (s : List ℕ) (n : ℕ) → AreBytes s → n ≡ word_length s → n ≤ length s
    → IsWholeWord (take n s)
whole_prefix s n bytes is long =
    let found = begins s (omega (arith, is)) in
    let size : length found.word ≡ n = search (rules, form_length) in
    let prefix : take n s ≡ found.word =
    ap (take n) found.is ∙ take_at found.word found.after n size in
    let both : AreBytes (found.word ++ found.after) = subst AreBytes found.is bytes in (
      found.event,
      rw prefix (record { form = found.form; are_bytes = bytes_left found.word found.after both }),
    )

-- bytes shorter than their frame are a part of one
pub partial_prefix : (s : List ℕ) (n : ℕ) → AreBytes s → n ≡ word_length s → length s < n
    → IsPartial s
partial_prefix s n bytes is short = IsPartial-from_short s bytes (omega (arith, is))

-- a frame that begins bytes which are partial without the last is all of them
pub whole_last : (s : List ℕ) (n : ℕ) → IsPartial (take (length s - 1) s) → n ≤ length s
    → IsWholeWord (take n s) → IsWholeWord s
whole_last s n partial long whole = elim (cases_lt (length s - 1) n) [
  | inl h ↦ subst IsWholeWord (take_all n s (omega arith)) whole
  | inr h ↦
      let prefix : List ℕ = take (length s - 1) s in
      absurd (not_both prefix whole.0 (take n s) (drop n prefix) partial whole.1.form
      (sym (take-append-drop n prefix)
      ∙ ap (λ (z : List ℕ). z ++ drop n prefix) (take-take n (length s - 1) s h)))
]

-- no frame has more than 257 bytes
pub word_limit : (s : List ℕ) → AreBytes s → word_length s ≤ 257
word_limit s bytes = search rules

-- a part of a frame has at most 256 bytes
pub partial_limit : (r : List ℕ) → IsPartial r → length r < 257
partial_limit r partial = omega (
  arith,
  short_from_IsPartial r partial,
  word_limit r
      (bytes_left r (partial.next ∷ partial.more) partial.word.are_bytes),
)

-- a frame has 1 to 257 bytes
pub words_are_short : WordsAreShort
words_are_short e w h = (
  some_word e w h.form,
  omega (arith, form_length e w [] h.form, ap word_length (append-nil w), word_limit w h.are_bytes),
)

-- what is kept, a whole frame or a part of one, has at most 257 bytes
pub kept_limit : (is_whole : Bool) (word : List ℕ) → (is_whole ≡ true → IsWholeWord word)
    → (is_whole ≡ false → IsPartial word) → length word ≤ 257
kept_limit is_whole word whole partial = search (rules, words_are_short, partial_limit)
