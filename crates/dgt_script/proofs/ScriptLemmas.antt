-- The words of a script's lines, and where they go wrong.
use Rattle.std.proofs.Common.{◌≡◌, ◌≢◌, ℕ, ◌+◌, ◌-◌, ◌<◌, ◌≤◌, ◌==◌, List, [], ◌∷◌, Option, Some, None, sym, ◌∙◌, ap, subst, arith, false, true, get_or, inl, inr, length, length-append, take, rules}
use Rattle.std.proofs.lemmas.{List.{get_or-take, length-drop, length-take-le, take_all, Splits.{join_with_byte-slice_split, length-slice_split, slice_split_first}}, Bool.Decides.{eqb_tells}}
use Rattle.std.{proofs.lemmas.List.{Splits.{slice_split_none}, Sums.{fails_before_first, position_or_len_is}}, specs.{Borrow.{Bor}, List.{position_or_len}, Prelude.{All, slice_index}}}
use Rattle.{std.specs.Slice.{IsGetRangeResult}, dgt_script.specs.{Script.{AsksFor, GoesWrong, IsBadAt, IsOf, Vocabulary, WordKind, words}, ScriptReading.{left_words, GoesWrongBefore}}}
use Rattle.dgt_script.specs.{ScriptWords.{words_text}, declared.script.Wrong.{Wrong}}

-- the words of a line make the line
pub words_text-words : (line : List ℕ) → words_text (words line) ≡ line
words_text-words line = join_with_byte-slice_split 32 line

pub length-words : (line : List ℕ) → length (words_text (words line)) ≡ length line
length-words line = ap length (words_text-words line)

pub length-left_words : (rest : Option (Bor (List ℕ))) (bytes : Bor (List ℕ)) → rest ≡ Some bytes
    → length bytes.now ≡ length (words_text (left_words rest))
length-left_words rest bytes h = search (rules, length-words)

-- a word where none should be
one_too_many : (parts : List (List ℕ)) → 0 < length parts → GoesWrong [] parts parts
one_too_many parts h = search rules

pub word_left : (rest : Option (Bor (List ℕ))) (bytes : Bor (List ℕ)) (wrong : Wrong)
    → rest ≡ Some bytes → wrong.left ≡ length bytes.now → GoesWrongBefore [] (left_words rest) wrong
word_left None bytes wrong h e = absurd cc
word_left (Some other) bytes wrong h e =
    let same : bytes.now ≡ other.now = cc in
    let some = length-slice_split (λ byte. byte == 32) other.now in (
      words other.now,
      one_too_many (words other.now) (omega arith),
      e ∙ ap length same ∙ sym (length-words other.now),
    )

-- ---- What is left where words go wrong

words_text-tail : (word : List ℕ) (parts : List (List ℕ))
    → length (words_text parts) ≤ length (words_text (word ∷ parts))
words_text-tail word parts = search (rules, length-append)

goes_wrong_within : (kinds : List WordKind) (parts bad : List (List ℕ)) → GoesWrong kinds parts bad
    → length (words_text bad) ≤ length (words_text parts)
goes_wrong_within [] [] bad h = absurd h
goes_wrong_within (kind ∷ kinds) (word ∷ parts) bad (inl h) =
    let e = ap (λ l. length (words_text l)) h.1 in omega arith
goes_wrong_within (kind ∷ kinds) (word ∷ parts) bad (inr h) =
    search (rules, words_text-tail, goes_wrong_within kinds parts bad h.1)
goes_wrong_within kinds parts bad h = let e = ap (λ l. length (words_text l)) h in omega arith

-- ---- The first word

-- a list that is cut before the first space, or not at all
words_cut : (line : List ℕ) (end : ℕ) (rest : Option (Bor (List ℕ)))
    → position_or_len (λ byte. byte == 32) line ≡ end → end ≤ length line
    → IsGetRangeResult line (end + 1) (length line) rest
    → words line ≡ take end line ∷ left_words rest
words_cut line end None e within get =
    search (rules, fails_before_first, slice_split_none, take_all)
words_cut line end (Some bytes) e within get =
    search (rules, take_all, length-drop, slice_split_first)

pub first_word : (line : List ℕ) (end : ℕ) (rest : Option (Bor (List ℕ))) → end ≤ length line
    → All (λ byte. byte ≢ 32) (take end line) → (end < length line → slice_index line end ≡ 32)
    → IsGetRangeResult line (end + 1) (length line) rest
    → words line ≡ take end line ∷ left_words rest
first_word line end rest within before space get =
    words_cut line end rest
    (position_or_len_is (λ byte. byte == 32) line end 0 within no_space a_space) within get
  where
    no_space : (k : ℕ) → k < end → (get_or line k 0 == 32) ≡ false
    no_space k h = let other = before k 0 (omega (arith, length-take-le end line within)) in
        let e = get_or-take end line k 0 h in
        elim (eqb_tells (get_or line k 0) 32)
        [ inl same ↦ absurd (other (e ∙ same.1)) | inr ne ↦ ne.0 ]

    a_space : end < length line → (get_or line end 0 == 32) ≡ true
    a_space h = ap (λ byte. byte == 32) (space h)

-- ---- Where a reader stops

-- a word of another kind
pub word_refused : (kind : WordKind) (kinds : List WordKind) (parts rest : List (List ℕ))
    (word : List ℕ) (wrong : Wrong) → parts ≡ word ∷ rest → ¬ (IsOf kind word)
    → wrong.left ≡ length (words_text parts) → GoesWrongBefore (kind ∷ kinds) parts wrong
word_refused kind kinds parts rest word wrong e refused k = search rules

-- ---- A line that is cut after its first word

module _ {V A : Type 0} (v : Vocabulary V A) (line first : List ℕ) (later : List (List ℕ))
    (cut : words line ≡ first ∷ later) (short : length line ≤ 519) where
  -- that word is not allowed
  pub verb_refused : ((verb : V) → first ≢ v.text_of verb) → IsBadAt v line 0
  verb_refused refused = inr (
    short,
    words line,
    inl (search rules),
    omega (arith, length-words line),
  )

  -- it is allowed
  module _ (verb : V) (same : first ≡ v.text_of verb) where
    begins : words line ≡ v.text_of verb ∷ later
    begins = cut ∙ ap (λ word. word ∷ later) same

    pub line_asks : (act : A) → v.asks (v.text_of verb ∷ later) act → AsksFor v line act
    line_asks act h = (short, subst (λ parts. v.asks parts act) (sym begins) h)

    pub left_within : (wrong : Wrong) → GoesWrongBefore (v.kinds_of verb) later wrong
        → wrong.left ≤ length line
    left_within wrong h =
        let within = goes_wrong_within (v.kinds_of verb) later h.0 h.1 in
        let shorter = words_text-tail (v.text_of verb) later in
        let whole = ap (λ parts. length (words_text parts)) begins in
        omega (arith, h.2, length-words line)

    pub bad_from_there : (wrong : Wrong) → GoesWrongBefore (v.kinds_of verb) later wrong
        → IsBadAt v line (length line - wrong.left)
    bad_from_there wrong h =
        let within = left_within wrong h in
        inr (short, h.0, inr (verb, later, begins, h.1), omega (arith, h.2))
