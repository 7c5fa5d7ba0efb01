-- The text of bytes that come in chunks.
use Rattle.std.proofs.{Common.{◌≡◌, ℕ, ◌+◌, List, [], ◌∷◌, ◌++◌, refl, sym, ◌∙◌, ap, length, arith, append_assoc, append-nil, length-append, rules}, lemmas.Grind.{flat_map-append, common_steps}}
use Rattle.{std.specs.List.{AllByRecursion}, dgt_command.specs.{Content.{EventContent}, Laws.{EachHasItsWords}, Words.{IsWord, IsPartial, Word, word_bytes}}}
use Rattle.dgt_lines.specs.{CommandLaws.{EachIsPrinted, EachIsPrintedOnce, TextsAppend}, CommandLines.{Prints, command_line, word_lines}}

-- each is the word that it is said to be
abbrev pub AllWords : List Word → Type 0
AllWords words = AllByRecursion (λ word. IsWord word.event word.bytes) words

all_words-append : (xs ys : List Word) → AllWords xs → AllWords ys → AllWords (xs ++ ys)
all_words-append xs ys h k = grind (arith, common_steps)

word_lines-append : (k : ℕ) (xs ys : List Word)
    → word_lines k (xs ++ ys) ≡ word_lines k xs ++ word_lines (k + length (word_bytes xs)) ys
word_lines-append k [] ys = let e : k ≡ k + 0 = omega arith in ap (λ n. word_lines n ys) e
word_lines-append k (x ∷ xs) ys =
    let end = k + length x.bytes in
    search (rules, length-append, append_assoc, word_lines-append end xs ys)

-- bytes in a row
pub texts_append : TextsAppend
texts_append k s t r q text others h g = record {
  words = h.words ++ g.words;
  are_words = search (rules, all_words-append, append_assoc, flat_map-append);
  said = search (rules, length-append, word_lines-append);
}

-- one word
pub word_is_printed : IsPartial [] → (k : ℕ) (word : List ℕ) (event : EventContent)
    → IsWord event word → Prints k word [] (command_line (k + length word) event)
word_is_printed none k word event h = record {
  words = record { event = event; bytes = word } ∷ [];
  are_words = search rules;
  said = sym (append-nil (command_line (k + length word) event));
}

-- no whole word
pub part_is_printed : (k : ℕ) (rest : List ℕ) → IsPartial rest → Prints k rest rest []
part_is_printed k rest h = search rules

-- each list of bytes has a text
pub each_is_printed : EachHasItsWords → EachIsPrinted
each_is_printed has k s are =
    let found = has.0 s are in
    (found.1, word_lines k found.0, record { words = found.0; are_words = found.2; said = refl })

-- each list of bytes has only one text
pub each_is_printed_once : EachHasItsWords → EachIsPrintedOnce
each_is_printed_once has k s r q text also h g =
    let same = has.1 s h.words g.words r q h.are_words g.are_words in
    (same.1, h.said ∙ ap (word_lines k) same.0 ∙ sym g.said)
