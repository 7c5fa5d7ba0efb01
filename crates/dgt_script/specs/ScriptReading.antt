-- The results of the parts of the reader of a script's line.
use Rattle.std.specs.Prelude.{◌≡◌, ◌≢◌, ℕ, List, [], ◌∷◌, length, Option, Some, None, MatchOption, Result, MatchResult}
use Rattle.std.specs.Borrow.{Bor}
use Rattle.dgt_link.specs.declared.acts.Act.{Act}
use Rattle.dgt_link.specs.Act.{act_content}
use Rattle.dgt_script.specs.declared.script_words.Verb.{Verb}
use Rattle.dgt_script.specs.declared.script.Wrong.{Wrong}
use Rattle.dgt_script.specs.ScriptWords.{words_text}
use Rattle.dgt_script.specs.Script.{GoesWrong, Vocabulary, WordKind, plain_words, words}

-- the words that are left, if this is the text after the last space
abbrev pub left_words : Option (Bor (List ℕ)) → List (List ℕ)
left_words None = []
left_words (Some bytes) = words bytes.now

-- the result for a word that may be one of these texts
abbrev pub FindsWord : {V : Type 0} → (V → List ℕ) → List ℕ → Option V → Type 0
FindsWord {V} text_of word answer =
    MatchOption answer ((verb : V) → word ≢ text_of verb) (λ verb. word ≡ text_of verb)

-- words that should be of these kinds are wrong, with this number of bytes left
abbrev pub GoesWrongBefore : List WordKind → List (List ℕ) → Wrong → Type 0
GoesWrongBefore kinds parts wrong = (bad : List (List ℕ)) × GoesWrong kinds parts bad
    × (wrong.left ≡ length (words_text bad))

-- the result for words that should be one word of this kind, with its value by `has_value`
abbrev pub ReadsWord : {A : Type 0} → WordKind → (List ℕ → A → Type 0) → List (List ℕ)
    → Result A Wrong → Type 0
ReadsWord kind has_value parts answer =
    MatchResult answer (λ value. (word : List ℕ) × (parts ≡ word ∷ []) × has_value word value)
    (λ wrong. GoesWrongBefore (kind ∷ []) parts wrong)

-- the result for the words after this first one
abbrev pub ReadsAfter : {V A : Type 0} → Vocabulary V A → V → List (List ℕ) → Result A Wrong
    → Type 0
ReadsAfter vocabulary verb parts answer =
    MatchResult answer (λ act. vocabulary.asks (vocabulary.text_of verb ∷ parts) act)
    (λ wrong. GoesWrongBefore (vocabulary.kinds_of verb) parts wrong)

-- the same vocabulary, for acts with this content
abbrev pub seen_as : {V A B : Type 0} → (B → A) → Vocabulary V A → Vocabulary V B
seen_as content vocabulary = record {
  text_of = vocabulary.text_of;
  kinds_of = vocabulary.kinds_of;
  asks = λ parts act. vocabulary.asks parts (content act);
}

abbrev pub plain_acts : Vocabulary Verb Act
plain_acts = seen_as act_content plain_words
