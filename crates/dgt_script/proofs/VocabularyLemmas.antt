-- No line has two meanings in an ordered vocabulary.
use Rattle.{std.{proofs.Common.{◌≡◌, ℕ, List, [], ◌∷◌, Option, Some, sym, ◌∙◌, inl, inr, rules}, specs.Prelude.{◌↔◌}}, dgt_script.specs.Script.{AreOf, AsksFor, GoesWrong, HasWordAfter, IsBadAt}}
use Rattle.dgt_script.specs.Script.{IsSingleValued, Vocabulary, WordKind}

-- ---- Words after the first one

-- one word has one value, if each has
pub one_value : {A : Type 0} (has_value : List ℕ → A → Type 0)
    → ((word : List ℕ) (a b : A) → has_value word a → has_value word b → a ≡ b)
    → (first : List ℕ) (parts : List (List ℕ)) (a b : A)
    → HasWordAfter first has_value parts a → HasWordAfter first has_value parts b → a ≡ b
one_value has_value one first parts a b h k = search rules

allowed_not_wrong : (kinds : List WordKind) (parts bad : List (List ℕ)) → AreOf kinds parts
    → GoesWrong kinds parts bad → ⊥
allowed_not_wrong (kind ∷ kinds) (word ∷ parts) bad f (inl g) = g.0 f.0
allowed_not_wrong (kind ∷ kinds) (word ∷ parts) bad f (inr g) =
    allowed_not_wrong kinds parts bad f.1 g.1
allowed_not_wrong kinds parts bad f g = search rules

one_wrong : (kinds : List WordKind) (parts a b : List (List ℕ)) → GoesWrong kinds parts a
    → GoesWrong kinds parts b → a ≡ b
one_wrong [] [] a b g h = absurd g
one_wrong [] (word ∷ parts) a b g h = g ∙ sym h
one_wrong (kind ∷ kinds) [] a b g h = g ∙ sym h
one_wrong (kind ∷ kinds) (word ∷ parts) a b (inl g) (inl h) = g.1 ∙ sym h.1
one_wrong (kind ∷ kinds) (word ∷ parts) a b (inl g) (inr h) = absurd (g.0 h.0)
one_wrong (kind ∷ kinds) (word ∷ parts) a b (inr g) (inl h) = absurd (h.0 g.0)
one_wrong (kind ∷ kinds) (word ∷ parts) a b (inr g) (inr h) = one_wrong kinds parts a b g.1 h.1

-- ---- The first word

-- A text is that of one first word at most. Words that ask for an act are its first word and words
-- of the kinds that follow it.
pub record IsOrdered {V A : Type 0} (v : Vocabulary V A) : Type 0 where
  pub named : List ℕ → Option V
  pub names : (verb : V) → named (v.text_of verb) ≡ Some verb
  pub verb_of : A → V
  pub begins : (parts : List (List ℕ)) (act : A) → v.asks parts act → (rest : List (List ℕ))
      × (parts ≡ v.text_of (verb_of act) ∷ rest) × AreOf (v.kinds_of (verb_of act)) rest

one_first : {V A : Type 0} (v : Vocabulary V A) → IsOrdered v
    → (a b : V) (rest later : List (List ℕ)) → v.text_of a ∷ rest ≡ v.text_of b ∷ later
    → (a ≡ b) × (rest ≡ later)
one_first v o a b rest later h = search rules

asked_kinds : {V A : Type 0} (v : Vocabulary V A) → IsOrdered v
    → (verb : V) (rest : List (List ℕ)) (act : A) → v.asks (v.text_of verb ∷ rest) act
    → AreOf (v.kinds_of verb) rest
asked_kinds v o verb rest act h = search (rules, one_first)

-- the words after a verb ask for an act exactly if they are of the kinds that follow it
pub kinds_are_asked_for : {V A : Type 0} (v : Vocabulary V A) → IsOrdered v
    → ((verb : V) (rest : List (List ℕ)) → AreOf (v.kinds_of verb) rest
    → (act : A) × v.asks (v.text_of verb ∷ rest) act) → (verb : V) (rest : List (List ℕ))
    → AreOf (v.kinds_of verb) rest ↔ ((act : A) × v.asks (v.text_of verb ∷ rest) act)
kinds_are_asked_for v o ask verb rest = (ask verb rest, λ h. asked_kinds v o verb rest h.0 h.1)

-- ---- Lines

-- a line asks for one act at most, if words with one first word do
pub one_act : {V A : Type 0} (v : Vocabulary V A) (o : IsOrdered v)
    → ((parts : List (List ℕ)) (a b : A) → o.verb_of a ≡ o.verb_of b → v.asks parts a
    → v.asks parts b → a ≡ b) → IsSingleValued (AsksFor v)
one_act v o one line a b h k = search (rules, one_first)

pub asked_not_bad : {V A : Type 0} (v : Vocabulary V A) → IsOrdered v
    → (line : List ℕ) (act : A) (at : ℕ) → AsksFor v line act → IsBadAt v line at → ⊥
asked_not_bad v o line act at h h6 = search (rules, allowed_not_wrong, asked_kinds)

pub one_place : {V A : Type 0} (v : Vocabulary V A) → IsOrdered v → IsSingleValued (IsBadAt v)
one_place v o = search (rules, one_first, one_wrong)
