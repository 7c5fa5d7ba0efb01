-- Lists in two parts, facts of each element, and prefixes of one list.
use Rattle.std.{proofs.{Common.{◌≡◌, refl, sym, ◌⊎◌, inl, inr, ℕ, zero, suc, List, [], ◌∷◌, ◌++◌, replicate, arith, rules}, lemmas.Grind.{common_steps}}, specs.List.{AllByRecursion}}
use Rattle.std.specs.Prelude.{Contains}

pub not_empty : {X : Type 0} (xs : List X) (y : X) (ys : List X) → xs ++ y ∷ ys ≡ [] → ⊥
not_empty [] y ys h = cc
not_empty (x ∷ xs) y ys h = cc

pub left_empty : {X : Type 0} (xs ys : List X) → xs ++ ys ≡ [] → xs ≡ []
left_empty [] ys h = refl
left_empty (x ∷ xs) ys h = cc

pub right_empty : {X : Type 0} (xs ys : List X) → xs ++ ys ≡ [] → ys ≡ []
right_empty [] ys h = h
right_empty (x ∷ xs) ys h = cc

-- ---- elements

pub Contains-cons : {X : Type 0} (x y : X) (ys : List X) → Contains (y ∷ ys) x
    → (y ≡ x) ⊎ Contains ys x
Contains-cons x y ys h3 = search rules

pub nothing_contained : {X : Type 0} (x : X) → Contains [] x → ⊥
nothing_contained x (k, within, same) = omega arith

pub all_append : {X : Type 0} (P : X → Type 0) (xs ys : List X)
    → AllByRecursion P xs → AllByRecursion P ys → AllByRecursion P (xs ++ ys)
all_append P xs ys first later = grind (arith, common_steps)

pub all_replicate : {X : Type 0} (P : X → Type 0) (count : ℕ) (x : X) → P x
    → AllByRecursion P (replicate count x)
all_replicate P zero x is = tt
all_replicate P (suc count) x is = (is, all_replicate P count x is)

-- ---- prefixes

-- some of the frame is after the bytes
abbrev pub IsShorter : List ℕ → List ℕ → Type 0
IsShorter bytes word = (next : ℕ) × (more : List ℕ) × (word ≡ bytes ++ next ∷ more)

-- the bytes are the frame and more, which is the beginning of the bytes after the frame
abbrev pub Reaches : List ℕ → List ℕ → List ℕ → List ℕ → Type 0
Reaches bytes after word rest = (more : List ℕ) × (bytes ≡ word ++ more) × (rest ≡ more ++ after)

-- of two prefixes of one list, one is a prefix of the other
pub prefixes : (bytes after word rest : List ℕ) → bytes ++ after ≡ word ++ rest
    → IsShorter bytes word ⊎ Reaches bytes after word rest
prefixes bytes after [] rest h = inr (bytes, refl, sym h)
prefixes [] after (byte ∷ word) rest h = inl (byte, word, refl)
prefixes (first ∷ bytes) after (byte ∷ word) rest h =
    search (rules, prefixes bytes after word rest cc)
