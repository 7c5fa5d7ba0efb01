-- Subsequences, and the kinds of a list with an added element.
use Rattle.std.{proofs.Common.{◌≡◌, refl, inl, inr, List, [], ◌∷◌, ◌++◌, Option, true, append_assoc, rules}, specs.{List.{cons_option}, Option.{option_to_list}, Prelude.{◌↔◌}}}
use Rattle.{dgt_values.specs.declared.kinds.Kind.{Kind}, dgt_host.specs.Host.{awaited_after, is_same_kind}, dgt_link.specs.Sound.{IsSubsequence}}

-- the second list may have more in front
pub subsequence_later : {X : Type 0} (xs : List X) (y : X) (ys : List X) → IsSubsequence xs ys
    → IsSubsequence xs (y ∷ ys)
subsequence_later [] y ys h = tt
subsequence_later (x ∷ xs) y ys h = inr h

subsequence_itself : {X : Type 0} (xs : List X) → IsSubsequence xs xs
subsequence_itself [] = tt
subsequence_itself (x ∷ xs) = inl (refl, subsequence_itself xs)

pub subsequence_at_end : {X : Type 0} (xs ys : List X) → IsSubsequence xs (ys ++ xs)
subsequence_at_end xs [] = subsequence_itself xs
subsequence_at_end xs (y ∷ ys) = subsequence_later xs y (ys ++ xs) (subsequence_at_end xs ys)

-- both grow by the same end
pub subsequence_append : {X : Type 0} (xs ys zs : List X) → IsSubsequence xs ys
    → IsSubsequence (xs ++ zs) (ys ++ zs)
subsequence_append [] ys zs h = subsequence_at_end zs ys
subsequence_append (x ∷ xs) [] zs h = absurd h
subsequence_append (x ∷ xs) (y ∷ ys) zs (inl h) = inl (h.0, subsequence_append xs ys zs h.1)
subsequence_append (x ∷ xs) (y ∷ ys) zs (inr h) = inr (subsequence_append (x ∷ xs) ys zs h)

-- the first list may have less in front
subsequence_tail : {X : Type 0} (x : X) (xs ys : List X) → IsSubsequence (x ∷ xs) ys
    → IsSubsequence xs ys
subsequence_tail x xs [] h = absurd h
subsequence_tail x xs (y ∷ ys) (inl h) = subsequence_later xs y ys h.1
subsequence_tail x xs (y ∷ ys) (inr h) = subsequence_later xs y ys (subsequence_tail x xs ys h)

-- the first element is somewhere, and the others are after it
pub first_of_subsequence : {X : Type 0} (x : X) (xs ys : List X)
    → IsSubsequence (x ∷ xs) ys
    ↔ ((before : List X) × (later : List X) × (ys ≡ before ++ x ∷ later) × IsSubsequence xs later)
first_of_subsequence {X = X} x xs ys =
    (split ys, λ (before, later, all, h). rw all (join before later h))
  where
    split : (ys : List X) → IsSubsequence (x ∷ xs) ys
        → (before : List X) × (later : List X) × (ys ≡ before ++ x ∷ later)
        × IsSubsequence xs later
    split [] h = absurd h
    split (y ∷ ys) (inl (same, h)) = ([], ys, cc, h)
    split (y ∷ ys) (inr h) =
        let (before, later, all, rest) = split ys h in (y ∷ before, later, cc, rest)

    join : (before later : List X) → IsSubsequence xs later
        → IsSubsequence (x ∷ xs) (before ++ x ∷ later)
    join [] later h = inl (refl, h)
    join (y ∷ before) later h = inr (join before later h)

pub subsequence_of_nothing : {X : Type 0} (xs : List X) → IsSubsequence xs [] → xs ≡ []
subsequence_of_nothing [] h = refl
subsequence_of_nothing (x ∷ xs) h = absurd h

pub same_kind_itself : (kind : Kind) → is_same_kind kind kind ≡ true
same_kind_itself kind = search rules

-- what a heard kind leaves awaited
pub awaited_after-subsequence : (awaited : List Kind) (kind : Option Kind) (rest : List Kind)
    → IsSubsequence awaited (cons_option kind rest)
    → IsSubsequence (awaited_after awaited kind) rest
awaited_after-subsequence awaited kind rest h = search (rules, subsequence_tail)

-- ---- the kinds of lists under way

pub one_more : {X : Type 0} (x : Option X) → cons_option x [] ≡ option_to_list x
one_more x = search rules

pub moved_over : {X : Type 0} (a : List X) (x : Option X) (b c : List X)
    → (a ++ cons_option x []) ++ (b ++ c) ≡ a ++ (cons_option x b ++ c)
moved_over a x b c = search (rules, append_assoc)
