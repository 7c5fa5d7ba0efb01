use Rattle.std.proofs.{Common.{◌≡◌, ◌<◌, ◌≤◌, ◌+◌, ◌-◌, ◌∙◌, ℕ, zero, suc, List, [], ◌∷◌, ◌++◌, ap, append_assoc, arith, drop, length, length-append, refl, sym, take, rules}, Math.ListN.{set}}
use Rattle.std.proofs.lemmas.List.{drop-append-le, length-drop, length-take, set-append_right, take-append-drop}
use Rattle.dgt_c.proofs.texts.put_text.Goals as goal

-- the first element after a place is written
set_after : (xs : List ℕ) (n : ℕ) → n < length xs → set (drop n xs) 0 0 ≡ 0 ∷ drop (n + 1) xs
set_after [] n within = absurd (omega (arith, within))
set_after (x ∷ xs) zero within = refl
set_after (x ∷ xs) (suc n) within = search (rules, set_after xs n (omega (arith, within)))

-- a zero byte is written after a text that was written to a prefix of a slice
zero_after : (text old : List ℕ) (room n : ℕ) → length text ≡ n → n ≤ length (take room old)
    → n < length old → set ((text ++ drop n (take room old)) ++ drop room old) n 0
    ≡ (text ++ 0 ∷ []) ++ drop (n + 1) old
zero_after text old room n len fits within =
    let rest : drop n (take room old) ++ drop room old ≡ drop n old =
    sym (drop-append-le n (take room old) (drop room old) fits)
    ∙ ap (λ s. drop n s) (take-append-drop room old) in
    let none : n - n ≡ 0 = omega arith in
    ap (λ s. set s n 0) (append_assoc text _ _ ∙ ap (λ s. text ++ s) rest)
    ∙ set-append_right text (drop n old) n n 0 len (omega arith)
    ∙ ap (λ at. text ++ set (drop n old) at 0) none
    ∙ ap (λ s. text ++ s) (set_after old n within)
    ∙ sym (append_assoc text (0 ∷ []) _)

pub returns-in-Ok : goal.returns-in-Ok
returns-in-Ok c = search (rules, length-append, length-drop, length-take, set, zero_after)
