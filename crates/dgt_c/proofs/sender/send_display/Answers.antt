use Rattle.{std.proofs.Common.{rules, ◌≡◌, ℕ, List, [], ◌∷◌, get_or, length, refl, inr, arith}}
use Rattle.dgt_c.proofs.sender.send_display.Goals as goal

six : (xs : List ℕ) → length xs ≡ 6
    → get_or xs 0 0 ∷ get_or xs 1 0 ∷ get_or xs 2 0 ∷ get_or xs 3 0 ∷ get_or xs 4 0 ∷ get_or xs 5 0
    ∷ [] ≡ xs
six (a ∷ b ∷ c ∷ d ∷ e ∷ f ∷ []) h = refl
six _ h = absurd (omega arith)

pub returns-in-Ok-clause-sends : goal.returns-in-Ok-clause-sends
returns-in-Ok-clause-sends g c = search (rules, six)

pub returns-in-Err-clause-sends : goal.returns-in-Err-clause-sends
returns-in-Err-clause-sends g c =
    inr (rw (← six c.args.text.now c.told-text) c.in-Err.ensures.err, (refl, refl, refl))
