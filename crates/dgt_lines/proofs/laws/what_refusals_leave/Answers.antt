use Rattle.std.{proofs.Common.{◌≡◌, ◌⊎◌, ◌∙◌, ℕ, List, [], ◌∷◌, ◌++◌, Option, None, Some, ap, append-nil, arith, inl, inr, rules}, specs.Io.KnownBytes.{Appends}}
use Rattle.dgt_lines.proofs.laws.what_refusals_leave.Goals as goal

had_or_both : (had new : Option (List ℕ)) (prefix rest : List ℕ) → had ≡ Some (64 ∷ [])
    → 65 ∷ [] ≡ prefix ++ rest → Appends had new prefix
    → (new ≡ Some (64 ∷ [])) ⊎ (new ≡ Some (64 ∷ 65 ∷ []))
had_or_both None new prefix rest had whole appends = cc
had_or_both (Some x) None prefix rest had whole appends = absurd appends
had_or_both (Some x) (Some y) [] rest had whole appends =
    inl (ap Some (appends ∙ append-nil x) ∙ had)
had_or_both (Some x) (Some y) (p ∷ []) rest had whole appends = inr (grind arith)
had_or_both (Some x) (Some y) (p ∷ q ∷ more) rest had whole appends = grind arith

pub returns : goal.returns
returns g c a b fault stops had = search (rules, had_or_both)
