-- How more bytes at the end change the cut.
use Rattle.{std.proofs.Common.{◌≡◌, ℕ, List, [], ◌∷◌, ◌++◌, refl, rules}, dgt_decode.specs.Grammar.{lead, segments}}

-- the lead with p after bytes of this lead and these segments
abbrev pub lead_with : List ℕ → List ℕ → List (List ℕ) → List ℕ
lead_with p prefix [] = prefix ++ lead p
lead_with p prefix (segment ∷ others) = prefix

-- the segments with p after these
abbrev pub segments_with : List ℕ → List (List ℕ) → List (List ℕ)
segments_with p [] = segments p
segments_with p (segment ∷ []) = (segment ++ lead p) ∷ segments p
segments_with p (segment ∷ next ∷ others) = segment ∷ segments_with p (next ∷ others)

-- the lead with more bytes after
pub lead-append : (s p : List ℕ) → lead (s ++ p) ≡ lead_with p (lead s) (segments s)
lead-append [] p = refl
lead-append (b ∷ s) p = search (rules, lead-append s p)

-- the segments with more bytes after
pub segments-append : (s p : List ℕ) → segments (s ++ p) ≡ segments_with p (segments s)
segments-append [] p = refl
segments-append (b ∷ s) p = search (rules, lead-append, segments-append s p)
