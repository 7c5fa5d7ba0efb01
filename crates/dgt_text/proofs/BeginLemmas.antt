-- Lines with which a script begins are the first of all its lines.
use Rattle.std.{proofs.Common.{◌≡◌, ◌⊎◌, inl, inr, ℕ, Bool, false, List, [], ◌∷◌, ◌++◌, refl, sym, ◌∙◌, ap, append-nil, true≢false, rules}, specs.Prelude.{All, flat_map}}
use Rattle.{dgt_script.specs.ScriptLines.{HasNoFeed, IsCut, ended}, dgt_text.{specs.Simulating.{BeginsWith, all_lines}, proofs.{PlayLemmas.{all_lines-append}, PlayOnce.{cut_once, feed_once}}}}
use Rattle.dgt_text.proofs.PlayOnce.{first_of_all, flat_first, no_feed_in, rest_of}

-- the first list is the second and more
abbrev pub Longer : List (List ℕ) → List (List ℕ) → Type 0
Longer long short = (more : List (List ℕ)) × (long ≡ short ++ more)

longer_by_one : (l k : List ℕ) (ls ks : List (List ℕ)) → l ≡ k → Longer ls ks
    → Longer (l ∷ ls) (k ∷ ks)
longer_by_one l k ls ks e h = search rules

-- the first of a line and more lines, and what is after it
first_lines : (l k : List ℕ) (ls ks : List (List ℕ)) (r s : List ℕ) → All HasNoFeed (l ∷ ls)
    → All HasNoFeed (k ∷ ks) → flat_map ended (l ∷ ls) ++ r ≡ flat_map ended (k ∷ ks) ++ s
    → (l ≡ k) × (flat_map ended ls ++ r ≡ flat_map ended ks ++ s)
first_lines l k ls ks r s f g e = search (rules, feed_once, first_of_all, flat_first)

-- of two lists of lines with which the same bytes begin one is longer
pub nested : (ls ks : List (List ℕ)) (r s : List ℕ) → All HasNoFeed ls → All HasNoFeed ks
    → flat_map ended ls ++ r ≡ flat_map ended ks ++ s → Longer ls ks ⊎ Longer ks ls
nested [] ks r s f g e = inr (ks, refl)
nested (l ∷ ls) [] r s f g e = inl (l ∷ ls, refl)
nested (l ∷ ls) (k ∷ ks) r s f g e =
    let first = first_lines l k ls ks r s f g e in
    go first.0 (nested ls ks r s (rest_of HasNoFeed l ls f) (rest_of HasNoFeed k ks g) first.1)
  where
    go : l ≡ k → Longer ls ks ⊎ Longer ks ls → Longer (l ∷ ls) (k ∷ ks) ⊎ Longer (k ∷ ks) (l ∷ ls)
    go same either = search (rules, longer_by_one)

-- lines are the first of the whole ones, if what is after these has no line feed
within : (ls ws : List (List ℕ)) (r rest : List ℕ) → All HasNoFeed ls → All HasNoFeed ws
    → HasNoFeed rest → flat_map ended ls ++ r ≡ flat_map ended ws ++ rest → Longer ws ls
within [] ws r rest f g h e = (ws, refl)
within (l ∷ ls) [] r rest f g h e =
    absurd (no_feed_in l rest (flat_map ended ls ++ r) h (sym e ∙ flat_first l ls r))
within (l ∷ ls) (w ∷ ws) r rest f g h e =
    let first = first_lines l w ls ws r rest f g e in
    longer_by_one w l ws ls (sym first.0)
    (within ls ws r rest (rest_of HasNoFeed l ls f) (rest_of HasNoFeed w ws g) h first.1)

-- before the end they are among the whole lines
pub begins_whole : (bytes rest : List ℕ) (lines whole : List (List ℕ)) → IsCut bytes whole rest
    → BeginsWith false bytes lines → Longer whole lines
begins_whole bytes rest lines whole cut h5 = search (rules, within, true≢false)

-- lines with which a script begins are among all its lines
pub begins_all : (at_end : Bool) (bytes rest : List ℕ) (lines whole : List (List ℕ))
    → IsCut bytes whole rest → BeginsWith at_end bytes lines → Longer (all_lines whole rest) lines
begins_all at_end bytes rest lines whole cut (inl p) =
    let h = within lines whole p.0 rest p.2 cut.each cut.last (sym p.1 ∙ cut.whole) in
    (all_lines h.0 rest, ap (λ l. all_lines l rest) h.1 ∙ all_lines-append lines h.0 rest)
begins_all at_end bytes rest lines whole cut (inr p) =
    let same = cut_once bytes p.0 whole p.1 rest p.2 cut in
    search (rules, append-nil)

-- of two lists of lines with which a script begins one is longer
pub begins_nested : (at_end : Bool) (bytes : List ℕ) (ls ks : List (List ℕ))
    → BeginsWith at_end bytes ls → BeginsWith at_end bytes ks → Longer ls ks ⊎ Longer ks ls
begins_nested at_end bytes ls ks (inl p) (inl q) = nested ls ks p.0 q.0 p.2 q.2 (sym p.1 ∙ q.1)
begins_nested at_end bytes ls ks (inr p) q =
    let h = begins_all at_end bytes p.1 ks p.0 p.2 q in inl (h.0, p.3 ∙ h.1)
begins_nested at_end bytes ls ks (inl p) (inr q) =
    let h = begins_all at_end bytes q.1 ls q.0 q.2 (inl p) in inr (h.0, q.3 ∙ h.1)
