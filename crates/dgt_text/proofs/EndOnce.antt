-- A script has one end.
use Rattle.std.{proofs.{Common.{◌≡◌, ◌⊎◌, inl, inr, ℕ, ◌+◌, Bool, List, [], ◌∷◌, ◌++◌, Ok, Err, IsTrue, refl, sym, ◌∙◌, ap, length, arith, rules}, lemmas.Grind.{common_steps}}, specs.Prelude.{◌↔◌}}
use Rattle.{dgt_link.specs.{View.{IsQuietWorld, WorldView}, declared.acts.Outcome.{Outcome}}, dgt_lines.specs.declared.faults.RunFault.TheVariants.{WriteFailed, BadLine}}
use Rattle.{dgt_script.specs.{Script.{AsksFor, IsBadAt, IsSingleValued, Vocabulary}, ScriptLines.{IsCut}}, dgt_text.specs.{Closing.{closing_lines}, Ends.{OneBadLine, OneEnd}, Simulating.{Plays}}}
use Rattle.dgt_text.{specs.Simulating.{Rules, Stops, all_lines, part, rules_of}, proofs.{BeginLemmas.{Longer, begins_nested}, PlayOnce.{HasOneOutcome, acts_once, cut_once, plays_once}}}

-- what a line does, and where it goes wrong, is clear
pub record AreClear (rules : Rules) : Type 0 where
  pub one : HasOneOutcome rules
  pub either : (line : List ℕ) (world after : WorldView) (outcome : Outcome) (at : ℕ)
      → rules.does line world outcome after → ¬ (rules.is_bad line at)
  pub place : IsSingleValued rules.is_bad

pub acts_clear : {V A : Type 0} (vocabulary : Vocabulary V A)
    (steps : A → WorldView → Outcome → WorldView → Type 0) → IsSingleValued (AsksFor vocabulary)
    → ((act : A) (world after other : WorldView) (answer also : Outcome)
    → steps act world answer after → steps act world also other → (answer ≡ also) × (after ≡ other))
    → ((line : List ℕ) (act : A) (at : ℕ) → AsksFor vocabulary line act
    → ¬ (IsBadAt vocabulary line at)) → IsSingleValued (IsBadAt vocabulary)
    → AreClear (rules_of vocabulary steps)
acts_clear vocabulary steps meaning one either place = record {
  one = acts_once vocabulary steps meaning one;
  either = λ line world after outcome at p. either line p.0 at p.1;
  place = place;
}

-- one text and one world have one text with its closing lines
pub closed_once : (text other : List ℕ) (world last : WorldView) (quiet silent : Bool)
    → text ≡ other → world ≡ last → (IsTrue quiet ↔ IsQuietWorld world)
    → (IsTrue silent ↔ IsQuietWorld last)
    → text ++ closing_lines world quiet ≡ other ++ closing_lines last silent
closed_once text other world last quiet silent e f p q = search rules

module _ (rules : Rules) (clear : AreClear rules) where
  -- what is played of the same bytes
  pub cut_plays_once : (world last other : WorldView) (bytes text more rest left : List ℕ)
      (lines others : List (List ℕ)) → IsCut bytes lines rest → IsCut bytes others left
      → Plays rules world (all_lines lines rest) text last
      → Plays rules world (all_lines others left) more other → (text ≡ more) × (last ≡ other)
  cut_plays_once world last other bytes text more rest left lines others cut also p q =
      let same = cut_once bytes lines others rest left cut also in
      grind (arith, common_steps, plays_once)

  whole_plays_once : (world last other : WorldView) (bytes text more rest left : List ℕ)
      (lines others : List (List ℕ)) → IsCut bytes lines rest → IsCut bytes others left
      → Plays rules world lines text last → Plays rules world others more other
      → (text ≡ more) × (last ≡ other)
  whole_plays_once world last other bytes text more rest left lines others cut also p q =
      let same = cut_once bytes lines others rest left cut also in
      plays_once rules clear.one world others text more last other (rw same.0 at p) q

  -- ---- bad lines

  -- the first bad line of lines, of which those before it were played
  first_bad : (ls ks more : List (List ℕ)) (bad worse : List ℕ) (w v m l : WorldView) (t u : List ℕ)
      (at also : ℕ) → Plays rules w ls t m → rules.is_bad bad at → Plays rules v ks u l
      → rules.is_bad worse also → ks ++ worse ∷ [] ≡ (ls ++ bad ∷ []) ++ more
      → (ls ≡ ks) × (bad ≡ worse)
  first_bad [] [] more bad worse w v m l t u at also p b q c e =
      let same : bad ≡ worse = cc in (refl, same)
  first_bad (x ∷ ls) (k ∷ ks) more bad worse w v m l t u at also p b q c e =
      grind (arith, common_steps, first_bad ls ks more bad worse p.1 q.1 m l p.2 q.2)
  first_bad ls ks more bad worse w v m l t u at also p b q c e = grind (arith, common_steps)

  abbrev Stopped : Bool → WorldView → WorldView → List ℕ → List ℕ → ℕ → ℕ → Type 0
  Stopped at_end world last bytes out number at =
      Stops rules at_end (part 1 bytes world last) (BadLine number at) out

  one_bad : (at_end : Bool) (world last other : WorldView) (bytes out more : List ℕ)
      (number another at also : ℕ) (p : Stopped at_end world last bytes out number at)
      (q : Stopped at_end world other bytes more another also) → (p.0 ≡ q.0) × (p.1 ≡ q.1)
  one_bad at_end world last other bytes out more number another at also p q =
      go (begins_nested at_end bytes (p.0 ++ p.1 ∷ []) (q.0 ++ q.1 ∷ []) p.2 q.2)
    where
      go : Longer (p.0 ++ p.1 ∷ []) (q.0 ++ q.1 ∷ []) ⊎ Longer (q.0 ++ q.1 ∷ []) (p.0 ++ p.1 ∷ [])
          → (p.0 ≡ q.0) × (p.1 ≡ q.1)
      go (inl h) =
          let same = first_bad q.0 p.0 h.0 q.1 p.1 world world other last more out also at q.3 q.4
          p.3 p.4 h.1 in
          (sym same.0, sym same.1)
      go (inr h) =
          first_bad p.0 q.0 h.0 p.1 q.1 world world last other out more at also p.3 p.4 q.3 q.4 h.1

  pub one_bad_line : OneBadLine rules
  one_bad_line at_end world last other bytes out more number another at also p q =
      let same = one_bad at_end world last other bytes out more number another at also p q in (
        p.5 ∙ ap (λ (l : List (List ℕ)). 1 + length l) same.0 ∙ sym q.5,
        clear.place q.1 at also (rw same.1 at p.4) q.4,
      )

  -- ---- all ends

  pub one_end : OneEnd rules
  one_end (Ok x) at_end world last other bytes out more n p q =
      let played = cut_plays_once world last other bytes p.2 q.2 p.1 q.1 p.0 q.0 p.4 q.4 p.5 q.5 in
      (p.7 ∙ closed_once p.2 q.2 last other p.3 q.3 played.0 played.1 p.6 q.6 ∙ sym q.7, played.1)
  one_end (Err (BadLine number at)) at_end world last other bytes out more n p q =
      let same = one_bad at_end world last other bytes out more number number at at p q in
      plays_once rules clear.one world q.0 out more last other (rw same.0 at p.3) q.3
  one_end (Err WriteFailed) at_end world last other bytes out more n p q = absurd (n refl)
  one_end (Err fault) at_end world last other bytes out more n p q =
      whole_plays_once world last other bytes out more p.1 q.1 p.0 q.0 p.2 q.2 p.3 q.3
