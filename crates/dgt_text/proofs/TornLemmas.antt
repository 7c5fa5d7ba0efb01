-- After a refused write a prefix of the text of a script was written.
use Rattle.{std.proofs.Common.{rules, ◌≡◌, ℕ, inl, inr, List, [], ◌∷◌, ◌++◌, refl, sym, ◌∙◌, ap, length, arith, append_assoc, true≢false}, dgt_link.specs.View.{WorldView}}
use Rattle.{dgt_link.specs.declared.acts.Outcome.{Outcome}, dgt_lines.specs.Monitoring.{IsPrefix}, dgt_script.specs.Outcomes.{outcome_line}, dgt_text.specs.{Closing.{closing_lines}, Ends.{OneIsTorn}}}
use Rattle.dgt_text.{specs.{Ends.{OnlyWholeLines, TornTextsBegin}, Simulating.{Plays, PlaysTorn, Rules}}, proofs.{BeginLemmas.{begins_all, begins_whole}, EndOnce.{AreClear, closed_once}}}
use Rattle.dgt_text.proofs.{EndOnce.{cut_plays_once}, PlayLemmas.{plays_append}, PlayOnce.{plays_once}}

-- a prefix of a list is one of a longer list
prefix_longer : (out text more : List ℕ) → IsPrefix out text → IsPrefix out (text ++ more)
prefix_longer out text more p = (p.0 ++ more, search (rules, append_assoc))

prefix_after : (text prefix whole : List ℕ) → IsPrefix prefix whole
    → IsPrefix (text ++ prefix) (text ++ whole)
prefix_after text prefix whole p = search (rules, append_assoc)

module _ (rules : Rules) where
  -- the first of the lines are played first
  record PlaysBoth (w l : WorldView) (ls ks : List (List ℕ)) (t : List ℕ) : Type 0 where
    pub between : WorldView
    pub first : List ℕ
    pub second : List ℕ
    pub whole : t ≡ first ++ second
    pub begins : Plays rules w ls first between
    pub ends : Plays rules between ks second l

  plays_both : (w l : WorldView) (ls ks : List (List ℕ)) (t : List ℕ) → Plays rules w (ls ++ ks) t l
      → PlaysBoth w l ls ks t
  plays_both w l [] ks t p =
      record { between = w; first = []; second = t; whole = refl; begins = (refl, refl); ends = p }
  plays_both w l (x ∷ ls) ks t p =
      let more = plays_both p.1 l ls ks p.2 p.5 in
      record {
        between = more.between;
        first = outcome_line p.0 ++ more.first;
        second = more.second;
        whole = p.4 ∙ ap (λ u. outcome_line p.0 ++ u) more.whole
            ∙ sym (append_assoc (outcome_line p.0) more.first more.second);
        begins = (p.0, p.1, more.first, p.3, refl, more.begins);
        ends = more.ends;
      }

  -- of two lines one outcome is whole
  pub one_is_torn : OneIsTorn rules
  one_is_torn world last first second out p = go p.earlier p.split p.plays
    where
      go : (ls : List (List ℕ)) → first ∷ second ∷ [] ≡ ls ++ p.final
          → Plays rules world ls p.text p.between
          → (outcome : Outcome) × (between : WorldView) × rules.does first world outcome between
          × IsPrefix (outcome_line outcome) out
      go [] e q =
          let two : length p.final ≡ 2 = sym (ap length e) in
          let one = p.at_most_one in absurd (omega (arith, two, one))
      go (x ∷ xs) e q = (
        q.0,
        q.1,
        (let same : x ≡ first = cc in rw same at q.3),
        rw p.out_is (prefix_longer (outcome_line q.0) p.text p.prefix (q.2, q.4)),
      )

  module _ (clear : AreClear rules) where
    -- lines that are torn, and all that are played
    torn_prefix : (w l o : WorldView) (lines more : List (List ℕ)) (out text : List ℕ)
        → PlaysTorn rules w lines out l → Plays rules w (lines ++ more) text o → IsPrefix out text
    torn_prefix w l o lines more out text p q =
        let whole =
        plays_append rules w p.between l p.earlier p.final p.text p.torn p.plays p.ends in
        let both = plays_both w o lines more text q in
        let once = plays_once rules clear.one w lines (p.text ++ p.torn) both.first l both.between
        (rw p.split whole) both.begins in
        let first : IsPrefix out (p.text ++ p.torn)
        = rw p.out_is (prefix_after p.text p.prefix p.torn p.is_prefix) in
        rw both.whole (prefix_longer out both.first both.second (rw once.0 at first))

    pub only_whole_lines : OnlyWholeLines rules
    only_whole_lines world last other bytes out text rest lines (inl s) cut q =
        let h = begins_whole bytes rest s.0 lines cut s.1 in
        torn_prefix world last other s.0 h.0 out text s.2 (rw h.1 at q)
    only_whole_lines world last other bytes out text rest lines (inr s) cut q =
        absurd (true≢false (sym s.10))

    pub torn_texts_begin : TornTextsBegin rules
    torn_texts_begin at_end ended world last other bytes out whole (inl s) q =
        let h = begins_all at_end bytes q.1 s.0 q.0 q.4 s.1 in
        rw q.7 (prefix_longer out q.2 (closing_lines other q.3)
        (torn_prefix world last other s.0 h.0 out q.2 s.2 (rw h.1 at q.5)))
    torn_texts_begin at_end ended world last other bytes out whole (inr s) q =
        let played =
        cut_plays_once rules clear world last other bytes s.2 q.2 s.1 q.1 s.0 q.0 s.5 q.4 s.6 q.5 in
        let closed = closed_once s.2 q.2 last other s.3 q.3 played.0 played.1 s.7 q.6 in
        rw (s.9, q.7, ← closed) (prefix_after s.2 s.4 (closing_lines last s.3) s.8)
