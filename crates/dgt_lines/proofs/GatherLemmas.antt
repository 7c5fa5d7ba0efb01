-- Bytes that are written and gathered in a row.
use Rattle.std.proofs.{Common.{◌≡◌, ℕ, List, [], ◌++◌, false, Result, Ok, Err, IsErrAnd, refl, sym, ◌∙◌, ap, subst, append_assoc, append-nil, arith, rules}, KnownBytes.{Appends-nil}}
use Rattle.{std.proofs.lemmas.Grind.{common_steps}, dgt_lines.specs.{Printing.{Puts}, Writing.{Wrote, Stopped, Writes, Gathered, Gathers}, declared.faults.RunFault.{RunFault}}}
use Rattle.dgt_lines.specs.declared.{streams.Sink.{Ghosts as Sink}, faults.RunFault.TheVariants.{WriteFailed}}

module _ {S : Type 0} (W : Sink S) where
  pub wrote_none : (a : S) → Wrote W a a []
  wrote_none a = record { appends = Appends-nil (W.written a); kept = refl; in_time = λ _. refl }

  -- some text, and then a call that writes more
  pub writes_then : {A : Type 0} (a b c : S) (s t : List ℕ) (r : Result A RunFault) → Wrote W a b s
      → Writes W b c r t → Writes W a c r (s ++ t)
  writes_then a b c s t r p q = search (rules, append_assoc)

  -- what stops at a text stops at a longer one
  pub stopped_longer : (a b : S) (s t : List ℕ) → Stopped W a b s → Stopped W a b (s ++ t)
  stopped_longer a b s t p = search (rules, append_assoc)

  pub gathered_none : (h : List ℕ) (a : S) → Gathered W h h a a []
  gathered_none h a = record { out = []; whole = append-nil h; wrote = wrote_none a }

  -- what was held is written, and the text after it
  pub gathers_through : {A : Type 0} (h : List ℕ) (a b c : S) (r : Result A RunFault) (s : List ℕ)
      → Wrote W a b h → Writes W b c r s → Gathers W (h, []) a c r s
  gathers_through h a b c (Ok x) s p q = record {
    out = h ++ s;
    whole = sym (append-nil (h ++ s));
    wrote = writes_then a b c h s (Ok x) p q;
  }
  gathers_through {A = A} h a b c (Err e) s p q = writes_then {A = A} a b c h s (Err e) p q

  -- some text, and then a call that gathers more
  pub gathers_then : {A : Type 0} (h i j : List ℕ) (a b c : S) (s t : List ℕ)
      (r : Result A RunFault) → Gathered W h i a b s → Gathers W (i, j) b c r t
      → Gathers W (h, j) a c r (s ++ t)
  gathers_then h i j a b c s t (Ok x) p q = record {
    out = p.out ++ q.out;
    whole = search (rules, append_assoc);
    wrote = writes_then a b c p.out q.out (Ok x) p.wrote q.wrote;
  }
  gathers_then {A = A} h i j a b c s t (Err e) p q = search (rules, append_assoc)

  pub gathered_then : (h i j : List ℕ) (a b c : S) (s t : List ℕ) → Gathered W h i a b s
      → Gathered W i j b c t → Gathered W h j a c (s ++ t)
  gathered_then h i j a b c s t p q = gathers_then h i j a b c s t (Ok (tt {0})) p q

  -- the exit of a `?` on a call that gathers a part of a text
  pub gathers_stopped : {A : Type 0} (h i j : List ℕ) (a b c : S) (s t rest whole : List ℕ)
      (r : Result A RunFault) (e : RunFault) → Gathered W h i a b s → whole ≡ s ++ (t ++ rest)
      → IsErrAnd r (λ y. y ≡ e) → (e ≡ WriteFailed) × Stopped W b c (i ++ t)
      → Gathers W (h, j) a c r whole
  gathers_stopped h i j a b c s t rest whole (Ok x) e p w k q = absurd k
  gathers_stopped {A = A} h i j a b c s t rest whole (Err y) e p w k q =
      let stop = gathers_then {A = A} h i j a b c s t (Err y) p (k ∙ q.0, q.1) in
      let longer : (h ++ (s ++ t)) ++ rest ≡ h ++ whole =
      append_assoc h (s ++ t) rest ∙ ap (λ l. h ++ l) (append_assoc s t rest ∙ sym w) in
      (stop.0, subst (λ l. Stopped W a c l) longer (stopped_longer a c _ rest stop.1))

  -- the exit of the first `?`
  pub gathers_first : {A : Type 0} (h j : List ℕ) (a b : S) (t rest whole : List ℕ)
      (r : Result A RunFault) (e : RunFault) → whole ≡ t ++ rest → IsErrAnd r (λ y. y ≡ e)
      → (e ≡ WriteFailed) × Stopped W a b (h ++ t) → Gathers W (h, j) a b r whole
  gathers_first h j a b t rest whole r e w k q =
      gathers_stopped h h j a a b [] t rest whole r e (gathered_none h a) w k q

  -- a call that gathers nothing
  pub puts_none : (h : List ℕ) (a : S) → Puts {A = Unit {0}} W (h, h) a a (Ok tt) []
  puts_none h a = search rules

  -- the exit of a `?` on a call that makes room for a text
  pub puts_refused : {A : Type 0} (h j : List ℕ) (a b : S) (text : List ℕ) (r : Result A RunFault)
      (e : RunFault) → IsErrAnd r (λ y. y ≡ e) → (e ≡ WriteFailed) × Stopped W a b (h ++ [])
      → j ≡ [] → (W.flushed a ≡ false → W.flushed b ≡ false) → Puts W (h, j) a b r text
  puts_refused h j a b text (Ok x) e k q dropped no_flush = absurd k
  puts_refused {A = A} h j a b text (Err y) e k q dropped no_flush = grind (arith, common_steps)

  -- a text of which a prefix is held already
  pub gathers_via : {A : Type 0} (h i j k : List ℕ) (a b c : S) (s t : List ℕ)
      (r : Result A RunFault) → Gathered W h i a b [] → j ++ t ≡ i ++ s → Gathers W (j, k) b c r t
      → Gathers W (h, k) a c r s
  gathers_via h i j k a b c s t (Ok x) p e q =
      gathered_then h i k a b c [] s p
      (record { out = q.out; whole = sym e ∙ q.whole; wrote = q.wrote })
  gathers_via {A = A} h i j k a b c s t (Err f) p e q =
      gathers_then {A = A} h i k a b c [] s (Err f) p (q.0, subst (λ l. Stopped W b c l) e q.1)

  -- a text that is held after what is left of what was held before
  pub gathered_pushed : (h i j : List ℕ) (a b : S) (s : List ℕ) → Gathered W h i a b [] → j ≡ i ++ s
      → Gathered W h j a b s
  gathered_pushed h i j a b s p e =
      gathers_via h i j j a b b s [] (Ok (tt {0})) p (append-nil j ∙ e) (gathered_none j b)

  -- ---- from nothing held to nothing held

  pub gathered_out : {A : Type 0} (h : List ℕ) (a b c : S) (s : List ℕ) (r : Result A RunFault)
      → Gathered W [] h a b s → Writes W b c r h → Writes W a c r s
  gathered_out h a b c s r p q =
      subst (λ l. Writes W a c r l) (sym p.whole) (writes_then a b c p.out h r p.wrote q)
