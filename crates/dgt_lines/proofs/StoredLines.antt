-- The lines of the stored events of a body, one after another.
use Rattle.std.proofs.{lemmas.Grind.{common_steps}, Common.{◌≡◌, ◌+◌, ◌-◌, ◌<◌, ◌≤◌, ℕ, List, [], ◌∷◌, ◌++◌, Result, Ok, Err, IsErrAnd, ap, arith, length, take, drop, append_assoc, append-nil}}
use Rattle.{std.proofs.{Common.{length-drop, rules}, Math.Seq.{drop-append_seam}, lemmas.List.{drop-drop, take_rest}}, dgt_stored.specs.Stored.{IsFirst, Says, StoredContent, stored_bytes}}
use Rattle.dgt_lines.proofs.{ChunkLemmas.{waits_then}, GatherLemmas.{gathers_then, puts_none}, Printed.{on_ok}}
use Rattle.{dgt_lines.specs.{Lines.{line}, Logs.{stored_lines, stored_text}, Printing.{Puts}, declared.{faults.RunFault.{RunFault}, streams.Sink.{Ghosts as Sink}}}}

-- ---- calls that gather, one after another

module _ {S : Type 0} {W : Sink S} where
  pub puts_as : {A B : Type 0} {held : List ℕ × List ℕ} {a b : S} {text : List ℕ} (x : A) (y : B)
      → Puts {A = A} W held a b (Ok x) text → Puts {A = B} W held a b (Ok y) text
  puts_as x y p = record { output = p.output; dropped = tt; no_flush = p.no_flush; waits = p.waits }

  pub stops_as : {A B : Type 0} {held : List ℕ × List ℕ} {a b : S} {text : List ℕ} (e : RunFault)
      (r : Result B RunFault) → IsErrAnd r (λ y. y ≡ e) → Puts {A = A} W held a b (Err e) text
      → Puts {A = B} W held a b r text
  stops_as e r k p = search rules

  pub puts_then : {A : Type 0} (h i j : List ℕ) (a b c : S) (s t : List ℕ) (r : Result A RunFault)
      → Puts {A = Unit {0}} W (h, i) a b (Ok tt) s → Puts W (i, j) b c r t
      → Puts W (h, j) a c r (s ++ t)
  puts_then h i j a b c s t r p q = record {
    output = gathers_then W h i j a b c s t r p.output q.output;
    dropped = q.dropped;
    no_flush = λ f. q.no_flush (p.no_flush f);
    waits = on_ok r (λ f w. waits_then i j (h ++ s) t _ _ _ p.waits f (rw append_assoc w)) q.waits;
  }

-- ---- the lines of a body

module _ {S : Type 0} (W : Sink S) where
  -- some of the lines of these events were gathered, and the rest are left
  pub record PutSome (held held' : List ℕ) (old new : S) (before at : ℕ) (body : List ℕ)
      (things : List StoredContent) : Type 0 where
    pub said : List ℕ
    pub left : List StoredContent
    pub says : Says (drop at body) left
    pub whole : stored_lines before things ≡ said ++ stored_lines (before + at) left
    pub puts : Puts {A = Unit {0}} W (held, held') old new (Ok tt) said

  pub put_none : (held : List ℕ) (a : S) (before : ℕ) (body : List ℕ) (things : List StoredContent)
      → Says body things → PutSome held held a a before 0 body things
  put_none held a before body things says = record {
    said = [];
    left = things;
    says = says;
    whole = ap (λ n. stored_lines n things) (omega arith);
    puts = puts_none W held a;
  }

  module _ (h i j : List ℕ) (a b c : S) (before at : ℕ) (body : List ℕ)
      (things : List StoredContent)
      (some : PutSome h i a b before at body things) (within : at < length body) where
    pub put_more : (used : ℕ) → ((stored : StoredContent) (later : List ℕ)
        → IsFirst (take (length body - at) (drop at body)) stored later
        → (used ≡ length (stored_bytes stored)) × Puts {A = ℕ} W (i, j) b c (Ok used)
        (line (before + at + length (stored_bytes stored)) (stored_text stored)))
        → PutSome h j a c before (at + used) body things
    put_more used puts = go some.left some.says some.whole
      where
        rest : take (length body - at) (drop at body) ≡ drop at body
        rest = take_rest body at

        go : (left : List StoredContent) → Says (drop at body) left
            → stored_lines before things ≡ some.said ++ stored_lines (before + at) left
            → PutSome h j a c before (at + used) body things
        go [] none whole = absurd (omega (arith, ap length none, length-drop at body, within))
        go (stored ∷ more) says whole =
            let put = puts stored says.0 (rw rest says.1) in
            let size = length (stored_bytes stored) in
            let text = line (before + at + size) (stored_text stored) in
            let later : drop (at + used) body ≡ says.0 =
            rw (put.0, ← drop-drop size at body, says.1.begins.begins)
            (drop-append_seam (stored_bytes stored) says.0) in
            let next : before + at + size ≡ before + (at + used) = omega (arith, put.0) in
            record {
              said = some.said ++ text;
              left = more;
              says = rw later says.2;
              whole = search (rules, append_assoc);
              puts = puts_then h i j a b c some.said text (Ok tt) some.puts (puts_as used tt put.1);
            }

    pub put_stopped : (e : RunFault) (r : Result (Unit {0}) RunFault) → IsErrAnd r (λ y. y ≡ e)
        → ((stored : StoredContent) (later : List ℕ)
        → IsFirst (take (length body - at) (drop at body)) stored later → Unit {0} × Puts {A = ℕ} W
        (i, j) b c (Err e) (line (before + at + length (stored_bytes stored)) (stored_text stored)))
        → Puts W (h, j) a c r (stored_lines before things)
    put_stopped e r is puts = stops_as {A = Unit {0}} e r is (go some.left some.says some.whole)
      where
        go : (left : List StoredContent) → Says (drop at body) left
            → stored_lines before things ≡ some.said ++ stored_lines (before + at) left
            → Puts {A = Unit {0}} W (h, j) a c (Err e) (stored_lines before things)
        go [] none whole = absurd (omega (arith, ap length none, length-drop at body, within))
        go (stored ∷ more) says whole =
            let put = puts stored says.0 (rw (take_rest body at) says.1) in
            search (rules, append_assoc)

  pub put_all : (h i : List ℕ) (a b : S) (before at : ℕ) (body : List ℕ)
      (things : List StoredContent) → length body ≤ at → PutSome h i a b before at body things
      → Puts {A = Unit {0}} W (h, i) a b (Ok tt) (stored_lines before things)
  put_all h i a b before at body things all some = go some.left some.says some.whole
    where
      go : (left : List StoredContent) → Says (drop at body) left
          → stored_lines before things ≡ some.said ++ stored_lines (before + at) left
          → Puts {A = Unit {0}} W (h, i) a b (Ok tt) (stored_lines before things)
      go [] none whole = rw (whole, append-nil) some.puts
      go (stored ∷ more) says whole = grind (arith, common_steps)
