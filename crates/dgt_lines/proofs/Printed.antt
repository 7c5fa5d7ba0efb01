-- The state between two reads of an engine that prints.
use Rattle.std.proofs.{Common.{◌≡◌, ◌+◌, ℕ, List, [], ◌++◌, Result, Ok, Err, IsErrAnd, OnOk, length, refl, subst, arith, rules}}
use Rattle.{std.{proofs.lemmas.Grind.{common_steps}, specs.Io.KnownBytes.{Consumes}}, dgt_lines.specs.{Monitoring.{IsInSink}, Printing.{IsPrinted}, Turns.{Ran, change, InTurns}, Writing.{Wrote}}}
use Rattle.dgt_lines.specs.{Writing.{Stopped, Writes, InARow}, declared.{faults.RunFault.{RunFault}, streams.{Sink.{Ghosts as Sink}, Source.{Ghosts as Source}}}}
use Rattle.dgt_lines.{specs.declared.faults.RunFault.TheVariants.{WriteFailed}, proofs.TurnLemmas.{BetweenReads}}

-- the sink took this text of the bytes that were read, which is what was printed of them
pub record Printed {T : Type 0} (W : Sink T) (sink sink' : T)
    (HasPrinted : List ℕ → List ℕ → Type 0) (offset : ℕ)
    (bytes : List ℕ) : Type 0 where
  pub text : List ℕ
  pub has : HasPrinted bytes text
  pub wrote : Wrote W sink sink' text
  pub counted : offset ≡ length bytes

module _ {T : Type 0} {W : Sink T} (row : InARow W) {HasPrinted : List ℕ → List ℕ → Type 0} where
  pub printed_none : (c : T) → HasPrinted [] [] → Printed W c c HasPrinted 0 []
  printed_none c h = record { text = []; has = h; wrote = row.nothing c; counted = refl }

  -- a chunk, its lines and a flush
  pub printed_more : {HasPrinted' : List ℕ → List ℕ → Type 0} (c d d' d'' : T) (offset n : ℕ)
      (bytes chunk more : List ℕ) (h : Printed W c d HasPrinted offset bytes) → length chunk ≡ n
      → Wrote W d d' more → Wrote W d' d'' [] → HasPrinted' (bytes ++ chunk) (h.text ++ more)
      → Printed W c d'' HasPrinted' (offset + n) (bytes ++ chunk)
  printed_more c d d' d'' offset n bytes chunk more h m w f has = grind (arith, common_steps)

-- ---- how the run ends

module _ {S T : Type 0} {R : Source S} {W : Sink T} (row : InARow W)
    {HasLines : List ℕ → List ℕ → List ℕ → Type 0}
    {HasPrinted : List ℕ → List ℕ → Type 0} {a b : S} {c d : T} {offset taken limit : ℕ} where
  -- after a read that gave nothing, by what is written then
  pub printed_end : (b' : S) (d' : T) (last : List ℕ) (r : Result (Unit {0}) RunFault)
      (t : BetweenReads R W a b c d taken limit) (h : Printed W c d HasPrinted offset t.bytes)
      → Consumes (R.left b) (R.left b') [] → HasLines t.bytes h.text last → Writes W d d' r last
      → Ran R W (change a b') (change c d') (InTurns limit r (IsPrinted HasLines r))
  printed_end b' d' last (Ok x) t h p has w = (
    t.bytes,
    h.text ++ last,
    search rules,
    (row.writes c d d' h.text last (Ok x) h.wrote w).appends,
    (tt, record { text = h.text; last = last; has = has; stands = refl }),
  )
  printed_end b' d' last (Err e) t h p has w =
      let stop = (row.writes c d d' h.text last (Err e) h.wrote w).1 in
      search rules

  -- at a write that was refused, of the lines of a chunk
  pub printed_stopped : (b' : S) (d' : T) (chunk more last : List ℕ)
      (r : Result (Unit {0}) RunFault) (e : RunFault) (t : BetweenReads R W a b c d taken limit)
      (h : Printed W c d HasPrinted offset t.bytes) → Consumes (R.left b) (R.left b') chunk
      → HasLines (t.bytes ++ chunk) (h.text ++ more) last → IsErrAnd r (λ y. y ≡ e)
      → (e ≡ WriteFailed) × Stopped W d d' more
      → Ran R W (change a b') (change c d') (InTurns limit r (IsPrinted HasLines r))
  printed_stopped b' d' chunk more last (Ok x) e t h p has k q = absurd k
  printed_stopped b' d' chunk more last (Err y) e t h p has k q =
      let stop = row.longer c d' _ last (row.writes c d d' h.text more (Err e) h.wrote q).1 in
      grind (arith, common_steps)

-- ---- what is said of a run

pub on_ok : {A E P Q : Type 0} (r : Result A E) → (P → Q) → OnOk r P → OnOk r Q
on_ok r f h = search rules

-- the sink contains the text, for each way to state it
pub stands_by : {A : Type 0} (r : Result A RunFault) (text text' last last' out : List ℕ)
    → text ≡ text' → last ≡ last' → IsInSink r text (text ++ last) out
    → IsInSink r text' (text' ++ last') out
stands_by r text text' last last' out e f h =
    subst (λ l. IsInSink r text' (text' ++ l) out) f (subst (λ t. IsInSink r t (t ++ last) out) e h)

pub ran_with : {S T A : Type 0} (R : Source S) (W : Sink T) (a b : S) (c d : T) (limit : ℕ)
    (r : Result A RunFault) (P Q : List ℕ → List ℕ → Type 0)
    → ((bytes out : List ℕ) → P bytes out → Q bytes out)
    → Ran R W (change a b) (change c d) (InTurns limit r P)
    → Ran R W (change a b) (change c d) (InTurns limit r Q)
ran_with R W a b c d limit r P Q f h = (h.0, h.1, h.2, h.3, (h.4.0, f h.0 h.1 h.4.1))
