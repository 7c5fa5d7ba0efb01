-- What a call that writes does to the sink.
use Rattle.std.specs.Prelude.{◌≡◌, ℕ, true, false, List, [], ◌++◌, Result, MatchResult}
use Rattle.std.specs.Io.KnownBytes.{Appends}
use Rattle.dgt_lines.specs.declared.faults.RunFault.{RunFault}
use Rattle.dgt_lines.specs.declared.faults.RunFault.TheVariants.{WriteFailed}
use Rattle.dgt_lines.specs.declared.streams.Sink.{Ghosts as Sink}

-- the sink, which has these bytes and marks, took all of the text
pub record Wrote {S : Type 0} (W : Sink S) (old new : S) (text : List ℕ) : Type 0 where
  pub appends : Appends (W.written old) (W.written new) text
  pub kept : W.failed new ≡ W.failed old
  pub in_time : W.failed old ≡ false → W.late new ≡ W.late old

-- the sink took a prefix of the text, and then refused; no call followed
pub record Stopped {S : Type 0} (W : Sink S) (old new : S) (text : List ℕ) : Type 0 where
  pub prefix : List ℕ
  pub rest : List ℕ
  pub whole : text ≡ prefix ++ rest
  pub appends : Appends (W.written old) (W.written new) prefix
  pub refused : W.failed new ≡ true
  pub in_time : W.failed old ≡ false → W.late new ≡ W.late old

-- a call that writes the text, or a prefix of it if the sink refuses
abbrev pub Writes : {S A : Type 0} → Sink S → S → S → Result A RunFault → List ℕ → Type 0
Writes W old new r text =
    MatchResult r (λ _. Wrote W old new text) (λ e. (e ≡ WriteFailed) × Stopped W old new text)

-- the text follows the bytes that were held: the sink took some of both, and the rest is held
pub record Gathered {S : Type 0} (W : Sink S) (held held' : List ℕ) (old new : S) (text : List ℕ) :
    Type 0 where
  pub out : List ℕ
  pub whole : held ++ text ≡ out ++ held'
  pub wrote : Wrote W old new out

-- a call that gathers the text, with the bytes that were held before and after it; if the sink
-- refuses, it took a prefix of the held bytes and the text
abbrev pub Gathers : {S A : Type 0} → Sink S → List ℕ × List ℕ → S → S → Result A RunFault → List ℕ
    → Type 0
Gathers W held old new r text =
    MatchResult r (λ _. Gathered W held.0 held.1 old new text)
    (λ e. (e ≡ WriteFailed) × Stopped W old new (held.0 ++ text))

-- ---- One call after another

-- facts about several writes in a row
pub record InARow {S : Type 0} (W : Sink S) : Type 0 where
  -- without a call, nothing was written
  pub nothing : (a : S) → Wrote W a a []
  -- a text was written, and then a call writes more
  pub writes : (a b c : S) (s t : List ℕ) (r : Result (Unit {0}) RunFault) →
      Wrote W a b s → Writes W b c r t → Writes W a c r (s ++ t)
  -- a write that stops within a text stops within a longer one
  pub longer : (a b : S) (s t : List ℕ) → Stopped W a b s → Stopped W a b (s ++ t)
  -- a text is added to the held bytes, and nothing is written
  pub holds : (h : List ℕ) (a : S) (s : List ℕ) → Gathered W h (h ++ s) a a s
  -- a text was gathered, and then a call gathers more
  pub gathers : (h i j : List ℕ) (a b c : S) (s t : List ℕ) (r : Result (Unit {0}) RunFault) →
      Gathered W h i a b s → Gathers W (i, j) b c r t → Gathers W (h, j) a c r (s ++ t)
