-- A run between two reads.
use Rattle.std.proofs.{Common.{◌≡◌, ◌+◌, ◌-◌, ◌^◌, ◌<◌, ◌≤◌, ℕ, List, [], ◌++◌, false, length, min, take, IsTrue, arith, ◌∙◌, length-append, refl}, KnownBytes.{Consumes-nil, Consumes-trans}}
use Rattle.{std.{proofs.lemmas.List.{length-take-le}, specs.Io.KnownBytes.{Consumes}}, dgt_lines.specs.{Writing.{Wrote}, declared.streams.{Sink.{Ghosts as Sink}, Source.{Ghosts as Source}}}}

-- `taken` of at most `limit` reads succeeded and gave these bytes, and none gave the end. If
-- nothing waited for a flush, nothing does.
pub record BetweenReads {S T : Type 0} (R : Source S) (W : Sink T) (source source' : S)
    (sink sink' : T)
    (taken limit : ℕ) : Type 0 where
  pub bytes : List ℕ
  pub given : Consumes (R.left source) (R.left source') bytes
  pub each : taken ≤ length bytes
  pub not_failed : R.failed source' ≡ R.failed source
  pub not_ended : R.ended source' ≡ R.ended source
  pub source_in_time : R.failed source ≡ false → R.ended source ≡ false
      → R.late source' ≡ R.late source
  pub turns : R.reads source + limit < 2 ^ 64 → R.reads source' ≡ R.reads source + taken
  pub written : W.failed sink' ≡ W.failed sink
  pub sink_in_time : W.failed sink ≡ false → W.late sink' ≡ W.late sink
  pub flushed : IsTrue (W.flushed sink) → IsTrue (W.flushed sink')

-- before the first read
abbrev pub no_read : {S T : Type 0} {R : Source S} {W : Sink T} {a : S} {c d : T} {text : List ℕ}
    {limit : ℕ} → Wrote W c d text → (IsTrue (W.flushed c) → IsTrue (W.flushed d))
    → BetweenReads R W a a c d 0 limit
no_read {R = R} {a = a} wrote flushed = record {
  bytes = [];
  given = Consumes-nil (R.left a);
  each = omega arith;
  not_failed = refl;
  not_ended = refl;
  source_in_time = λ _ _. refl;
  turns = λ _. omega arith;
  written = wrote.kept;
  sink_in_time = wrote.in_time;
  flushed = flushed;
}

-- a turn more: a read that gave n bytes, a call that writes, and one that writes the rest and
-- flushes
abbrev pub next_read : {S T : Type 0} {R : Source S} {W : Sink T} {a b b' : S} {c d d' d'' : T}
    {text : List ℕ} {taken limit : ℕ} → BetweenReads R W a b c d taken limit → taken < limit
    → (n : ℕ) (buffer : List ℕ) → n ≤ length buffer
    → Consumes (R.left b) (R.left b') (take n buffer) → R.failed b' ≡ R.failed b
    → (((n ≡ 0) × (0 < length buffer) → ⊥) → R.ended b' ≡ R.ended b)
    → R.reads b' ≡ min (R.reads b + 1) (2 ^ 64 - 1)
    → (R.failed b ≡ false → R.ended b ≡ false → R.late b' ≡ R.late b) → (n ≡ 0 → ⊥)
    → W.failed d' ≡ W.failed d → (W.failed d ≡ false → W.late d' ≡ W.late d) → Wrote W d' d'' text
    → IsTrue (W.flushed d'') → BetweenReads R W a b' c d'' (taken + 1) limit
next_read {taken = taken} p more n buffer bound given not_refused no_end counted in_time some kept
    sink_in_time wrote
    flushed = let not_ended = no_end (λ h. some h.0) in record {
      bytes = p.bytes ++ take n buffer;
      given = Consumes-trans _ _ _ p.bytes (take n buffer) p.given given;
      each = omega (
        arith,
        p.each,
        some,
        length-append p.bytes (take n buffer),
        length-take-le n buffer bound,
      );
      not_failed = not_refused ∙ p.not_failed;
      not_ended = not_ended ∙ p.not_ended;
      source_in_time = λ f e. in_time (p.not_failed ∙ f) (p.not_ended ∙ e) ∙ p.source_in_time f e;
      turns = λ room. let e = p.turns room in omega arith;
      written = wrote.kept ∙ kept ∙ p.written;
      sink_in_time = λ f. let e = p.written ∙ f in
          wrote.in_time (kept ∙ e) ∙ sink_in_time e ∙ p.sink_in_time f;
      flushed = λ _. flushed;
    }
