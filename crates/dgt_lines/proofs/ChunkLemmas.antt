-- The bytes of a chunk that are gathered, call after call, until they are written.
use Rattle.std.proofs.Common.{◌≡◌, ℕ, ◌+◌, ◌-◌, ◌≤◌, List, [], ◌∷◌, ◌++◌, Bool, false, Result, Ok, Err, IsErrAnd, OnOk, refl, ◌∙◌, ap, sym, subst, arith, length, take, drop, append_assoc, append-nil}
use Rattle.{std.proofs.{Common.{length-append, rules}, Math.Seq.{take-add}, lemmas.List.{length-take-le, take-append-drop, take_rest}}, dgt_command.specs.Encoding.{AreBytes}}
use Rattle.{dgt_command.proofs.DivisionLemmas.{bytes_right}, dgt_lines.specs.{Marks.{Waits}, Printing.{GathersPrefix, GathersMore, PrintsMore}, Writing.{Gathered, Stopped, Writes}}}
use Rattle.dgt_lines.{specs.declared.{faults.RunFault.{RunFault}, streams.Sink.{Ghosts as Sink}, faults.RunFault.TheVariants.{WriteFailed}}, proofs.GatherLemmas.{gathered_out}}
use Rattle.dgt_lines.proofs.{GatherLemmas.{gathers_then, stopped_longer}, Printed.{on_ok}}

-- bytes of a chunk that come after its first i
pub more_bytes : (bytes chunk : List ℕ) (i n : ℕ)
    → (bytes ++ take i chunk) ++ take n (take (length chunk - i) (drop i chunk))
    ≡ bytes ++ take (i + n) chunk
more_bytes bytes chunk i n =
    rw (take_rest, take-add i n chunk) (append_assoc bytes (take i chunk) _)

-- the parts of a chunk, one after another, are the chunk
pub all_bytes : (bytes chunk : List ℕ) (i n : ℕ)
    → ((bytes ++ take i chunk) ++ take n (take (length chunk - i) (drop i chunk)))
    ++ drop (i + n) chunk ≡ bytes ++ chunk
all_bytes bytes chunk i n = search (rules, more_bytes, append_assoc, take-append-drop)

pub counted_on : (bytes chunk : List ℕ) (i offset : ℕ) → offset ≡ length bytes → i ≤ length chunk
    → offset + i ≡ length (bytes ++ take i chunk)
counted_on bytes chunk i offset e h =
    omega (arith, e, length-append bytes (take i chunk), length-take-le i chunk h)

pub later_bytes : (chunk : List ℕ) (i : ℕ) → AreBytes chunk → AreBytes (drop i chunk)
later_bytes chunk i are =
    bytes_right (take i chunk) (drop i chunk) (subst AreBytes (sym (take-append-drop i chunk)) are)

-- what waits for a flush still does after a call that gathers more
pub waits_then : (o o' s t : List ℕ) (before now after : Bool) → (Waits s before → Waits o now)
    → (Waits (o ++ t) now → Waits o' after) → Waits (s ++ t) before → Waits o' after
waits_then [] o' s [] before now after p q w = q (λ e. p (λ z. w (append-nil s ∙ z)) refl)
waits_then [] o' s (x ∷ t) before now after p q w = q (λ e. absurd (omega (arith, ap length e)))
waits_then (x ∷ o) o' s t before now after p q w = q (λ e. absurd (omega (arith, ap length e)))

-- ---- a call that uses bytes of what is left of a chunk

module _ {S : Type 0} {W : Sink S} {P : List ℕ → List ℕ → Type 0} (bytes rest text : List ℕ)
    (used : ℕ) where
  -- they end no event
  pub gathers_none : {a : S} {held : List ℕ} → P (bytes ++ take used rest) (text ++ [])
      → GathersPrefix W (held, held) a a (Ok used) P bytes rest text
  gathers_none {a = a} {held = held} has = search rules

  module _ {a b : S} {held held' : List ℕ} (more : List ℕ)
      (has : P (bytes ++ take used rest) (text ++ more)) where
    -- they end one, and this is its line
    pub gathers_some : Gathered W held held' a b more
        → (Waits (held ++ more) (W.flushed a) → Waits held' (W.flushed b))
        → GathersPrefix W (held, held') a b (Ok used) P bytes rest text
    gathers_some q waits =
        (used, refl, record { more = more; gathers = q; has = has; waits = waits })

    -- they end an event, and its line was refused
    pub gathers_refused : (r : Result ℕ RunFault) (e : RunFault) → IsErrAnd r (λ y. y ≡ e)
        → (e ≡ WriteFailed) × Stopped W a b (held ++ more)
        → GathersPrefix W (held, held') a b r P bytes rest text
    gathers_refused r e k q = search rules

-- ---- one call after another

module _ {S : Type 0} {W : Sink S} {P : List ℕ → List ℕ → Type 0} where
  -- before the first call
  pub gathered_first : (a : S) (held bytes text : List ℕ) → held ≡ [] → P bytes text
      → GathersMore {A = Unit {0}} W ([], held) a a (Ok tt) P (bytes ++ []) text
  gathered_first a held bytes text e has = search rules

  module _ (a b c : S) (i bytes text : List ℕ)
      (p : GathersMore {A = Unit {0}} W ([], i) a b (Ok tt) P bytes text)
      {Q : List ℕ → List ℕ → Type 0} (j read : List ℕ) where
    -- a call that gathers more
    pub gathered_more : {A : Type 0} (x : A)
        → GathersMore {A = A} W (i, j) b c (Ok x) Q read (text ++ p.more)
        → GathersMore {A = Unit {0}} W ([], j) a c (Ok tt) Q read text
    gathered_more x q = record {
      more = p.more ++ q.more;
      gathers = gathers_then W [] i j a b c p.more q.more (Ok (tt {0})) p.gathers q.gathers;
      has = subst (Q read) (append_assoc text p.more q.more) q.has;
      waits = waits_then i j p.more q.more _ _ _ p.waits q.waits;
    }

    -- a call that was refused: these are lines of all bytes of the chunk
    pub prints_refused : {A : Type 0} {HasLines : List ℕ → List ℕ → List ℕ → Type 0} (e : RunFault)
        (q : GathersMore {A = A} W (i, j) b c (Err e) Q read (text ++ p.more))
        (r : Result (Unit {0}) RunFault) → IsErrAnd r (λ y. y ≡ e)
        → (prefix all others last : List ℕ) → prefix ≡ all
        → HasLines prefix (((text ++ p.more) ++ q.more) ++ others) last
        → PrintsMore W a c r HasLines Q all text
    prints_refused e q (Ok x) k prefix all others last same has = absurd k
    prints_refused {A = A} {HasLines = HasLines} e q (Err y) k prefix all others last same has =
        let stop = gathers_then W {A = A} [] i j a b c p.more q.more (Err y) p.gathers
        (k ∙ q.gathers.0, q.gathers.1) in
        let whole : ((text ++ p.more) ++ q.more) ++ others
        ≡ text ++ ((p.more ++ q.more) ++ others) =
        search (rules, append_assoc) in
        search (rules, stopped_longer)

  -- after the last call, all is written
  pub prints_out : {HasLines : List ℕ → List ℕ → List ℕ → Type 0} (a b c : S)
      (i bytes text : List ℕ)
      (p : GathersMore {A = Unit {0}} W ([], i) a b (Ok tt) P bytes text)
      (r : Result (Unit {0}) RunFault)
      → Writes W b c r i → OnOk r (Waits i (W.flushed b) → W.flushed c ≡ false) → (last : List ℕ)
      → HasLines bytes (text ++ p.more) last → PrintsMore W a c r HasLines P bytes text
  prints_out a b c i bytes text p r w out last has = record {
    more = p.more;
    last = last;
    writes = gathered_out W i a b c p.more r p.gathers w;
    has = has;
    keeps = on_ok r (λ _. p.has) out;
    waits = on_ok r (λ f z. f (p.waits z)) out;
  }
