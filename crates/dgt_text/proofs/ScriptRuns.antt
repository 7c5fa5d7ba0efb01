-- How a run of `simulate` ends.
use Rattle.std.proofs.{Common.{◌≡◌, ℕ, List, [], ◌++◌, Bool, Some, Result, Ok, Err, IsErrAnd, OnOk, append-nil, arith, rules}, KnownBytes.{Appends-trans, Consumes-nil, Consumes-trans}}
use Rattle.{std.{proofs.lemmas.Grind.{common_steps}, specs.{Prelude.{IfErr}, Io.KnownBytes.{Appends, Consumes}}}, dgt_link.specs.View.{IsQuietWorld, WorldView}}
use Rattle.{dgt_lines.specs.declared.faults.RunFault.TheVariants.{WriteFailed}, dgt_script.specs.declared.script_lines.LineBuffer.{LineBuffer}, dgt_text.specs.Closing.{ClosingLinesAgree}}
use Rattle.dgt_text.{specs.Simulating.{EndsAlike, IsOfLine, IsSimulated, IsSimulatedFrom, PlaysOn, Stops, Rules, Took, part}, proofs.PlayLemmas.{begins_none, end_exit, on_rest, simulated_after}}
use Rattle.dgt_text.proofs.PlayLemmas.{stopped_none, torn_none}
use Rattle.dgt_lines.specs.{Turns.{HasTurns, Ran, change, InTurns}, Writing.{Stopped}, declared.{faults.RunFault.{RunFault}, streams.{Sink.{Ghosts as Sink}, Source.{Ghosts as Source}}}}

-- a fault of a line is none of turns
line_turns : {A : Type 0} (limit : ℕ) (r : Result A RunFault) (bytes : List ℕ) → IfErr r IsOfLine
    → HasTurns limit r bytes
line_turns limit r bytes f = search rules

-- the lines that were played, and a flush
pub plays_flushed : {T : Type 0} (rules : Rules) (W : Sink T) (c d d' : T) (w m : WorldView)
    (line : LineBuffer) (n : ℕ) (bytes : List ℕ) → PlaysOn rules W (part 1 bytes w m) c d line n
    → Appends (W.written d) (W.written d') [] → PlaysOn rules W (part 1 bytes w m) c d' line n
plays_flushed rules W c d d' w m line n bytes q p =
    let wrote : Appends (W.written c) (W.written d') q.text =
    rw (append-nil q.text) at (Appends-trans _ _ _ q.text [] q.wrote p) in
    search rules

module _ (rules : Rules) {S T : Type 0} (R : Source S) (W : Sink T) where
  -- how the run ends
  pub scripted_ends : {A : Type 0} (at_end : Bool) (limit : ℕ) (r : Result A RunFault) (a b b' : S)
      (c d d' : T) (w m l : WorldView) (line : LineBuffer) (n : ℕ) (bytes chunk : List ℕ)
      → Consumes (R.left a) (R.left b) bytes → (q : PlaysOn rules W (part 1 bytes w m) c d line n)
      → Consumes (R.left b) (R.left b') chunk → IfErr r IsOfLine
      → Took W d d' (IsSimulatedFrom rules at_end (part n (q.rest ++ chunk) m l) r)
      → Ran R W (change a b') (change c d') (InTurns limit r (IsSimulated rules at_end r w l))
  scripted_ends at_end limit r a b b' c d d' w m l line n bytes chunk g q p f t =
      let whole = on_rest rules W (λ p. IsSimulatedFrom rules at_end p r)
      (simulated_after rules at_end r) w m l c d d' line 1 n bytes chunk q t in (
        bytes ++ chunk,
        whole.0,
        Consumes-trans _ _ _ bytes chunk g p,
        whole.1,
        (line_turns limit r (bytes ++ chunk) f, whole.2),
      )

  -- the exit of a `?` on a chunk
  pub scripted_stops : {A : Type 0} (at_end : Bool) (limit : ℕ) (r : Result A RunFault)
      (e : RunFault) (a b b' : S) (c d d' : T) (w m l : WorldView) (line : LineBuffer) (n : ℕ)
      (bytes chunk : List ℕ) → Consumes (R.left a) (R.left b) bytes
      → (q : PlaysOn rules W (part 1 bytes w m) c d line n) → Consumes (R.left b) (R.left b') chunk
      → IsErrAnd r (λ y. y ≡ e) → Took W d d' (Stops rules at_end (part n (q.rest ++ chunk) m l) e)
      → Ran R W (change a b') (change c d') (InTurns limit r (IsSimulated rules at_end r w l))
  scripted_stops at_end limit r e a b b' c d d' w m l line n bytes chunk g q p k t =
      let stops = t.2 in
      scripted_ends at_end limit r a b b' c d d' w m l line n bytes chunk g q p
      (grind (arith, common_steps))
      (end_exit rules W at_end r e m l d d' n (q.rest ++ chunk) k t)

  -- the exit of a `?` on a flush
  pub scripted_unflushed : {A : Type 0} (at_end : Bool) (limit : ℕ) (r : Result A RunFault)
      (e : RunFault) (a b : S) (c d d' : T) (w m : WorldView) (line : LineBuffer) (n : ℕ)
      (bytes : List ℕ) → Consumes (R.left a) (R.left b) bytes
      → PlaysOn rules W (part 1 bytes w m) c d line n → IsErrAnd r (λ y. y ≡ e)
      → (e ≡ WriteFailed) × Stopped W d d' []
      → Ran R W (change a b) (change c d') (InTurns limit r (IsSimulated rules at_end r w m))
  scripted_unflushed at_end limit r e a b c d d' w m line n bytes g q k s =
      scripted_stops at_end limit r e a b b c d d' w m m line n bytes [] g q
      (Consumes-nil (R.left b)) k
      (rw s.0
      ([], stopped_none W d d' s.1, ([], begins_none at_end (q.rest ++ []), torn_none rules m)))

  -- the closing lines of a quiet world, if the host's picture is the board's position
  pub simulated_pictures : {A : Type 0} (at_end : Bool) (limit : ℕ) (r : Result A RunFault)
      (a b : S) (c d : T) (w l : WorldView) (P : List ℕ → Type 0) → ClosingLinesAgree
      → ((out : List ℕ)
      → (IsQuietWorld l → l.host.picture ≡ Some l.board.state.squares → EndsAlike l out) → P out)
      → Ran R W (change a b) (change c d) (InTurns limit r (IsSimulated rules at_end r w l))
      → Ran R W (change a b) (change c d) (InTurns limit r (λ _ out. OnOk r (P out)))
  simulated_pictures at_end limit (Ok x) a b c d w l P agree ends p =
      let s = p.4.1 in
      let shown : P p.1 = ends p.1 (grind (arith, common_steps)) in
      (p.0, p.1, p.2, p.3, (p.4.0, shown))
  simulated_pictures at_end limit (Err e) a b c d w l P agree ends p =
      (p.0, p.1, p.2, p.3, (p.4.0, tt))
