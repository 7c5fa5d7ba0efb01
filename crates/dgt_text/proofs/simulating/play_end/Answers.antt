use Rattle.{std.{proofs.Common.{[], ◌≡◌, Bool, IsTrue, true, false, rules}, specs.Prelude.{◌≢◌}}, dgt_text.{specs.Simulating.{Plays, Took, all_lines}, proofs.PlayLemmas.{begins_last, end_exit}}}
use Rattle.dgt_text.proofs.{PlayLemmas.{end_some, end_none, end_closing}, simulating.play_end.Goals.{then-not-is_empty+in_ok-play_line, else-not-is_empty}}
use Rattle.dgt_text.proofs.simulating.play_end.Goals as goal

not_true : {b : Bool} → b ≡ false → IsTrue b → ⊥
not_true e h = cc

pub returns-in_err-play_line-clause-played : goal.returns-in_err-play_line-clause-played
returns-in_err-play_line-clause-played g c = λ at_end rest e h k.
    let some : rest ≢ [] = λ f. not_true c.if-not-is_empty.true ((c.is_empty.ensures rest h).1 f) in
    end_exit g.S.Stage.rules g.W.Sink at_end _ _ _ _ _ _ _ _ c.from_residual.ensures.1
    (c.in_err-play_line.ensures.played at_end rest rest h (begins_last at_end rest e k some))

pub returns-clause-played : goal.returns-clause-played
returns-clause-played g c = λ at_end rest e h k.
    let played : Took g.W.Sink c.args.writer.now c.if-not-is_empty.writer
    (λ out. Plays g.S.Stage.rules (g.S.Stage.seen c.args.world.now) (all_lines [] rest) out
    (g.S.Stage.seen c.if-not-is_empty.world)) = elim c.if-not-is_empty.branch [
      | then-not-is_empty+in_ok-play_line w ↦
          let some : rest ≢ [] =
          λ f. not_true w.if-not-is_empty.true ((c.is_empty.ensures rest h).1 f) in
          rw (w.world-is, w.writer-is)
          (end_some g.S.Stage.rules g.W.Sink _ _ _ _ rest some
          (w.in_ok-play_line.ensures.played at_end rest rest h (begins_last at_end rest e k some)))
      | else-not-is_empty w ↦ search (rules, end_none)
    ] in
    search (rules, end_closing)
