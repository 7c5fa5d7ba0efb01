use Rattle.{std.proofs.Common.{◌∙◌, sym, ap, List, Some}, dgt_values.specs.declared.pieces.Piece.{Piece}, dgt_link.proofs.Headlines.{asked_if_done, ran_all}}
use Rattle.dgt_link.proofs.world.World.play.Goals as goal

pub returns : goal.returns
returns c =
    let ran = c.run-done.ensures.exact in
    record {
      exact = (ran.0, c.run-done.new.self, c.settle.result, ran.1, ran.2, c.settle.ensures.run);
      quiet = c.settle.ensures.quiet;
      picture = λ count ask.
          let all = ran_all c.args.acts.now c.args.self.now c.run-done.new.self ran.0 ran.2
          (sym ran.1 ∙ count) in
          let promised = c.run-done.ensures.promised ran.0 ran.2
          (rw all.all (asked_if_done c.args.acts.now ask)) in
          c.settle.ensures.picture promised.0 promised.1 promised.2
          ∙ ap (λ (squares : List Piece). Some squares) all.squares;
    }
