use Rattle.{std.{proofs.Common.{rules, refl}}, dgt_values.specs.Board.{pieces_of}, dgt_game.specs.declared.unseen.Found.{Found}}
use Rattle.dgt_game.proofs.{Explaining.{all_goals, further, no_goal}, unseen.explaining_from.Goals.{then-has, else-has}}
use Rattle.dgt_game.proofs.unseen.explaining_from.Goals as goal

pub loop-to-preserved : goal.loop-to-preserved
loop-to-preserved c =
    let picture = pieces_of c.args.picture.now in
    let state = c.args.state.now in
    elim c.if-has.branch [
      | then-has w ↦ rw w.found-is
          (further picture state c.args.from c.loop-to.to c.loop-to.found w.explaining_over.result
          w.add.new.self w.add.ensures c.loop-to.invariant w.explaining_over.ensures)
      | else-has w ↦ rw w.found-is
          (further picture state c.args.from c.loop-to.to c.loop-to.found Found.Nothing
          c.loop-to.found refl c.loop-to.invariant
          (no_goal picture state c.args.from c.loop-to.to (search rules)))
    ]

pub returns : goal.returns
returns c =
    all_goals (pieces_of c.args.picture.now) c.args.state.now c.args.from c.loop-to.to
    c.loop-to.found c.loop-to-test.false c.loop-to.invariant
