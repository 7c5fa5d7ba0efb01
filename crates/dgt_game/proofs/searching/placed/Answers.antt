use Rattle.{std.proofs.Common.{◌∙◌, sym}, dgt_values.specs.Board.{pieces_of}, dgt_game.proofs.Planning.{made_anew, unmade}}
use Rattle.dgt_game.proofs.searching.placed.Goals as goal

pub returns-clause-none : goal.returns-clause-none
returns-clause-none c = λ none.
    unmade c.new.result _ (pieces_of c.args.position.now) c.args.turn _
    (sym c.ok.ensures.value ∙ none) c.new.ensures (
      c.is_home.ensures.home,
      c.is_home-2.ensures.home,
      c.is_home-3.ensures.home,
      c.is_home-4.ensures.home,
    )

pub returns-clause-set_up : goal.returns-clause-set_up
returns-clause-set_up c =
    rw c.ok.ensures.value (made_anew c.new.result _ c.args.turn _ _ c.new.ensures (
      c.is_home.ensures.both,
      c.is_home-2.ensures.both,
      c.is_home-3.ensures.both,
      c.is_home-4.ensures.both,
    ))
