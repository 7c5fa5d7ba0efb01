use Rattle.{std.proofs.Common.{refl}, dgt_values.specs.Board.{pieces_of}}
use Rattle.dgt_game.proofs.ways.OneSearch.find.Goals as goal

pub returns-in-Some : goal.returns-in-Some
returns-in-Some c =
    let state = c.args.state.now in
    let pieces = pieces_of c.args.picture.now in
    let (move, same, only) = c.in-Some.ensures in
    rw c.new.ensures ((refl, (c.in-Some.new, move, refl), same), only)
