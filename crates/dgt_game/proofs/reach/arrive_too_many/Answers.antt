use Rattle.{std.{proofs.Common.{◌≡◌, ◌<◌, arith, inl, inr}, specs.Prelude.{◌/◌}}, dgt_values.specs.Board.{pieces_of}, dgt_chess.specs.{Attacks.{other}, Rules.{board}}}
use Rattle.dgt_game.{specs.Reach.{arrivals}, proofs.Arriving.{too_far}}
use Rattle.dgt_game.proofs.reach.arrive_too_many.Goals as goal

pub returns-then-arrivals-halves : goal.returns-then-arrivals-halves
returns-then-arrivals-halves c = λ yes.
    let state = c.args.state.now in
    let pieces = pieces_of c.args.picture.now in
    let count : c.arrivals.result ≡ arrivals state.turn (board state) pieces = cc in
    too_far state pieces c.args.halves (inl (omega arith))

pub returns : goal.returns
returns c = λ yes.
    let state = c.args.state.now in
    let pieces = pieces_of c.args.picture.now in
    let count : c.arrivals-2.result ≡ arrivals (other state.turn) (board state) pieces = cc in
    let more : c.args.halves / 2 < c.arrivals-2.result = grind arith in
    too_far state pieces c.args.halves (inr (omega arith))
