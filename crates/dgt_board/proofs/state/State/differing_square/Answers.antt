use Rattle.{std.proofs.{Common.{rules}, lemmas.Nat.Bits.{bit_at-trailing_zeros}}, dgt_board.proofs.SquareLemmas.{none_differs, lowest_differs}}
use Rattle.dgt_board.proofs.state.State.differing_square.Goals as goal

pub returns-then-differing-eq0 : goal.returns-then-differing-eq0
returns-then-differing-eq0 c = search (rules, none_differs)

pub returns : goal.returns
returns c =
    let kept = c.args.self.now in
    search (rules, bit_at-trailing_zeros, lowest_differs)
