use Rattle.{std.proofs.Common.{sym}, dgt_values.specs.Board.{square_number}, dgt_board.{specs.Kept.{state_of}, proofs.SendingLemmas.{field_is_next, nothing_is_next, times_are_next}}}
use Rattle.dgt_board.proofs.state.State.due.Goals as goal

pub returns-in-Some-unreported_square-clause-next
    : goal.returns-in-Some-unreported_square-clause-next
returns-in-Some-unreported_square-clause-next c =
    let none = rw c.as_slice.ensures.value at (sym c.in_default.ensures.value) in
    field_is_next (state_of c.args.self.now) (square_number c.in-Some-unreported_square.square) none
    c.in-Some-unreported_square.ensures

pub returns-then-self-clause-next : goal.returns-then-self-clause-next
returns-then-self-clause-next c =
    let none = rw c.as_slice.ensures.value at (sym c.in_default.ensures.value) in
    times_are_next (state_of c.args.self.now) none c.in_default-unreported_square.ensures
    c.if-self.true

pub returns-else-self-clause-next : goal.returns-else-self-clause-next
returns-else-self-clause-next c =
    let none = rw c.as_slice.ensures.value at (sym c.in_default.ensures.value) in
    nothing_is_next (state_of c.args.self.now) none c.in_default-unreported_square.ensures
    c.if-self.false
