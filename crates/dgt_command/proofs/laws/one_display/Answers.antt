use Rattle.{std.{proofs.Common.{◌≡◌, refl, ℕ, ◌<◌, arith}, specs.Prelude.{slice_index}}, dgt_values.specs.Segment.{IsShownBy}}
use Rattle.dgt_command.proofs.laws.one_display.Goals as goal

-- a character has one segment byte
one_byte : (character byte other : ℕ) → IsShownBy character byte → IsShownBy character other
    → byte ≡ other
one_byte character byte other = grind arith

pub returns-clause-one : goal.returns-clause-one
returns-clause-one c = λ text dots beep message other shown also.
    let same : (i : ℕ) → i < 6 → shown.0 i ≡ also.0 i =
    λ i low. one_byte (slice_index text i) _ _ (shown.1 i low) (also.1 i low) in
    rw (
      shown.2,
      also.2,
      same 0 (omega arith),
      same 1 (omega arith),
      same 2 (omega arith),
      same 3 (omega arith),
      same 4 (omega arith),
      same 5 (omega arith),
    ) refl

pub returns-clause-shown : goal.returns-clause-shown
returns-clause-shown c = λ text dots beep message shown none.
    none.2 (shown.0 none.0) (shown.1 none.0 none.1)
