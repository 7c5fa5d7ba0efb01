use Rattle.{std.{proofs.Common.{ℕ, zero, suc, ◌<◌, List, [], ◌∷◌, refl, arith}, specs.Prelude.{slice_index}}, dgt_values.specs.Segment.{IsShownBy}}
use Rattle.dgt_command.proofs.displaying.display.Goals as goal

-- six places show six characters
shows_six : (text places : List ℕ) → IsShownBy (slice_index text 0) (slice_index places 0)
    → IsShownBy (slice_index text 1) (slice_index places 1)
    → IsShownBy (slice_index text 2) (slice_index places 2)
    → IsShownBy (slice_index text 3) (slice_index places 3)
    → IsShownBy (slice_index text 4) (slice_index places 4)
    → IsShownBy (slice_index text 5) (slice_index places 5) → (i : ℕ) → i < 6
    → IsShownBy (slice_index text i) (slice_index places i)
shows_six text places a b c d e f zero h = a
shows_six text places a b c d e f (suc zero) h = b
shows_six text places a b c d e f (suc (suc zero)) h = c
shows_six text places a b c d e f (suc (suc (suc zero))) h = d
shows_six text places a b c d e f (suc (suc (suc (suc zero)))) h = e
shows_six text places a b c d e f (suc (suc (suc (suc (suc zero))))) h = f
shows_six text places a b c d e f (suc (suc (suc (suc (suc (suc i)))))) h = absurd (omega arith)

pub returns-clause-ok : goal.returns-clause-ok
returns-clause-ok c =
    let places : List ℕ =
    c.in_ok-segment.field-0 ∷ c.in_ok-segment-2.field-0 ∷ c.in_ok-segment-3.field-0
    ∷ c.in_ok-segment-4.field-0 ∷ c.in_ok-segment-5.field-0 ∷ c.in_ok-segment-6.field-0 ∷ [] in (
      λ i. slice_index places i,
      shows_six c.args.text places
          (rw c.in_ok-segment.was at c.segment.ensures)
          (rw c.in_ok-segment-2.was at c.segment-2.ensures)
          (rw c.in_ok-segment-3.was at c.segment-3.ensures)
          (rw c.in_ok-segment-4.was at c.segment-4.ensures)
          (rw c.in_ok-segment-5.was at c.segment-5.ensures)
          (rw c.in_ok-segment-6.was at c.segment-6.ensures),
      refl,
    )
