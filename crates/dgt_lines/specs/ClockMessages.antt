-- Clock messages by their fields.
use Rattle.std.specs.Prelude.{ℕ, List, [], ◌∷◌, slice_index as nth}
use Rattle.dgt_command.specs.declared.clock.RawClock.{RawClock}
use Rattle.dgt_command.specs.declared.ids.KnownId.{KnownId}
use Rattle.dgt_command.specs.Content.{ClockContent, known_clock, raw_id, raw_payload}

abbrev pub set_content : List ℕ → List ℕ → ℕ → ClockContent
set_content left right control =
    known_clock KnownId.SetAndRun
    (nth left 0 ∷ nth left 1 ∷ nth left 2 ∷ nth right 0 ∷ nth right 1 ∷ nth right 2 ∷ control ∷ [])

abbrev pub text_content : List ℕ → ℕ → ClockContent
text_content l beep =
    known_clock KnownId.Text
    (nth l 0 ∷ nth l 1 ∷ nth l 2 ∷ nth l 3 ∷ nth l 4 ∷ nth l 5 ∷ nth l 6 ∷ nth l 7 ∷ beep ∷ [])

abbrev pub raw_content : RawClock → ClockContent
raw_content raw = record { id = raw_id raw; payload = raw_payload raw }
