-- How messages change a picture of the board, and a clock.
use Rattle.std.specs.Prelude.{List, [], ◌∷◌, Option, Some, option_map, slice_set}
use Rattle.dgt_values.specs.declared.pieces.Piece.{Piece}
use Rattle.dgt_message.specs.Clock.{ClockState}
use Rattle.dgt_message.specs.Content.{Content}
use Rattle.dgt_message.specs.Content.Content.{dump, field, times, no_clock}

-- the picture after a message: a dump sets it, a field update sets one square of a known picture
abbrev pub picture_after : Option (List Piece) → Content → Option (List Piece)
picture_after picture (dump pieces) = Some pieces
picture_after picture (field square piece) =
    option_map (λ pieces. slice_set pieces square piece) picture
picture_after picture _ = picture

abbrev pub picture_after_all : Option (List Piece) → List Content → Option (List Piece)
picture_after_all picture [] = picture
picture_after_all picture (said ∷ more) = picture_after_all (picture_after picture said) more

-- the clock after a message: what it reports of a clock, if anything
abbrev pub clock_after : Option ClockState → Content → Option ClockState
clock_after before (times readings) = Some (ClockState.times readings)
clock_after before (no_clock absence) = Some (ClockState.no_clock absence)
clock_after before _ = before

abbrev pub clock_after_all : Option ClockState → List Content → Option ClockState
clock_after_all before [] = before
clock_after_all before (said ∷ more) = clock_after_all (clock_after before said) more
