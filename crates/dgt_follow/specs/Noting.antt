-- The pace after what a host hears.
use Rattle.std.specs.Prelude.{ℕ, List, Option, None, Some}
use Rattle.dgt_values.specs.declared.kinds.Kind.{Kind}
use Rattle.dgt_values.specs.declared.pieces.Piece.{Piece}
use Rattle.dgt_decode.specs.Grammar.{Event}
use Rattle.dgt_follow.specs.Pace.{PaceView, pace_after_event}

abbrev pub pace_after_event_if_any : PaceView → ℕ → List Kind → Option (List Piece) → Option Event
    → PaceView
pace_after_event_if_any pace now awaited picture None = pace
pace_after_event_if_any pace now awaited picture (Some event) =
    pace_after_event pace now awaited picture event
