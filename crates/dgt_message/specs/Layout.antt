-- The layout of the body under a code.
use Rattle.std.specs.Prelude.{ℕ, ◌==◌, ◌%◌, if◌then◌else◌, List, slice_index, Option, Some}
use Rattle.dgt_message.specs.declared.known.KnownCode.{KnownCode}
use Rattle.dgt_message.specs.Clock.{is_marked, says_no_clock}
use Rattle.dgt_message.specs.Code.{known_with}

pub data Layout : Type 0 where
  dump : Layout
  field : Layout
  times : Layout
  no_clock : Layout
  ack : Layout
  carried : Layout

-- in a body of the clock, the marks are checked before the status
abbrev pub clock_layout : List ℕ → Layout
clock_layout body =
    if is_marked body then ack else if says_no_clock (slice_index body 6) then no_clock else times

-- by the code, if its bytes have ranges; every other body is carried unread
abbrev pub known_layout : Option KnownCode → List ℕ → Layout
known_layout (Some KnownCode.Dump) body = dump
known_layout (Some KnownCode.Clock) body = clock_layout body
known_layout (Some KnownCode.Field) body = field
known_layout _ body = carried

abbrev pub layout_of : ℕ → List ℕ → Layout
layout_of code body = known_layout (known_with code) body

-- the content of a place in a body; `sixty` is minutes or seconds
pub data Column : Type 0 where
  square : Column
  piece : Column
  hours : Column
  sixty : Column
  anything : Column

-- the column of a place: pieces in a dump, a square and a piece in a field update, and in times
-- hours, minutes and seconds twice, and the status
abbrev pub column_of : Layout → ℕ → Column
column_of dump place = piece
column_of field place = if place == 0 then square else piece
column_of times place = if place == 6 then anything else if place % 3 == 0 then hours else sixty
column_of _ place = anything

-- the column of a place in the body under a code
abbrev pub column_at : ℕ → List ℕ → ℕ → Column
column_at code body place = column_of (layout_of code body) place
