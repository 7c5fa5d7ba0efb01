-- Which half-moves of a line stay for good, though they are taken back.
use Rattle.std.specs.Prelude.{◌≡◌, ◌≢◌, ◌≤◌, ◌⊎◌, ◌+◌, ◌-◌, ◌||◌, ◌↔◌, ⊤, ℕ, zero, suc, min, nat_lt, if◌then◌else◌, Bool, true, false, [], Option, Some, None, IsTrue, MatchOption, slice_get}
use Rattle.dgt_game.specs.declared.event.Event.{Event}
use Rattle.dgt_game.specs.declared.memory.Memory.{Memory}
use Rattle.dgt_game.specs.declared.recogniser.Over.{Over}
use Rattle.dgt_game.specs.declared.recogniser.Recogniser.{Recogniser}
use Rattle.dgt_game.specs.declared.staying.Staying.{Staying}
use Rattle.dgt_game.specs.declared.staying.TheConstants.{NONE_STAYS}
use Rattle.dgt_game.specs.Waiting.{has_result}

-- a step more: only the last two don't stay
abbrev pub after_step : Staying → Staying
after_step self = record {
  loose = min (self.loose + 1) 2;
  own = min (self.own + 1) 255;
  is_back = false;
  stays = false;
}

-- One that doesn't stay is taken back. From 255 on, steps aren't counted.
abbrev pub after_loose : Staying → Staying
after_loose self = record {
  loose = self.loose - 1;
  own = if nat_lt self.own 255 then self.own - 1 else 255;
  is_back = true;
  stays = self.stays;
}

-- one that stays is taken back, and all of the line stays from then on
abbrev pub after_held : Staying → Staying
after_held self = record {
  loose = 0;
  own = 0;
  is_back = true;
  stays = self.stays || nat_lt 0 self.own;
}

abbrev pub back_by : ℕ → Staying → Staying
back_by zero self = after_held self
back_by (suc loose) self = after_loose self

abbrev pub after_back : Staying → Bool → Staying
after_back self true = after_held self
after_back self false = back_by self.loose self

-- after an event, if all of the line stays or not when it takes something back
abbrev pub staying_after : Staying → Event → Bool → Staying
staying_after self (Event.Begun state is_turned) is_whole = after_step NONE_STAYS
staying_after self (Event.Made one) is_whole = after_step self
staying_after self (Event.Unseen moves) is_whole = after_step self
staying_after self (Event.Gap state count) is_whole = after_step self
staying_after self (Event.Back count stays) is_whole = after_back self is_whole
staying_after self (Event.Ended result) is_whole = self
staying_after self (Event.Lost squares) is_whole = self
staying_after self Event.Found is_whole = self

-- an event that takes something back says whether that stays
abbrev pub SaysStays : Event → Bool → Type 0
SaysStays (Event.Back count stays) said = stays ≡ said
SaysStays event said = ⊤

-- the line's last position was shown for 30 seconds
abbrev pub HasLastRested : Memory → Type 0
HasLastRested self =
    MatchOption (slice_get self.line.items 0) ⊥ (λ node. 30000 ≤ node.left - node.at)

-- Why all of a line stays when something is taken back: nothing was since its last half-moves,
-- which had rested, or it had ended. If others follow at once, its end may have been a piece on
-- its way.
abbrev pub StaysWhole : Recogniser → Type 0
StaysWhole self =
    ((self.staying.is_back ≡ false) × HasLastRested self.memory)
    ⊎ ((self.over ≢ Over.No) × (self.memory.unsaid.items ≡ []))

-- what is known after an event, or if nothing is reported
abbrev pub Notes : Recogniser → Option Event → Recogniser → Type 0
Notes old None new =
    (new.staying ≡ old.staying) × (has_result new.over ≡ has_result old.over)
Notes old (Some event) new =
    (is_whole : Bool) × (IsTrue is_whole ↔ StaysWhole old)
    × (new.staying ≡ staying_after old.staying event is_whole)
    × SaysStays event new.staying.stays
