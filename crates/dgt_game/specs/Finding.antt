-- Which pictures a search for several half-moves finds.
use Rattle.std.specs.Prelude.{◌≡◌, ◌≢◌, ◌<◌, ◌≤◌, ◌⊎◌, ◌+◌, ℕ, true, false, List, Some, length}
use Rattle.dgt_values.specs.declared.pieces.Piece.{Piece}
use Rattle.dgt_values.specs.Board.{pieces_of}
use Rattle.dgt_chess.specs.declared.pieces.Colour.{Colour}
use Rattle.dgt_game.specs.declared.event.GameResult.{GameResult}
use Rattle.dgt_game.specs.declared.memory.Memory.{Memory}
use Rattle.dgt_game.specs.declared.node.Place.{Place}
use Rattle.dgt_game.specs.declared.node.Step.{Step}
use Rattle.dgt_game.specs.declared.recogniser.Recogniser.{Recogniser}
use Rattle.dgt_game.specs.declared.recogniser.Search.{Search}
use Rattle.dgt_game.specs.declared.view.View.{View}
use Rattle.dgt_game.specs.Told.{as_shown}
use Rattle.dgt_game.specs.Planning.{CannotBegin, IsKnown, IsLifted, IsPlanned, WhyHopeless}
use Rattle.dgt_game.specs.Reading.{HasAnswered, HasMoved, HasSomeLines, IsLive}
use Rattle.dgt_game.specs.Standing.{Stands}
use Rattle.dgt_game.specs.Timing.{IsIdle}
use Rattle.dgt_game.specs.Waiting.{Show, last_of}

-- men of both sides have moved since the line's last state
abbrev pub BothHaveMoved : Memory → List Piece → Type 0
BothHaveMoved self picture =
    (step : Step) × (last_of self ≡ Some step)
    × ((colour : Colour) → HasMoved (as_shown step.is_turned picture) step.state colour)

-- since that state and each one that was shown since, a man of the side to move has moved
abbrev pub AllHaveAnswered : Memory → List Piece → Type 0
AllHaveAnswered self picture =
    (step : Step) → IsKnown self step
    → HasMoved (as_shown step.is_turned picture) step.state step.state.turn

-- Several half-moves are looked for in a doubt once the side to move has answered. Without a doubt,
-- men of both sides have moved, the side to move has since each state shown since, and no pieces
-- are lifted.
abbrev pub IsSearched : Recogniser → List Piece → Type 0
IsSearched self picture =
    ((self.is_behind ≡ true) × HasAnswered self.memory picture)
    ⊎ (BothHaveMoved self.memory picture × AllHaveAnswered self.memory picture
    × ¬ (IsLifted self))

-- two to four half-moves are found that lead from the line's last state to what is shown
abbrev pub IsFound : Recogniser → Type 0
IsFound self =
    (view : View) → self.view ≡ Some view → self.here ≡ Place.Nowhere → self.search ≡ Search.Done
    → IsLive self → IsSearched self (pieces_of view.shown)
    → ¬ (HasSomeLines self.memory (pieces_of view.shown))

-- ---- Laws

-- the search is due: after a second or, in a doubt while no kings give a result, after 320 ms
abbrev pub SearchIsDue : ℕ → Recogniser → Type 0
SearchIsDue now self =
    (self.since + 1000 ≤ now)
    ⊎ ((self.is_behind ≡ true) × (self.has_kings ≡ false) × (self.since + 320 ≤ now))

-- **What follows the line is found.** What two to four half-moves lead to has a place, once they
-- are looked for, unless the kings give a result or no line could begin with it.
abbrev pub WhatFollowsIsFound : Type 0
WhatFollowsIsFound =
    (self : Recogniser) (view : View) (now : ℕ) → Stands self → IsPlanned self → WhyHopeless self
    → IsFound self → self.view ≡ Some view → self.is_sure ≡ true → self.is_confirmed ≡ true
    → IsIdle now self → SearchIsDue now self → IsLive self → IsSearched self (pieces_of view.shown)
    → HasSomeLines self.memory (pieces_of view.shown)
    → (self.here ≢ Place.Nowhere) ⊎ CannotBegin self.running view
    ⊎ ((step : Step) × ((result : GameResult) × Show self.view step result))

-- **What both sides have moved to is looked for**: since each state that is known, both have. No
-- pieces are lifted, or there was a doubt.
abbrev pub MovedIsSearched : Type 0
MovedIsSearched =
    (self : Recogniser) (picture : List Piece) (last : Step) → last_of self.memory ≡ Some last
    → ((step : Step) (colour : Colour) → IsKnown self.memory step
    → HasMoved (as_shown step.is_turned picture) step.state colour)
    → (self.is_behind ≡ true) ⊎ (¬ (IsLifted self)) → IsSearched self picture

-- only for bodies

-- there is something to look for from the line's last state
abbrev pub MayJump : Recogniser → List Piece → Type 0
MayJump self picture = (self.is_behind ≡ true) ⊎ BothHaveMoved self.memory picture

-- the same, with room for what is still to be found
abbrev pub FindsLater : Recogniser → Type 0
FindsLater self =
    IsFound self × (self.here ≡ Place.Nowhere → self.search ≡ Search.Waiting
    → length self.memory.seen.items < 23)
