-- What C calls do with a recogniser: the clauses of the calls that they wrap.
use Rattle.std.specs.Prelude.{◌≡◌, ◌≢◌, ◌<◌, ◌⊎◌, ℕ, Bool, IsTrue, true, false, List, [], ◌∷◌, Option, Some, None, IfSome, MatchOption, length, slice_get}
use Rattle.dgt_values.specs.declared.pieces.Piece.{Piece}
use Rattle.dgt_values.specs.Board.{pieces_of}
use Rattle.dgt_chess.specs.declared.state.State.{State}
use Rattle.dgt_game.specs.declared.event.Event.{Event}
use Rattle.dgt_game.specs.declared.node.Origin.{Origin}
use Rattle.dgt_game.specs.declared.node.Place.{Place}
use Rattle.dgt_game.specs.declared.observation.Observation.{Observation}
use Rattle.dgt_game.specs.declared.recogniser.Recogniser.{Recogniser}
use Rattle.dgt_game.specs.declared.view.View.{View}
use Rattle.dgt_game.specs.Finding.{IsFound}
use Rattle.dgt_game.specs.Planning.{IsLostOr, IsPlanned, WhyHopeless}
use Rattle.dgt_game.specs.Reading.{FollowsSeen, IsExplained}
use Rattle.dgt_game.specs.Recogniser.{GoesOn, Knows, Reports, Sees, picture_of, pictured}
use Rattle.dgt_game.specs.Settling.{GoesAstray, IsAnswered}
use Rattle.dgt_game.specs.Standing.{IsThere, Stands}
use Rattle.dgt_game.specs.Sure.{KnowsSure, SeesSure, StaysSure}
use Rattle.dgt_game.specs.Timing.{Due, IsIdle, Marks}
use Rattle.dgt_game.specs.Told.{Told, told_pieces}
use Rattle.dgt_game.specs.Waiting.{Follows, IsOfLine, IsQuiet, IsRight, Waits, has_result, is_lost, is_sure_sight}
use Rattle.dgt_c.specs.Games.{game_event_reported}
use Rattle.dgt_c.specs.declared.header.DgtGameEvent.{DgtGameEvent}

-- it has taken what was seen: the clauses of `Recogniser::see`
pub record HasSeen (old : Recogniser) (seen : Observation) (new : Recogniser) : Type 0 where
  pub idle : IsIdle seen.at old
  -- what is shown now
  pub shown : pictured new.view ≡ picture_of seen.sight
  pub sure : new.is_sure ≡ is_sure_sight seen.sight
  pub confirmed : new.is_confirmed ≡ seen.is_confirmed
  pub running : new.running ≡ seen.running
  pub since : (new.since ≡ old.since) ⊎ (new.since ≡ seen.at)
  pub changed : pictured new.view ≢ pictured old.view → new.since ≡ seen.at
  pub sure_since : old.is_sure ≡ true → new.sure_since ≡ old.sure_since
  pub behind : (old.is_behind ≡ true)
      ⊎ ((old.is_sure ≡ true) × (is_sure_sight seen.sight ≡ false))
      → (new.is_behind ≡ true) ⊎ ((new.is_sure ≡ true) × (new.here ≡ Place.Line 0))
  pub astray : (old.is_astray ≡ true)
      ⊎ ((pictured new.view ≢ pictured old.view) × GoesAstray seen.at old)
      → (new.is_astray ≡ true) ⊎ ((new.is_sure ≡ true) × (new.here ≡ Place.Line 0))
  -- what it knows
  pub line : Sees old seen.sight new
  pub sure_line : SeesSure old seen.sight new
  pub right : Waits old → Waits new
  pub follows : Follows old None new
  pub doubt : is_sure_sight seen.sight ≡ false → IsQuiet new
  pub staying : new.staying ≡ old.staying
  pub answers : (shown : List (List Piece)) (line : List Told) → Knows shown line old
      → Stands old → IsAnswered new.memory
  -- what it keeps
  pub stands : (shown : List (List Piece)) (line : List Told) → Knows shown line old
      → Stands old → Stands new
  pub plans : IsPlanned new
  pub found : IsFound old → IsFound new
  pub lost : IsLostOr old → IsLostOr new
  pub hopeless : WhyHopeless old → WhyHopeless new
  pub reads : length old.memory.seen.items < 21 → IsExplained old → IsExplained new
  pub since_seen : length old.memory.seen.items < 21 → (view : View) → new.view ≡ Some view
      → new.view ≢ old.view → FollowsSeen old.memory (pieces_of view.shown)
      → new.here ≢ Place.Nowhere

-- it has reported this event, or nothing: the clauses of `Recogniser::due`
pub record HasTold (now : ℕ) (old : Recogniser) (told : Option Event) (new : Recogniser)
    : Type 0 where
  pub due : Due now old told new
  pub idle : IsIdle now old → (told ≡ None) × (new ≡ old)
  pub after : told ≡ None → IsIdle now new
  pub line : Reports old told new
  pub right : Waits old → Waits new × IfSome told (λ event. IsRight new event)
  pub follows : Waits old → Follows old told new
  pub doubt : old.is_sure ≡ false → IsQuiet old → told ≡ None
  pub marks : Marks old told new
  pub shown : (new.view ≡ old.view) × (new.since ≡ old.since) × (new.is_sure ≡ old.is_sure)
  pub sure_line : (shown : List (List Piece)) (line : List Told) → Knows shown line old
      → IsPlanned old → Stands old → StaysSure old new
  pub there : (shown : List (List Piece)) (line : List Told) → Knows shown line old
      → IsPlanned old → Stands old → Waits old
      → IfSome told (λ event. IsOfLine event → IsThere new)
  -- what it keeps
  pub stands : (shown : List (List Piece)) (line : List Told) → Knows shown line old
      → IsPlanned old → Stands old → Stands new
  pub planned : IsPlanned old → IsPlanned new
  pub found : length old.memory.seen.items < 23 → IsPlanned old → IsLostOr old → IsFound old
      → IsFound new
  pub lost : IsLostOr old → IsLostOr new
  pub hopeless : WhyHopeless old → WhyHopeless new

-- it has gone on from this state: the clauses of `Recogniser::go_on`
pub record HasGoneOn (state : State) (is_turned : Bool) (new : Recogniser) : Type 0 where
  pub line : GoesOn state is_turned new
  pub sure_line : KnowsSure (told_pieces (record {
    state = state;
    halves = 0;
    is_turned = is_turned;
  }) ∷ []) new
  pub right : Waits new
  pub anew : (has_result new.over ≡ false) × (is_lost new.lost ≡ false)
  pub staying : new.staying ≡ record { loose = 1; own = 1; is_back = false; stays = false }
  pub start : MatchOption (slice_get new.memory.line.items 0) ⊥
      (λ node. node.origin ≡ Origin.Start)
  -- what it keeps
  pub stands : Stands new
  pub planned : IsPlanned new
  pub found : IsFound new
  pub lost : IsLostOr new
  pub hopeless : WhyHopeless new
  pub reads : IsExplained new

-- the event is written to the struct; if there is none, the struct stays as it is
abbrev pub Writes : Option Event → Bool → DgtGameEvent → DgtGameEvent → Type 0
Writes told result old new =
    MatchOption told ((result ≡ false) × (new ≡ old))
    (λ event. IsTrue result × (new ≡ game_event_reported event))
