-- Pieces in hands.
use Rattle.{std.proofs.{Common.{rules, ◌≡◌, ◌⊎◌, refl, subst, ℕ, List, Some, slice_get, Contains}, lemmas.Option.{get_or_from_slice_get}}, dgt_values.specs.declared.pieces.Piece.{Piece}}
use Rattle.{dgt_chess.specs.{declared.{pieces.Man.{Man}, state.{Move.{Move}, State.{State}}}, Attacks.{piece_at, piece_of}, Rules.{board}}, dgt_game.specs.declared.node.{Place.{Place}, Step.{Step}}}
use Rattle.dgt_game.specs.Results.{EndsShown}
use Rattle.dgt_game.{specs.{declared.node.Way.{Way}, Lines.{IsMove}, Told.{IsHeld, as_shown}, Memory.{IsSeen, Links, step_at}}, proofs.Links.{ends_shown, hands_shown, links}}

-- a square of a picture of a state, if the picture lacks at most pieces of the side to move
abbrev pub LacksAt : List Piece → State → ℕ → Type 0
LacksAt picture state k =
    (piece_at picture k ≡ piece_at (board state) k)
    ⊎ ((piece_at picture k ≡ Piece.Empty)
    × ((man : Man) × (piece_at (board state) k ≡ piece_of state.turn man)))

pub lacks_at : (picture : List Piece) (state : State) (n at : ℕ) (new old : Piece) → n ≡ at
    → slice_get picture n ≡ Some new → slice_get (board state) n ≡ Some old → (new ≡ old)
    ⊎ ((new ≡ Piece.Empty) × ((man : Man) × (old ≡ piece_of state.turn man)))
    → LacksAt picture state at
lacks_at picture state n at new old same is was h =
    let new_is : piece_at picture at ≡ new = search (rules, get_or_from_slice_get) in
    search (rules, get_or_from_slice_get)

-- a half-move that is shown but for pieces in hands
pub held : (shown : List (List Piece)) (line seen : List Step) (from : Step) (place : Place) (one :
    Move) (state : State) (step : Step) (picture pieces : List Piece)
    → step_at line seen place ≡ Some from → step ≡ record {
      state = state;
      is_turned = from.is_turned;
      way = Way.Made one;
      parent = place;
    } → IsMove from.state one state → Contains shown picture
    → pieces ≡ as_shown from.is_turned picture → IsHeld pieces state
    → Links (step_at line seen step.parent) step × IsSeen shown step
held shown line seen from place one state step picture pieces at e move is_shown same is_held =
    let made : Step = record {
      state = state;
      is_turned = from.is_turned;
      way = Way.Made one;
      parent = place;
    } in
    rw e (
      links (step_at line seen place) from made at refl move,
      hands_shown shown made picture refl is_shown
          (subst (λ (ps : List Piece). IsHeld ps state) same is_held),
    )

-- a half-move that is shown with a result by kings
pub ended : (shown : List (List Piece)) (line seen : List Step) (from : Step) (place : Place) (one :
    Move) (state : State) (step : Step) (picture pieces : List Piece)
    → step_at line seen place ≡ Some from → step ≡ record {
      state = state;
      is_turned = from.is_turned;
      way = Way.Made one;
      parent = place;
    } → IsMove from.state one state → Contains shown picture
    → pieces ≡ as_shown from.is_turned picture → EndsShown pieces state
    → Links (step_at line seen step.parent) step × IsSeen shown step
ended shown line seen from place one state step picture pieces at e move is_shown same ends =
    let made : Step = record {
      state = state;
      is_turned = from.is_turned;
      way = Way.Made one;
      parent = place;
    } in
    rw e (
      links (step_at line seen place) from made at refl move,
      ends_shown shown made picture refl is_shown
          (subst (λ (ps : List Piece). EndsShown ps state) same ends),
    )
