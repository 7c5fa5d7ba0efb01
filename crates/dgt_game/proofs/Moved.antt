-- Men that have moved.
use Rattle.std.{proofs.Common.{rules, ◌≡◌, ◌≢◌, ◌⊎◌, below_more, ◌<◌, ◌≤◌, ◌+◌, ℕ, zero, suc, List, [], ◌∷◌, ◌++◌, length, slice_index_or, Option, Some, None, slice_get}, specs.Prelude.{IsSome}}
use Rattle.{std.{specs.Prelude.{MatchOption}, proofs.lemmas.{Option.{slice_get-get_or, slice_get-map, slice_get_within}, List.{length-map}}}, dgt_values.specs.declared.pieces.Piece.{Piece}}
use Rattle.{dgt_values.specs.Board.{pieces_of}, dgt_chess.specs.{declared.{pieces.{Colour.{Colour}, Man.{Man}}, state.State.{State}}, Attacks.{other, piece_of}, Rules.{board}}}
use Rattle.dgt_game.specs.{declared.{node.{Node.{Node}, Origin.{Origin}, Step.{Step}}, view.View.{View}}, Told.{as_shown}, Memory.{steps}, Reading.{HasLineFrom, HasMoved, MovedAt, origins}}
use Rattle.dgt_game.proofs.{Chains.{get_step}, Planning.{piece_got}}
use Rattle.dgt_chess.proofs.Unique.{not_free}
use Rattle.dgt_game.specs.Reading.{ManHasMoved}

-- on a square only men of a side have moved
abbrev pub Keeps : Colour → Piece → Piece → Type 0
Keeps side old new =
    (new ≡ old)
    ⊎ ((man : Man) × (new ≡ piece_of side man))
    ⊎ ((new ≡ Piece.Empty) × ((man : Man) × (old ≡ piece_of side man)))

pub some_man : (found : Option Man) (side : Colour) (piece : Piece)
    → MatchOption found ((man : Man) → piece ≢ piece_of side man) (λ man. piece ≡ piece_of side man)
    → IsSome found → (man : Man) × (piece ≡ piece_of side man)
some_man None side piece is some = absurd (cc)
some_man (Some man) side piece is some = (man, is)

pub kept_more : (picture : List Piece) (state : State) (side : Colour) (n at : ℕ)
    (old new : Piece) → n ≡ at → slice_get picture n ≡ Some new
    → slice_get (board state) n ≡ Some old → side ≡ other state.turn → Keeps side old new
    → ((k : ℕ) → k < at → ¬ (MovedAt picture state state.turn k))
    → (k : ℕ) → k < at + 1 → ¬ (MovedAt picture state state.turn k)
kept_more picture state side n at old new same is was sides keeps before =
    let new_is = piece_got picture n at new same is in
    let old_is = piece_got (board state) n at old same was in
    below_more (λ k. ¬ (MovedAt picture state state.turn k)) at before (search rules)

-- a man of the side has arrived or has left
abbrev pub Moves : Colour → Piece → Piece → Type 0
Moves side old new =
    (new ≢ old) × (((man : Man) × (new ≡ piece_of side man))
    ⊎ ((new ≡ Piece.Empty) × ((man : Man) × (old ≡ piece_of side man))))

pub no_man : (found : Option Man) (side : Colour) (piece : Piece)
    → MatchOption found ((man : Man) → piece ≢ piece_of side man) (λ man. piece ≡ piece_of side man)
    → found ≡ None → ¬ ((man : Man) × (piece ≡ piece_of side man))
no_man None side piece is none (man, e) = is man e
no_man (Some man) side piece is none h = let wrong : ⊥ = cc in wrong

pub stays_more : (picture : List Piece) (state : State) (side : Colour) (n at : ℕ)
    (old new : Piece) → n ≡ at → slice_get picture n ≡ Some new
    → slice_get (board state) n ≡ Some old → ¬ (Moves side old new)
    → ((k : ℕ) → k < at → ¬ (MovedAt picture state side k))
    → (k : ℕ) → k < at + 1 → ¬ (MovedAt picture state side k)
stays_more picture state side n at old new same is was stays before =
    let new_is = piece_got picture n at new same is in
    let old_is = piece_got (board state) n at old same was in
    below_more (λ k. ¬ (MovedAt picture state side k)) at before (search rules)

pub moved_here : (first second : Step) (seen shown : View) → first ≡ second → seen ≡ shown
    → HasMoved (as_shown first.is_turned (pieces_of seen.shown)) first.state first.state.turn
    → HasMoved (as_shown second.is_turned (pieces_of shown.shown)) second.state second.state.turn
moved_here first second seen shown one same moved = search rules

pub none_some : (found : Option Node) → found ≡ None → ¬ (IsSome found)
none_some found none some = search rules

-- what holds of none before holds of none up to here
pub none_more : (P : ℕ → Type 0) (at : ℕ) → ((k : ℕ) → 1 ≤ k → k < at → ¬ (P k)) → ¬ (P at)
    → (k : ℕ) → 1 ≤ k → k < at + 1 → ¬ (P k)
none_more P at before here k some small holds = search rules

-- what follows a node does so if only what is known of when it was shown changes
abbrev pub FollowsOne : List Node → List Piece → Type 0
FollowsOne nodes picture =
    (k : ℕ) × (node : Node) × (slice_get nodes k ≡ Some node)
    × (node.origin ≢ Origin.Shadow) × HasLineFrom 1 node.step picture

get_origin : (nodes : List Node) (k : ℕ) (node : Node) → slice_get nodes k ≡ Some node
    → slice_get (origins nodes) k ≡ Some node.origin
get_origin nodes k node e = search (rules, slice_get-map)

pub seen_kept : (old new : List Node) (picture : List Piece) → steps new ≡ steps old
    → origins new ≡ origins old → FollowsOne old picture → FollowsOne new picture
seen_kept old new picture steps_same origins_same (k, node, is, known, line) =
    let less : k < length new = search (rules, slice_get_within, length-map) in
    let other = slice_index_or new k node in
    let found : slice_get new k ≡ Some other = slice_get-get_or new k node less in
    let first : slice_get (steps new) k ≡ Some other.step = get_step new k other found in
    let second : slice_get (steps old) k ≡ Some node.step = get_step old k node is in
    let step : node.step ≡ other.step = cc in
    let third : slice_get (origins new) k ≡ Some other.origin = get_origin new k other found in
    let fourth : slice_get (origins old) k ≡ Some node.origin = get_origin old k node is in
    let origin : node.origin ≡ other.origin = cc in (
      k,
      other,
      found,
      rw origin at known,
      rw step at line,
    )

get_more : (old more : List Node) (k : ℕ) (node : Node) → slice_get old k ≡ Some node
    → slice_get (old ++ more) k ≡ Some node
get_more [] more k node e = absurd (cc)
get_more (first ∷ old) more zero node e = e
get_more (first ∷ old) more (suc k) node e = get_more old more k node e

pub pushed : (old : List Node) (new : Node) (picture : List Piece) → FollowsOne old picture
    → FollowsOne (old ++ new ∷ []) picture
pushed old new picture (k, node, is, known, line) =
    (k, node, get_more old (new ∷ []) k node is, known, line)

pub man_has_moved : ManHasMoved
man_has_moved picture state colour man square less h = search (rules, not_free)
