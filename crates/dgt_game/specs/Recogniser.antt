-- A recogniser, and what its calls do.
use Rattle.std.proofs.Common.{arith}
use Rattle.std.specs.Prelude.{List, [], ◌∷◌, Bool, false, Option, Some, None, option_map, Contains, IfSome, MatchOption}
use Rattle.dgt_values.specs.declared.pieces.Piece.{Piece}
use Rattle.dgt_values.specs.Board.{pieces_of}
use Rattle.dgt_chess.specs.declared.state.State.{State}
use Rattle.dgt_game.specs.declared.event.Event.{Event}
use Rattle.dgt_game.specs.declared.memory.Memory.{Memory}
use Rattle.dgt_game.specs.declared.node.Place.{Place}
use Rattle.dgt_game.specs.declared.observation.Sight.{Sight}
use Rattle.dgt_game.specs.declared.recogniser.Lost.{Lost}
use Rattle.dgt_game.specs.declared.recogniser.Over.{Over}
use Rattle.dgt_game.specs.declared.recogniser.Recogniser.{Recogniser}
use Rattle.dgt_game.specs.declared.recogniser.Search.{Search}
use Rattle.dgt_game.specs.declared.staying.TheConstants.{NONE_STAYS}
use Rattle.dgt_game.specs.declared.view.View.{View}
use Rattle.dgt_game.specs.Told.{Leads, Told, told_pieces}
use Rattle.dgt_game.specs.Memory.{Holds, IsTold}

abbrev pub new_memory : Memory
new_memory = record {
  line = record { items = [] };
  back = 0;
  unsaid = record { items = [] };
  answer = None;
  seen = record { items = [] };
}

-- one that has seen nothing
abbrev pub new_recogniser : Recogniser
new_recogniser = record {
  memory = new_memory;
  over = Over.No;
  lost = Lost.No;
  ended = None;
  view = None;
  since = 0;
  sure_since = 0;
  changed = 0;
  is_sure = false;
  is_confirmed = false;
  running = None;
  here = Place.Nowhere;
  is_next = false;
  search = Search.Hopeless;
  next = None;
  has_kings = false;
  returned = record { count = 0; is_sure = false; near = omega arith };
  is_behind = false;
  is_set_up = false;
  is_astray = false;
  is_white_king_lifted = false;
  is_black_king_lifted = false;
  staying = NONE_STAYS;
}

-- what is so after these pictures were shown and this line was reported
pub record Knows (shown : List (List Piece)) (line : List Told) (self : Recogniser) : Type 0 where
  pub held : Holds shown line self.memory
  pub seen : IfSome self.view (λ view. Contains shown (pieces_of view.shown))

-- if all of the line was reported, it stays so
abbrev pub Stays : Recogniser → Recogniser → Type 0
Stays old new =
    (shown : List (List Piece)) (line : List Told) → IsTold old.memory → Knows shown line old
    → Knows shown line new

-- the picture that is seen, and the one that was taken last, if the board isn't away
abbrev pub picture_of : Sight → Option (List Piece)
picture_of (Sight.Sure position) = Some (pieces_of position)
picture_of (Sight.Doubted position) = Some (pieces_of position)
picture_of Sight.Away = None

abbrev pub pictured : Option View → Option (List Piece)
pictured = option_map (λ view. pieces_of view.shown)

-- the pictures shown so far, the last one first
abbrev pub shown_after : Sight → List (List Piece) → List (List Piece)
shown_after (Sight.Sure position) shown = pieces_of position ∷ shown
shown_after (Sight.Doubted position) shown = pieces_of position ∷ shown
shown_after Sight.Away shown = shown

-- the line's last state, if there is one
abbrev pub last_state : List Told → Option State
last_state [] = None
last_state (told ∷ line) = Some told.state

-- `see` takes what is seen, and the line stays as it is.
abbrev pub Sees : Recogniser → Sight → Recogniser → Type 0
Sees old sight new =
    (shown : List (List Piece)) (line : List Told) → Knows shown line old
    → Knows (shown_after sight shown) line new

-- `due` reports an event that leads on from the line, or nothing.
abbrev pub Reports : Recogniser → Option Event → Recogniser → Type 0
Reports old report new =
    (shown : List (List Piece)) (line : List Told) → Knows shown line old
    → MatchOption report (Knows shown line new)
    (λ event. (next : List Told) × Leads line event next × Knows shown next new)

-- After `go_on` the state counts as shown and reported, and nothing else.
abbrev pub GoesOn : State → Bool → Recogniser → Type 0
GoesOn state is_turned new =
    let told : Told = record { state = state; halves = 0; is_turned = is_turned } in
    Knows (told_pieces told ∷ []) (told ∷ []) new
