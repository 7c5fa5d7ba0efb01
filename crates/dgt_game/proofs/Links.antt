-- Steps that follow each other.
use Rattle.std.proofs.{Common.{rules, ◌≡◌, ◌≤◌, ◌∙◌, refl, sym, ap, arith, inl, inr, ℕ, zero, suc, length, Bool, List, [], ◌∷◌, Option, Some, slice_get}, lemmas.Grind.{common_steps}}
use Rattle.{std.{specs.Prelude.{Contains, IfSome, ◌≢◌, ◌⊎◌}, proofs.lemmas.List.{reverse-reverse}}, dgt_values.specs.declared.pieces.Piece.{Piece}, dgt_chess.specs.declared.state.State.{State}}
use Rattle.{dgt_chess.specs.{Rules.{IsStart, board}, declared.state.Move.{Move}}, dgt_game.specs.declared.{node.{Node.{Node}, Step.{Step}, Way.{Way}, Place.{Place}}, reading.Reading.{Reading}}}
use Rattle.dgt_game.specs.{declared.{memory.Memory.{Memory}, ways.Ways.{Ways}}, Lines.{IsLine, moves_of}, Ways.{AreWays}, Told.{Told, IsShown, Joins, WasShown, as_shown, told_pieces}, Memory.{By}}
use Rattle.dgt_game.specs.{Results.{EndsShown}, Told.{IsHeld}}
use Rattle.dgt_game.specs.Memory.{Fits, Holds, AreLast, IsRoot, IsSeen, Links, Reads, halves_of, step_at, steps, told_of}

pub turned_back : (turned : Bool) (pieces shown : List Piece) → pieces ≡ as_shown turned shown
    → as_shown turned pieces ≡ shown
turned_back turned pieces shown e = search (rules, reverse-reverse)

pub links : (before : Option Step) (first step : Step) → before ≡ Some first
    → first.is_turned ≡ step.is_turned → By first.state step.way step.state → Links before step
unfolding Links
links before first step at turned by = inr (first, at, turned, by)

pub begins : (before : Option Step) (step : Step) → step.way ≡ Way.Begun → Links before step
unfolding Links
begins before step e = inl e

-- a step made of a state that has the pieces shown
pub fits : (line seen : List Step) (place : Place) (from : Step) (way : Way) (state : State) (step
    : Step) (shown : List Piece) → step_at line seen place ≡ Some from
    → step ≡ record { state = state; is_turned = from.is_turned; way = way; parent = place }
    → By from.state way state → board state ≡ as_shown from.is_turned shown
    → Links (step_at line seen step.parent) step × (told_pieces (told_of step) ≡ shown)
fits line seen place from way state step shown at e by same = rw e (
    grind (arith, common_steps, links)
    )

pub joins : (count : ℕ) (state new : State) (moves : List Move) → length moves ≡ count
    → IsLine state moves new → Joins count state new
unfolding Joins
joins count state new moves len line = (moves, len, line)

-- a step that follows the one at a place, of a state that has the pieces shown
pub fits_at : (line seen : List Step) (place : Place) (from step : Step) (shown : List Piece)
    → step_at line seen place ≡ Some from → step.parent ≡ place → step.is_turned ≡ from.is_turned
    → By from.state step.way step.state → board step.state ≡ as_shown from.is_turned shown
    → Links (step_at line seen step.parent) step × (told_pieces (told_of step) ≡ shown)
fits_at line seen place from step shown at parent turned by same =
    search (rules, links, turned_back)

-- a step made from another, of a state that has the pieces shown
pub follows : (from : Step) (place : Place) (way : Way) (state : State) (step : Step) (shown : List
    Piece) → step ≡ record { state = state; is_turned = from.is_turned; way = way; parent = place }
    → By from.state way state → board state ≡ as_shown from.is_turned shown
    → (step.parent ≡ place) × Links (Some from) step × (told_pieces (told_of step) ≡ shown)
follows from place way state step shown e by same = rw e (
    search (rules, links, turned_back)
    )

pub not_begun : (state new : State) (way : Way) → By state way new → way ≢ Way.Begun
not_begun state new way by e = rw e at by

-- several lines lead to the picture
pub several : (halves : ℕ) (state new : State) (pieces : List Piece)
    → AreWays halves state pieces (Ways.Several new) → Joins halves state new × (board new ≡ pieces)
several halves state new pieces (one, other, (len, line, same), more, differ) =
    search (rules, joins)

-- one of two
pub either : (P : Node → Type 0) (result first second : Option Node) → (result ≡ first)
    ⊎ (result ≡ second) → IfSome first P → IfSome second P → IfSome result P
either P result first second h a b = search rules

pub was_shown : (shown : List (List Piece)) (told : Told) (pieces : List Piece)
    → Contains shown pieces → told_pieces told ≡ pieces → WasShown shown told
unfolding WasShown
was_shown shown told pieces seen same = inl (rw same seen)

-- the state in which games begin may begin a line unseen
pub starts : (shown : List (List Piece)) (step : Step) → step.way ≡ Way.Begun
    → IsStart step.state → IsSeen shown step
unfolding WasShown
starts shown step begun start = inr (inr (ap halves_of begun, start))

-- a half-move that is shown but for pieces in hands
pub hands_shown : (shown : List (List Piece)) (step : Step) (picture : List Piece)
    → halves_of step.way ≡ 1 → Contains shown picture
    → IsHeld (as_shown step.is_turned picture) step.state → IsSeen shown step
unfolding WasShown
hands_shown shown step picture one seen held = inr (inl (one, (picture, seen, inl held)))

-- a half-move that is shown with a result by kings
pub ends_shown : (shown : List (List Piece)) (step : Step) (picture : List Piece)
    → halves_of step.way ≡ 1 → Contains shown picture
    → EndsShown (as_shown step.is_turned picture) step.state → IsSeen shown step
unfolding WasShown
ends_shown shown step picture one seen ends = inr (inl (one, (picture, seen, inr ends)))

-- what several half-moves led to was shown
pub arrived : (shown : List (List Piece)) (step : Step) → 2 ≤ halves_of step.way
    → IsSeen shown step → Contains shown (told_pieces (told_of step))
unfolding WasShown
arrived shown step some seen = search rules

-- each step at a place was seen
kept_seen : (shown : List (List Piece)) (steps : List Step) (line : List Told) (k : ℕ) (step :
    Step) → AreLast steps line → IsShown shown line → slice_get steps k ≡ Some step
    → IsSeen shown step
kept_seen shown [] line k step kept seen e = absurd (cc)
kept_seen shown (other ∷ steps) [] k step kept seen e = absurd kept
kept_seen shown (other ∷ steps) (told ∷ line) zero step kept seen e = search rules
kept_seen shown (other ∷ steps) (told ∷ line) (suc k) step kept seen e =
    kept_seen shown steps line k step kept.1 seen.1 e

pub seen_at : (shown : List (List Piece)) (line : List Told) (self : Memory) (place : Place) (step
    : Step) → Holds shown line self
    → step_at (steps self.line.items) (steps self.seen.items) place ≡ Some step → IsSeen shown step
seen_at shown line self (Place.Line k) step holds e = search (rules, kept_seen)
seen_at shown line self (Place.Seen k) step holds e = (holds.grows k step e).1
seen_at shown line self Place.Nowhere step holds e = absurd (cc)

-- a node that fits is so
pub reads : (shown : List (List Piece)) (self : Memory) (pieces : List Piece) (node : Node)
    → Contains shown pieces → Fits self pieces node → Reads shown self (Reading.New node)
reads shown self pieces node seen (link, same) = search (rules, was_shown)

pub same_told : (one other : Step) → one.is_turned ≡ other.is_turned
    → board one.state ≡ board other.state → told_pieces (told_of one) ≡ told_pieces (told_of other)
same_told one other turned same = search rules

-- a line begins with what is shown
pub begun : (shown : List (List Piece)) (self : Memory) (state : State) (turned : Bool) (pieces :
    List Piece) (node : Node) → node.step ≡ record {
      state = state;
      is_turned = turned;
      way = Way.Begun;
      parent = Place.Nowhere;
    } → board state ≡ as_shown turned pieces
    → Contains shown pieces → Reads shown self (Reading.New node)
begun shown self state turned pieces node e same seen =
    search (rules, begins, was_shown, turned_back)

-- some half-moves are as many half-moves
joined : (state new : State) (way : Way) → By state way new → Joins (halves_of way) state new
unfolding Joins
joined state new Way.Begun by = absurd by
joined state new (Way.Made one) by = (one ∷ [], refl, (new, by, refl))
joined state new (Way.Unseen moves) by = (moves_of moves, refl, by.0)
joined state new (Way.Gap count) by = by

links_gap : (before : Option Step) (step : Step) → step.way ≢ Way.Begun → Links before step
    → Links before (record {
      state = step.state;
      is_turned = step.is_turned;
      way = Way.Gap
          (halves_of step.way);
      parent = step.parent;
    })
unfolding Links
links_gap before step some h = elim h [
  | inl begun ↦ absurd (some begun)
  | inr found ↦ inr (found.0, found.1, found.2, joined found.0.state step.state step.way found.3)
]

-- the same step, with as many half-moves in no certain order
pub fits_gap : (line seen : List Step) (pieces : List Piece) (old new : Step) (count : ℕ)
    → count ≡ halves_of old.way → new ≡ record {
      state = old.state;
      is_turned = old.is_turned;
      way = Way.Gap count;
      parent = old.parent;
    } → (Links (step_at line seen old.parent) old
    × (told_pieces (told_of old) ≡ pieces)) × (old.way ≢ Way.Begun)
    → (Links (step_at line seen new.parent) new × (told_pieces (told_of new) ≡ pieces))
    × (new.way ≢ Way.Begun)
fits_gap line seen pieces old new count same e ((link, shown), some) = search (rules, links_gap)

-- a step that begins a line and was shown
pub is_root : (shown : List (List Piece)) (state : State) (turned : Bool) (pieces : List Piece)
    (step : Step) → step ≡ record {
      state = state;
      is_turned = turned;
      way = Way.Begun;
      parent = Place.Nowhere;
    } → board state ≡ as_shown turned pieces → Contains shown pieces
    → (step.way ≡ Way.Begun) × IsSeen shown step
is_root shown state turned pieces step e same seen = search (rules, was_shown, turned_back)

-- what begins a line follows anything
pub root_links : (shown : List (List Piece)) (before : Option Step) (root : Option Node)
    → IfSome root (λ node. IsRoot shown node) → IfSome root (λ node. Links before node.step
    × IsSeen shown node.step)
root_links shown before root h = search (rules, begins)

-- a game whose first half-moves weren't shown
pub started : (shown : List (List Piece)) (line seen : List Step) (start : State) (turned : Bool)
    (pieces : List Piece) (root step : Step)
    → root ≡ record { state = start; is_turned = turned; way = Way.Begun; parent = Place.Nowhere }
    → IsStart start → step.is_turned ≡ root.is_turned → By root.state step.way step.state
    → board step.state ≡ as_shown turned pieces → Contains shown pieces
    → Links (step_at line seen root.parent) root × IsSeen shown root × Links (Some root) step
    × IsSeen shown step
started shown line seen start turned pieces root step e is_start same by here is_shown =
    let begun : root.way ≡ Way.Begun = ap (λ (s : Step). s.way) e in
    let turns : step.is_turned ≡ turned = same ∙ ap (λ (s : Step). s.is_turned) e in (
      begins (step_at line seen root.parent) root begun,
      starts shown root begun (rw (ap (λ (s : Step). s.state) e) is_start),
      links (Some root) root step refl (sym same) by,
      search (rules, was_shown, turned_back),
    )
