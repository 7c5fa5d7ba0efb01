-- What is held stays so, if steps stay as they are.
use Rattle.{std.proofs.Common.{rules, ◌≡◌, length, List, []}, dgt_values.specs.declared.pieces.Piece.{Piece}, dgt_game.specs.{declared.memory.Memory.{Memory}, Told.{Told}, Memory.{Grows, Holds}}}
use Rattle.dgt_game.specs.Memory.{IsRooted, steps}

same_steps : (shown : List (List Piece)) (line : List Told) (old new : Memory)
    → steps new.line.items ≡ steps old.line.items → steps new.seen.items ≡ steps old.seen.items
    → new.back ≡ old.back → new.unsaid ≡ old.unsaid → new.answer ≡ old.answer
    → Holds shown line old → Holds shown line new
same_steps shown line old new lines seen back unsaid answer h = record {
  shown_line = h.shown_line;
  kept = rw lines h.kept;
  back = rw (lines, back) h.back;
  unsaid = rw (lines, back, unsaid) h.unsaid;
  answer = rw (lines, back, unsaid, answer) h.answer;
  answered = rw (lines, back, unsaid, answer) h.answered;
  grows = rw (lines, seen) h.grows;
  rooted = rw (lines, seen) h.rooted;
  quiet = rw (seen, back, unsaid) h.quiet;
}

pub same_line : (shown : List (List Piece)) (line : List Told) (old new : Memory)
    → steps new.line.items ≡ steps old.line.items → new.seen ≡ old.seen → new.back ≡ old.back
    → new.unsaid ≡ old.unsaid → new.answer ≡ old.answer → Holds shown line old
    → Holds shown line new
same_line shown line old new lines seen back unsaid answer h = search (rules, same_steps)

pub same_seen : (shown : List (List Piece)) (line : List Told) (old new : Memory)
    → new.line ≡ old.line → steps new.seen.items ≡ steps old.seen.items → new.back ≡ old.back
    → new.unsaid ≡ old.unsaid → new.answer ≡ old.answer → Holds shown line old
    → Holds shown line new
same_seen shown line old new lines seen back unsaid answer h = search (rules, same_steps)

pub none_seen : (shown : List (List Piece)) (line : List Told) (old new : Memory)
    → new.line ≡ old.line → steps new.seen.items ≡ [] → new.back ≡ old.back
    → new.unsaid ≡ old.unsaid → new.answer ≡ old.answer → Holds shown line old
    → Holds shown line new
none_seen shown line old new lines seen back unsaid answer h = search rules

pub seen_new : (shown : List (List Piece)) (line : List Told) (old new : Memory)
    → new.line ≡ old.line → new.back ≡ old.back → new.unsaid ≡ old.unsaid
    → new.answer ≡ old.answer → old.back ≡ 0 → old.unsaid.items ≡ []
    → Grows shown (steps new.line.items) (steps new.seen.items)
    → IsRooted (length (steps new.line.items)) (steps new.seen.items) → Holds shown line old
    → Holds shown line new
seen_new shown line old new lines back unsaid answer none nothing grows rooted h = search rules
