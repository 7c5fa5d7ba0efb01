use Rattle.std.proofs.Common.{◌≡◌, ◌≤◌, ◌<◌, ◌+◌, length, List, Option, None}
use Rattle.dgt_values.specs.declared.pieces.Piece.{Piece}
use Rattle.dgt_game.specs.Told.{Told}
use Rattle.dgt_game.specs.declared.event.Event.{Event}
use Rattle.dgt_game.specs.declared.recogniser.Recogniser.{Recogniser}
use Rattle.dgt_game.specs.Finding.{FindsLater, IsFound}
use Rattle.dgt_game.specs.Planning.{IsLostOr, IsPlanned, WhyHopeless, todo}
use Rattle.dgt_game.specs.Recogniser.{Knows}
use Rattle.dgt_game.specs.Settling.{StaysShown}
use Rattle.dgt_game.specs.Standing.{Stands}
use Rattle.dgt_game.specs.Sure.{StaysSure}
use Rattle.dgt_game.specs.Timing.{Due, next_time}
use Rattle.dgt_game.specs.Waiting.{Follows, Waits}
use Rattle.dgt_game.proofs.recogniser.Recogniser.due.Given as goal

abbrev pub invariant-loop-done : goal.invariant-loop-done
invariant-loop-done l = record {
  knows : (shown : List (List Piece)) (line : List Told) → Knows shown line l.fn.self
      → Knows shown line l.self;
  waits : Waits l.fn.self → Waits l.self × Follows l.fn.self None l.self;
  due : (report : Option Event) (new : Recogniser) → Due l.fn.now l.self report new
      → Due l.fn.now l.fn.self report new;
  last : l.done ≡ 3 → next_time l.self ≡ None;
  planned : IsPlanned l.fn.self → IsPlanned l.self × (todo l.self + l.done ≤ 3);
  shown : StaysShown l.fn.self l.self;
  lost : IsLostOr l.fn.self → IsLostOr l.self;
  found : length l.fn.self.memory.seen.items < 23 → IsPlanned l.fn.self → IsLostOr l.fn.self
      → IsFound l.fn.self → FindsLater l.self;
  hopeless : WhyHopeless l.fn.self → WhyHopeless l.self;
  stands : (shown : List (List Piece)) (line : List Told) → Knows shown line l.fn.self
      → IsPlanned l.fn.self → Stands l.fn.self → Stands l.self;
  sure : (shown : List (List Piece)) (line : List Told) → Knows shown line l.fn.self
      → IsPlanned l.fn.self → Stands l.fn.self → StaysSure l.fn.self l.self;
}
