-- The bytes that a board has taken.
use Rattle.{std.proofs.Common.{◌≡◌, refl, ℕ, List, [], ◌∷◌, ◌++◌, Some, append-nil, append_assoc, rules}, dgt_command.specs.{Content.{EventContent}, Laws.{DivisionsAppend}, Words.{IsPartial}}}
use Rattle.{dgt_command.specs.Words.{IsWord}, dgt_board.specs.{State.{BoardState, effect, effects}, View.{BoardView, HasTaken, after_bytes}}}

-- bytes that complete a frame are taken
pub takes_word : IsPartial [] → (before after : BoardView) (bytes : List ℕ) (event : EventContent)
    → IsWord event (before.partial ++ bytes) → after.state ≡ effect before.state event
    → after.partial ≡ []
    → (after ≡ after_bytes before bytes (Some event)) × HasTaken before bytes after
takes_word nothing before after bytes event word state rest = (
  rw (← state, ← rest) refl,
  record { events = event ∷ []; divided = search (rules, append-nil); state = state },
)

-- the effects of a whole list are those of its parts in order
effects-append : (board : BoardState) (events more : List EventContent)
    → effects board (events ++ more) ≡ effects (effects board events) more
effects-append board [] more = refl
effects-append board (event ∷ events) more = effects-append (effect board event) events more

-- taking in parts is taking together
pub takes_on : DivisionsAppend → (before between after : BoardView) (bytes more : List ℕ)
    → HasTaken before bytes between → HasTaken between more after
    → HasTaken before (bytes ++ more) after
takes_on append before between after bytes more first next = record {
  events = first.events ++ next.events;
  divided = search (rules, append_assoc);
  state = search (rules, effects-append);
}
