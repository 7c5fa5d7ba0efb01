use Rattle.{std.proofs.Common.{◌≡◌, ◌++◌, List, ℕ, map}, dgt_ask.specs.{Asking.{Awaits}, Asks.{AskInOrder}}}
use Rattle.dgt_ask.proofs.asking.asked_bytes.Given as goal

abbrev pub invariant-loop-word : goal.invariant-loop-word
invariant-loop-word l =
    (before rest asked : List (List ℕ)) → map (λ word. word.now) l.words ≡ before ++ rest →
    AskInOrder before asked → Awaits before rest asked l.word-index l.awaited l.bytes.items
