use Rattle.{std.proofs.Common.{◌<◌, ℕ, List, ◌∷◌, [], ap, arith, get_or, length, refl, zero, suc}, dgt_ask.specs.Asks.{AskInOrder, AsksBytes}}
use Rattle.dgt_ask.proofs.laws.words_ask_in_order.Goals as goal

each_asks : (word asked : List ℕ) (words others : List (List ℕ)) → AsksBytes word asked
    → AskInOrder words others → (i : ℕ) → i < length (word ∷ words)
    → AsksBytes (get_or (word ∷ words) i []) (get_or (asked ∷ others) i [])
each_asks word asked words others asks order zero small = asks
each_asks word asked words others asks order (suc i) small = order.each i (omega (arith, small))

pub returns-clause-none : goal.returns-clause-none
returns-clause-none c = record { all = refl; each = λ i small. absurd (omega (arith, small)) }

pub returns-clause-more : goal.returns-clause-more
returns-clause-more c word asked words others asks order =
    record { all = ap suc order.all; each = each_asks word asked words others asks order }
