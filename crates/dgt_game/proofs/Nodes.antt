-- Nodes, and their steps.
use Rattle.std.{proofs.{Common.{rules, arith, ◌≡◌, ℕ, length, List, slice_set, slice_index_or}, Math.Seq.{map-set_same}, lemmas.List.{places}}, specs.List.{refill}}
use Rattle.{std.proofs.lemmas.List.{same_lists}, dgt_game.specs.{declared.node.Node.{Node}, Memory.{steps}, Reading.{origins}}}

pub same_steps : (old : List Node) (k : ℕ) (new other : Node)
    → new.step ≡ (slice_index_or old k other).step → steps (slice_set old k new) ≡ steps old
same_steps old k new other e = map-set_same (λ (n : Node). n.step) old k new other e

refill_same : (xs ws : List Node) → length ws ≡ length xs → refill (length xs) xs ws ≡ ws
refill_same xs ws same = same_lists _ _ (search (rules, places)) (λ k d h. grind (arith, places))

-- a node changes in what is no part of its step
pub same_written : (old read written : List Node) (k : ℕ) (new other : Node) → read ≡ old
    → written ≡ old → other ≡ slice_index_or read k other → new.step ≡ other.step
    → steps (refill (length old) old (slice_set written k new)) ≡ steps old
same_written old read written k new other reads writes at e =
    search (rules, same_steps, refill_same)

-- where its path begins stays so too
pub origins_written : (old read written : List Node) (k : ℕ) (new other : Node) → read ≡ old
    → written ≡ old → other ≡ slice_index_or read k other → new.origin ≡ other.origin
    → origins (refill (length old) old (slice_set written k new)) ≡ origins old
origins_written old read written k new other reads writes at e =
    search (rules, map-set_same, refill_same)
