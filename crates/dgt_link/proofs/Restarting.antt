-- A restart is done exactly if its bytes fit, and a dump request if it has room and few replies are
-- awaited.
use Rattle.{std.{proofs.Common.{◌≡◌, ◌+◌, ◌≤◌, List, [], ◌∷◌, length, ◌<◌, rules}, specs.Prelude.{◌↔◌}}, dgt_command.specs.Content.{CommandContent}, dgt_link.specs.Faults.{FaultyContent, FaultyRuns}}
use Rattle.dgt_link.specs.{Faults.{FaultyStep, sends}, View.{WorldView}, declared.acts.Outcome.{Outcome}}

pub restart_runs : (later : List FaultyContent) (world after : WorldView) (answers : List Outcome)
    → length world.down.bytes + 257 ≤ world.down.capacity
    → FaultyRuns (FaultyContent.Restart ∷ later) world answers after
    → (begun : WorldView) × (others : List Outcome) × FaultyStep FaultyContent.Restart world
    Outcome.Done begun × FaultyRuns later begun others after
restart_runs later world after answers room none = search rules

pub restart_done : (world after : WorldView) (answer : Outcome)
    → FaultyStep FaultyContent.Restart world answer after
    → (answer ≡ Outcome.Done) ↔ (length world.down.bytes + 257 ≤ world.down.capacity)
restart_done world after answer step = search rules

-- ---- a host that gives up what it awaits

pub gives_up : (world after : WorldView) (answer : Outcome)
    → FaultyStep FaultyContent.GiveUp world answer after
    → (answer ≡ Outcome.Done) × (after.host.awaited ≡ [])
gives_up world after answer step = search rules

pub dump_is_done : (world after : WorldView) (answer : Outcome) → length world.host.awaited < 16
    → length world.down.bytes < world.down.capacity
    → FaultyStep (sends CommandContent.Dump) world answer after → answer ≡ Outcome.Done
dump_is_done world after answer few room step = search rules
