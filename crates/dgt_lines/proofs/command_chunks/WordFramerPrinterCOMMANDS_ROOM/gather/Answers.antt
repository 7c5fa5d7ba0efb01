use Rattle.{std.proofs.Common.{ℕ, [], Err, refl}, dgt_lines.proofs.{ChunkLemmas.{gathers_none, gathers_refused, gathers_some}, GatherLemmas.{gathered_pushed, gathers_first}, LineLemmas.{line_waits}}}
use Rattle.dgt_lines.proofs.Listed.{listed_event, listed_part}
use Rattle.dgt_lines.proofs.command_chunks.WordFramerPrinterCOMMANDS_ROOM.gather.Goals as goal

pub returns-in_err-make_room-clause-output : goal.returns-in_err-make_room-clause-output
returns-in_err-make_room-clause-output g c = λ first bytes text printed counted.
    gathers_refused bytes _ text c.advance-advanced.result.used _
    (listed_event printed _ _ _ _ c.advance-advanced.ensures.within counted
    c.parts_of_words.ensures.nothing
    (rw c.in-Some.is at c.advance-advanced.ensures.first) _
    (rw c.in-Some.is at c.advance-advanced.ensures.held)) _ _ c.from_residual.ensures.1
    (gathers_first _ {A = ℕ} _ [] _ _ [] _ _ (Err _) _ refl refl c.in_err-make_room.ensures.output)

pub returns-in_ok-make_room-clause-output : goal.returns-in_ok-make_room-clause-output
returns-in_ok-make_room-clause-output g c = λ first bytes text printed counted.
    let line = rw (rw c.unwrap.ensures at c.event.ensures).1 at c.push_line.ensures in
    gathers_some bytes _ text c.advance-advanced.result.used _
    (listed_event printed _ _ _ _ c.advance-advanced.ensures.within counted
    c.parts_of_words.ensures.nothing
    (rw c.in-Some.is at c.advance-advanced.ensures.first) _
    (rw c.in-Some.is at c.advance-advanced.ensures.held))
    (gathered_pushed _ _ _ _ _ _ _ c.in_ok-make_room.ensures.output line)
    (λ _. line_waits _ _ _ _ _ line)

pub returns-in_default-clause-output : goal.returns-in_default-clause-output
returns-in_default-clause-output g c = λ first bytes text printed counted.
    gathers_none bytes _ text c.advance-advanced.result.used
    (listed_part printed _ _ (rw c.in_default.is at c.advance-advanced.ensures.held)
    c.advance-advanced.ensures.unfinished)
