use Rattle.{std.specs.Prelude.{Ok}, dgt_values.{specs.{Board.{pieces_of}, Placement.{placement_text}}, proofs.{Outcomes.{one_outcome}, Written.{written_placement}}}}
use Rattle.dgt_values.proofs.laws.written_text_reads_back.Goals as goal

pub returns : goal.returns
returns c = λ position read parsed.
    one_outcome (placement_text (pieces_of position)) read (Ok position) parsed
    (written_placement (pieces_of position) position.all)
