use Rattle.dgt_values.{specs.Placement.{placement_text}, proofs.{Apart.{apart_digits}, Written.{written_apart}}}
use Rattle.dgt_values.proofs.laws.written_digits_stand_apart.Goals as goal

pub returns : goal.returns
returns c = λ pieces. apart_digits (placement_text pieces) (written_apart pieces)
