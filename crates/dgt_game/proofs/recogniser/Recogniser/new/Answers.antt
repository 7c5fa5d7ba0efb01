use Rattle.{std.proofs.Common.{◌∙◌, ap}, dgt_game.{specs.{declared.{memory.Memory.{Memory}, node.Returned.{Returned}}, Recogniser.{new_recogniser}}, proofs.Standing.{returned_same}}}
use Rattle.dgt_game.proofs.recogniser.Recogniser.new.Goals as goal

pub returns : goal.returns
returns c =
    ap (λ (r : Returned). record new_recogniser { memory = c.new.result; returned = r })
    (returned_same 0 _ _)
    ∙ ap (λ (m : Memory). record new_recogniser { memory = m }) c.new.ensures.is
