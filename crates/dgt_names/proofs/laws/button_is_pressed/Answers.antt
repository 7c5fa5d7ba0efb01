use Rattle.{std.proofs.Common.{refl}, dgt_names.specs.declared.clock.Button.{Button}}
use Rattle.dgt_names.proofs.laws.button_is_pressed.Goals as goal

pub returns : goal.returns
returns c = λ h. h.1.1 Button.Back refl
