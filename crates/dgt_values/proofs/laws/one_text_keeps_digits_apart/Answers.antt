use Rattle.dgt_values.proofs.{Apart.{digits_apart}, Written.{only_placement}}
use Rattle.dgt_values.proofs.laws.one_text_keeps_digits_apart.Goals as goal

pub returns : goal.returns
returns c =
    λ text pieces placement apart. only_placement text pieces placement (digits_apart text apart)
