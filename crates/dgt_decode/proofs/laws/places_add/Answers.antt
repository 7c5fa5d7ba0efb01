use Rattle.dgt_decode.proofs.Places.{shifted-append, shifted-shifted, shifted-zero}
use Rattle.dgt_decode.proofs.laws.places_add.Goals as goal

pub returns : goal.returns
returns c = record { none = shifted-zero; twice = shifted-shifted; in_a_row = shifted-append }
