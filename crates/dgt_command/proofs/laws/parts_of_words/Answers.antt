use Rattle.dgt_command.proofs.DivisionLemmas.{nothing_is_partial, no_word_within, partial_bytes, partial_left}
use Rattle.dgt_command.proofs.laws.parts_of_words.Goals as goal

pub returns : goal.returns
returns c = record {
  nothing = nothing_is_partial;
  no_word = no_word_within;
  bytes = partial_bytes;
  left = partial_left;
}
