use Rattle.dgt_script.{specs.{FaultyScript.{faulty_words}, Script.{plain_words}}, proofs.{FaultyMeaning.{faulty_kinds_ask, faulty_order}, MeaningLemmas.{kinds_ask, plain_order}}}
use Rattle.dgt_script.proofs.VocabularyLemmas.{kinds_are_asked_for}
use Rattle.dgt_script.proofs.laws.kinds_are_asked_for.Goals as goal

pub returns : goal.returns
returns c = record {
  plain = kinds_are_asked_for plain_words plain_order kinds_ask;
  faulty = kinds_are_asked_for faulty_words faulty_order faulty_kinds_ask;
}
