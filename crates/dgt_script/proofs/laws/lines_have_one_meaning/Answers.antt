use Rattle.dgt_script.{specs.{FaultyScript.{faulty_words}, Script.{plain_words}}, proofs.{FaultyMeaning.{bad_with_faults, faulty_order, same_faulty_act}, MeaningLemmas.{plain_order, same_act}}}
use Rattle.dgt_script.proofs.VocabularyLemmas.{asked_not_bad, one_act, one_place}
use Rattle.dgt_script.proofs.laws.lines_have_one_meaning.Goals as goal

pub returns : goal.returns
returns c =
    let exact = c.reading_is_exact.ensures.message in
    let gives = c.encodings_give_commands.ensures in
    record {
      one_act = one_act plain_words plain_order (same_act exact gives);
      act_or_fault = asked_not_bad plain_words plain_order;
      one_place = one_place plain_words plain_order;
      one_faulty_act = one_act faulty_words faulty_order (same_faulty_act exact gives);
      faulty_act_or_fault = asked_not_bad faulty_words faulty_order;
      one_faulty_place = one_place faulty_words faulty_order;
      plain = λ line act. (λ h. h, λ h. h);
      plain_place = bad_with_faults;
    }
