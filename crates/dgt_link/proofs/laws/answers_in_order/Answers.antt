use Rattle.dgt_link.proofs.Answering.{first_answer, never_unasked}
use Rattle.dgt_link.proofs.laws.answers_in_order.Goals as goal

pub returns : goal.returns
returns c = record {
  first = first_answer;
  asked = never_unasked;
}
