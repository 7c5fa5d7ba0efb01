use Rattle.{std.proofs.Common.{refl, arith, Some}, dgt_message.specs.Content.Content.{dump}, dgt_host.{specs.Confirmed.{Faulty}, proofs.ConfirmedLemmas.{confirmed_was}}}
use Rattle.dgt_host.proofs.laws.a_faulty_dump_confirms.Goals as goal

pub returns : goal.returns
returns c = λ reported pieces shown earlier later meant right again leave none.
    confirmed_was reported pieces shown earlier later (Faulty meant (Some (dump pieces)))
    right refl again leave (rw none (omega arith))
