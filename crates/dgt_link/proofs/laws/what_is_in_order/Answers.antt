use Rattle.std.proofs.Common.{refl, inl, inr, rules}
use Rattle.dgt_link.proofs.laws.what_is_in_order.Goals as goal

pub returns-clause-seen : goal.returns-clause-seen
returns-clause-seen c = inr (inl (refl, inl (refl, inr (inl (refl, tt)))))

pub returns-clause-shown : goal.returns-clause-shown
returns-clause-shown c = λ world pieces square known. rw known refl

pub returns-clause-stood : goal.returns-clause-stood
returns-clause-stood c = λ world square. refl

pub returns-clause-turned : goal.returns-clause-turned
returns-clause-turned c = search rules
