use Rattle.std.proofs.Common.{inl, inr, refl}
use Rattle.dgt_ask.proofs.laws.names_ask.Goals as goal

pub returns-clause-modes : goal.returns-clause-modes
returns-clause-modes c = (inl refl, inl refl, inl refl, inl refl)

pub returns-clause-requests : goal.returns-clause-requests
returns-clause-requests c = (inl refl, inl refl, inl refl, inl refl, inl refl, inl refl, inl refl)

pub returns-clause-clock : goal.returns-clause-clock
returns-clause-clock c =
    (inl (inl (refl, refl)), inl (inr (inl (refl, refl))), inl (inr (inr (refl, refl))))
