use Rattle.{std.{proofs.Common.{[], inl, inr, refl, rules}, specs.Prelude.{codes}}, hex.specs.Hex.{decode_pairs}, dgt_command.specs.Content.{Dump}}
use Rattle.dgt_ask.proofs.laws.bytes_are_asked.Goals as goal

pub returns-clause-command : goal.returns-clause-command
returns-clause-command c = λ word command asks. inl (command, asks, refl)

pub returns-clause-follow : goal.returns-clause-follow
returns-clause-follow c = inr (inl (inl (refl, refl)))

pub returns-clause-restart : goal.returns-clause-restart
returns-clause-restart c = inr (inl (inr (inl (refl, refl))))

pub returns-clause-log : goal.returns-clause-log
returns-clause-log c = inr (inl (inr (inr (refl, refl))))

pub returns-clause-stray : goal.returns-clause-stray
unfolding decode_pairs
returns-clause-stray c =
    inr (inr (codes "4f", 0x4f, refl, (refl, λ command rest e. search rules), refl))

pub returns-clause-no_stray : goal.returns-clause-no_stray
unfolding decode_pairs
returns-clause-no_stray c =
    (λ byte stray. stray.1 Dump [] (rw stray.0 refl), λ byte stray. absurd stray.0)
