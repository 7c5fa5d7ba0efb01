use Rattle.{std.{proofs.Common.{rules, refl, ℕ, zero, suc, [], ◌∷◌, replicate}, specs.List.{flat_map}}, dgt_link.specs.{Act.{ActContent}, Settling.{HasRounds, IsRound}}}
use Rattle.dgt_link.proofs.laws.bounds_in_numbers.Goals as goal

one_round : IsRound (ActContent.BoardSend ∷ ActContent.ToBoard 1 ∷ ActContent.ToHost 1 ∷ [])
one_round = search rules

all_rounds : (rounds : ℕ) → HasRounds rounds (flat_map (λ round. round) (replicate rounds
    (ActContent.BoardSend ∷ ActContent.ToBoard 1 ∷ ActContent.ToHost 1 ∷ [])))
all_rounds zero = tt
all_rounds (suc rounds) = (_, _, refl, one_round, all_rounds rounds)

pub returns-clause-rounds : goal.returns-clause-rounds
returns-clause-rounds c = all_rounds

pub returns-clause-steps : goal.returns-clause-steps
returns-clause-steps c = λ world capacity up backlog down. rw (capacity, up, backlog, down) refl

pub returns-clause-done : goal.returns-clause-done
returns-clause-done c = refl
