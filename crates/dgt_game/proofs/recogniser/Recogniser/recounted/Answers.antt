use Rattle.{std.{proofs.{Common.{◌≡◌, ◌≤◌, ℕ, arith}, lemmas.Option.{MatchOption-at_some}}, specs.Prelude.{⊤}}, dgt_game.{specs.Memory.{Reads, halves_of}, proofs.Links.{arrived, seen_at}}}
use Rattle.dgt_game.proofs.recogniser.Recogniser.recounted.Goals as goal

some_halves : (halves count : ℕ) → count ≡ halves → 2 ≤ count → 2 ≤ halves
some_halves halves count same some = omega (arith, same, some)

pub returns-in-Some-clause-linked : goal.returns-in-Some-clause-linked
returns-in-Some-clause-linked c = λ shown line holds seen.
    let self = c.args.self.now.memory in
    let node = c.in_ok-node.node.step in
    MatchOption-at_some ⊤ (λ reading. Reads shown self reading) c.in-Some.reading c.in-Some.is
    (c.recounted_by.ensures.linked shown (arrived shown node
    (some_halves (halves_of node.way) c.halves.result c.halves.ensures c.if-halves-lt2.false)
    (seen_at shown line self c.args.place node holds c.in_ok-node.ensures)) seen)
