use Rattle.{std.proofs.{Common.{arith, ◌≡◌, inl, inr}, lemmas.Bool.{cases_lt}}, dgt_values.specs.Board.{pieces_of}, dgt_game.specs.Finding.{MayJump}}
use Rattle.dgt_game.proofs.recogniser.Recogniser.deep.Goals as goal

pub loop-halves-preserved : goal.loop-halves-preserved
loop-halves-preserved c =
    let halves = c.loop-halves.halves in
    let pieces = pieces_of c.args.view.now.shown in (
      c.or_unordered-other.ensures.linked pieces c.loop-halves.invariant.0
          c.deep_by-found.ensures.linked,
      λ count live behind some less line. elim (cases_lt count halves) [
        | inl before ↦ c.or_unordered-other.ensures.first
            (c.loop-halves.invariant.1 count live behind some before line)
        | inr after ↦
            let now : count ≡ halves = omega (arith, less, after) in
            c.or_unordered-other.ensures.second (c.deep_by-found.ensures.reads live behind
            (omega (arith, some, now)) (omega (arith, c.loop-halves-test.true)) (rw now at line))
      ],
      c.or_unordered-other.ensures.room c.loop-halves.invariant.2 c.deep_by-found.ensures.room,
    )

pub returns-clause-reads : goal.returns-clause-reads
returns-clause-reads c = λ same live searched (count, some, few, line).
    let may : MayJump c.args.self.now (pieces_of c.args.view.now.shown) = elim searched [
      | inl doubt ↦ inl doubt.0
      | inr both ↦ inr both.0
    ] in
    c.loop-halves.invariant.1 count live may some (omega (arith, few, c.loop-halves-test.false))
    line
