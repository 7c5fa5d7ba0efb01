use Rattle.dgt_game.{proofs.{Chains.{same_some}, Planning.{LacksOf, lacks_back, lacks_last, lacks_none, lacks_not}}, specs.{declared.node.{Node.{Node}, Step.{Step}}, Memory.{steps}}}
use Rattle.{dgt_game.proofs.Planning.{lacks_seen, node_of, step_got}, std.proofs.Common.{rules, arith, ◌≡◌}}
use Rattle.std.proofs.{Common.{Some, below_more, length, slice_get, slice_index_or, refl, sym, subst}, lemmas.Option.{slice_get_within}}
use Rattle.dgt_game.specs.Planning.{IsLifted}
use Rattle.dgt_game.proofs.recogniser.Recogniser.is_lifted.Goals.{then-is_line_lifted-via-then-is_line_lifted, then-is_line_lifted-via-else-is_line_lifted+then-is_line_lifted-2}
use Rattle.dgt_game.proofs.recogniser.Recogniser.is_lifted.Goals as goal

pub returns-in_default : goal.returns-in_default
returns-in_default c = (
  λ no. absurd (cc),
  λ h. absurd (lacks_none c.args.self.now.view c.args.self.now.memory
      c.args.self.now.returned.count (search rules) h),
)

pub returns-then-lacks_some : goal.returns-then-lacks_some
returns-then-lacks_some c =
    let self = c.args.self.now in
    let view = c.in-Some.view in
    let seen = self.memory.seen.items in
    let node = c.index-deref-k.result in
    let k = c.loop-k.k in
    let at = step_got seen seen k node refl (grind arith) (search rules) in
    let found = slice_index_or c.deref.result.now k node in
    let lacks = subst (λ (n : Node). LacksOf view n.step) (sym c.index-deref-k.is)
    (rw c.from.ensures at (c.lacks_some.ensures.0 c.if-lacks_some.true)) in (
      λ yes. lacks_seen self.view view self.memory self.returned.count k node.step c.in-Some.is at
          lacks,
      λ h. refl,
    )

pub loop-k-preserved : goal.loop-k-preserved
loop-k-preserved c =
    let view = c.in-Some.view in
    let seen = c.args.self.now.memory.seen.items in
    let node = c.index-deref-k.result in
    let k = c.loop-k.k in
    let at = step_got seen seen k node refl (grind arith) (search rules) in
    let found = slice_index_or c.deref.result.now k node in
    let both = rw c.from.ensures at c.lacks_some.ensures.1 in
    below_more (λ n. (step : Step) → slice_get (steps seen) n ≡ Some step
    → ¬ (LacksOf view step)) k c.loop-k.invariant (λ step e lacks.
    let same = same_some (slice_get (steps seen) k) step node.step e at in
    let wrong = both (subst (λ (n : Node). LacksOf view n.step) c.index-deref-k.is
    (subst (LacksOf view) same lacks)) in
    absurd (cc))

pub returns-then-is_line_lifted : goal.returns-then-is_line_lifted
returns-then-is_line_lifted c =
    let self = c.args.self.now in
    let back = self.returned.count in
    let view = c.in-Some.view in
    let lifted : IsLifted self = elim c.then-is_line_lifted.branch [
      | then-is_line_lifted-via-then-is_line_lifted w ↦ lacks_last self.view view self.memory back
          c.in-Some.is (c.is_line_lifted.ensures.0 w.if-is_line_lifted.true)
      | then-is_line_lifted-via-else-is_line_lifted+then-is_line_lifted-2 w ↦
          lacks_back self.view view self.memory back c.in-Some.is
          (w.is_line_lifted-else-is_line_lifted.ensures.0 w.if-is_line_lifted-2.true)
    ] in (λ yes. lifted, λ h. refl)

pub returns : goal.returns
returns c =
    let self = c.args.self.now in
    let view = c.in-Some.view in
    let seen = self.memory.seen.items in
    let size : c.len-k-end.result ≡ length seen = search rules in (
      λ no. absurd (cc),
      λ h. absurd (lacks_not self.view view self.memory self.returned.count c.in-Some.is
          (λ lacks. let wrong = c.is_line_lifted.ensures.1 lacks in absurd (cc))
          (λ lacks.
          let wrong = c.is_line_lifted-else-is_line_lifted.ensures.1 lacks in absurd (cc))
          (λ k step e.
          let (node, got, same) = node_of seen k step e in
          let less = slice_get_within seen k node got in
          c.loop-k.invariant k (omega (arith, less, size, c.loop-k-test.false)) step e) h),
    )
