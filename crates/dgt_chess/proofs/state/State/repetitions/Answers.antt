use Rattle.{std.proofs.{Common.{rules, ◌≡◌, ℕ, ◌+◌, ◌<◌, ◌≤◌, List, length, get_or, drop, sym, subst, refl, arith}, lemmas.List.{drop_all, drop_more}}, dgt_chess.specs.declared.state.State.{State}}
use Rattle.dgt_chess.specs.Draws.{Counts, Repeats}
use Rattle.dgt_chess.proofs.state.State.repetitions.Goals as goal

at_most_one : (one state : State) (n : ℕ) → Counts one state n → n ≤ 1
at_most_one one state n counts = search rules

next : (history : List State) (one state : State) (i n m : ℕ) → i < length history
    → one ≡ get_or history i one → Counts one state n → Repeats (drop (i + 1) history) state m
    → Repeats (drop i history) state (n + m)
next history one state i n m within here counts more = search (rules, drop_more)

pub loop-one-preserved : goal.loop-one-preserved
loop-one-preserved c =
    let n = c.repeats-count.result in
    let few = c.loop-one.invariant.few in
    let one = at_most_one _ _ _ c.repeats-count.ensures in
    record {
      few = omega arith;
      rest = λ m more.
          let P : ℕ → Type 0 = λ k. Repeats c.args.history.now c.args.self.now k in
          let sums : c.loop-one.count + (n + m) ≡ c.loop-one.count + n + m = omega arith in
          subst P sums (c.loop-one.invariant.rest (n + m)
          (next c.args.history.now c.one-item.result c.args.self.now c.loop-one.one-index n m
          c.loop-one-test.true c.one-item.is
          c.repeats-count.ensures more));
    }

pub returns : goal.returns
returns c =
    let L : List State → Type 0 = λ l. Repeats l c.args.self.now 0 in
    let P : ℕ → Type 0 = λ k. Repeats c.args.history.now c.args.self.now k in
    let sums : c.loop-one.count + 0 ≡ c.loop-one.count = omega arith in
    let ended = drop_all c.loop-one.one-index c.args.history.now c.loop-one-test.false in
    subst P sums (c.loop-one.invariant.rest 0 (subst L (sym ended) refl))
