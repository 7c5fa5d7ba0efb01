use Rattle.{std.proofs.{Common.{rules, [], ◌∙◌, arith, refl, sym}, lemmas.List.{append-nil, length-map}}, dgt_ask.proofs.AskLemmas.{all_read, asks_at, at_end, ends_before, inside_line}}
use Rattle.dgt_ask.proofs.AskLemmas.{next_awaited, refused, refused_or, stopped, word_at}
use Rattle.dgt_ask.proofs.asking.asked_bytes.Goals as goal

pub returns-in_err-awaited-clause-asked : goal.returns-in_err-awaited-clause-asked
returns-in_err-awaited-clause-asked c = λ asked order.
    let now = c.loop-word.invariant _ [] asked (rw append-nil refl) order in
    refused _ c.from_residual.result _ c.from_residual.ensures.1
    (c.in_err-awaited.ensures.asked _
    (now.name (rw length-map (omega (arith, c.loop-word-test.true)))).0
    (asks_at _ asked _ order c.loop-word-test.true))

pub returns-in_err-awaited-clause-missing : goal.returns-in_err-awaited-clause-missing
returns-in_err-awaited-clause-missing c = λ before rest asked word line order lacks.
    let now = c.loop-word.invariant before rest asked line order in
    let ensured = c.in_err-awaited.ensures in
    refused_or word c.from_residual.result _ c.from_residual.ensures.1
    (stopped before rest asked word _ _ _ _ _ (word_at _ _ _ line c.loop-word-test.true)
    (inside_line _ _ _ line c.loop-word-test.true) order now lacks ensured.asked
    (λ each name same. (ensured.operand each name same).0)
    (λ awaits other. (ensured.id awaits other).0))

pub loop-word-preserved : goal.loop-word-preserved
loop-word-preserved c = λ before rest asked line order.
    let ensured = c.in_ok-awaited.ensures in
    next_awaited before rest asked _ _ _ _ _ _ (word_at _ _ _ line c.loop-word-test.true) order
    (c.loop-word.invariant before rest asked line order) ensured.asked
    (λ each name same. (ensured.operand each name same).0)
    (λ awaits other. let held = (ensured.id awaits other).0 in search rules)

pub returns-in-Name-clause-asked : goal.returns-in-Name-clause-asked
returns-in-Name-clause-asked c = λ asked order.
    (all_read _ asked _ _ _ order (c.loop-word.invariant _ [] asked (rw append-nil refl) order)
    (at_end _ _ _ refl (omega (arith, c.loop-word-test.false, c.loop-word.auto.word-index-end)))).1

pub returns-in-Name-clause-missing : goal.returns-in-Name-clause-missing
returns-in-Name-clause-missing c = λ before rest asked word line order lacks.
    let missing = ends_before before rest asked word _ _ _
    (c.loop-word.invariant before rest asked line order) lacks
    (at_end _ _ _ line (omega (arith, c.loop-word-test.false, c.loop-word.auto.word-index-end))) in
    let is = c.in-Name.is in absurd (search rules)

pub returns-in-Detail-clause-asked : goal.returns-in-Detail-clause-asked
returns-in-Detail-clause-asked c = λ asked order.
    let read =
    all_read _ asked _ _ _ order (c.loop-word.invariant _ [] asked (rw append-nil refl) order)
    (at_end _ _ _ refl (omega (arith, c.loop-word-test.false, c.loop-word.auto.word-index-end))) in
    let other = sym read.0 ∙ c.in-Detail.is in absurd cc

pub returns-in-Detail-clause-missing : goal.returns-in-Detail-clause-missing
returns-in-Detail-clause-missing c = λ before rest asked word line order lacks.
    let missing = ends_before before rest asked word _ _ _
    (c.loop-word.invariant before rest asked line order) lacks
    (at_end _ _ _ line (omega (arith, c.loop-word-test.false, c.loop-word.auto.word-index-end))) in
    let is = c.in-Detail.is in search rules

pub returns-clause-asked : goal.returns-clause-asked
returns-clause-asked c = λ asked order.
    let read =
    all_read _ asked _ _ _ order (c.loop-word.invariant _ [] asked (rw append-nil refl) order)
    (at_end _ _ _ refl (omega (arith, c.loop-word-test.false, c.loop-word.auto.word-index-end))) in
    let other = sym read.0 ∙ c.in-Bytes.is in absurd cc

pub returns-clause-missing : goal.returns-clause-missing
returns-clause-missing c = λ before rest asked word line order lacks.
    let missing = ends_before before rest asked word _ _ _
    (c.loop-word.invariant before rest asked line order) lacks
    (at_end _ _ _ line (omega (arith, c.loop-word-test.false, c.loop-word.auto.word-index-end))) in
    let is = c.in-Bytes.is in search rules
