use Rattle.{std.{proofs.{Common.{rules, arith, ◌≡◌, ◌<◌, Some, length, refl}, lemmas.Option.{slice_get_read}}, specs.Prelude.{slice_get}}, dgt_game.proofs.Pictures.{shows_line}}
use Rattle.dgt_game.proofs.recogniser.Recogniser.read_line.Goals as goal

pub returns-then-not-may_begin-clause-at : goal.returns-then-not-may_begin-clause-at
returns-then-not-may_begin-clause-at c =
    let look = c.in_ok-last.ensures.lookup in
    let line = c.deref.result.now in
    let last = c.in_ok-last.last.now in
    let at : slice_get c.args.self.now.memory.line.items 0 ≡ Some last =
    rw c.deref.ensures.0 at (slice_get_read line (length line) 0 last refl look.3.0 look.1) in
    shows_line c.args.self.now.memory c.args.view.now 0 last at (c.is.ensures.0 c.if-is.true)

pub returns-then-branch-clause-quick : goal.returns-then-branch-clause-quick
returns-then-branch-clause-quick c = λ k three is.
    let look = c.in_ok-get.ensures.lookup in
    let line = c.deref-in-loop-at.result.now in
    let node = c.in_ok-get.field-0.now in
    let here = c.loop-at.at in
    let same : c.in_ok-k.k ≡ k = search (rules, is) in
    let less : here < k = omega (arith, c.loop-at-test.true, same) in
    let at : slice_get c.args.self.now.memory.line.items here ≡ Some node =
    rw c.deref-in-loop-at.ensures.0 at (slice_get_read line (length line) here node refl look.3.0
    look.1) in
    (here, less, rw at c.if-branch.true)
