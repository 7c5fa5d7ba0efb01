use Rattle.std.{specs.Prelude.{slice_get}, proofs.{Common.{rules, arith, ◌≡◌, ◌∙◌, ◌<◌, true, false, inl, inr, sym, length, slice_index_or}, lemmas.Bool.{cases_lt}}}
use Rattle.dgt_game.{proofs.{Chains.{same_some}, Pictures.{at_least, not_shown, read_at, shown_at, shown_back, shown_within, shows_line}}, specs.{declared.node.Place.{Place}, Reading.{ShowsAt}}}
use Rattle.dgt_values.specs.Board.{pieces_of}
use Rattle.dgt_game.proofs.recogniser.Recogniser.earlier.Goals as goal

pub returns-then-is-clause-at : goal.returns-then-is-clause-at
returns-then-is-clause-at c =
    let line = c.args.self.now.memory.line.items in
    let node = c.index-deref-k.result in
    let other = c.index-deref-k-in-loop-k.result in
    let k = c.loop-k.k in
    let less : k < length line = grind arith in
    let first : node ≡ slice_index_or line k node = search rules in
    let second : other ≡ slice_index_or line k other = search rules in
    let at = read_at line k node less first in
    let same = same_some (slice_get line k) other node (read_at line k other less second) at in
    shows_line c.args.self.now.memory c.args.view.now k node at
    (shown_at (slice_index_or c.deref.result.now k node)
    (slice_index_or c.deref-in-loop-k.result.now k other) node
    (pieces_of c.args.view.now.shown) (sym c.index-deref-k.is)
    (sym c.index-deref-k-in-loop-k.is ∙ same) (c.is.ensures.0 c.if-is.true))

pub loop-k-preserved : goal.loop-k-preserved
loop-k-preserved c = λ j some less here.
    let self = c.args.self.now.memory in
    let view = c.args.view.now in
    let line = self.line.items in
    let node = c.index-deref-k.result in
    let other = c.index-deref-k-in-loop-k.result in
    let k = c.loop-k.k in
    let within : k < length line = grind arith in
    let first : node ≡ slice_index_or line k node = search rules in
    let second : other ≡ slice_index_or line k other = search rules in
    let at = read_at line k node within first in
    let same = same_some (slice_get line k) node other at (read_at line k other within second) in
    elim (cases_lt j k) [
      | inl before ↦ c.loop-k.invariant j some before here
      | inr after ↦
          let now : j ≡ k = omega (arith, less, after) in
          not_shown self view k node at (λ shown.
          let seen : c.is.result ≡ true = c.is.ensures.1 (shown_back
          (slice_index_or c.deref.result.now k node)
          (slice_index_or c.deref-in-loop-k.result.now k other) node (pieces_of view.shown)
          c.index-deref-k.is (same ∙ c.index-deref-k-in-loop-k.is) shown) in
          let unseen : c.is.result ≡ false = c.if-is.false in
          cc) (rw now at here)
    ]

pub returns-then-is-clause-reads : goal.returns-then-is-clause-reads
returns-then-is-clause-reads c = λ live (j, some, few, here).
    let least = at_least (λ j. ShowsAt c.args.self.now.memory c.args.view.now (Place.Line j))
    c.loop-k.k j c.loop-k.invariant some here in
    omega (arith, least, few)

pub returns-clause-reads : goal.returns-clause-reads
returns-clause-reads c = λ live (j, some, few, here).
    let size : c.len-k-end.result ≡ length c.args.self.now.memory.line.items = search rules in
    c.loop-k.invariant j some (omega (
      arith,
      size,
      c.loop-k-test.false,
      shown_within c.args.self.now.memory c.args.view.now j here,
    )) here

pub returns-then-is-clause-last : goal.returns-then-is-clause-last
returns-then-is-clause-last c = λ j live some here.
    at_least (λ j. ShowsAt c.args.self.now.memory c.args.view.now (Place.Line j)) c.loop-k.k j
    c.loop-k.invariant some here

pub returns-clause-last : goal.returns-clause-last
returns-clause-last c = λ j live some here.
    let size : c.len-k-end.result ≡ length c.args.self.now.memory.line.items = search rules in
    c.loop-k.invariant j some (omega (
      arith,
      size,
      c.loop-k-test.false,
      shown_within c.args.self.now.memory c.args.view.now j here,
    )) here
