use Rattle.std.{proofs.{Common.{rules, arith, ◌≡◌, ◌-◌, ◌<◌, Bool, Some, length, slice_index_or, refl, subst}, lemmas.Option.{slice_get_read}}, specs.Prelude.{slice_get}}
use Rattle.{dgt_values.specs.Board.{pieces_of}, dgt_game.{specs.{Results.{KingsMean}, Told.{as_shown}}, proofs.Chains.{get_step}}}
use Rattle.dgt_game.proofs.recogniser.Recogniser.kings_result.Goals as goal

pub returns-then-stands-clause-is : goal.returns-then-stands-clause-is
returns-then-stands-clause-is c =
    let seen = c.args.self.now.memory.seen.items in
    let node = c.index-deref-len.result in
    let result = c.in_ok-result.result in
    let k = c.len-len.result - 1 - c.loop-at.at in
    let pieces = pieces_of c.args.view.now.shown in
    let less : k < length seen = grind arith in
    let read : node ≡ slice_index_or seen k node = search rules in
    let at : slice_get seen k ≡ Some node =
    slice_get_read seen (length seen) k node refl less read in
    let turned : c.in_ok-last.last.now.step.is_turned ≡ node.step.is_turned = search rules in
    let means = c.in_ok-result.ensures.mean (pieces_of c.from-shown.result.now)
    c.in_ok-white.ensures c.in_ok-black.ensures in (
      node.step,
      get_step seen k node at,
      (
        subst (λ (t : Bool). KingsMean (as_shown t pieces) result) turned
            (rw c.from-shown.ensures at means),
        c.stands.ensures c.if-stands.true,
      ),
    )

pub returns-then-stands-2-clause-is : goal.returns-then-stands-2-clause-is
returns-then-stands-2-clause-is c =
    let look = c.in_ok-last.ensures.lookup in
    let line = c.deref.result.now in
    let last = c.in_ok-last.last.now in
    let result = c.in_ok-result.result in
    let at : slice_get c.args.self.now.memory.line.items 0 ≡ Some last =
    rw c.deref.ensures.0 at (slice_get_read line (length line) 0 last refl look.3.0 look.1) in
    let means = c.in_ok-result.ensures.mean (pieces_of c.from-shown.result.now)
    c.in_ok-white.ensures c.in_ok-black.ensures in (
      last.step,
      get_step c.args.self.now.memory.line.items 0 last at,
      (
        rw c.from-shown.ensures at means,
        c.stands-2.ensures c.if-stands-2.true,
      ),
    )
