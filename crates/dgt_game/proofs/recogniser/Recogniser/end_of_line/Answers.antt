use Rattle.{std.{proofs.{Common.{◌≡◌, Some, length, refl}, lemmas.Option.{IfSome_then, slice_get_read}}, specs.Prelude.{slice_get}}, dgt_game.proofs.{Chains.{get_step}, Waiting.{rules_end}}}
use Rattle.dgt_game.proofs.recogniser.Recogniser.end_of_line.Goals as goal

pub returns-clause-is : goal.returns-clause-is
returns-clause-is c =
    let self = c.args.self.now in
    let node = c.in_ok-node.node.now in
    let look = c.in_ok-node.ensures.lookup in
    let line = c.deref.result.now in
    let at : slice_get self.memory.line.items 0 ≡ Some node =
    rw c.deref.ensures.0 at (slice_get_read line (length line) 0 node refl look.3.0 look.1) in
    IfSome_then c.end_by_rules.result c.end_by_rules.ensures.is (λ end h. (
      node.step,
      get_step self.memory.line.items 0 node at,
      rw h.0 h.1,
    ))

pub returns-clause-ends : goal.returns-clause-ends
returns-clause-ends c =
    let self = c.args.self.now in
    let node = c.in_ok-node.node.now in
    let look = c.in_ok-node.ensures.lookup in
    let line = c.deref.result.now in
    let at : slice_get self.memory.line.items 0 ≡ Some node =
    rw c.deref.ensures.0 at (slice_get_read line (length line) 0 node refl look.3.0 look.1) in
    let rules = c.end_by_rules.ensures in
    rw (get_step self.memory.line.items 0 node at)
    (rules_end self.since node.step c.end_by_rules.result rules.is rules.none)
