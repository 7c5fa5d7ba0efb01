use Rattle.{std.proofs.{Common.{rules, ◌≡◌, ◌∙◌, ap, sym}, lemmas.Option.{IfSome_then}}, dgt_values.specs.Board.{pieces_of}, dgt_game.{specs.Memory.{step_at, steps}, proofs.Chains.{found_before}}}
use Rattle.dgt_game.proofs.Links.{links, same_told}
use Rattle.dgt_game.proofs.recogniser.Recogniser.other_jump.Goals as goal

pub returns-clause-linked : goal.returns-clause-linked
returns-clause-linked c =
    let line = steps c.args.self.now.memory.line.items in
    let seen = steps c.args.self.now.memory.seen.items in
    let from = c.in_ok-from.from.step in
    let node = c.args.node.now.step in
    let same : from.is_turned ≡ node.is_turned = search rules in
    IfSome_then c.jumped_from.result c.jumped_from.ensures.linked
    (λ other (parent, turned, by, here). (
      links (step_at line seen other.step.parent) from other.step
          (ap (step_at line seen) parent ∙ c.in_ok-from.ensures) (sym turned) by,
      same_told other.step node (turned ∙ same) (here ∙ ap pieces_of c.position.ensures),
    ))

pub returns-clause-room : goal.returns-clause-room
returns-clause-room c =
    let line = steps c.args.self.now.memory.line.items in
    let seen = steps c.args.self.now.memory.seen.items in
    IfSome_then c.jumped_from.result c.jumped_from.ensures.linked
    (λ other (parent, turned, by, here). rw parent
    (found_before line seen c.args.place c.in_ok-from.from.step (c.is_far.ensures (search rules))
    c.in_ok-from.ensures))
