use Rattle.{std.proofs.Common.{◌≡◌, [], arith, rules}, dgt_values.specs.Board.{pieces_of}, dgt_message.specs.Content.{clock_seen}, dgt_link.specs.View.{line_holding, new_world}}
use Rattle.dgt_link.proofs.{Counting.{world_is_faulty}, Standing.{new_is_exact, new_is_world}}
use Rattle.dgt_link.proofs.world.World.with_memory.Goals as goal

pub invariant_of-result : goal.invariant_of-result
invariant_of-result c =
    let up : c.in-Ok.up ≡ line_holding [] c.args.up = search rules in
    let down : c.in-Ok.down ≡ line_holding [] c.args.down = search rules in
    rw (c.new.ensures, c.new-in-Ok.ensures, up, down)
    (world_is_faulty
    (new_world (pieces_of c.args.position) (clock_seen c.args.clock) c.args.identity c.args.up
    c.args.down) (new_is_world c.parts_of_words.ensures.nothing (pieces_of c.args.position)
    (clock_seen c.args.clock) c.args.identity c.args.up c.args.down c.args.position.all
    (omega arith) (omega arith)))

pub invariant_of-result-in-Ok : goal.invariant_of-result-in-Ok
invariant_of-result-in-Ok c =
    let up : c.in-Ok.up ≡ line_holding [] c.args.up = search rules in
    let down : c.in-Ok.down ≡ line_holding [] c.args.down = search rules in
    rw (c.new.ensures, c.new-in-Ok.ensures, up, down)
    (new_is_world c.parts_of_words.ensures.nothing (pieces_of c.args.position)
    (clock_seen c.args.clock) c.args.identity c.args.up c.args.down c.args.position.all
    (omega arith) (omega arith))

pub returns-in-Ok-clause-exact : goal.returns-in-Ok-clause-exact
returns-in-Ok-clause-exact c =
    let up : c.in-Ok.up ≡ line_holding [] c.args.up = search rules in
    let down : c.in-Ok.down ≡ line_holding [] c.args.down = search rules in
    rw (c.new.ensures, c.new-in-Ok.ensures, up, down)
    (new_is_exact c.parts_of_words.ensures.nothing (pieces_of c.args.position)
    (clock_seen c.args.clock) c.args.identity c.args.up c.args.down c.args.position.all)
