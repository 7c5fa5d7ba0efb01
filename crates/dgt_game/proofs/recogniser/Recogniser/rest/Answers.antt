use Rattle.{std.proofs.Common.{arith, inl, inr, refl, rules}, dgt_game.proofs.Planning.{rests_here}}
use Rattle.dgt_game.proofs.recogniser.Recogniser.rest.Goals as goal

pub returns-in-Line-clause-least : goal.returns-in-Line-clause-least
returns-in-Line-clause-least c =
    let self = c.args.self.now in
    let look = c.in-Some.ensures.lookup in
    rests_here self.memory c.deref.result.now self.here self.returned.count c.rest_after.result
    c.in-Seen.k c.in-Some.node.now _ c.in-Seen.is c.deref.ensures.0 look.3.0 look.1
    c.in-Line.is c.rest_after.ensures.by

pub returns-in-Start-clause-least : goal.returns-in-Start-clause-least
returns-in-Start-clause-least c =
    let self = c.args.self.now in
    let look = c.in-Some.ensures.lookup in
    rests_here self.memory c.deref.result.now self.here self.returned.count 0
    c.in-Seen.k c.in-Some.node.now _ c.in-Seen.is c.deref.ensures.0 look.3.0 look.1
    c.in-Start.is (inl (c.if-node-eq1.true, refl))

pub returns-in-Start-2-clause-least : goal.returns-in-Start-2-clause-least
returns-in-Start-2-clause-least c =
    let self = c.args.self.now in
    let look = c.in-Some.ensures.lookup in
    rests_here self.memory c.deref.result.now self.here self.returned.count 300
    c.in-Seen.k c.in-Some.node.now _ c.in-Seen.is c.deref.ensures.0 look.3.0 look.1
    c.in-Start-2.is (inr (search rules, refl))

pub returns-then-is_same_start-clause-least : goal.returns-then-is_same_start-clause-least
returns-then-is_same_start-clause-least c =
    let self = c.args.self.now in
    let look = c.in-Some.ensures.lookup in
    rests_here self.memory c.deref.result.now self.here self.returned.count 300
    c.in-Seen.k c.in-Some.node.now _ c.in-Seen.is c.deref.ensures.0 look.3.0 look.1
    c.in-Shadow.is (omega arith)

pub returns-else-is_same_start-clause-least : goal.returns-else-is_same_start-clause-least
returns-else-is_same_start-clause-least c =
    let self = c.args.self.now in
    let look = c.in-Some.ensures.lookup in
    rests_here self.memory c.deref.result.now self.here self.returned.count c.unwrap_or.result
    c.in-Seen.k c.in-Some.node.now _ c.in-Seen.is c.deref.ensures.0 look.3.0 look.1
    c.in-Shadow.is (search rules)
