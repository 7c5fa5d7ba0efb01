use Rattle.{std.proofs.Common.{rules, ◌≡◌, refl, [], ◌++◌, take}, dgt_command.specs.{Content.{EventContent, Read, command_content, command_event_content}, Words.{IsWord}}}
use Rattle.dgt_board.{specs.{Kept.{state_of}, State.{effect}, View.{BoardView}}, proofs.TakingLemmas.{takes_word}}
use Rattle.dgt_board.proofs.boards.Board.take.Goals as goal

pub invariant_of-self-2 : goal.invariant_of-self-2
invariant_of-self-2 c =
    rw (c.advance-advanced.ensures.held, c.in-Some-found.is) c.parts_of_words.ensures.nothing

pub returns : goal.returns
returns c =
    let bytes = take c.advance-advanced.result.used c.args.chunk.now in
    let event = command_event_content c.unwrap-event.result in
    let is = (rw c.unwrap-event.ensures at c.event.ensures).1 in
    let word : IsWord event (c.args.self.now.partial ++ bytes) =
    rw (is, ← c.self.view_is) (rw c.in-Some-found.is at c.advance-advanced.ensures.first) in
    let state : state_of c.obey.new.self ≡ effect c.args.self.now.state event =
    rw (← c.self.view_is) c.obey.ensures in
    search (rules, takes_word)

pub returns-in-Some : goal.returns-in-Some
returns-in-Some c =
    let bytes = take 1 c.args.chunk.now in
    let event : EventContent = Read (command_content c.in-Some.command) in
    let front = c.in-Some.ensures.command in
    let before : c.args.self.now.partial ≡ [] = rw (← c.self.view_is) front.0 in
    let word : IsWord event (c.args.self.now.partial ++ bytes) = rw before front.1 in
    let state : state_of c.obey_bare.new.self ≡ effect c.args.self.now.state event =
    rw (← c.self.view_is) c.obey_bare.ensures in
    let after : BoardView = record { state = state_of c.obey_bare.new.self; partial = [] } in
    let both =
    takes_word c.parts_of_words.ensures.nothing c.args.self.now after bytes event word state refl in
    search rules
