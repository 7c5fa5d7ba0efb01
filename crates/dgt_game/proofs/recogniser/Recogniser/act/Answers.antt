use Rattle.{std.{proofs.Common.{rules, arith, ◌≡◌, inl, subst, true, None}, specs.Prelude.{IfSome, MatchOption}}, dgt_game.specs.{declared.resting.Task.{Task}, Memory.{step_at, steps}}}
use Rattle.dgt_game.{specs.{Planning.{TaskFits}, Reading.{Shows}, Standing.{IsCalledFor, StandsAt}}, proofs.{Finding.{found_by_search, found_ended, found_placed}, Standing.{if_some, match_more}}}
use Rattle.dgt_game.proofs.{Standing.{shows_at}, Sure.{here_sure}}
use Rattle.dgt_game.proofs.recogniser.Recogniser.act.Goals as goal

pub returns-in-Tell-clause-stands : goal.returns-in-Tell-clause-stands
returns-in-Tell-clause-stands c = λ rooted told sure fits stands.
    let self = c.args.self.now in
    let next : self.is_next ≡ true = search (rules, fits) in
    let at : IfSome self.view (StandsAt self.here self.memory true self.is_sure) =
    rw next at stands.0 in
    let here = if_some self.view _ (λ view. MatchOption (step_at (steps self.memory.line.items)
    (steps self.memory.seen.items) self.here) ⊥ (Shows view)) at (λ view h. shows_at view self.here
    self.memory self.is_sure told (stands.1 told) h) in
    c.tell.ensures.stands (told, stands.1 told, rooted) sure (if_some self.view _
    (IsCalledFor self.memory self.here None) here
    (λ view at. (match_more _ _ _ at (λ step shows. inl shows), tt)))

pub returns-in-EndByKings-clause-found : goal.returns-in-EndByKings-clause-found
returns-in-EndByKings-clause-found c = λ fits h. c.end_by_kings.ensures.found h

pub returns-in-Search-clause-found : goal.returns-in-Search-clause-found
returns-in-Search-clause-found c = λ fits h.
    let self = c.args.self.now in
    let search : TaskFits self Task.Search = subst (TaskFits self) c.in-Search.is fits in
    let few = h.1 search.0 search.1 in
    found_by_search self c.look_deep.new.self (λ view is live searched lines.
    c.look_deep.ensures.reads view (omega (arith, few)) is live searched lines)
    (c.look_deep.ensures.still few) c.look_deep.ensures.todo.0

pub returns-in-Tell-clause-found : goal.returns-in-Tell-clause-found
returns-in-Tell-clause-found c = λ fits h.
    found_placed c.tell.new.self c.tell.ensures.todo.3

pub returns-in-Begin-clause-found : goal.returns-in-Begin-clause-found
returns-in-Begin-clause-found c = λ fits h.
    found_ended c.args.self.now c.begin.new.self c.begin.ensures.todo

pub returns-in-Tell-clause-sure : goal.returns-in-Tell-clause-sure
returns-in-Tell-clause-sure c = λ told is fits stands sure shows h.
    let self = c.args.self.now in
    let next : self.is_next ≡ true = search (rules, fits) in
    let at : IfSome self.view (StandsAt self.here self.memory true self.is_sure) =
    rw next at stands.0 in
    c.tell.ensures.sure sure (here_sure sure self told (stands.1 told) at (shows is)) tt h
