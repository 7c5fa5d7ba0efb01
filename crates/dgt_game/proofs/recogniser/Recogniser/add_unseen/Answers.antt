use Rattle.{std.{proofs.Common.{rules, ◌≡◌, ap, arith, inl, inr, refl, subst, List, length}, specs.Prelude.{◌<◌, Contains, IsSome}}}
use Rattle.dgt_values.specs.{declared.pieces.Piece.{Piece}, Board.{pieces_of}}
use Rattle.dgt_game.specs.{declared.{event.GameResult.{GameResult}, node.{Step.{Step}}}, Memory.{Holds, IsBefore, step_at, steps}, Results.{ByKings, KingsMean}, Told.{Told, as_shown}}
use Rattle.{std.proofs.Common.{[], Some}, dgt_game.proofs.{Chains.{found_before}, Explaining.{ends_by, only_by, unexplained_by}, Hands.{ended}}}
use Rattle.dgt_game.proofs.recogniser.Recogniser.add_unseen.Goals.{After-push}
use Rattle.dgt_game.proofs.recogniser.Recogniser.add_unseen.Goals as goal

pub returns-in_default-explaining : goal.returns-in_default-explaining
returns-in_default-explaining c = record {
  keeps = (refl, refl, refl, refl, λ h. h, refl, refl, refl, refl, refl);
  lost = refl;
  returned = refl;
  todo = (refl, λ e. e);
  line = refl;
  holds = λ shown line before end back unsaid at by seen h. h;
  is_open = λ h. h;
  rooted = λ h. h;
  quiet = (refl, refl, refl);
  ends = λ before end at near by. (before, at, by);
  near = λ h. h;
  sure = λ sure returned h. h;
  unseen = inl refl;
  astray = λ e. (refl, refl);
}

-- the kings mean the same on the side of the place
kings : (c : After-push) (before : Step) (end : GameResult)
    → step_at (steps c.args.self.now.memory.line.items) (steps c.args.self.now.memory.seen.items)
    c.args.place ≡ Some before
    → ByKings (as_shown before.is_turned (pieces_of c.args.view.now.shown)) before.state end
    → KingsMean (as_shown c.in-Some.from.step.is_turned (pieces_of c.args.view.now.shown)) end
kings c before end at by =
    let same : before ≡ c.in-Some.from.step = search (rules, c.in-Some.ensures, at) in
    let picture = pieces_of c.args.view.now.shown in
    subst (λ (s : Step). KingsMean (as_shown s.is_turned picture) end) same by.0

holds : (c : After-push) (shown : List (List Piece)) (line : List Told) (before : Step)
    (end : GameResult) → c.args.self.now.memory.back ≡ 0
    → c.args.self.now.memory.unsaid.items ≡ []
    → step_at (steps c.args.self.now.memory.line.items) (steps c.args.self.now.memory.seen.items)
    c.args.place ≡ Some before
    → ByKings (as_shown before.is_turned (pieces_of c.args.view.now.shown)) before.state end
    → Contains shown (pieces_of c.args.view.now.shown) → Holds shown line c.args.self.now.memory
    → Holds shown line c.push.new.self
holds c shown line before end back unsaid at by seen h =
    let memory = c.args.self.now.memory in
    let means : KingsMean (pieces_of c.from-shown.result.now) end =
    rw c.from-shown.ensures (kings c before end at by) in
    let (link, is) = ended shown (steps memory.line.items) (steps memory.seen.items)
    c.in-Some.from.step c.args.place c.in-Only.one c.in-Only.state c.follow-node.result.step
    (pieces_of c.args.view.now.shown) (pieces_of c.from-shown.result.now) c.in-Some.ensures
    c.follow-node.ensures.step c.in-Only.ensures.0.0 seen c.from-shown.ensures
    (end, means, c.in-Only.ensures.0.1) in
    c.push.ensures.holds shown line back unsaid link is h

pub returns-in-Some-push-clause-holds : goal.returns-in-Some-push-clause-holds
returns-in-Some-push-clause-holds c =
    holds (goal.at.returns-in-Some-push-clause-holds c).After-push

pub returns-in-None-clause-holds : goal.returns-in-None-clause-holds
returns-in-None-clause-holds c = holds (goal.at.returns-in-None-clause-holds c).After-push

pub returns-in-Some-push-clause-ends : goal.returns-in-Some-push-clause-ends
returns-in-Some-push-clause-ends c = λ before end at near by.
    let picture = pieces_of c.args.view.now.shown in
    let means = kings (goal.at.returns-in-Some-push-clause-ends c).After-push before end at by in (
      _,
      c.in-Some-push.ensures.seen.1,
      ends_by picture c.in-Some.from.step c.follow-node.result.step c.args.place c.in-Only.one
          c.in-Only.state end c.follow-node.ensures.step means
          (rw c.from-shown.ensures at c.in-Only.ensures.0.1),
    )

pub returns-in-Some-push-clause-unseen : goal.returns-in-Some-push-clause-unseen
returns-in-Some-push-clause-unseen c =
    let picture = pieces_of c.args.view.now.shown in
    let pieces = pieces_of c.from-shown.result.now in
    let from = c.in-Some.from.step in
    inr (
      from,
      _,
      c.in-Only.one,
      c.in-Some.ensures,
      c.in-Some-push.ensures.seen.1,
      ap (λ (s : Step). s.way) c.follow-node.ensures.step,
      only_by pieces picture from c.follow-node.result.step c.args.place c.in-Only.one
          c.in-Only.state c.from-shown.ensures c.follow-node.ensures.step c.in-Only.ensures,
      unexplained_by c.explains.result pieces (as_shown from.is_turned picture)
          c.position.result.now from.state c.if-explains.false c.explains.ensures
          c.from-shown.ensures c.position.ensures,
    )

pub returns-in-None-clause-ends : goal.returns-in-None-clause-ends
returns-in-None-clause-ends c = λ before end at near by.
    let memory = c.args.self.now.memory in
    let line = steps memory.line.items in
    let seen = steps memory.seen.items in
    let few : length memory.seen.items < 24 = search rules in
    let there : IsBefore (length line) (length seen) c.args.place =
    found_before line seen c.args.place before (λ k e. omega (arith, near k e)) at in
    let parent = ap (λ (s : Step). s.parent) c.follow-node.ensures.step in
    let some : IsSome c.push.result = c.push.ensures.free few (rw parent there) in
    let wrong = rw c.in-None.is at some in absurd (search rules)
