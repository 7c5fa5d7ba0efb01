use Rattle.{std.{proofs.{Common.{◌≡◌, ◌∙◌, inl, inr, refl, subst, List, [], Option}, lemmas.Option.{MatchOption-at_some}}, specs.Prelude.{Contains, IfSome, MatchOption}}}
use Rattle.dgt_values.specs.declared.pieces.Piece.{Piece}
use Rattle.{dgt_values.specs.Board.{pieces_of}, dgt_game.{specs.{declared.{event.GameResult.{GameResult}, node.Step.{Step}}, Sure.{WereSure}, Waiting.{Show}}, proofs.Planning.{fewer_by_result}}}
use Rattle.dgt_game.{proofs.{Standing.{every_some}, recogniser.Recogniser.end_by_kings.Goals.{After-end_at-is_there}, Sure.{kings_sure}}}
use Rattle.dgt_game.specs.{declared.view.View.{View}, Memory.{Holds, told_of}, Told.{Told}}
use Rattle.dgt_game.proofs.recogniser.Recogniser.end_by_kings.Goals as goal

pub returns-then-is_there-clause-right : goal.returns-then-is_there-clause-right
unfolding Show
returns-then-is_there-clause-right c = λ quiet waits.
    let found = c.in-Some-kings_result.ensures in
    let more = c.add_unseen-place.ensures in
    let end = c.end_at-is_there.ensures in
    let (step, at, by) = more.ends found.is.0 c.in-Some-kings_result.result found.is.1 found.near
    found.is.2 in (
      (
        step,
        end.told step (more.quiet.0 ∙ quiet.0.0) (more.quiet.1 ∙ quiet.0.1) at c.if-is_there.true,
        (c.in-Some.view, end.keeps.0 ∙ more.keeps.0 ∙ c.in-Some.is, by),
      ),
      end.keeps.4 (more.keeps.4 waits.1),
      inr end.found,
    )

pub returns-then-is_there-clause-todo : goal.returns-then-is_there-clause-todo
returns-then-is_there-clause-todo c = λ kings.
    fewer_by_result c.args.self.now c.end_at-is_there.new.self.has_kings kings
    (λ has. c.add_unseen-place.ensures.todo.1 (c.end_at-is_there.ensures.todo.1 has))

pub returns-else-is_there-clause-todo : goal.returns-else-is_there-clause-todo
returns-else-is_there-clause-todo c = λ kings.
    fewer_by_result c.args.self.now c.end_at-is_there.new.self.has_kings kings
    (λ has. c.add_unseen-place.ensures.todo.1 (c.end_at-is_there.ensures.todo.1 has))

pub returns-then-is_there-clause-stands : goal.returns-then-is_there-clause-stands
returns-then-is_there-clause-stands c = λ rooted told sure stands.
    let found = c.in-Some-kings_result.ensures in
    let more = c.add_unseen-place.ensures in
    let end = c.end_at-is_there.ensures in
    let (step, at, by) = more.ends found.is.0 c.in-Some-kings_result.result found.is.1 found.near
    found.is.2 in
    let back = end.back step (more.is_open (told, stands.1 told, rooted)) at
    (more.near found.near) in (
      every_some _ _ (λ view. refl),
      λ told. back.1,
      inr (
        end.keeps.6 ∙ more.keeps.6 ∙ sure,
        inr (refl, refl, back.1, (c.in-Some-kings_result.result, refl)),
      ),
      inl back.0,
    )

pub returns-else-is_there-clause-stands : goal.returns-else-is_there-clause-stands
returns-else-is_there-clause-stands c = λ rooted told sure stands.
    let found = c.in-Some-kings_result.ensures in
    let more = c.add_unseen-place.ensures in
    let (step, at, by) = more.ends found.is.0 c.in-Some-kings_result.result found.is.1 found.near
    found.is.2 in
    let back = c.end_at-is_there.ensures.back step (more.is_open (told, stands.1 told, rooted)) at
    (more.near found.near) in (
      every_some _ _ (λ view. refl),
      λ told. back.1,
      inl (back.2 c.if-is_there.false),
      inl back.0,
    )

-- the kings on the picture show the result
by_kings : (c : After-end_at-is_there) → (step : Step) × ((result : GameResult)
    × Show c.end_at-is_there.new.self.view step result)
unfolding Show
by_kings c =
    let found = c.in-Some-kings_result.ensures in
    let more = c.add_unseen-place.ensures in
    let end = c.end_at-is_there.ensures in
    let (step, at, by) = more.ends found.is.0 c.in-Some-kings_result.result found.is.1 found.near
    found.is.2 in (
      step,
      (
        c.in-Some-kings_result.result,
        (c.in-Some.view, end.keeps.0 ∙ more.keeps.0 ∙ c.in-Some.is, by),
      ),
    )

pub returns-then-is_there-clause-hopeless : goal.returns-then-is_there-clause-hopeless
returns-then-is_there-clause-hopeless c = λ why view e here. (
  λ hopeless. inr (by_kings
      (goal.at.returns-then-is_there-clause-hopeless c).After-end_at-is_there),
  λ refused. absurd (cc),
)

pub returns-else-is_there-clause-hopeless : goal.returns-else-is_there-clause-hopeless
returns-else-is_there-clause-hopeless c = λ why view e here. (
  λ hopeless. inr (by_kings
      (goal.at.returns-else-is_there-clause-hopeless c).After-end_at-is_there),
  λ refused. absurd (cc),
)

were_sure : (c : After-end_at-is_there) (sure : List (List Piece))
    → MatchOption c.args.self.now.view ⊥ (λ view. Contains sure (pieces_of view.shown))
    → WereSure sure c.args.self.now.memory c.args.self.now.returned
    → WereSure sure c.end_at-is_there.new.self.memory c.end_at-is_there.new.self.returned
were_sure c sure seen h =
    let found = c.in-Some-kings_result.ensures in
    let more = c.add_unseen-place.ensures in
    let (step, at, by) = more.ends found.is.0 c.in-Some-kings_result.result found.is.1 found.near
    found.is.2 in
    let here = MatchOption-at_some ⊥ (λ view. Contains sure (pieces_of view.shown)) c.in-Some.view
    c.in-Some.is seen in
    c.end_at-is_there.ensures.sure sure (rw at (kings_sure sure (told_of step)
    (pieces_of c.in-Some.view.shown) c.in-Some-kings_result.result here by))
    (rw more.returned (more.sure sure c.args.self.now.returned h))

pub returns-then-is_there-clause-sure : goal.returns-then-is_there-clause-sure
returns-then-is_there-clause-sure c =
    were_sure (goal.at.returns-then-is_there-clause-sure c).After-end_at-is_there

pub returns-else-is_there-clause-sure : goal.returns-else-is_there-clause-sure
returns-else-is_there-clause-sure c =
    were_sure (goal.at.returns-else-is_there-clause-sure c).After-end_at-is_there

holds : (c : After-end_at-is_there) (shown : List (List Piece)) (line : List Told)
    → c.args.self.now.memory.back ≡ 0 → c.args.self.now.memory.unsaid.items ≡ []
    → IfSome c.args.self.now.view (λ view. Contains shown (pieces_of view.shown))
    → Holds shown line c.args.self.now.memory
    → Holds shown line c.end_at-is_there.new.self.memory
holds c shown line back unsaid seen h =
    let found = c.in-Some-kings_result.ensures in
    let more = c.add_unseen-place.ensures in
    let here = subst (λ (o : Option View). IfSome o (λ view. Contains shown
    (pieces_of view.shown))) c.in-Some.is seen in
    c.end_at-is_there.ensures.holds shown line (more.quiet.0 ∙ back) (more.quiet.1 ∙ unsaid)
    (more.holds shown line found.is.0 c.in-Some-kings_result.result back unsaid found.is.1
    found.is.2 here h)

pub returns-then-is_there-clause-holds : goal.returns-then-is_there-clause-holds
returns-then-is_there-clause-holds c =
    holds (goal.at.returns-then-is_there-clause-holds c).After-end_at-is_there

pub returns-else-is_there-clause-holds : goal.returns-else-is_there-clause-holds
returns-else-is_there-clause-holds c =
    holds (goal.at.returns-else-is_there-clause-holds c).After-end_at-is_there
