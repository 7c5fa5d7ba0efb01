use Rattle.{std.{proofs.Common.{◌≡◌, ◌∙◌, ◌⊎◌, ◌≤◌, inl, inr, refl, sym, subst, true}, specs.Prelude.{IfSome}}, dgt_game.specs.Standing.{IsCalledFor, IsOpen, Lands, ShowsLast}}
use Rattle.dgt_game.proofs.Standing.{back_of, if_some, tells}
use Rattle.dgt_game.proofs.recogniser.Recogniser.tell.Goals as goal

pub returns-clause-stands : goal.returns-clause-stands
returns-clause-stands c = λ ready sure called.
    let m = c.find.new.self.memory in
    let new = c.tell.new.self in
    let told = c.tell.ensures in
    let same = sym c.find.ensures.memory in
    let now : IsOpen m = subst IsOpen same ready in
    let seen : IfSome c.find.new.self.view (IsCalledFor m c.args.place c.args.answer) =
    rw c.find.ensures.keeps.0 (rw same at called) in
    let all = if_some c.find.new.self.view _ (λ view. Lands view new × ((new.back ≤ 4)
    ⊎ ShowsLast view new)) seen (λ view call. tells view m new c.args.place c.args.answer now
    (λ step. told.lands step now.2) (λ step. told.near step now.2) (λ step. told.answer step now.2)
    told.either call) in
    let is_sure : c.find.new.self.is_sure ≡ true = c.find.ensures.keeps.6 ∙ sure in
    let lands = if_some _ _ (λ view. Lands view new) all (λ view both. both.0) in (
      lands,
      told.idle,
      inr (is_sure, inl (refl, lands)),
      back_of c.find.new.self.view new.back (λ view. ShowsLast view new) (if_some _ _ (λ view.
          (new.back ≤ 4) ⊎ ShowsLast view new) all (λ view both. both.1)),
    )

pub returns-clause-near : goal.returns-clause-near
returns-clause-near c = λ step ready at.
    let same = sym c.find.ensures.memory in
    let now : IsOpen c.find.new.self.memory = subst IsOpen same ready in
    c.tell.ensures.near step now.2 (rw same at at)

pub returns-clause-answers : goal.returns-clause-answers
returns-clause-answers c = λ step ready at other.
    let same = sym c.find.ensures.memory in
    let now : IsOpen c.find.new.self.memory = subst IsOpen same ready in
    c.tell.ensures.answer step now.2 (rw same at at) other

pub returns-clause-lands : goal.returns-clause-lands
returns-clause-lands c = λ step rooted at other.
    let same = sym c.find.ensures.memory in (
      c.tell.ensures.lands step (rw same at rooted) (rw same at at),
      c.tell.ensures.news step (rw same at rooted) (rw same at at) other,
    )
