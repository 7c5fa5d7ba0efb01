use Rattle.{std.{proofs.{Common.{◌∙◌, sym, subst, ◌≡◌, Option, ap, inr, unwrap_or}, lemmas.Option.{MatchOption-at_some}}, specs.Prelude.{⊤, Contains}}, dgt_values.specs.Board.{pieces_of}}
use Rattle.dgt_game.{specs.{declared.view.View.{View}, Memory.{told_of}, Planning.{IsRefused}, Told.{as_shown}}, proofs.{Links.{is_root, turned_back, was_shown}, Standing.{some_view}}}
use Rattle.dgt_game.proofs.recogniser.Recogniser.root.Goals as goal

pub returns-clause-root : goal.returns-clause-root
returns-clause-root c = λ shown seen.
    let view = c.in_ok-view.view in
    is_root shown c.in_ok-state.state _ (pieces_of view.shown) _ c.root-node.ensures.step
    (c.in_ok-state.ensures.placed ∙ c.from.ensures)
    (MatchOption-at_some ⊤ (λ view. Contains shown (pieces_of view.shown)) view c.in_ok-view.was
    seen)

pub returns-clause-at : goal.returns-clause-at
returns-clause-at c =
    let view = c.in_ok-view.view in
    some_view view c.args.self.now.view _ c.in_ok-view.was
    (rw c.root-node.ensures.step (turned_back _ _ (pieces_of view.shown)
    (c.in_ok-state.ensures.placed ∙ c.from.ensures)))

pub returns-in_err-state-clause-none : goal.returns-in_err-state-clause-none
returns-in_err-state-clause-none c = λ none view e.
    let turned = c.args.is_turned in
    let turn = c.args.turn in
    let same : c.in_ok-view.view ≡ view =
    ap (λ (o : Option View). unwrap_or o view) (sym c.in_ok-view.was ∙ e) in
    inr (subst (λ (v : View). IsRefused (as_shown turned (pieces_of v.shown)) turn) same
    (rw c.from.ensures at (c.placed.ensures.none c.in_err-state.was)))

pub returns-clause-marked : goal.returns-clause-marked
returns-clause-marked c = λ sure shows is.
    let view = c.in_ok-view.view in
    let seen = MatchOption-at_some ⊥ (λ view. Contains sure (pieces_of view.shown)) view
    c.in_ok-view.was (shows is) in
    was_shown sure (told_of c.root-node.result.step) (pieces_of view.shown) seen
    (rw c.root-node.ensures.step (turned_back _ _
    (pieces_of view.shown) (c.in_ok-state.ensures.placed ∙ c.from.ensures)))
