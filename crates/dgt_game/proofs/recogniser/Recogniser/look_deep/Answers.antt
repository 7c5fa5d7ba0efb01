use Rattle.dgt_game.{proofs.{Chains.{same_some}, Links.{reads, was_shown}}, specs.{declared.{node.Place.{Place}, recogniser.{Recogniser.{Recogniser}, Search.{Search}}}, Memory.{Holds, told_of}}}
use Rattle.{dgt_game.{proofs.{Moved.{none_some}, recogniser.Recogniser.look_deep.Goals.{Joined-deep, in-Some-deep, in-None}}, specs.{Told.{Told}, Sure.{WereSure}}}, std.proofs.Common.{rules, arith}}
use Rattle.std.{proofs.{Common.{◌≡◌, ◌≢◌, ◌∙◌, ap, inl, inr, sym, true, List, []}, lemmas.Option.{MatchOption-at_some}}, specs.Prelude.{⊤, Contains, IfSome, MatchOption}}
use Rattle.dgt_values.specs.{Board.{pieces_of}, declared.pieces.Piece.{Piece}}
use Rattle.dgt_game.proofs.recogniser.Recogniser.look_deep.Goals as goal

-- what was found holds before the line may be lost
held : (c : Joined-deep) (shown : List (List Piece)) (line : List Told)
    → c.args.self.now.memory.back ≡ 0 → c.args.self.now.memory.unsaid.items ≡ []
    → IfSome c.args.self.now.view (λ view. Contains shown (pieces_of view.shown))
    → Holds shown line c.args.self.now.memory → Holds shown line c.match-deep.self.memory
held c shown line back unsaid seen holds =
    let view = c.in-Some.view in
    let here = MatchOption-at_some ⊤ (λ view. Contains shown (pieces_of view.shown)) view
    c.in-Some.is seen in
    elim c.match-deep.branch [
      | in-Some-deep w ↦ rw w.self-is (w.add_jump.ensures.holds shown line back unsaid
          (reads shown c.args.self.now.memory (pieces_of view.shown) w.in-Some-deep.node here
          w.in-Some-deep.ensures.linked.0) holds)
      | in-None w ↦ rw w.self-is (w.start_deep.ensures.holds shown line back unsaid here holds)
    ]

pub returns-then-eq-clause-holds : goal.returns-then-eq-clause-holds
returns-then-eq-clause-holds c = λ shown line back unsaid seen holds.
    rw c.lose.ensures.same (held (goal.at.returns-then-eq-clause-holds c).Joined-deep shown line
    back unsaid seen holds)

pub returns-else-eq-clause-holds : goal.returns-else-eq-clause-holds
returns-else-eq-clause-holds c = held (goal.at.returns-else-eq-clause-holds c).Joined-deep

pub returns-then-eq-clause-reads : goal.returns-then-eq-clause-reads
returns-then-eq-clause-reads c = λ view few seen live searched lines.
    let self = c.args.self.now in
    let same = same_some self.view view c.in-Some.view seen c.in-Some.is in
    let here : c.match-deep.self.here ≢ Place.Nowhere = elim c.match-deep.branch [
      | in-Some-deep w ↦ rw w.self-is (w.add_jump.ensures.here few w.in-Some-deep.ensures.room)
      | in-None w ↦ absurd (none_some c.deep.result w.in-None.is (c.deep.ensures.reads c.in-Some.is
          live (rw same at searched) (rw same at lines)))
    ] in
    let wrong : c.match-deep.self.here ≡ Place.Nowhere = search rules in
    absurd (here wrong)

pub returns-else-eq-clause-reads : goal.returns-else-eq-clause-reads
returns-else-eq-clause-reads c = λ view few seen live searched lines. search rules

pub returns-then-eq-clause-still : goal.returns-then-eq-clause-still
returns-then-eq-clause-still c = λ few.
    let old : Recogniser = record c.args.self.now { search = Search.Done } in
    let nowhere : c.match-deep.self.here ≡ Place.Nowhere = search rules in
    let same : c.match-deep.self ≡ old = elim c.match-deep.branch [
      | in-Some-deep w ↦ absurd (w.add_jump.ensures.here (omega (arith, few))
          w.in-Some-deep.ensures.room (ap (λ (r : Recogniser). r.here) (sym w.self-is) ∙ nowhere))
      | in-None w ↦ elim (w.start_deep.ensures.still few) [
        | inl here ↦ absurd (here (ap (λ (r : Recogniser). r.here) (sym w.self-is) ∙ nowhere))
        | inr still ↦ w.self-is ∙ still
      ]
    ] in
    inr (rw same at c.lose.ensures.only)

pub returns-else-eq-clause-still : goal.returns-else-eq-clause-still
returns-else-eq-clause-still c = λ few. inl (search rules)

were_sure : (c : Joined-deep) (sure : List (List Piece)) → (c.args.self.now.is_sure ≡ true
    → MatchOption c.args.self.now.view ⊥ (λ view. Contains sure (pieces_of view.shown)))
    → WereSure sure c.args.self.now.memory c.args.self.now.returned
    → WereSure sure c.match-deep.self.memory c.match-deep.self.returned
were_sure c sure shows h =
    let view = c.in-Some.view in
    let here = λ (e : c.args.self.now.is_sure ≡ true). MatchOption-at_some ⊥
    (λ view. Contains sure (pieces_of view.shown)) view c.in-Some.is (shows e) in
    elim c.match-deep.branch [
      | in-Some-deep w ↦ rw w.self-is (w.add_jump.ensures.sure sure (λ e. was_shown sure
          (told_of w.in-Some-deep.node.step) (pieces_of view.shown) (here e)
          w.in-Some-deep.ensures.linked.0.1) h)
      | in-None w ↦ rw w.self-is (w.start_deep.ensures.sure sure here h)
    ]

pub returns-then-eq-clause-sure : goal.returns-then-eq-clause-sure
returns-then-eq-clause-sure c = λ sure shows h.
    rw (c.lose.ensures.same, ap (λ (r : Recogniser). r.returned) c.lose.ensures.only)
    (were_sure (goal.at.returns-then-eq-clause-sure c).Joined-deep sure shows h)

pub returns-else-eq-clause-sure : goal.returns-else-eq-clause-sure
returns-else-eq-clause-sure c = were_sure (goal.at.returns-else-eq-clause-sure c).Joined-deep
