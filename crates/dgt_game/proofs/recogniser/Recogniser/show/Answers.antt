use Rattle.dgt_game.{proofs.{Chains.{same_some}, Known.{memory_of}, Pictures.{explains, repeats}, Planning.{sets_up_same}}}
use Rattle.dgt_game.{specs.{declared.{memory.Memory.{Memory}, view.View.{View}}, Reading.{FollowsSeen}}}
use Rattle.{dgt_game.proofs.recogniser.Recogniser.show.Goals.{After-look, in-Some-Some, in_default, in_default-2, then-not-is_same_picture, else-not-is_same_picture}, std.proofs.Common.{◌≡◌, ◌∙◌}}
use Rattle.dgt_game.specs.{Planning.{HasKing}, declared.recogniser.{Recogniser.{Recogniser}, Search.{Search}}}
use Rattle.dgt_chess.specs.declared.pieces.Colour.{Colour}
use Rattle.{std.proofs.Common.{rules, ◌⊎◌, ◌<◌, length, ap, subst, sym, inl, inr}, dgt_values.specs.Board.{pieces_of}}
use Rattle.dgt_game.proofs.recogniser.Recogniser.show.Goals as goal

-- the memory stays until what is shown is looked at
same_memory : (c : After-look) → memory_of c.if-not-is_same_picture.self ≡ memory_of c.args.self.now
same_memory c =
    let first : memory_of c.match-self.self ≡ memory_of c.args.self.now = elim c.match-self.branch [
      | in-Some-Some w ↦ ap memory_of w.self-is
      | in_default w ↦ ap memory_of w.self-is
      | in_default-2 w ↦ ap memory_of w.self-is
    ] in
    elim c.if-not-is_same_picture.branch [
      | then-not-is_same_picture w ↦ ap memory_of w.self-is ∙ first
      | else-not-is_same_picture w ↦ ap memory_of w.self-is ∙ first
    ]

pub returns-in-Some-clause-repeated : goal.returns-in-Some-clause-repeated
returns-in-Some-clause-repeated c =
    repeats c.if-not-is_same_picture.self c.look.new.self c.in-Some.view
    (c.look.ensures.view ∙ c.in-Some.is) c.look.ensures.line c.look.ensures.keeps.1
    c.look.ensures.keeps.5 c.look.ensures.repeated

pub returns-in-Some-clause-set_up : goal.returns-in-Some-clause-set_up
returns-in-Some-clause-set_up c = rw c.in-Some.is (λ sets.
    c.look.ensures.set_up (sets_up_same c.look.new.self c.if-not-is_same_picture.self c.in-Some.view
    (sym c.look.ensures.line) (sym c.look.ensures.keeps.1) sets))

pub returns-in-Some-clause-kept_up : goal.returns-in-Some-clause-kept_up
returns-in-Some-clause-kept_up c = λ is.
    let set_up = λ (r : Recogniser). r.is_set_up in
    let first : set_up c.match-self.self ≡ set_up c.args.self.now = elim c.match-self.branch [
      | in-Some-Some w ↦ ap set_up w.self-is
      | in_default w ↦ ap set_up w.self-is
      | in_default-2 w ↦ ap set_up w.self-is
    ] in
    let same : set_up c.if-not-is_same_picture.self ≡ set_up c.args.self.now =
    elim c.if-not-is_same_picture.branch [
      | then-not-is_same_picture w ↦ ap set_up w.self-is ∙ first
      | else-not-is_same_picture w ↦ ap set_up w.self-is ∙ first
    ] in
    elim (c.look.ensures.kept_up is) [
      | inl was ↦ inl (sym same ∙ was)
      | inr sets ↦ inr (rw c.in-Some.is (sets_up_same c.if-not-is_same_picture.self
          c.look.new.self c.in-Some.view c.look.ensures.line c.look.ensures.keeps.1 sets))
    ]

pub returns-in-Some-clause-hopeless : goal.returns-in-Some-clause-hopeless
returns-in-Some-clause-hopeless c = λ view is nowhere.
    let new = c.look.new.self in
    let same = same_some new.view c.in-Some.view view (c.look.ensures.view ∙ c.in-Some.is) is in
    let either : (new.search ≡ Search.Hopeless) ⊎ (new.search ≡ Search.Waiting) = search rules in (
      λ hopeless. inl (subst (λ (v : View). (colour : Colour)
          × ¬ (HasKing (pieces_of v.shown) colour)) same (c.look.ensures.hopeless hopeless)),
      λ refused. absurd (elim either [
        | inl one ↦ (let wrong : ⊥ = cc in wrong)
        | inr other ↦ (let wrong : ⊥ = cc in wrong)
      ]),
    )

pub returns-in-Some-clause-reads : goal.returns-in-Some-clause-reads
returns-in-Some-clause-reads c = λ few.
    let same = same_memory c in
    let few' = subst (λ (m : Memory). length m.seen.items < 23) (sym same) few in
    explains c.if-not-is_same_picture.self c.look.new.self c.in-Some.view
    (c.look.ensures.view ∙ c.in-Some.is)
    c.look.ensures.line c.look.ensures.keeps.1 c.look.ensures.keeps.5
    (c.look.ensures.unread few') (c.look.ensures.reads few')

pub returns-in-Some-clause-stands : goal.returns-in-Some-clause-stands
returns-in-Some-clause-stands c = λ ready.
    let same = same_memory c in
    c.look.ensures.stands (rw same ready) c.in-Some.is

pub returns-in-Some-clause-seen : goal.returns-in-Some-clause-seen
returns-in-Some-clause-seen c = λ shown is few seen.
    let same = same_memory c in
    let few' = subst (λ (m : Memory). length m.seen.items < 23) (sym same) few in
    let one = same_some c.args.view shown c.in-Some.view is c.in-Some.is in
    c.look.ensures.seen few' (subst (λ (v : View). FollowsSeen c.if-not-is_same_picture.self.memory
    (pieces_of v.shown)) one (rw same seen))

pub returns-in-Some-clause-answers : goal.returns-in-Some-clause-answers
returns-in-Some-clause-answers c = λ ready.
    let same = same_memory c in
    c.look.ensures.answers (rw same ready)
