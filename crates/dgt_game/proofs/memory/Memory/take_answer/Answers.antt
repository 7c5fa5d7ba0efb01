use Rattle.{std.{proofs.Common.{◌≢◌, ◌∙◌, ◌++◌, ◌∷◌, [], ℕ, ap, refl, sym, subst, inr, length, List, Option, None}, specs.Prelude.{slice_get, IfSome}}, dgt_game.specs.declared.node.Node.{Node}}
use Rattle.dgt_game.{specs.{declared.node.{Place.{Place}, Step.{Step}}, Memory.{Grows, IsRooted, IsSeen, Links, steps, tip, told_of}}, proofs.{Sure.{marked_first, marked_none}, Told.{grows_one}}}
use Rattle.dgt_game.{proofs.Told.{links_moved, rooted_one}, specs.{Sure.{IsMarked}, Told.{WasShown}}}
use Rattle.dgt_game.proofs.memory.Memory.take_answer.Goals as goal

pub returns-clause-holds : goal.returns-clause-holds
returns-clause-holds c = λ shown line back nothing h.
    let m = c.args.self.now in
    let kept = steps m.line.items in
    let node = c.in-Some.node in
    let new : Step = record {
      state = node.step.state;
      is_turned = node.step.is_turned;
      way = node.step.way;
      parent = Place.Line 0;
    } in
    let answer : Links (tip (slice_get kept m.back) (steps m.unsaid.items)) node.step
    × IsSeen shown node.step =
    subst (λ (o : Option Node). IfSome o (λ n. Links (tip (slice_get kept m.back) (steps
    m.unsaid.items)) n.step × IsSeen shown n.step)) (sym c.in-Some.ensures.value) h.answer in
    let first : Links (tip (slice_get kept 0) (steps m.unsaid.items)) node.step =
    subst (λ (n : ℕ). Links (tip (slice_get kept n) (steps m.unsaid.items)) node.step) back
    answer.0 in
    let after : Links (slice_get kept 0) node.step =
    subst (λ (xs : List Node). Links (tip (slice_get kept 0) (steps xs)) node.step) nothing first in
    let grows : Grows shown kept (new ∷ []) =
    grows_one shown kept new (links_moved (slice_get kept 0) node.step (Place.Line 0) after)
    answer.1 in
    let follows : tip (slice_get kept m.back) (steps m.unsaid.items) ≢ None =
    subst (λ (o : Option Node). IfSome o (λ n. tip (slice_get kept m.back) (steps m.unsaid.items)
    ≢ None)) (sym c.in-Some.ensures.value) h.answered in
    record {
      shown_line = h.shown_line;
      kept = h.kept;
      back = h.back;
      unsaid = h.unsaid;
      answer = rw c.in-Some.ensures.after tt;
      answered = rw c.in-Some.ensures.after tt;
      grows = rw (c.push.ensures.items, c.clear.ensures)
          (subst (λ (step : Step). Grows shown kept (step ∷ [])) (sym c.after_line-new.ensures.step)
          grows);
      rooted = rw (c.push.ensures.items, c.clear.ensures)
          (subst (λ (step : Step). IsRooted (length kept) (step ∷ [])) (sym
          c.after_line-new.ensures.step)
          (rooted_one kept new (subst (λ (xs : List Node). tip (slice_get kept 0) (steps xs)
          ≢ None) nothing (subst (λ (n : ℕ). tip (slice_get kept n) (steps m.unsaid.items)
          ≢ None) back follows)) refl));
      quiet = inr (back, nothing);
    }

pub returns-clause-is : goal.returns-clause-is
returns-clause-is c =
    let new = c.after_line-new.result in
    let after = c.after_line-new.ensures in
    rw (sym c.in-Some.ensures.value) (
      new,
      refl,
      c.push.ensures.items ∙ ap (λ (xs : List Node). xs ++ new ∷ []) c.clear.ensures,
      ap (λ (s : Step). s.state) after.step,
      ap (λ (s : Step). s.is_turned) after.step,
      ap (λ (s : Step). s.way) after.step,
      after.rest.0,
      after.rest.1,
      after.rest.2,
    )

pub returns-clause-sure : goal.returns-clause-sure
returns-clause-sure c = λ sure gone h.
    let new = c.after_line-new.result in
    let after = c.after_line-new.ensures in
    let was = subst (λ (o : Option Node). IfSome o (IsMarked sure)) (sym c.in-Some.ensures.value)
    h.answer in
    let mark : IsMarked sure new = λ e. subst (λ (s : Step). WasShown sure (told_of s))
    (sym after.step) (was (sym after.sure ∙ e)) in
    record {
      seen = rw (c.push.ensures.items, c.clear.ensures)
          (marked_first sure new [] mark (marked_none sure));
      answer = rw c.in-Some.ensures.after tt;
      returned = h.returned;
      waits = h.waits;
      ends = h.ends;
    }

pub returns-clause-follows : goal.returns-clause-follows
returns-clause-follows c = (
  c.push.ensures.items
      ∙ ap (λ (xs : List Node). xs ++ c.after_line-new.result ∷ []) c.clear.ensures,
  ap (λ (s : Step). s.parent) c.after_line-new.ensures.step,
)
