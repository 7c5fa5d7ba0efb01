use Rattle.{std.{proofs.Common.{◌≡◌, [], ap, inl, inr, Option}, specs.Prelude.{slice_get}}, dgt_game.{specs.{declared.node.Step.{Step}, Memory.{steps, tip}}, proofs.Told.{grows_none, rooted_none}}}
use Rattle.dgt_game.proofs.{Told.{taken_back}, Waiting.{dropped}}
use Rattle.dgt_game.proofs.memory.Memory.take_back.Goals as goal

pub returns-clause-holds : goal.returns-clause-holds
returns-clause-holds c = λ shown line some h.
    let m = c.args.self.now in
    let new = c.drop_first.new.nodes.items in
    let t = taken_back shown line m.line.items new m.back c.drop_first.result c.args.stays
    c.drop_first.ensures.rest c.drop_first.ensures.halves some h.back h.kept h.shown_line in
    let less = c.saturating_sub-self.ensures in
    let same : slice_get (steps m.line.items) m.back ≡ slice_get (steps new)
    c.saturating_sub-self.result =
    rw less t.5 in
    let none : steps m.seen.items ≡ [] = elim h.quiet [ inl e ↦ e | inr q ↦ absurd (some q.0) ] in (
      t.0,
      t.1,
      record {
        shown_line = t.2;
        kept = t.3;
        back = rw less t.4;
        unsaid = rw same at h.unsaid;
        answer = rw same at h.answer;
        answered = rw same at h.answered;
        grows = rw none (grows_none shown (steps new));
        rooted = rw none (rooted_none _);
        quiet = inl none;
      },
    )

pub returns-clause-coming : goal.returns-clause-coming
returns-clause-coming c = λ some.
    let m = c.args.self.now in
    let new = c.drop_first.new.nodes.items in
    let same = dropped m.line.items new m.back c.drop_first.ensures.rest c.drop_first.ensures.none
    some in
    rw c.saturating_sub-self.ensures (ap (λ (o : Option Step). tip o (steps m.unsaid.items)) same)
