use Rattle.{std.{proofs.Common.{rules, true, ◌≡◌, ◌<◌, ap, inr, sym, refl, arith, None, Some, ◌∙◌}, specs.Prelude.{IfSome}}, dgt_game.specs.declared.recogniser.Recogniser.{Recogniser}}
use Rattle.dgt_game.{specs.{Planning.{IsPlanned, todo}, Timing.{Due, HasTask, next_time}}, proofs.Planning.{hopeless_stays, nothing_left, planned_quiet, planned_then, plans_with, todo_most}}
use Rattle.dgt_game.proofs.{Finding.{shown_then}, Timing.{acts_with, follows_then, idle_in_doubt, idle_stays, marks_of, no_time, one_more, quiet_now, told_now}}
use Rattle.dgt_game.proofs.recogniser.Recogniser.due.Goals.{then-done-lt2}
use Rattle.dgt_game.proofs.recogniser.Recogniser.due.Goals.{else-done-lt2}
use Rattle.dgt_game.proofs.recogniser.Recogniser.due.Goals as goal

pub returns-in-Some-clause-idle : goal.returns-in-Some-clause-idle
returns-in-Some-clause-idle c = λ idle.
    let event = c.in-Some.event in
    let new = c.report.new.self in
    idle_stays c.args.now c.args.self.now new (Some event) idle (c.loop-done.invariant.due
    (Some event) new (told_now c.args.now c.loop-done.self new event c.in-Some.ensures.tells))

pub returns-in_err-at-clause-due : goal.returns-in_err-at-clause-due
returns-in_err-at-clause-due c =
    let new = c.report.new.self in
    let none : c.from_residual.result ≡ None = search rules in
    let idle : IfSome (next_time new) (λ at. c.args.now < at) = search rules in
    rw none (c.loop-done.invariant.due None new
    (quiet_now c.args.now c.loop-done.self new c.in_default.ensures.tells idle))

pub returns-in_err-at-clause-idle : goal.returns-in_err-at-clause-idle
returns-in_err-at-clause-idle c = λ idle.
    idle_stays c.args.now c.args.self.now c.report.new.self c.from_residual.result idle
    (returns-in_err-at-clause-due c)

pub returns-then-at-now-clause-idle : goal.returns-then-at-now-clause-idle
returns-then-at-now-clause-idle c = λ idle.
    let new = c.report.new.self in
    let later : IfSome (next_time new) (λ at. c.args.now < at) = search rules in
    idle_stays c.args.now c.args.self.now new None idle (c.loop-done.invariant.due None new
    (quiet_now c.args.now c.loop-done.self new c.in_default.ensures.tells later))

pub loop-done-init : goal.loop-done-init
loop-done-init c = record {
  knows = λ shown line knows. knows;
  waits = λ waits. (waits, (refl, refl));
  due = λ report new due. due;
  last = λ e. absurd (omega (arith, e));
  planned = λ h. (h, omega (arith, todo_most c.args.self.now));
  shown = (refl, refl, refl);
  lost = λ h. h;
  found = λ few plans lost h. (h, λ nowhere waits. few);
  hopeless = λ h. h;
  stands = λ shown line knows plans h. h;
  sure = λ shown line knows plans stands sure h. h;
}

pub loop-done-preserved : goal.loop-done-preserved
loop-done-preserved c =
    let now = c.args.now in
    let old = c.args.self.now in
    let self = c.loop-done.self in
    let quiet = c.report.new.self in
    let tells = c.in_default.ensures.tells in
    let is = (tells.3 refl).0 in
    let act = c.act.ensures in
    let new : Recogniser = record c.act.new.self { next = c.if-done-lt2.self } in
    let acts = acts_with quiet c.act.new.self c.if-done-lt2.self (
      act.stays,
      act.right,
      act.follows,
      λ plans. act.next (c.in_ok-at.ensures.fits plans),
      act.staying,
    ) in
    let has : HasTask now quiet = search rules in
    record {
      knows = λ shown line knows. acts.0 shown line is.0
          (tells.0 shown line (c.loop-done.invariant.knows shown line knows));
      waits = λ waits. let (right, follows) = c.loop-done.invariant.waits waits in (
        acts.1 is (tells.1 right).0,
        follows_then old quiet new None (follows_then old self quiet None follows (tells.2 right))
            acts.2,
      );
      due = λ report last due. c.loop-done.invariant.due report last
          (one_more now self quiet new last report tells has acts due);
      last = λ e. elim c.if-done-lt2.branch [
        | then-done-lt2 w ↦ absurd (omega (arith, e, w.if-done-lt2.true))
        | else-done-lt2 w ↦ no_time new w.self-is
      ];
      planned = λ h.
          let (plans, most) = c.loop-done.invariant.planned h in
          let same = c.in_default.ensures.planned in
          let fits = c.in_ok-at.ensures.fits (planned_quiet self quiet same plans) in
          let less = act.todo fits in
          let before : todo quiet ≡ todo self = ap (λ (r : Recogniser). todo r) same in
          let next : IsPlanned new = elim c.if-done-lt2.branch [
            | then-done-lt2 w ↦ rw w.self-is (plans_with c.act.new.self
                w.plan-self.result w.plan-self.result w.plan-self.ensures.plans)
            | else-done-lt2 w ↦ rw w.self-is (inr (nothing_left c.act.new.self
                (omega (arith, less, before, most, w.if-done-lt2.false))))
          ] in
          (next, omega (arith, less, before, most));
      shown = shown_then c.args.self.now quiet new (shown_then c.args.self.now self quiet
          c.loop-done.invariant.shown c.in_default.ensures.shown) act.shown;
      lost = λ h. act.lost is (c.in_default.ensures.lost (c.loop-done.invariant.lost h));
      found = λ few plans lost h.
          let same = c.in_default.ensures.planned in
          let fits = c.in_ok-at.ensures.fits (planned_quiet self quiet same
          (c.loop-done.invariant.planned plans).0) in
          let then = act.found fits (rw same (c.loop-done.invariant.found few plans lost h)) in
          (then.0, then.1);
      hopeless = λ h. act.hopeless (hopeless_stays self quiet c.in_default.ensures.place
          (c.loop-done.invariant.hopeless h));
      stands = λ shown line knows plans h.
          let known = tells.0 shown line (c.loop-done.invariant.knows shown line knows) in
          let sure : quiet.is_sure ≡ true = search rules in
          act.stands known.held.rooted is.0 sure
          (c.in_ok-at.ensures.fits (planned_quiet self quiet c.in_default.ensures.planned
          (c.loop-done.invariant.planned plans).0))
          (c.in_default.ensures.stands (c.loop-done.invariant.stands shown line knows plans h));
      sure = λ shown line knows plans h sure were.
          let is_sure : quiet.is_sure ≡ true = search rules in
          let now = c.in_default.ensures.sure sure
          (c.loop-done.invariant.sure shown line knows plans h sure were) in
          let kept = act.shown in (
            (λ e. rw kept.0 (now.0 (sym kept.2 ∙ e))),
            act.sure is.0 is_sure
                (c.in_ok-at.ensures.fits (planned_quiet self quiet c.in_default.ensures.planned
                (c.loop-done.invariant.planned plans).0))
                (c.in_default.ensures.stands
                (c.loop-done.invariant.stands shown line knows plans h)) sure now.0 now.1,
          );
    }

pub returns-clause-idle : goal.returns-clause-idle
returns-clause-idle c = λ idle.
    let new = c.report-2.new.self in
    let due : Due c.args.now c.loop-done.self c.report-2.result new = search rules in
    idle_stays c.args.now c.args.self.now new c.report-2.result idle
    (c.loop-done.invariant.due c.report-2.result new due)

pub returns-in-Some-clause-doubt : goal.returns-in-Some-clause-doubt
returns-in-Some-clause-doubt c = λ sure quiet.
    (returns-in-Some-clause-idle c (idle_in_doubt c.args.now c.args.self.now sure quiet)).0

pub returns-in_err-at-clause-doubt : goal.returns-in_err-at-clause-doubt
returns-in_err-at-clause-doubt c = λ sure quiet.
    (returns-in_err-at-clause-idle c (idle_in_doubt c.args.now c.args.self.now sure quiet)).0

pub returns-clause-doubt : goal.returns-clause-doubt
returns-clause-doubt c = λ sure quiet.
    (returns-clause-idle c (idle_in_doubt c.args.now c.args.self.now sure quiet)).0

pub returns-in_err-at-clause-planned : goal.returns-in_err-at-clause-planned
returns-in_err-at-clause-planned c = λ h.
    planned_quiet c.loop-done.self c.report.new.self c.in_default.ensures.planned
    (c.loop-done.invariant.planned h).0

pub returns-then-at-now-clause-planned : goal.returns-then-at-now-clause-planned
returns-then-at-now-clause-planned c = λ h.
    planned_quiet c.loop-done.self c.report.new.self c.in_default.ensures.planned
    (c.loop-done.invariant.planned h).0

pub returns-clause-planned : goal.returns-clause-planned
returns-clause-planned c = λ h.
    planned_then c.loop-done.self c.report-2.new.self c.report-2.result c.report-2.ensures.planned
    (c.loop-done.invariant.planned h).0

pub returns-in-Some-clause-lost : goal.returns-in-Some-clause-lost
returns-in-Some-clause-lost c = λ h. c.in-Some.ensures.lost (c.loop-done.invariant.lost h)

pub returns-clause-lost : goal.returns-clause-lost
returns-clause-lost c = λ h. c.report-2.ensures.lost (c.loop-done.invariant.lost h)

pub returns-in-Some-clause-hopeless : goal.returns-in-Some-clause-hopeless
returns-in-Some-clause-hopeless c = λ h.
    hopeless_stays c.loop-done.self c.report.new.self c.in-Some.ensures.place
    (c.loop-done.invariant.hopeless h)

pub returns-in_err-at-clause-hopeless : goal.returns-in_err-at-clause-hopeless
returns-in_err-at-clause-hopeless c = λ h.
    hopeless_stays c.loop-done.self c.report.new.self c.in_default.ensures.place
    (c.loop-done.invariant.hopeless h)

pub returns-then-at-now-clause-hopeless : goal.returns-then-at-now-clause-hopeless
returns-then-at-now-clause-hopeless c = λ h.
    hopeless_stays c.loop-done.self c.report.new.self c.in_default.ensures.place
    (c.loop-done.invariant.hopeless h)

pub returns-clause-hopeless : goal.returns-clause-hopeless
returns-clause-hopeless c = λ h.
    hopeless_stays c.loop-done.self c.report-2.new.self c.report-2.ensures.place
    (c.loop-done.invariant.hopeless h)

pub returns-in-Some-clause-stands : goal.returns-in-Some-clause-stands
returns-in-Some-clause-stands c = λ shown line knows plans h.
    c.in-Some.ensures.stands (c.loop-done.invariant.stands shown line knows plans h)

pub returns-in_err-at-clause-stands : goal.returns-in_err-at-clause-stands
returns-in_err-at-clause-stands c = λ shown line knows plans h.
    c.in_default.ensures.stands (c.loop-done.invariant.stands shown line knows plans h)

pub returns-then-at-now-clause-stands : goal.returns-then-at-now-clause-stands
returns-then-at-now-clause-stands c = λ shown line knows plans h.
    c.in_default.ensures.stands (c.loop-done.invariant.stands shown line knows plans h)

pub returns-clause-stands : goal.returns-clause-stands
returns-clause-stands c = λ shown line knows plans h.
    c.report-2.ensures.stands (c.loop-done.invariant.stands shown line knows plans h)

pub returns-in-Some-clause-found : goal.returns-in-Some-clause-found
returns-in-Some-clause-found c = λ few plans lost h.
    c.in-Some.ensures.found (c.loop-done.invariant.lost lost)
    (c.loop-done.invariant.found few plans lost h).0

pub returns-in_err-at-clause-found : goal.returns-in_err-at-clause-found
returns-in_err-at-clause-found c = λ few plans lost h.
    c.in_default.ensures.found (c.loop-done.invariant.lost lost)
    (c.loop-done.invariant.found few plans lost h).0

pub returns-then-at-now-clause-found : goal.returns-then-at-now-clause-found
returns-then-at-now-clause-found c = λ few plans lost h.
    c.in_default.ensures.found (c.loop-done.invariant.lost lost)
    (c.loop-done.invariant.found few plans lost h).0

pub returns-clause-found : goal.returns-clause-found
returns-clause-found c = λ few plans lost h.
    c.report-2.ensures.found (c.loop-done.invariant.lost lost)
    (c.loop-done.invariant.found few plans lost h).0

pub returns-in-Some-clause-shown : goal.returns-in-Some-clause-shown
returns-in-Some-clause-shown c = shown_then c.args.self.now c.loop-done.self c.report.new.self
    c.loop-done.invariant.shown c.in-Some.ensures.shown

pub returns-in_err-at-clause-shown : goal.returns-in_err-at-clause-shown
returns-in_err-at-clause-shown c = shown_then c.args.self.now c.loop-done.self c.report.new.self
    c.loop-done.invariant.shown c.in_default.ensures.shown

pub returns-then-at-now-clause-shown : goal.returns-then-at-now-clause-shown
returns-then-at-now-clause-shown c = shown_then c.args.self.now c.loop-done.self c.report.new.self
    c.loop-done.invariant.shown c.in_default.ensures.shown

pub returns-clause-shown : goal.returns-clause-shown
returns-clause-shown c = shown_then c.args.self.now c.loop-done.self c.report-2.new.self
    c.loop-done.invariant.shown c.report-2.ensures.shown

pub returns-in-Some-clause-sure : goal.returns-in-Some-clause-sure
returns-in-Some-clause-sure c = λ shown line knows plans h sure were.
    c.in-Some.ensures.sure sure (c.loop-done.invariant.sure shown line knows plans h sure were)

pub returns-in_err-at-clause-sure : goal.returns-in_err-at-clause-sure
returns-in_err-at-clause-sure c = λ shown line knows plans h sure were.
    c.in_default.ensures.sure sure (c.loop-done.invariant.sure shown line knows plans h sure were)

pub returns-then-at-now-clause-sure : goal.returns-then-at-now-clause-sure
returns-then-at-now-clause-sure c = λ shown line knows plans h sure were.
    c.in_default.ensures.sure sure (c.loop-done.invariant.sure shown line knows plans h sure were)

pub returns-clause-sure : goal.returns-clause-sure
returns-clause-sure c = λ shown line knows plans h sure were.
    c.report-2.ensures.sure sure (c.loop-done.invariant.sure shown line knows plans h sure were)

pub returns-in-Some-clause-there : goal.returns-in-Some-clause-there
returns-in-Some-clause-there c = λ shown line knows plans h waits.
    c.in-Some.ensures.there (c.loop-done.invariant.stands shown line knows plans h)
    (c.loop-done.invariant.waits waits).0

pub returns-in_err-at-clause-there : goal.returns-in_err-at-clause-there
returns-in_err-at-clause-there c = λ shown line knows plans h waits.
    let none : c.from_residual.result ≡ None = search rules in rw none tt

pub returns-clause-there : goal.returns-clause-there
returns-clause-there c = λ shown line knows plans h waits.
    c.report-2.ensures.there (c.loop-done.invariant.stands shown line knows plans h)
    (c.loop-done.invariant.waits waits).0

pub returns-in-Some-clause-marks : goal.returns-in-Some-clause-marks
returns-in-Some-clause-marks c =
    let event = c.in-Some.event in
    let new = c.report.new.self in
    marks_of c.args.now c.args.self.now new (Some event) (c.loop-done.invariant.due (Some event) new
    (told_now c.args.now c.loop-done.self new event c.in-Some.ensures.tells))

pub returns-in_err-at-clause-marks : goal.returns-in_err-at-clause-marks
returns-in_err-at-clause-marks c =
    marks_of c.args.now c.args.self.now c.report.new.self c.from_residual.result
    (returns-in_err-at-clause-due c)

pub returns-then-at-now-clause-marks : goal.returns-then-at-now-clause-marks
returns-then-at-now-clause-marks c =
    let new = c.report.new.self in
    let later : IfSome (next_time new) (λ at. c.args.now < at) = search rules in
    marks_of c.args.now c.args.self.now new None (c.loop-done.invariant.due None new
    (quiet_now c.args.now c.loop-done.self new c.in_default.ensures.tells later))

pub returns-clause-marks : goal.returns-clause-marks
returns-clause-marks c =
    let new = c.report-2.new.self in
    let due : Due c.args.now c.loop-done.self c.report-2.result new = search rules in
    marks_of c.args.now c.args.self.now new c.report-2.result
    (c.loop-done.invariant.due c.report-2.result new due)
