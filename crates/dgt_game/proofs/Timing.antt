-- What is done whenever `due` is called.
use Rattle.std.{proofs.{Common.{rules, ◌≡◌, ◌∙◌, ◌++◌, ◌≤◌, ◌<◌, ap, refl, sym, subst, ℕ, false, List, [], ◌∷◌, Option, Some, None}, lemmas.Option.{none-some}}, specs.Prelude.{IfSome, MatchOption}}
use Rattle.dgt_game.specs.{declared.{event.Event.{Event}, recogniser.Recogniser.{Recogniser}, resting.Next.{Next}}, Timing.{Acts, AllDue, Calls, DoneBy, Due, HasTask, IsIdle, Marks, NoCallMatters}}
use Rattle.dgt_game.specs.{Recogniser.{Reports}, Timing.{DueEnds, DueIsRight}, Waiting.{Waits}}
use Rattle.dgt_game.specs.{Timing.{Tells, next_time, with_report}, Waiting.{Follows, IsQuiet, IsRight}}

-- what is done next doesn't count
pub right_with : (self : Recogniser) (next : Option Next) (event : Event)
    → IsRight self event → IsRight (record self { next = next }) event
right_with self next event h = search rules

pub acts_with : (old new : Recogniser) (next : Option Next) → Acts old new
    → Acts old (record new { next = next })
acts_with old new next h = search rules

pub follows_then : (a b c : Recogniser) (event : Option Event) → Follows a None b
    → Follows b event c → Follows a event c
follows_then a b c event f g = search rules

pub tells_then : (a b c : Recogniser) (report : Option Event) → Tells a None b → Tells b report c
    → Tells a report c
tells_then a b c report h k = search rules

has_later : (now later : ℕ) (next : Option ℕ) → now ≤ later
    → MatchOption next ⊥ (λ at. at ≤ now) → MatchOption next ⊥ (λ at. at ≤ later)
has_later now later next less h = search rules

pub no_time : (self : Recogniser) → self.next ≡ None → next_time self ≡ None
no_time self e = search rules

pub told_now : (now : ℕ) (old new : Recogniser) (event : Event) → Tells old (Some event) new
    → Due now old (Some event) new
told_now now old new event tells = ([], (tells, λ e. absurd (none-some event (sym e))))

pub quiet_now : (now : ℕ) (old new : Recogniser) → Tells old None new
    → IfSome (next_time new) (λ at. now < at) → Due now old None new
quiet_now now old new tells idle = ([], (tells, λ e. ((tells.3 refl).0, idle)))

-- one task before others
pub one_more : (now : ℕ) (old quiet done new : Recogniser) (report : Option Event)
    → Tells old None quiet → HasTask now quiet → Acts quiet done → Due now done report new
    → Due now old report new
one_more now old quiet done new report tells has acts due =
    (done ∷ due.0, (quiet, tells, has, acts, due.1))

-- an event is the same later
done_later : (now later : ℕ) (done : List Recogniser) (old new : Recogniser) (event : Event)
    → now ≤ later → DoneBy now done old (Some event) new → DoneBy later done old (Some event) new
done_later now later [] old new event less h = (h.0, λ e. absurd (none-some event (sym e)))
done_later now later (next ∷ done) old new event less h = (
  h.0,
  h.1,
  has_later now later (next_time h.0) less h.2,
  h.3,
  done_later now later done next new event less h.4,
)

-- after a call that reported nothing, another one is the first
then_later : (now later : ℕ) (done : List Recogniser) (old between new : Recogniser)
    (report : Option Event) → now ≤ later → DoneBy now done old None between
    → Due later between report new → Due later old report new
then_later now later [] old between new report less h ([], k) =
    ([], (tells_then old between new report h.0 k.0, k.1))
then_later now later [] old between new report less h (next ∷ more, k) =
    (next ∷ more, (k.0, tells_then old between k.0 None h.0 k.1, k.2, k.3, k.4))
then_later now later (next ∷ done) old between new report less h due =
    one_more later old h.0 next new report h.1 (has_later now later (next_time h.0) less h.2) h.3
    (then_later now later done next between new report less h.4 due)

all_later : (now later : ℕ) (old between new : Recogniser) (events : List Event) → now ≤ later
    → Due now old None between → AllDue later between events new → AllDue later old events new
all_later now later old between new [] less due h =
    then_later now later due.0 old between new None less due.1 h
all_later now later old between new (event ∷ events) less due h =
    (h.0, then_later now later due.0 old between h.0 (Some event) less due.1 h.1, h.2)

reported : (now later : ℕ) (old between new : Recogniser) (report : Option Event)
    (early after late : List Event) → now ≤ later → Due now old report between
    → early ≡ with_report report after → AllDue later between (after ++ late) new
    → AllDue later old (early ++ late) new
reported now later old between new None early after late less due e h =
    rw e (all_later now later old between new (after ++ late) less due h)
reported now later old between new (Some event) early after late less due e h =
    rw e (between, (due.0, done_later now later due.0 old between event less due.1), h)

pub no_call_matters : NoCallMatters
no_call_matters [] now old next new early late all calls h = rw calls.0 (rw calls.1 at h)
no_call_matters (time ∷ times) now old next new early late all calls h =
    let (report, between, due, (after, more, e)) = calls in
    search (rules, reported, no_call_matters times now between next new after late all.1 more h)

-- if nothing is due, nothing is done
no_task : (now : ℕ) (next : Option ℕ) → IfSome next (λ at. now < at)
    → MatchOption next ⊥ (λ at. at ≤ now) → ⊥
no_task now next idle has = search rules

pub idle_stays : (now : ℕ) (old new : Recogniser) (report : Option Event) → IsIdle now old
    → Due now old report new → (report ≡ None) × (new ≡ old)
idle_stays now old new report idle ([], h) = h.0.4 idle.0
idle_stays now old new report idle (next ∷ done, h) = absurd (no_task now (next_time old) idle.1
    (subst (HasTask now) (h.1.4 idle.0).1 h.2))

-- in doubt nothing is due
pub idle_in_doubt : (now : ℕ) (self : Recogniser) → self.is_sure ≡ false → IsQuiet self
    → IsIdle now self
idle_in_doubt now self sure quiet =
    let none : IfSome (next_time self) (λ at. now < at) = rw sure tt in (quiet, none)

with_more : (report : Option Event) (after late : List Event)
    → with_report report after ++ late ≡ with_report report (after ++ late)
with_more None after late = refl
with_more (Some event) after late = refl

-- calls after others
pub calls_then : (old mid new : Recogniser) (times later : List ℕ) (early late : List Event)
    → Calls times old early mid → Calls later mid late new
    → Calls (times ++ later) old (early ++ late) new
calls_then old mid new [] later early late (none, same) next = rw none (rw same at next)
calls_then old mid new (now ∷ times) later early late
    (report, self, due, (after, calls, e)) next = (
      report,
      self,
      due,
      (
        after ++ late,
        calls_then self mid new times later after late calls next,
        ap (λ (events : List Event). events ++ late) e ∙ with_more report after late,
      ),
    )

-- ---- What a call does

done_right : (now : ℕ) (done : List Recogniser) (old new : Recogniser) (report : Option Event)
    → DoneBy now done old report new → Reports old report new × (Waits old → Waits new
    × IfSome report (λ event. IsRight new event) × Follows old report new)
done_right now [] old new report (tells, idle) =
    (tells.0, λ waits. ((tells.1 waits).0, (tells.1 waits).1, tells.2 waits))
done_right now (next ∷ done) old new report (quiet, tells, has, acts, more) =
    let later = done_right now done next new report more in
    let still = (tells.3 refl).0 in search (rules, follows_then)

pub due_is_right : DueIsRight
due_is_right now old new report due = done_right now due.0 old new report due.1

done_ends : (now : ℕ) (done : List Recogniser) (old new : Recogniser)
    → DoneBy now done old None new → IsIdle now new
done_ends now [] old new (tells, idle) = idle refl
done_ends now (next ∷ done) old new h = done_ends now done next new h.4

pub due_ends : DueEnds
due_ends now old new due = done_ends now due.0 old new due.1

-- what is known of the line's steps

marks_by : (now : ℕ) (done : List Recogniser) (old new : Recogniser) (report : Option Event)
    → DoneBy now done old report new → Marks old report new
marks_by now [] old new report (tells, idle) = (old, refl, refl, tells.7)
marks_by now (next ∷ done) old new report (quiet, tells, has, acts, more) =
    let (self, same, over, notes) = marks_by now done next new report more in (
      self,
      same ∙ acts.4 ∙ tells.7.0,
      over ∙ acts.2.0 ∙ tells.7.1,
      notes,
    )

pub marks_of : (now : ℕ) (old new : Recogniser) (report : Option Event) → Due now old report new
    → Marks old report new
marks_of now old new report due = marks_by now due.0 old new report due.1
