-- What a file of games keeps.
use Rattle.std.proofs.Common.{rules, arith, ◌≡◌, ◌≢◌, ◌∙◌, ◌≤◌, ◌<◌, ◌⊎◌, inl, inr, ap, refl, sym, ℕ, zero, suc, Bool, true, false, length, List, [], ◌∷◌, ◌++◌, Some, None}
use Rattle.std.proofs.{lemmas.{Bool.{lt-ltb, le-ltb}, List.{append_assoc, take-append-drop}}, Math.Seq.{drop-append_seam}}
use Rattle.std.specs.Prelude.{Contains, drop, take, ◌-◌, ◌+◌, min, nat_lt, if◌then◌else◌}
use Rattle.dgt_game.specs.{declared.{event.Event.{Event}, node.Node.{Node}, recogniser.{Over.{Over}, Recogniser.{Recogniser}}, staying.{Staying.{Staying}, TheConstants.{NONE_STAYS}}}}
use Rattle.dgt_game.specs.{Told.{Leads, Told}, Staying.{Notes, SaysStays, StaysWhole, after_held, after_loose, after_step, back_by, staying_after}}
use Rattle.dgt_game.specs.Waiting.{has_result}
use Rattle.dgt_game.specs.{Recogniser.{new_recogniser}, Runs.{Call, Runs, events_of}}
use Rattle.dgt_game.specs.Filed.{AllIsFile, AskedStays, Asks, AsksAreLegal, Begins, CorrectionsKeepNothing, EndedIsKept}
use Rattle.dgt_game.specs.Filed.{IsFile, NoLineIsDeleted, OneBegins, Steps, StepsAreMade, WholeIsKept, lines_after}

-- what is counted is right: steps that aren't a line's own begin one that is kept
record IsCounted (line : List Told) (lines : List (List Told)) (self : Staying) : Type 0 where
  pub few : self.loose ≤ 2
  pub less : self.loose ≤ self.own
  pub own : self.own < 255 → (more kept : List Told) → line ≡ more ++ kept
      → self.own ≤ length more → kept ≢ [] → Begins lines kept

-- a line is kept, or the present line goes on from it by steps of which at most the loose ones can
-- be lost
abbrev Stays : ℕ → List Told → List (List Told) → List Told → Type 0
Stays loose line lines kept =
    Begins lines kept ⊎ ((more : List Told) × (line ≡ more ++ kept) × (loose ≤ length more))

begins_more : (lines : List (List Told)) (line kept : List Told) → Begins lines kept
    → Begins (line ∷ lines) kept
begins_more lines line kept (whole, (k, l, e), more) =
    (whole, (suc k, omega (arith, l), e), more)

begins_first : (lines : List (List Told)) (line more kept : List Told) → line ≡ more ++ kept
    → Begins (line ∷ lines) kept
begins_first lines line more kept e = (line, (zero, omega arith, refl), (more, e))

begins_in : (lines : List (List Told)) (line kept : List Told) (event : Event)
    → Begins lines kept → Begins (lines_after line event lines) kept
begins_in lines line kept (Event.Begun state is_turned) h = begins_more lines line kept h
begins_in lines line kept (Event.Back count true) h = begins_more lines line kept h
begins_in lines line kept (Event.Back count false) h = h
begins_in lines line kept (Event.Made one) h = h
begins_in lines line kept (Event.Unseen moves) h = h
begins_in lines line kept (Event.Gap state count) h = h
begins_in lines line kept (Event.Ended result) h = h
begins_in lines line kept (Event.Lost squares) h = h
begins_in lines line kept Event.Found h = h

-- ---- a step more

rest_of : (told : Told) (line more kept : List Told) (n : ℕ) → told ∷ line ≡ more ++ kept
    → suc n ≤ length more
    → (rest : List Told) × (line ≡ rest ++ kept) × (n ≤ length rest)
rest_of told line [] kept n e less = absurd (omega (arith, less))
rest_of told line (first ∷ more) kept n e less = (more, (search rules), omega (arith, less))

step_counted : (told : Told) (line : List Told) (lines : List (List Told)) (self : Staying)
    → IsCounted line lines self → IsCounted (told ∷ line) lines (after_step self)
step_counted told line lines self h = record {
  few = omega arith;
  less = omega (arith, h.less);
  own = λ few more kept e less some.
      let (rest, same, longer) = rest_of told line more kept self.own e (omega (arith, few, less))
      in h.own (omega (arith, few)) rest kept same longer some;
}

step_stays : (told : Told) (line kept : List Told) (lines : List (List Told)) (self : Staying)
    → Stays self.loose line lines kept → Stays (after_step self).loose (told ∷ line) lines kept
step_stays told line kept lines self (inl begins) = inl begins
step_stays told line kept lines self (inr (more, e, less)) =
    inr (told ∷ more, ap (λ (l : List Told). told ∷ l) e, omega (arith, less))

-- ---- the last step taken back

abbrev own_before : ℕ → ℕ
own_before own = if nat_lt own 255 then own - 1 else 255

before_many : (own : ℕ) → own < 255 → own_before own ≡ own - 1
before_many own few = rw (lt-ltb own 255 few) refl

own_many : (own : ℕ) → 255 ≤ own → own_before own ≡ 255
own_many own many = rw (le-ltb own 255 many) refl

few_or_many : (own : ℕ) → (own < 255) ⊎ (255 ≤ own)
few_or_many own = search rules

own_less : (own n : ℕ) → own_before own < 255 → own_before own ≤ n → own ≤ suc n
own_less own n few less = elim (few_or_many own) [
  | inl small ↦ omega (arith, before_many own small, less)
  | inr many ↦ absurd (omega (arith, own_many own many, few))
]

loose_less : (loose own : ℕ) → suc loose ≤ 2 → suc loose ≤ own → loose ≤ own_before own
loose_less loose own few less = elim (few_or_many own) [
  | inl small ↦ omega (arith, before_many own small, less)
  | inr many ↦ omega (arith, own_many own many, few)
]

was_less : (own : ℕ) → own_before own < 255 → own < 255
was_less own few = elim (few_or_many own) [
  | inl small ↦ small
  | inr many ↦ absurd (omega (arith, own_many own many, few))
]

loose_counted : (told : Told) (line : List Told) (lines : List (List Told)) (loose : ℕ)
    (self : Staying) → self.loose ≡ suc loose → IsCounted (told ∷ line) lines self
    → IsCounted line lines (after_loose self)
loose_counted told line lines loose self is h = record {
  few = omega (arith, h.few);
  less = omega (
    arith,
    is,
    loose_less loose self.own (omega (arith, h.few, is))
        (omega (arith, h.less, is)),
  );
  own = λ few more kept e longer some. h.own (was_less self.own few) (told ∷ more) kept
      (ap (λ (l : List Told). told ∷ l) e)
      (own_less self.own (length more) few longer) some;
}

loose_stays : (told : Told) (line kept : List Told) (lines : List (List Told)) (loose : ℕ)
    (self : Staying) → self.loose ≡ suc loose → Stays self.loose (told ∷ line) lines kept
    → Stays (self.loose - 1) line lines kept
loose_stays told line kept lines loose self is (inl begins) = inl begins
loose_stays told line kept lines loose self is (inr (more, e, longer)) =
    let (rest, same, less) = rest_of told line more kept loose e (omega (arith, longer, is)) in
    inr (rest, same, omega (arith, less, is))

-- all of the line is kept then
held_lines : (told : Told) (line : List Told) (lines : List (List Told)) (self : Staying)
    (count : ℕ) (stays : Bool) → IsCounted (told ∷ line) lines self
    → stays ≡ (after_held self).stays → (more kept : List Told) → told ∷ line ≡ more ++ kept
    → kept ≢ [] → Begins (lines_after (told ∷ line) (Event.Back count stays) lines) kept
held_lines told line lines self count true h is more kept e some =
    begins_first lines (told ∷ line) more kept e
held_lines told line lines self count false h is more kept e some =
    let none : self.own ≡ 0 = search rules in
    h.own (omega (arith, none)) more kept e (omega (arith, none)) some

held_counted : (told : Told) (line : List Told) (lines : List (List Told)) (self : Staying)
    (count : ℕ) (stays : Bool) → IsCounted (told ∷ line) lines self
    → stays ≡ (after_held self).stays
    → IsCounted line (lines_after (told ∷ line) (Event.Back count stays) lines) (after_held self)
held_counted told line lines self count stays h is = record {
  few = omega arith;
  less = omega arith;
  own = λ few more kept e longer some. held_lines told line lines self count stays h is
      (told ∷ more) kept (ap (λ (l : List Told). told ∷ l) e) some;
}

is_empty : (kept : List Told) → (kept ≡ []) ⊎ (kept ≢ [])
is_empty [] = inl refl
is_empty (told ∷ kept) = inr (λ e. let wrong : ⊥ = cc in wrong)

held_stays : (told : Told) (line kept : List Told) (lines : List (List Told)) (self : Staying)
    (count : ℕ) (stays : Bool) → IsCounted (told ∷ line) lines self
    → stays ≡ (after_held self).stays → kept ≢ [] → Stays self.loose (told ∷ line) lines kept
    → Stays 0 line (lines_after (told ∷ line) (Event.Back count stays) lines) kept
held_stays told line kept lines self count stays h is some (inl begins) =
    inl (begins_in lines (told ∷ line) kept (Event.Back count stays) begins)
held_stays told line kept lines self count stays h is some (inr (more, e, longer)) =
    inl (held_lines told line lines self count stays h is more kept e some)

-- ---- each event

-- what is so after an event
abbrev Goes : List Told → List (List Told) → Staying → List Told → List (List Told) → Staying
    → Type 0
Goes line lines old next now new =
    IsCounted next now new × ((kept : List Told) → kept ≢ [] → Stays old.loose line lines kept
    → Stays new.loose next now kept)

only : (told : Told) (more kept : List Told) → told ∷ [] ≡ more ++ kept → 1 ≤ length more
    → kept ≡ []
only told [] kept e longer = absurd (omega (arith, longer))
only told (first ∷ []) kept e longer = search rules
only told (first ∷ second ∷ more) kept e longer = absurd (search rules)

more_counted : (line : List Told) (lines : List (List Told)) (other : List Told) (self : Staying)
    → IsCounted line lines self → IsCounted line (other ∷ lines) self
more_counted line lines other self h = record {
  few = h.few;
  less = h.less;
  own = λ few more kept e longer some.
      begins_more lines other kept (h.own few more kept e longer some);
}

more_stays : (loose : ℕ) (line kept : List Told) (lines : List (List Told)) (other : List Told)
    → Stays loose line lines kept → Stays loose line (other ∷ lines) kept
more_stays loose line kept lines other (inl begins) = inl (begins_more lines other kept begins)
more_stays loose line kept lines other (inr goes) = inr goes

begun : (told : Told) (line : List Told) (lines : List (List Told)) (old : Staying)
    → Goes line lines old (told ∷ []) (line ∷ lines) (after_step NONE_STAYS)
begun told line lines old = (
  record {
    few = omega arith;
    less = omega arith;
    own = λ few more kept e longer some. absurd (some (only told more kept e longer));
  },
  λ kept some stays. inl (elim stays [
    | inl begins ↦ begins_more lines line kept begins
    | inr (more, e, longer) ↦ begins_first lines line more kept e
  ]),
)

step : (told : Told) (line : List Told) (lines : List (List Told)) (old : Staying)
    → IsCounted line lines old → Goes line lines old (told ∷ line) lines (after_step old)
step told line lines old h =
    (step_counted told line lines old h, λ kept some. step_stays told line kept lines old)

back_loose : (told : Told) (line : List Told) (lines : List (List Told)) (old : Staying)
    (loose count : ℕ) (stays : Bool) → IsCounted (told ∷ line) lines old
    → old.loose ≡ suc loose
    → Goes (told ∷ line) lines old line
    (lines_after (told ∷ line) (Event.Back count stays) lines) (after_loose old)
back_loose told line lines old loose count false h is = (
  loose_counted told line lines loose old is h,
  λ kept some. loose_stays told line kept lines loose old is,
)
back_loose told line lines old loose count true h is = (
  more_counted line lines (told ∷ line) (after_loose old)
      (loose_counted told line lines loose old is h),
  λ kept some stays. more_stays (old.loose - 1) line kept lines (told ∷ line)
      (loose_stays told line kept lines loose old is stays),
)

back_held : (told : Told) (line : List Told) (lines : List (List Told)) (old : Staying)
    (count : ℕ) (stays : Bool) → IsCounted (told ∷ line) lines old
    → stays ≡ (after_held old).stays
    → Goes (told ∷ line) lines old line
    (lines_after (told ∷ line) (Event.Back count stays) lines) (after_held old)
back_held told line lines old count stays h is = (
  held_counted told line lines old count stays h is,
  λ kept some. held_stays told line kept lines old count stays h is some,
)

back_by_loose : (told : Told) (line : List Told) (lines : List (List Told)) (old new : Staying)
    (count : ℕ) (stays : Bool) → IsCounted (told ∷ line) lines old → (loose : ℕ)
    → old.loose ≡ loose → new ≡ back_by loose old → stays ≡ new.stays
    → Goes (told ∷ line) lines old line
    (lines_after (told ∷ line) (Event.Back count stays) lines) new
back_by_loose told line lines old new count stays h zero is same says =
    rw same (back_held told line lines old count stays h
    (says ∙ ap (λ (s : Staying). s.stays) same))
back_by_loose told line lines old new count stays h (suc loose) is same says =
    rw same (back_loose told line lines old loose count stays h is)

event_goes : (line next : List Told) (lines : List (List Told)) (event : Event)
    (old new : Staying) (is_whole : Bool) → IsCounted line lines old → Leads line event next
    → new ≡ staying_after old event is_whole → SaysStays event new.stays
    → Goes line lines old next (lines_after line event lines) new
event_goes line next lines (Event.Begun state is_turned) old new is_whole h leads is says =
    rw (is, leads) (begun _ line lines old)
event_goes (last ∷ line) next lines (Event.Made one) old new is_whole h leads is says =
    rw (is, leads.2) (step _ (last ∷ line) lines old h)
event_goes (last ∷ line) next lines (Event.Unseen moves) old new is_whole h leads is says =
    rw (is, leads.3) (step _ (last ∷ line) lines old h)
event_goes (last ∷ line) next lines (Event.Gap state count) old new is_whole h leads is says =
    rw (is, leads.1) (step _ (last ∷ line) lines old h)
event_goes (last ∷ line) next lines (Event.Back count stays) old new true h leads is says =
    let said = says ∙ ap (λ (s : Staying). s.stays) is in
    rw (is, leads.2) (back_held last line lines old count stays h said)
event_goes (last ∷ line) next lines (Event.Back count stays) old new false h leads is says =
    rw leads.2 (back_by_loose last line lines old new count stays h old.loose refl is says)
event_goes line next lines (Event.Ended result) old new is_whole h leads is says =
    rw (is, leads) (h, λ kept some stays. stays)
event_goes line next lines (Event.Lost squares) old new is_whole h leads is says =
    rw (is, leads) (h, λ kept some stays. stays)
event_goes line next lines Event.Found old new is_whole h leads is says =
    rw (is, leads) (h, λ kept some stays. stays)
event_goes [] next lines (Event.Made one) old new is_whole h leads is says = absurd leads
event_goes [] next lines (Event.Unseen moves) old new is_whole h leads is says = absurd leads
event_goes [] next lines (Event.Gap state count) old new is_whole h leads is says = absurd leads
event_goes [] next lines (Event.Back count stays) old new is_whole h leads is says = absurd leads

-- ---- whole runs

run_goes : (calls : List Call) (line new : List Told) (lines now : List (List Told))
    (old ended : Recogniser) → IsCounted line lines old.staying → Runs old calls ended
    → Asks line lines (events_of calls) new now
    → Goes line lines old.staying new now ended.staying
run_goes [] line new lines now old ended h runs asks =
    rw (runs, asks.0, asks.1) (h, λ kept some stays. stays)
run_goes (Call.See sight ∷ calls) line new lines now old ended h (next, does, runs) asks =
    let same = does.3 in
    rw same at (run_goes calls line new lines now next ended (rw same h) runs asks)
run_goes (Call.Due None ∷ calls) line new lines now old ended h (next, does, runs) asks =
    let (self, same, over, notes) = does.3 in
    let is = notes.0 ∙ same in
    rw is at (run_goes calls line new lines now next ended (rw is h) runs asks)
run_goes (Call.Due (Some event) ∷ calls) line new lines now old ended h (next, does, runs)
    (after, leads, asks) =
    let (self, same, over, (is_whole, why, is, says)) = does.3 in
    let goes = event_goes line after lines event old.staying next.staying is_whole h leads
    (is ∙ ap (λ (s : Staying). staying_after s event is_whole) same) says in
    let later = run_goes calls after new (lines_after line event lines) now next ended goes.0 runs
    asks in
    (later.0, λ kept some stays. later.1 kept some (goes.1 kept some stays))
run_goes (Call.GoOn state is_turned ∷ calls) line new lines now old ended h (next, does, runs)
    (after, leads, asks) =
    let goes = event_goes line after lines (Event.Begun state is_turned) old.staying next.staying
    false h leads does.4 tt in
    let later = run_goes calls after new (line ∷ lines) now next ended goes.0 runs asks in
    (later.0, λ kept some stays. later.1 kept some (goes.1 kept some stays))

nothing : (more kept : List Told) → [] ≡ more ++ kept → kept ≡ []
nothing [] kept e = sym e
nothing (told ∷ more) kept e = absurd (search rules)

at_first : IsCounted [] [] NONE_STAYS
at_first = record {
  few = omega arith;
  less = omega arith;
  own = λ few more kept e longer some. absurd (some (nothing more kept e));
}

within : (file : List (List Told)) (line kept more : List Told) → line ≡ more ++ kept
    → Begins file line → Begins file kept
within file line kept more e (whole, is, (rest, same)) = (
  whole,
  is,
  (
    rest ++ more,
    same ∙ ap (λ (l : List Told). rest ++ l) e ∙ sym (append_assoc rest more kept),
  ),
)

in_file : (file : List (List Told)) (loose : ℕ) (line kept : List Told) (lines : List (List Told))
    → IsFile file line lines → Stays loose line lines kept → Begins file kept
in_file file loose line kept lines h (inl (whole, is, (more, e))) =
    within file whole kept more e (h.1 whole is)
in_file file loose line kept lines h (inr (more, e, longer)) = within file line kept more e h.0

pub no_line_is_deleted : NoLineIsDeleted
no_line_is_deleted early later self ended last before line new lines now file first runs was asks h
    = elim (is_empty line) [
      | inl none ↦ rw none (within file new [] new (search rules) h.0)
      | inr some ↦
          let counted = (run_goes early [] (last ∷ before ∷ line) [] lines new_recogniser self
          at_first first was).0 in
          let stays : Stays self.staying.loose (last ∷ before ∷ line) lines line =
          inr (last ∷ before ∷ [], refl, omega (arith, counted.few)) in
          in_file file ended.staying.loose new line now h
          ((run_goes later (last ∷ before ∷ line) new lines now self ended counted runs asks).1
          line some stays)
    ]

pub whole_is_kept : WholeIsKept
whole_is_kept calls before self new told line lines count stays runs asks same notes whole =
    let (is_whole, why, is, says) = notes in
    let counted = (run_goes calls [] (told ∷ line) [] lines new_recogniser before at_first runs
    asks).0 in
    let said : stays ≡ (after_held before.staying).stays = search (rules, whole) in
    held_lines told line lines before.staying count stays counted said [] (told ∷ line) refl
    (λ e. let wrong : ⊥ = cc in wrong)

in_more : (line kept : List Told) (event : Event) (lines : List (List Told))
    → Contains lines kept → Contains (lines_after line event lines) kept
in_more line kept (Event.Begun state is_turned) lines (k, l, e) = (suc k, omega (arith, l), e)
in_more line kept (Event.Back count true) lines (k, l, e) = (suc k, omega (arith, l), e)
in_more line kept (Event.Back count false) lines h = h
in_more line kept (Event.Made one) lines h = h
in_more line kept (Event.Unseen moves) lines h = h
in_more line kept (Event.Gap state count) lines h = h
in_more line kept (Event.Ended result) lines h = h
in_more line kept (Event.Lost squares) lines h = h
in_more line kept Event.Found lines h = h

none_wait : (nodes : List Node) → (nodes ≡ []) ⊎ (nodes ≢ [])
none_wait [] = inl refl
none_wait (node ∷ nodes) = inr (λ e. let wrong : ⊥ = cc in wrong)

has_ended : (over : Over) → has_result over ≡ true → over ≢ Over.No
has_ended over has none = let e = sym has ∙ ap (λ (o : Over). has_result o) none in cc

pub ended_is_kept : EndedIsKept
ended_is_kept calls before new told line lines count stays runs asks has (self, same, over, notes) =
    elim (none_wait self.memory.unsaid.items) [
      | inl none ↦ inl (whole_is_kept calls before self new told line lines count stays runs asks
          same notes (inr (has_ended self.over (over ∙ has), none)))
      | inr wait ↦ inr (self, notes, wait)
    ]

only_first : (whole one : List Told) → Contains (whole ∷ []) one → one ≡ whole
only_first whole one (zero, l, e) = sym e
only_first whole one (suc k, l, e) = absurd (omega (arith, l))

pub one_begins : OneBegins
one_begins whole line = (
  λ (one, is, (more, e)). (
    length more,
    sym (drop-append_seam more line) ∙ ap (λ (l : List Told). drop (length more) l)
        (sym e ∙ only_first whole one is),
  ),
  λ (k, e). (
    whole,
    (zero, omega arith, refl),
    (take k whole, rw e (sym (take-append-drop k whole))),
  ),
)

-- a step that doesn't stay is taken back
loose_back : (self new : Recogniser) (count : ℕ) (stays : Bool) (loose : ℕ)
    → Notes self (Some (Event.Back count stays)) new → ¬ (StaysWhole self)
    → self.staying.loose ≡ suc loose → self.staying.stays ≡ false
    → (stays ≡ false) × (new.staying.stays ≡ false) × (new.staying.loose ≡ loose)
loose_back self new count stays loose (true, why, is, says) not some none =
    absurd (not (why.0 refl))
loose_back self new count stays loose (false, why, is, says) not some none =
    let back : new.staying ≡ after_loose self.staying =
    is ∙ ap (λ (n : ℕ). back_by n self.staying) some in
    let same : new.staying.stays ≡ false = ap (λ (s : Staying). s.stays) back ∙ none in
    (says ∙ same, same, omega (arith, ap (λ (s : Staying). s.loose) back, some))

stepped_by : (old new self : Recogniser) → self.staying ≡ old.staying
    → new.staying ≡ after_step self.staying
    → (new.staying.stays ≡ false) × (new.staying.loose ≡ min (old.staying.loose + 1) 2)
stepped_by old new self same is = rw (is, same) (refl, refl)

stepped : (old new : Recogniser) → Steps old new
    → (new.staying.stays ≡ false) × (new.staying.loose ≡ min (old.staying.loose + 1) 2)
stepped old new (Event.Made one, is, (self, same, over, (whole, why, by, says))) =
    stepped_by old new self same by
stepped old new (Event.Unseen moves, is, (self, same, over, (whole, why, by, says))) =
    stepped_by old new self same by
stepped old new (Event.Gap state count, is, (self, same, over, (whole, why, by, says))) =
    stepped_by old new self same by
stepped old new (event, is, marks) = absurd is

asked : (events : List Event) (line new kept : List Told) (lines now : List (List Told))
    → Asks line lines events new now → Contains lines kept → Contains now kept
asked [] line new kept lines now asks h = rw asks.1 h
asked (event ∷ events) line new kept lines now (next, leads, asks) h =
    asked events next new kept (lines_after line event lines) now asks
    (in_more line kept event lines h)

pub asked_stays : AskedStays
asked_stays events line new kept lines now file asks h (whole, is, (more, e)) =
    within file whole kept more e (h.1 whole (asked events line new whole lines now asks is))

pub corrections_keep_nothing : CorrectionsKeepNothing
corrections_keep_nothing first one between second self mid next new count more stays stay steps
    notes not = (
      λ same.
          let (none, loose) = stepped first one steps in
          let alike = ap (λ (s : Staying). s.loose) same in
          (loose_back self mid count stays (min first.staying.loose 1) notes not
          (omega (arith, alike, loose)) (ap (λ (s : Staying). s.stays) same ∙ none)).0,
      λ same also_steps alike later again never.
          let (none, loose) = stepped first one steps in
          let (nothing, most) = stepped between second also_steps in
          let two : self.staying.loose ≡ 2 = omega (
            arith,
            loose,
            most,
            ap (λ (s : Staying). s.loose) same,
            ap (λ (s : Staying). s.loose) alike,
          ) in
          let once = loose_back self mid count stays 1 notes not two
          (ap (λ (s : Staying). s.stays) alike ∙ nothing) in (
            once.0,
            (loose_back next new more stay 0 again never
                (ap (λ (s : Staying). s.loose) later ∙ once.2)
                (ap (λ (s : Staying). s.stays) later ∙ once.1)).0,
          ),
    )

pub asks_are_legal : AsksAreLegal
asks_are_legal [] line new lines = (λ e. (lines, (e, refl)), λ asks. asks.1.0)
asks_are_legal (event ∷ events) line new lines = (
  λ (next, leads, legal).
      let asks = (asks_are_legal events next new (lines_after line event lines)).0 legal in
      (asks.0, (next, leads, asks.1)),
  λ (now, (next, leads, asks)).
      (next, leads, (asks_are_legal events next new (lines_after line event lines)).1 (now, asks)),
)

pub all_is_file : AllIsFile
all_is_file line lines = (
  (line, (zero, omega arith, refl), ([], refl)),
  λ kept (k, l, e). (kept, (suc k, omega (arith, l), e), ([], refl)),
)

pub steps_are_made : StepsAreMade
steps_are_made (Event.Made one) = (λ h. inl (one, refl), λ h. tt)
steps_are_made (Event.Unseen moves) = (λ h. inr (inl (moves, refl)), λ h. tt)
steps_are_made (Event.Gap state count) = (λ h. inr (inr (state, (count, refl))), λ h. tt)
steps_are_made (Event.Begun state is_turned) = (λ h. absurd h, search rules)
steps_are_made (Event.Back count stays) = (λ h. absurd h, search rules)
steps_are_made (Event.Ended result) = (λ h. absurd h, search rules)
steps_are_made (Event.Lost squares) = (λ h. absurd h, search rules)
steps_are_made Event.Found = (λ h. absurd h, search rules)
