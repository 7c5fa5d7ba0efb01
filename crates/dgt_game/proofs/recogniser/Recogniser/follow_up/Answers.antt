use Rattle.dgt_game.specs.Waiting.{EndsByRules, MustEnd, last_of}
use Rattle.dgt_game.proofs.Waiting.{rules_first}
use Rattle.{std.proofs.{Common.{rules, ◌≡◌, ◌∙◌, ℕ, [], Some, None, ap, inl, inr, refl, subst}, lemmas.Option.{IfSome_then}}, dgt_game.specs.declared.{event.GameResult.{GameResult}, node.Step.{Step}}}
use Rattle.dgt_game.{specs.{declared.recogniser.{Over.{Over}, Recogniser.{Recogniser}}, Memory.{IsTold}, Standing.{EndsHere}, Waiting.{EndWaits, EndsBy, coming}}, proofs.Standing.{ends_of}}
use Rattle.dgt_game.proofs.{Standing.{meant_stands}, Known.{knows_same, memory_of, view_of}, Waiting.{last_comes, or_some}, recogniser.Recogniser.follow_up.Goals.{Joined-event, in_default, in-Begun}}
use Rattle.std.specs.Prelude.{IfSome}
use Rattle.dgt_game.proofs.recogniser.Recogniser.follow_up.Goals as goal

-- only whether the line is over may change
kept : (c : Joined-event) → (memory_of c.match-event.self ≡ memory_of c.args.self.now)
    × (view_of c.match-event.self ≡ view_of c.args.self.now)
kept c = elim c.match-event.branch [
  | in_default w ↦ (ap memory_of w.self-is, ap view_of w.self-is)
  | in-Begun w ↦ (ap memory_of w.self-is, ap view_of w.self-is)
]

pub returns-else-is_quiet-clause-knows : goal.returns-else-is_quiet-clause-knows
returns-else-is_quiet-clause-knows c = λ shown line h.
    let (memory, view) = kept (goal.at.returns-else-is_quiet-clause-knows c).Joined-event in
    knows_same shown line c.args.self.now c.match-event.self memory view h

pub returns-then-is_quiet-clause-knows : goal.returns-then-is_quiet-clause-knows
returns-then-is_quiet-clause-knows c = λ shown line h.
    let (memory, view) = kept (goal.at.returns-then-is_quiet-clause-knows c).Joined-event in
    let told = c.is_quiet.ensures.0 c.if-is_quiet.true in
    c.stand_on_last.ensures.stays shown line told
    (knows_same shown line c.args.self.now _ memory view h)

pub returns-else-is_quiet-clause-right : goal.returns-else-is_quiet-clause-right
returns-else-is_quiet-clause-right c = λ h.
    elim c.match-event.branch [ in_default w ↦ rw w.self-is h | in-Begun w ↦ rw w.self-is h ]

pub returns-then-is_quiet-clause-right : goal.returns-then-is_quiet-clause-right
returns-then-is_quiet-clause-right c = λ h.
    let self = c.match-event.self in
    let new = c.stand_on_last.new.self in
    let waits : EndWaits self =
    elim c.match-event.branch [ in_default w ↦ rw w.self-is h | in-Begun w ↦ rw w.self-is h ] in
    let back : self.memory.back ≡ 0 = search rules in
    let unsaid : self.memory.unsaid.items ≡ [] = search rules in
    let last = last_comes self.memory back unsaid in
    let keeps = c.stand_on_last.ensures.keeps in
    let P : GameResult × Over → Type 0 = λ end. (step : Step) × (coming self.memory ≡ Some step)
    × EndsBy end.1 self.view step end.0 in
    let ends = IfSome_then c.end_of_line.result {Q = P} c.end_of_line.ensures.is
    (λ end h. (h.0, last ∙ h.1, h.2)) in
    let both = or_some c.end_of_line.result self.ended P ends waits in
    rw (keeps.2, c.or-self.ensures, keeps.0, c.stand_on_last.ensures.coming) both

pub returns-else-is_quiet-clause-stands : goal.returns-else-is_quiet-clause-stands
returns-else-is_quiet-clause-stands c = λ meant back.
    let waits : IsTold c.match-event.self.memory → ⊥ = λ told. search (rules, told) in
    elim c.match-event.branch [
      | in_default w ↦ rw w.self-is (meant_stands c.args.self.now meant back
          (subst (λ
          (s : Recogniser). IsTold s.memory → s.memory.answer ≡ None) w.self-is (λ told. absurd
          (waits told))))
      | in-Begun w ↦ rw w.self-is (meant_stands (record c.args.self.now {
        over = Over.No;
      }) meant back (subst (λ (s : Recogniser). IsTold s.memory → s.memory.answer ≡ None)
          w.self-is (λ told. absurd (waits told))))
    ]

pub returns-then-is_quiet-clause-stands : goal.returns-then-is_quiet-clause-stands
returns-then-is_quiet-clause-stands c = λ meant back.
    let ends : EndsHere c.match-event.self = elim c.match-event.branch [
      | in_default w ↦ rw w.self-is (ends_of c.args.self.now meant)
      | in-Begun w ↦ rw w.self-is (ends_of c.args.self.now meant)
    ] in
    c.stand_on_last.ensures.stands (c.is_quiet.ensures.0 c.if-is_quiet.true) ends

pub returns-else-is_quiet-clause-there : goal.returns-else-is_quiet-clause-there
returns-else-is_quiet-clause-there c =
    elim c.match-event.branch [
      | in_default w ↦ rw w.self-is (inl refl)
      | in-Begun w ↦ rw w.self-is (inl refl)
    ]

pub returns-then-is_quiet-clause-there : goal.returns-then-is_quiet-clause-there
returns-then-is_quiet-clause-there c =
    let same : c.match-event.self.here ≡ c.args.self.now.here = elim c.match-event.branch [
      | in_default w ↦ rw w.self-is refl
      | in-Begun w ↦ rw w.self-is refl
    ] in
    elim c.stand_on_last.ensures.there [
      | inl here ↦ inl (here ∙ same)
      | inr answers ↦ inr answers
    ]

pub returns-then-is_quiet-clause-ends : goal.returns-then-is_quiet-clause-ends
returns-then-is_quiet-clause-ends c = λ told.
    let same : (memory_of c.match-event.self ≡ memory_of c.args.self.now)
    × (c.match-event.self.since ≡ c.args.self.now.since) = elim c.match-event.branch [
      | in_default w ↦ rw w.self-is (refl, refl)
      | in-Begun w ↦ rw w.self-is (refl, refl)
    ] in
    let last = last_of c.match-event.self.memory in
    let ends = subst (λ (n : ℕ). IfSome last (λ step. MustEnd step
    → EndsByRules n step c.end_of_line.result)) same.1 c.end_of_line.ensures.ends in
    rw (c.stand_on_last.ensures.line, c.stand_on_last.ensures.keeps.2, c.or-self.ensures)
    (rules_first c.args.self.now.since last c.end_of_line.result c.match-event.self.ended ends)

pub returns-else-is_quiet-clause-ends : goal.returns-else-is_quiet-clause-ends
returns-else-is_quiet-clause-ends c = λ told.
    let (memory, view) = kept (goal.at.returns-else-is_quiet-clause-ends c).Joined-event in
    absurd (search rules)
