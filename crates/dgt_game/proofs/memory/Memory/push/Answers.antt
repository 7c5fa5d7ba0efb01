use Rattle.{std.{proofs.{Common.{rules, ◌≡◌, ◌∙◌, ◌++◌, ◌∷◌, [], refl, sym, ap, List, length}, lemmas.List.{length-map}}, specs.Prelude.{slice_get}}, dgt_game.specs.declared.node.Node.{Node}}
use Rattle.dgt_game.{specs.{declared.node.Step.{Step}, Memory.{IsBefore, Links, step_at, steps}}, proofs.Chains.{before_later, grows_push, last_item, moved, not_seen, rooted_push, steps_push}}
use Rattle.dgt_game.proofs.{Held.{seen_new}, Moved.{pushed}, Sure.{marked_push, seen_marked}, Told.{links_moved}, memory.Memory.push.Goals.{then-is_full-via-then-is_full}}
use Rattle.dgt_game.proofs.memory.Memory.push.Goals.{then-is_full-via-else-is_full+then-not-may_follow}
use Rattle.dgt_game.proofs.memory.Memory.push.Goals as goal

pub returns-then-is_full-clause-holds : goal.returns-then-is_full-clause-holds
returns-then-is_full-clause-holds c = λ shown line back nothing links seen h.
    c.keep_path.ensures.holds shown line back nothing h

pub returns-clause-holds : goal.returns-clause-holds
returns-clause-holds c = λ shown line back nothing links seen h.
    let m = c.keep_path.new.self in
    let kept = steps m.line.items in
    let old = steps m.seen.items in
    let step = c.args.node.step in
    let parent = c.in_ok-parent.parent in
    let held = c.keep_path.ensures.holds shown line back nothing h in
    let linked : Links (step_at kept old parent) step = c.in_ok-parent.ensures.links step links in
    let before : IsBefore (length kept) (length old) parent = c.may_follow.ensures.0
    (search rules) in
    let same : steps c.push.new.self.items ≡ old ++ moved step parent ∷ [] =
    ap steps c.push.ensures.items ∙ steps_push m.seen.items _ in
    seen_new shown line m _ refl refl refl refl (c.keep_path.ensures.back ∙ back)
    (c.keep_path.ensures.unsaid ∙ nothing) (rw same
    (grows_push shown kept old (moved step parent) held.grows (links_moved (step_at kept old
    parent) step parent linked) seen))
    (rw same (rooted_push (length kept) old (moved step parent) held.rooted before)) held

pub returns-clause-seen : goal.returns-clause-seen
returns-clause-seen c =
    let m = c.keep_path.new.self in
    let old = steps m.seen.items in
    let new = moved c.args.node.step c.in_ok-parent.parent in
    let same : steps c.push.new.self.items ≡ old ++ new ∷ [] =
    ap steps c.push.ensures.items ∙ steps_push m.seen.items _ in
    let len : length old ≡ c.len-len.result =
    length-map m.seen.items (λ (n : Node). n.step) ∙ sym c.len-len.ensures.value in (
      c.in_ok-parent.parent,
      ap (λ (xs : List Step). slice_get xs c.len-len.result) same ∙ last_item
          old new c.len-len.result len,
    )

pub returns-in_err-parent-clause-room : goal.returns-in_err-parent-clause-room
returns-in_err-parent-clause-room c = λ before.
    let kept = c.keep_path.ensures.room (not_seen _ c.args.node.step.parent before) in
    search (rules, kept)

pub returns-then-is_full-clause-room : goal.returns-then-is_full-clause-room
returns-then-is_full-clause-room c = λ before.
    let kept = c.keep_path.ensures.room (not_seen _ c.args.node.step.parent before) in
    elim c.then-is_full.branch [
      | then-is_full-via-then-is_full w ↦ search (rules, kept)
      | then-is_full-via-else-is_full+then-not-may_follow w ↦ search (rules, kept, before_later)
    ]

pub returns-clause-whole : goal.returns-clause-whole
returns-clause-whole c =
    let old = c.keep_path.new.self.seen.items in
    let new = record c.args.node { step = moved c.args.node.step c.in_ok-parent.parent } in
    let len : length old ≡ c.len-len.result = search rules in (
      new,
      ap (λ (xs : List Node). slice_get xs c.len-len.result) c.push.ensures.items
          ∙ last_item old new c.len-len.result len,
      refl,
      refl,
      refl,
    )

pub returns-clause-rooted : goal.returns-clause-rooted
returns-clause-rooted c = λ rooted.
    let m = c.keep_path.new.self in
    let old = steps m.seen.items in
    let new = moved c.args.node.step c.in_ok-parent.parent in
    let before : IsBefore (length (steps m.line.items)) (length old) c.in_ok-parent.parent =
    c.may_follow.ensures.0 (search rules) in
    let same : steps c.push.new.self.items ≡ old ++ new ∷ [] =
    ap steps c.push.ensures.items ∙ steps_push m.seen.items _ in
    rw same
    (rooted_push (length (steps m.line.items)) old new (c.keep_path.ensures.rooted rooted) before)

pub returns-clause-kept : goal.returns-clause-kept
returns-clause-kept c = λ few picture seen.
    let m = c.keep_path.new.self in
    rw c.push.ensures.items
    (pushed m.seen.items _ picture (rw (c.keep_path.ensures.few few).1 seen))

pub returns-then-is_full-clause-kept : goal.returns-then-is_full-clause-kept
returns-then-is_full-clause-kept c = λ few picture seen.
    rw (c.keep_path.ensures.few few).1 seen

pub returns-clause-sure : goal.returns-clause-sure
returns-clause-sure c = λ sure gone mark h.
    let m = c.keep_path.new.self in
    let held = c.keep_path.ensures.sure sure gone h in
    seen_marked sure gone m _ refl refl refl refl
    (rw c.push.ensures.items (marked_push sure m.seen.items _ held.seen mark)) held
