use Rattle.{std.proofs.Common.{rules, ◌≡◌, [], refl, subst, inr, length, Option}, dgt_game.specs.{declared.node.Step.{Step}, Memory.{IsBefore, IsRooted, Links, step_at, steps, tip}}}
use Rattle.dgt_game.proofs.{Chains.{place_at}, Held.{seen_new}, Sure.{seen_marked}}
use Rattle.dgt_game.proofs.memory.Memory.keep_path.Goals as goal

pub returns : goal.returns
returns c =
    let m = c.args.self.now in
    let kept = steps m.line.items in
    let seen = steps m.seen.items in
    let path = steps c.path-path.result.0.items in
    let start = c.path-path.result.1 in
    let same : step_at kept seen start ≡ step_at kept [] start =
    place_at kept seen start c.in_default-start.not-Seen in
    let within : (IsRooted (length kept) seen) → IsBefore (length kept) 0 start =
    λ rooted. c.path-path.ensures.start rooted (inr c.in_default-start.not-Seen) in
    record {
      holds = λ shown line back nothing h.
          seen_new shown line m _ refl refl refl refl back nothing
          (c.chained-seen.ensures.grows shown kept
          (rw same at (c.path-path.ensures.path shown line h)))
          (c.chained-seen.ensures.rooted (length kept) (within h.rooted)) h;
      links = λ step h.
          c.chained-seen.ensures.links kept step
          (subst (λ (o : Option Step). Links (tip o path) step) same
          (rw c.path-path.ensures.tip (rw c.in-Seen.is at h)));
      back = refl;
      unsaid = refl;
      line = refl;
      answer = refl;
      room = λ other. absurd (other c.in-Seen.k c.in-Seen.is);
      few = λ few. absurd (search (rules, few));
      sure = λ sure gone h. seen_marked sure gone m _ refl refl refl refl
          (c.chained-seen.ensures.sure sure (c.path-path.ensures.sure sure h.seen)) h;
      rooted = λ rooted. c.chained-seen.ensures.rooted (length kept) (within rooted);
    }
