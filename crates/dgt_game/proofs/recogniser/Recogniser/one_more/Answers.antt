use Rattle.dgt_game.{proofs.{Chains.{same_some, get_step}, Links.{either}, Pictures.{read_at}, recogniser.Recogniser.one_more.Goals.{then-not-is_shadow}}, specs.{Memory.{Fits}, Reading.{IsRoomFor}}}
use Rattle.{dgt_game.proofs.recogniser.Recogniser.one_more.Goals.{else-not-is_shadow}, std.proofs.Common.{rules, arith, ◌≡◌, ◌-◌, ◌+◌, ◌<◌, inl, inr, true, false, length, Some, slice_index_or}}
use Rattle.{std.{specs.Prelude.{slice_get}, proofs.lemmas.Bool.{cases_lt}}, dgt_values.specs.Board.{pieces_of}}
use Rattle.dgt_game.proofs.recogniser.Recogniser.one_more.Goals as goal

pub loop-at-preserved : goal.loop-at-preserved
loop-at-preserved c =
    let memory = c.args.self.now.memory in
    let pieces = pieces_of c.args.view.now.shown in
    let seen = memory.seen.items in
    let here = c.index-deref-len.result in
    let len = c.len-len.result in
    let now = len - 1 - c.loop-at.at in
    let less : now < length seen = grind arith in
    let read : here ≡ slice_index_or seen now here = search rules in
    let found : slice_get seen now ≡ Some here = read_at seen now here less read in (
      elim c.if-not-is_shadow.branch [
        | then-not-is_shadow w ↦ rw w.best-is
            (either (λ node. Fits memory pieces node) w.better-best.result
            c.loop-at.best w.made.result w.better-best.ensures.linked c.loop-at.invariant.0
            w.made.ensures.linked)
        | else-not-is_shadow w ↦ rw w.best-is c.loop-at.invariant.0
      ],
      elim c.if-not-is_shadow.branch [
        | then-not-is_shadow w ↦ rw w.best-is
            (either (IsRoomFor memory) w.better-best.result c.loop-at.best
            w.made.result w.better-best.ensures.linked c.loop-at.invariant.1
            (w.made.ensures.room (λ k e. absurd (cc))))
        | else-not-is_shadow w ↦ rw w.best-is c.loop-at.invariant.1
      ],
      λ k node far is known line.
          elim c.if-not-is_shadow.branch [
            | then-not-is_shadow w ↦ rw w.best-is (elim (cases_lt (k + c.loop-at.at) len) [
              | inl less ↦
                  let same : k ≡ now = omega (arith, less, far) in
                  let got : slice_get seen now ≡ Some node = rw same at is in
                  w.better-best.ensures.second (w.made.ensures.reads (
                    node.step,
                    get_step seen now node got,
                    line,
                  ))
              | inr before ↦ w.better-best.ensures.first
                  (c.loop-at.invariant.2 k node before is known line)
            ])
            | else-not-is_shadow w ↦ rw w.best-is (elim (cases_lt (k + c.loop-at.at) len) [
              | inl less ↦
                  let same : k ≡ now = omega (arith, less, far) in
                  let one = same_some (slice_get seen now) node here (rw same at is) found in
                  let no : c.is_shadow.result ≡ false =
                  c.is_shadow.ensures.reads (rw one at known) in
                  let yes : c.is_shadow.result ≡ true = search rules in
                  absurd (cc)
              | inr before ↦ c.loop-at.invariant.2 k node before is known line
            ])
          ],
    )
