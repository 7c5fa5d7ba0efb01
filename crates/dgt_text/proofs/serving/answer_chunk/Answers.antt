use Rattle.{std.proofs.{Common.{◌+◌, ◌∷◌, [], take, drop, ◌-◌, refl, rules}, lemmas.List.{places, take_all}}, dgt_command.specs.Content.{command_event_content}, dgt_text.specs.Conversation.{heard}}
use Rattle.dgt_text.proofs.ServingLemmas.{chunk_more, chunk_rest, hears_some, hears_none, served_then, served_part, served_halts, halted_exit, halted_longer}
use Rattle.dgt_text.proofs.serving.answer_chunk.Goals as goal

pub returns-in_err-send_all-clause-served : goal.returns-in_err-send_all-clause-served
returns-in_err-send_all-clause-served g c =
    halted_exit _ _ _ _ _ _ _ _ c.from_residual.ensures.1 c.in_err-send_all.ensures.served.0
    (halted_longer _ _ _ _ _ [] c.args.chunk.now c.in_err-send_all.ensures.served.1)

pub loop-at-preserved-in-Continue-branch-2 : goal.loop-at-preserved-in-Continue-branch-2
loop-at-preserved-in-Continue-branch-2 g c =
    let taken = rw c.unwrap-used.ensures at c.take.follows.holds-at-none in
    let found = hears_some c.parts_of_words.ensures.nothing command_event_content _ _ _ _
    c.loop-at.invariant.served.answers.settled c.if-is_some.ensures
    (rw c.unwrap-used.ensures at c.take.ensures.event) taken.0 in
    record {
      bound = search (
        rules,
        places,
        c.loop-at.invariant.bound,
        rw c.unwrap-used.ensures at c.take.ensures.within,
      );
      served = rw (chunk_more c.args.chunk.now c.loop-at.at c.unwrap-used.result.used)
          (served_then _ c.writes_in_a_row.ensures c.divisions_append.ensures _ _ _ _ _ _ _ _ _
          (heard found.0 ∷ [])
          c.loop-at.invariant.served found.1 refl c.in_ok-send_all-2.ensures.served);
      no_flush = λ h. c.in_ok-send_all-2.ensures.no_flush (c.loop-at.invariant.no_flush h);
    }

pub returns-in_err-send_all-2-clause-served : goal.returns-in_err-send_all-2-clause-served
returns-in_err-send_all-2-clause-served g c =
    let taken = rw c.unwrap-used.ensures at c.take.follows.holds-at-none in
    let found = hears_some c.parts_of_words.ensures.nothing command_event_content _ _ _ _
    c.loop-at.invariant.served.answers.settled c.if-is_some.ensures
    (rw c.unwrap-used.ensures at c.take.ensures.event) taken.0 in
    let halted =
    served_halts _ c.writes_in_a_row.ensures c.divisions_append.ensures _ _ _ _ _ _ _ _ _ found.0
    c.loop-at.invariant.served found.1 c.in_err-send_all-2.ensures.served.1 in
    halted_exit _ _ _ _ _ _ _ _ c.from_residual-in_err-send_all-2.ensures.1
    c.in_err-send_all-2.ensures.served.0
    (rw (chunk_rest c.args.chunk.now c.loop-at.at c.unwrap-used.result.used) at
    (halted_longer _ _ _ _ _ _ (drop (c.loop-at.at + c.unwrap-used.result.used) c.args.chunk.now)
    halted))

pub loop-at-preserved : goal.loop-at-preserved
loop-at-preserved g c = search (rules, hears_none, places, chunk_more, served_part)

pub returns-clause-served : goal.returns-clause-served
returns-clause-served g c = search (rules, take_all)
