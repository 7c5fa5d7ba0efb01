use Rattle.{std.proofs.lemmas.List.{take_rest}, dgt_decode.proofs.Cutting.{reported_verdict}}
use Rattle.dgt_decode.proofs.plain.push_segment.Goals as goal

pub returns-in_ok-push_strays-in-Some : goal.returns-in_ok-push_strays-in-Some
returns-in_ok-push_strays-in-Some c =
    reported_verdict _ _ _ _ _ _ _ _ _ c.in-Some.ensures.value c.in_ok-push-in-Some.ensures.items
    (take_rest c.args.segment.now c.in-Some.place) c.in_ok-push_strays-in-Some.ensures
