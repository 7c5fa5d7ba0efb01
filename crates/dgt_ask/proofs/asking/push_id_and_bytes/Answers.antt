use Rattle.{std.proofs.{Common.{[], ◌∷◌, arith}, lemmas.Str.Pattern.{split_after}}, dgt_ask.proofs.AskLemmas.{digits_lack_space}}
use Rattle.dgt_ask.proofs.asking.push_id_and_bytes.Goals as goal

pub returns-in-Some : goal.returns-in-Some
returns-in-Some c = λ message raw.
    let cut = rw c.in-Some.is at (split_after 32 _ (raw.0 ∷ raw.1 ∷ []) raw.2 c.split_once.result
    c.split_once.ensures.cases (omega arith) raw.3 (digits_lack_space _ _ _ raw.4)) in
    c.push_clock_message.ensures.asks message (rw cut.0 raw.4) (rw cut.1 raw.5) raw.6 raw.7
