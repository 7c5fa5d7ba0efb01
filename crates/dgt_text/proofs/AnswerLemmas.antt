-- The facts that a board's answer determines.
use Rattle.{std.proofs.Common.{◌≡◌, List, [], ◌∷◌, ◌++◌, sym, ap, length, arith, append_assoc, rules}, dgt_message.specs.Encoding.{encoding}, dgt_lines.specs.Monitoring.{IsPrefix}}
use Rattle.dgt_text.{specs.{Conversation.{EachPrefixGoesOn, Exchange, bytes_sent, sent}, Ends.{BrokenAnswersBegin, OneIsCutOff}}, proofs.ConversationLemmas.{bytes_sent-append}}

pub broken_answers_begin : EachPrefixGoesOn → BrokenAnswersBegin
broken_answers_begin goes_on before after last bytes out whole p q =
    let more = goes_on before after last bytes p.steps q.0 p.hears q.1 in
    search (rules, bytes_sent-append, append_assoc)

pub one_is_cut_off : OneIsCutOff
one_is_cut_off first second out p = go p.before p.whole p.sure
  where
    go : (before : List Exchange) → sent first ∷ sent second ∷ [] ≡ before ++ p.last
        → IsPrefix (bytes_sent before) out → IsPrefix (encoding first) out
    go [] e sure =
        let two : length p.last ≡ 2 = sym (ap length e) in
        let one = p.one in absurd (omega (arith, two, one))
    go (x ∷ xs) e sure =
        let same : x ≡ sent first = cc in
        let begins : IsPrefix (bytes_sent (sent first ∷ xs)) out = rw same at sure in
        search (rules, append_assoc)
