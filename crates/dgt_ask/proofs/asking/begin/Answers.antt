use Rattle.{std.proofs.{Common.{◌≡◌, ◌∙◌, arith, inl, inr, rules, sym}, lemmas.Str.Pattern.{split_after, split_parts}}, dgt_ask.proofs.AskLemmas.{name_lacks_space, not_named, raw_command, raw_name}}
use Rattle.dgt_ask.{proofs.AskLemmas.{refused, stray_name}, specs.Asks.{detail_text}}
use Rattle.dgt_ask.specs.declared.details.Detail.TheVariants as detail
use Rattle.dgt_ask.proofs.asking.begin.Goals as goal

pub returns-in_err-push_id_and_bytes-in-Some-ClockMessage-clause-command :
    goal.returns-in_err-push_id_and_bytes-in-Some-ClockMessage-clause-command
returns-in_err-push_id_and_bytes-in-Some-ClockMessage-clause-command c =
    λ command asks.
    elim asks [
      | inl named ↦ search (rules, split_parts, not_named)
      | inr with ↦
          let cut =
          rw c.in-Some.is at (split_after 32 _ (detail_text with.0) with.1 c.split_once.result
          c.split_once.ensures.cases (omega arith) with.2 (name_lacks_space with.0)) in
          let name : with.0 ≡ detail.ClockMessage = search (rules, raw_name) in
          let raw = raw_command with.1 command (rw name at with.3) in
          let fault =
          c.in_err-push_id_and_bytes-in-Some-ClockMessage.ensures raw.0 (rw cut.1 raw.2) in
          refused _ c.from_residual.result _ c.from_residual.ensures.1 fault
    ]

pub returns-in-None-named-clause-alone : goal.returns-in-None-named-clause-alone
returns-in-None-named-clause-alone c = λ asked alone. absurd (c.in-None-named.ensures.1 asked alone)

pub returns-in-None-clause-stray : goal.returns-in-None-clause-stray
returns-in-None-clause-stray c = λ asked stray.
    let cut =
    rw c.in-Some.is at (split_after 32 _ (detail_text detail.Stray) stray.0 c.split_once.result
    c.split_once.ensures.cases (omega arith) stray.2 (name_lacks_space detail.Stray)) in
    absurd (c.in-None.ensures detail.Stray cut.0)

pub returns-in_err-push_detail-in-Some-detail_of-clause-stray :
    goal.returns-in_err-push_detail-in-Some-detail_of-clause-stray
returns-in_err-push_detail-in-Some-detail_of-clause-stray c = λ asked stray.
    let cut =
    rw c.in-Some.is at (split_after 32 _ (detail_text detail.Stray) stray.0 c.split_once.result
    c.split_once.ensures.cases (omega arith) stray.2 (name_lacks_space detail.Stray)) in
    let name = stray_name _ (sym c.in-Some-detail_of.ensures ∙ cut.0) in
    refused _ c.from_residual-in_err-push_detail-in-Some-detail_of.result _
    c.from_residual-in_err-push_detail-in-Some-detail_of.ensures.1
    (c.in_err-push_detail-in-Some-detail_of.ensures.stray stray.1 name (rw cut.1 stray.3))
