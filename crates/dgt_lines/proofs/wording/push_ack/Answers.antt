use Rattle.{std.proofs.{Common.{append_assoc, codes, rules}, lemmas.List.{take_all}}, dgt_lines.{specs.Lines.{message_text}, proofs.TextLemmas.{spaced_text, spaced_text-take, words_text-bytes}}}
use Rattle.dgt_lines.proofs.wording.push_ack.Goals as goal

pub loop-byte-preserved : goal.loop-byte-preserved
loop-byte-preserved g c = search (rules, append_assoc, codes, spaced_text-take)

pub returns-clause-text : goal.returns-clause-text
unfolding message_text
returns-clause-text g c = search (rules, take_all, codes, spaced_text, words_text-bytes)
