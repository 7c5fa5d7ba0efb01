use Rattle.{std.proofs.{Common.{append-nil, arith, refl, rules}, lemmas.Fmt.{decimal_digit}}, hex.specs.Hex.{encode_with}, dgt_lines.specs.Lines.{event_text, message_text}}
use Rattle.dgt_lines.proofs.laws.named_lines_by_example.Goals as goal

pub returns-clause-two : goal.returns-clause-two
returns-clause-two c = search (rules, append-nil)

pub returns-clause-line : goal.returns-clause-line
unfolding event_text message_text encode_with
returns-clause-line c = rw (decimal_digit 9 (omega arith)) refl
