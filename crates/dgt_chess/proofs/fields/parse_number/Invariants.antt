use Rattle.{std.proofs.Common.{◌<◌, ◌^◌}, dgt_chess.proofs.Decimals.{ReadNumber}}
use Rattle.dgt_chess.proofs.fields.parse_number.Given as goal

abbrev pub invariant-loop-at : goal.invariant-loop-at
invariant-loop-at l = record { small : l.number < 2 ^ 16; read : ReadNumber l.bytes l.at l.number }
