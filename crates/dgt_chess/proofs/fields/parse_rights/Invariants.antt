use Rattle.dgt_chess.proofs.FieldBytes.{BestOf}
use Rattle.dgt_chess.proofs.fields.parse_rights.Given as goal

abbrev pub invariant-loop-code : goal.invariant-loop-code
invariant-loop-code l = BestOf l.text l.code l.most
