use Rattle.{std.proofs.Common.{refl}, dgt_chess.{specs.Fen.{IsAnyFen}, proofs.FirstWrong.{one_wrong}}}
use Rattle.dgt_chess.proofs.laws.one_first_wrong_byte.Goals as goal

pub returns-clause-one : goal.returns-clause-one
returns-clause-one c = λ text first second a b. one_wrong IsAnyFen text first second a b

pub returns-clause-none : goal.returns-clause-none
returns-clause-none c = λ text at is wrong. wrong.after text is refl
