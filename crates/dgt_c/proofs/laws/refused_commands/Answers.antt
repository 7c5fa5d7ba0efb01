use Rattle.dgt_c.proofs.OnceLemmas.{refused_commands_stay, texts_are_shown}
use Rattle.dgt_c.proofs.laws.refused_commands.Goals as goal

pub returns-clause-stay : goal.returns-clause-stay
returns-clause-stay c = refused_commands_stay

pub returns-clause-texts : goal.returns-clause-texts
returns-clause-texts c = texts_are_shown
