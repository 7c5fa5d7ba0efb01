use Rattle.{std.proofs.Common.{◌∙◌, ap, not}, dgt_board.proofs.ClockLemmas.{option_eq-is_reported}}
use Rattle.dgt_board.proofs.state.State.is_news.Goals as goal

pub returns : goal.returns
returns c =
    c.ne.ensures ∙ ap not (option_eq-is_reported c.args.self.now.reported_clock c.args.clock)
