use Rattle.{std.proofs.{Common.{[], rules}}}
use Rattle.dgt_host.proofs.host.Host.unread.Goals as goal

pub returns-clause-all_unfinished : goal.returns-clause-all_unfinished
returns-clause-all_unfinished c =
    search (rules, c.unfinished_append.ensures c.self.inside.framer [])
