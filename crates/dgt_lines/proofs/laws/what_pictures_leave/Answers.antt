use Rattle.std.proofs.Common.{◌∙◌}
use Rattle.dgt_lines.proofs.laws.what_pictures_leave.Goals as goal

pub returns-clause-picture : goal.returns-clause-picture
returns-clause-picture c bytes out is = is ∙ c.doubts_leave_pictures.ensures.ignored bytes

pub returns-clause-reports : goal.returns-clause-reports
returns-clause-reports c doubts clock bytes out is = is
