use Rattle.{std.proofs.Common.{rules}, dgt_lines.proofs.DoubtLemmas.{doubts_leave_pictures, ignored_faults_are_silent, picture_kept}}
use Rattle.dgt_lines.proofs.laws.doubts_leave_pictures.Goals as goal

pub returns : goal.returns
returns c = search (rules, doubts_leave_pictures, picture_kept, ignored_faults_are_silent)
