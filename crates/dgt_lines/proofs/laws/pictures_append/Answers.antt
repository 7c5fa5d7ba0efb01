use Rattle.{std.proofs.Common.{rules}, dgt_lines.proofs.PictureLemmas.{picture_reported-append, pictures_text-append}}
use Rattle.dgt_lines.proofs.laws.pictures_append.Goals as goal

pub returns : goal.returns
returns c = search (rules, pictures_text-append, picture_reported-append)
