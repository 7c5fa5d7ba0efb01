use Rattle.{std.proofs.Common.{ap, append_assoc, refl}, dgt_lines.specs.NamedLines.{times_name}}
use Rattle.dgt_lines.proofs.naming.name_times.Goals as goal

pub returns : goal.returns
unfolding times_name
returns c = rw (
  c.push_time_flags-2.ensures.text,
  c.push_time_flags.ensures.text,
  c.push_lever.ensures.text,
  c.new-text.ensures,
  c.status.ensures.value,
  ap (λ t. t.flags) c.first.ensures,
  ap (λ t. t.flags) c.second.ensures,
)
    (simp append_assoc refl)
