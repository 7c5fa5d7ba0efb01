use Rattle.{std.proofs.Common.{◌++◌, length, subst}, dgt_lines.specs.{Lines.{unfinished_line}, Monitoring.{IsInSink}}}
use Rattle.dgt_lines.proofs.laws.what_commands_leaves.Goals as goal

pub returns : goal.returns
returns c r bytes out rest text listed prints =
    let same =
    c.one_text.ensures.once 0 bytes listed.rest rest listed.text text listed.prints prints in
    subst (λ q. IsInSink r text (text ++ unfinished_line (length bytes) q) out) same.0
    (subst (λ t. IsInSink r t (t ++ unfinished_line (length bytes) listed.rest) out) same.1
    listed.stands)
