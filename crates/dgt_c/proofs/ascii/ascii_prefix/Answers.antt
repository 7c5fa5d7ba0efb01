use Rattle.{std.proofs.lemmas.Str.{IsUtf8-from_ascii}, dgt_c.proofs.AsciiLemmas.{ascii_prefix}}
use Rattle.dgt_c.proofs.ascii.ascii_prefix.Goals as goal

pub unreachable-requires : goal.unreachable-requires
unreachable-requires c =
    let end = c.ascii_len.ensures in
    c.in-Err.ensures.cases.0 (IsUtf8-from_ascii _ (ascii_prefix _ _ end.within end.before))
