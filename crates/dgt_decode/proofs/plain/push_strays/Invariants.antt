use Rattle.{std.proofs.Common.{map, ◌≡◌, ◌++◌, take}, dgt_decode.specs.{Grammar.{shifted, strays}, Taking.{placed_content}}}
use Rattle.dgt_decode.proofs.plain.push_strays.Given as goal

abbrev pub invariant-loop-index : goal.invariant-loop-index
invariant-loop-index l =
    map placed_content l.reported.items ≡ map placed_content l.fn.reported.items ++ shifted l.before
    (strays (take l.index l.bytes))
