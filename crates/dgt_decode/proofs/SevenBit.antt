-- Seven-bit bytes in the form of proofs, and in the form of clauses.
use Rattle.{std.{proofs.{Common.{ℕ, ◌<◌, List}, lemmas.List.Elements.{All-from_recursion, recursion_from_All}}, specs.List.{AllByRecursion}}, dgt_values.specs.Bytes.{AreSevenBit}}

-- the first is seven-bit, and so are the others
abbrev pub SevenByRecursion : List ℕ → Type 0
SevenByRecursion bytes = AllByRecursion (λ byte. byte < 128) bytes

pub are_seven : (bytes : List ℕ) → SevenByRecursion bytes → AreSevenBit bytes
are_seven bytes seven = All-from_recursion _ bytes seven

pub by_recursion : (bytes : List ℕ) → AreSevenBit bytes → SevenByRecursion bytes
by_recursion bytes seven = recursion_from_All _ bytes seven
