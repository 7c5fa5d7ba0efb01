-- Writing into slices of C.
use Rattle.std.specs.Prelude.{ℕ, ◌+◌, List, ◌∷◌, ◌++◌, length, drop, take}

-- a slice after as many of these bytes as fit were written at its beginning
abbrev pub overwritten : List ℕ → List ℕ → List ℕ
overwritten old bytes = take (length old) bytes ++ drop (length bytes) old

-- a slice after a text and a zero byte were written at its beginning
abbrev pub with_text : List ℕ → List ℕ → List ℕ
with_text text old = text ++ 0 ∷ drop (length text + 1) old
