-- Numbers and structs of C.
use Rattle.std.specs.Prelude.{⊤, ℕ, ◌<◌, ◌≤◌, ◌^◌, List, ◌∷◌}
use Rattle.std.specs.Mem.{type_size}
use denote.RattleType.{RattleType}
use denote.Memory.{lone}
use prog.Offsets.{Lies}

-- the number with only bit k set
abbrev pub bit_alone : ℕ → ℕ
bit_alone k = 2 ^ k

-- a value before a tuple
infixr 70 ◌⊗◌
abbrev pub ◌⊗◌ : {A B : Type 0} → A → B → A × B
a ⊗ b = (a, b)

-- each number is greater than the one before it
abbrev pub Ascend : List ℕ → Type 0
Ascend (a ∷ b ∷ rest) = (a < b) × Ascend (b ∷ rest)
Ascend _ = ⊤

-- A value of the type takes `size` bytes and is aligned to this multiple. Its members begin at
-- these offsets, in the order of their declaration.
abbrev pub LiesAs : RattleType → ℕ → ℕ → List ℕ → Type 0
LiesAs row size alignment offsets = Lies (lone row.mir) size alignment offsets

-- The same for a value that takes at most `room` bytes.
abbrev pub FitsIn : RattleType → ℕ → ℕ → List ℕ → Type 0
FitsIn row room alignment offsets =
    (type_size row ≤ room) × LiesAs row (type_size row) alignment offsets
