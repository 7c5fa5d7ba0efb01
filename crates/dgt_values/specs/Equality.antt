-- `==` of two values, and clones.
use Rattle.std.specs.declared.clone.Clone as clone
use Rattle.std.specs.Prelude.{◌≡◌, ◌↔◌, Bool, IsTrue}

-- two values are equal exactly if they are the same
abbrev pub EqualIsSame : {T : Type 0} → (T → T → Bool) → Type 0
EqualIsSame eq = (a b : _) → IsTrue (eq a b) ↔ (a ≡ b)

-- two values are equal exactly if a clause sees the same in both
abbrev pub EqualIsSameRead : {T Read : Type 0} → (T → Read) → (T → T → Bool) → Type 0
EqualIsSameRead read eq = (a b : _) → IsTrue (eq a b) ↔ (read a ≡ read b)

-- two values with this property are equal exactly if a clause sees the same in both
abbrev pub EqualIsSameReadOf :
    {T Read : Type 0} → (T → Type 0) → (T → Read) → (T → T → Bool) → Type 0
EqualIsSameReadOf Holds read eq =
    (a b : _) → Holds a → Holds b → IsTrue (eq a b) ↔ (read a ≡ read b)

-- cloning never fails, and a clone is the value itself
abbrev pub CloneIsSame : {T : Type 0} → clone.Ghosts T → Type 0
CloneIsSame cloning = (a : _) → cloning.is_infallible a × ((b : _) → cloning.is_clone a b → b ≡ a)
