-- What a call of a source or a sink does to its marks.
use Rattle.std.specs.Prelude.{◌≡◌, ℕ, ◌<◌, Bool, false, List, [], Result, Ok, Err}

-- the read gave no bytes, though there was room
abbrev pub GivesEnd : {E : Type 0} → Result ℕ E → ℕ → Type 0
GivesEnd (Ok n) room = (n ≡ 0) × (0 < room)
GivesEnd (Err _) room = ⊥

-- the write took a byte
abbrev pub TookSome : {E : Type 0} → Result ℕ E → Type 0
TookSome (Ok n) = 0 < n
TookSome (Err _) = ⊥

-- bytes wait for a flush: bytes on their way to a sink, or, if there are none, bytes that the sink
-- took
abbrev pub Waits : List ℕ → Bool → Type 0
Waits bytes flushed = bytes ≡ [] → flushed ≡ false
