-- What C calls report of a chunk that a decoder of commands reads.
use Rattle.std.specs.Prelude.{◌≡◌, ℕ, List, ◌++◌, length, take, Option, Some, None}
use Rattle.dgt_command.specs.Content.{EventContent}
use Rattle.dgt_command.specs.Framing.{rest_after}
use Rattle.dgt_command.specs.Words.{IsPartial, IsWord}
use Rattle.dgt_c.specs.Commands.{CommandReporting, ReportsCommand}

-- The bytes used are a frame with this event. If there is no event, the whole chunk was used, and
-- none of its bytes completes a frame.
abbrev pub ReadsWord : List ℕ → List ℕ → ℕ → Option EventContent → Type 0
ReadsWord held chunk used (Some event) = IsWord event (held ++ take used chunk)
ReadsWord held chunk used None = (used ≡ length chunk) × IsPartial (held ++ chunk)

-- the bytes held after a chunk if its first complete frame is reported
abbrev pub FeedsWords : List ℕ → List ℕ → ℕ → CommandReporting → List ℕ → Type 0
FeedsWords held chunk used reported after =
    (event : Option EventContent) × ReadsWord held chunk used event × ReportsCommand event reported
    × (after ≡ rest_after event (held ++ take used chunk))
