-- A script as lines, each ended by a line feed.
use Rattle.std.specs.Prelude.{◌≡◌, ◌≢◌, ℕ, ◌<◌, ◌≤◌, List, [], ◌∷◌, ◌++◌, All, Option, MatchOption, flat_map, length, nat_lt, take}
use Rattle.std.specs.Borrow.{Bor}
use Rattle.dgt_script.specs.declared.script_lines.LineBuffer.{LineBuffer}

abbrev pub HasNoFeed : List ℕ → Type 0
HasNoFeed bytes = All (λ byte. byte ≢ 10) bytes

-- a line with its line feed
abbrev pub ended : List ℕ → List ℕ
ended line = line ++ 10 ∷ []

-- the bytes are these whole lines, and then a line that has not ended
pub record IsCut (bytes : List ℕ) (lines : List (List ℕ)) (rest : List ℕ) : Type 0 where
  pub whole : bytes ≡ flat_map ended lines ++ rest
  pub each : All HasNoFeed lines
  pub last : HasNoFeed rest

-- the buffer keeps the line's first 519 bytes, and knows whether there were more
pub record KeepsLine (buffer : LineBuffer) (line : List ℕ) : Type 0 where
  pub prefix : buffer.bytes.items ≡ take 519 line
  pub long : buffer.is_long ≡ nat_lt 519 (length line)

-- the line if it has at most 519 bytes, and none otherwise
abbrev pub IsShort : List ℕ → Option (Bor (List ℕ)) → Type 0
IsShort line given =
    MatchOption given (519 < length line) (λ bytes. (bytes.now ≡ line) × (length line ≤ 519))
