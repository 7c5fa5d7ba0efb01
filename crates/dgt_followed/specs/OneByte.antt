-- How a line changes a message by altering, losing, repeating or inserting one byte.
use Rattle.std.specs.Prelude.{◌≡◌, ℕ, ◌+◌, ◌≤◌, List, ◌++◌, length, take, drop, Option, option_to_list}
use Rattle.dgt_message.specs.Content.{Content, IsMessage}
use Rattle.dgt_message.specs.Encoding.{encoding}
use Rattle.dgt_decode.specs.Grammar.{events}
use Rattle.dgt_host.specs.Confirmed.{messages}

-- the bytes without this many at a place, and with these inserted there
abbrev pub with_fault : List ℕ → ℕ → ℕ → List ℕ → List ℕ
with_fault bytes place lost put = take place bytes ++ put ++ drop (place + lost) bytes

-- At most one byte of a message is lost, and at most one is inserted at its place. What is then
-- heard contains at most one message.
abbrev pub OneByteIsAStretch : Type 0
OneByteIsAStretch =
    (said : Content) (place lost : ℕ) (put : List ℕ) → IsMessage said → lost ≤ 1 →
    length put ≤ 1 → let stretch = with_fault (encoding said) place lost put in
    (heard : Option Content) × (messages (events stretch) ≡ option_to_list heard)
