-- What a struct of C describes, and what it doesn't.
use Rattle.std.proofs.{Common.{◌≡◌, ◌≢◌, ◌⊎◌, ◌+◌, refl, ℕ, ◌<◌, ◌≤◌, List, length, map, Option, Some, None, arith, rules}, lemmas.{Grind.{common_steps}, List.Elements.{All-map}}}
use Rattle.{std.specs.{List.{AllByRecursion}, Prelude.{IfSome, IsTrue, is_some}}, dgt_values.specs.{Board.{piece_code}, declared.pieces.Piece.{Piece}}}
use Rattle.dgt_message.{specs.{Clock.{ClockState}, Code.{known_total, known_with}, Content.{Content, IsCarried}, declared.known.KnownCode.{KnownCode}}, proofs.Codes.{piece_code-below}}
use Rattle.dgt_c.specs.{Clocks.{SaysClock}, Encoding.{IsMessageKind, SaysMessage, carried_said, kinds_of_messages}, Reported.{body_apart, carried_reported, message_reported}, Starting.{ArePieces}}
use Rattle.dgt_c.specs.declared.header.{DgtEvent.{DgtEvent}, TheConstants.{EVENT_DUMP, EVENT_NO_CLOCK, EVENT_OTHER, EVENT_TIMES}}

-- the codes of pieces are codes of pieces
pub are_pieces : (pieces : List Piece) (codes : List ℕ) → map piece_code pieces ≡ codes
    → ArePieces codes
are_pieces pieces codes same =
    rw (← same) (All-map (λ (code : ℕ). code < 16) piece_code pieces (λ k d h. piece_code-below _))

-- the kind of a message that is carried unread is that of a serial number or a later one
carried_least : (known : Option KnownCode) (code : ℕ) (body : List ℕ)
    → 6 ≤ (carried_reported known code body).kind
carried_least known code body = search rules

-- each message has a kind of messages
carried_kinds : (known : Option KnownCode) (code : ℕ) (body : List ℕ)
    → IsMessageKind (carried_reported known code body).kind
carried_kinds (Some KnownCode.Serial) code body = (5, omega arith, refl)
carried_kinds (Some KnownCode.Trademark) code body = (6, omega arith, refl)
carried_kinds (Some KnownCode.Version) code body = (7, omega arith, refl)
carried_kinds (Some KnownCode.Battery) code body = (8, omega arith, refl)
carried_kinds (Some KnownCode.LongSerial) code body = (9, omega arith, refl)
carried_kinds _ code body = (10, omega arith, refl)

pub message_kinds : (message : Content) → IsMessageKind (message_reported message).kind
message_kinds (Content.dump pieces) = (0, omega arith, refl)
message_kinds (Content.field square piece) = (1, omega arith, refl)
message_kinds (Content.times times) = (2, omega arith, refl)
message_kinds (Content.no_clock absence) = (3, omega arith, refl)
message_kinds (Content.ack answer) = (4, omega arith, refl)
message_kinds (Content.carried code body) = carried_kinds (known_with code) code body

-- an event of a kind that isn't a message's describes none
pub no_message : (said : DgtEvent) (body : List ℕ)
    → AllByRecursion (λ kind. kind ≢ said.kind) kinds_of_messages → (message : Content)
    → SaysMessage said body message → ⊥
no_message said body none message says = search (rules, message_kinds)

-- an event of a dump with a number that isn't a piece describes none
pub no_dump : (said : DgtEvent) (body : List ℕ) → said.kind ≡ EVENT_DUMP
    → (ArePieces said.pieces → ⊥) → (message : Content) → SaysMessage said body message → ⊥
no_dump said body kind none (Content.dump pieces) says =
    none (are_pieces pieces said.pieces says.1.1)
no_dump said body kind none (Content.carried code bytes) says =
    absurd (omega (arith, kind, says.1.0, carried_least (known_with code) code bytes))
no_dump said body kind none _ says = absurd (omega (arith, kind, says.1.0))

-- nor does an event of a clock without a valid clock
pub no_clock : (said : DgtEvent) (body : List ℕ) → EVENT_TIMES ≤ said.kind
    → said.kind ≤ EVENT_NO_CLOCK → ((shown : ClockState) → SaysClock said.clock shown → ⊥)
    → (message : Content) → SaysMessage said body message → ⊥
no_clock said body least most none (Content.times readings) says =
    none (ClockState.times readings) says.1.1
no_clock said body least most none (Content.no_clock absence) says =
    none (ClockState.no_clock absence) says.1.1
no_clock said body least most none (Content.carried code bytes) says =
    absurd (omega (arith, most, says.1.0, carried_least (known_with code) code bytes))
no_clock said body least most none _ says = absurd (omega (arith, least, most, says.1.0))

-- a struct of the kind of other messages has their code
pub other_code : (known : Option KnownCode) (code : ℕ) (body : List ℕ)
    → (carried_reported known code body).kind ≡ EVENT_OTHER
    → code ≡ (carried_reported known code body).code
other_code known code body other = search rules

-- its members or the body are the bytes
pub carried_bytes : (place : ℕ) (known : Option KnownCode) (code : ℕ) (body : List ℕ)
    → IfSome (known_total known) (λ total. length body + 3 ≡ total)
    → body ≡ carried_said known (record (carried_reported known code body) { place = place })
    (body_apart known body)
carried_bytes place known code body size = grind (arith, common_steps)

-- the bytes of a message of a kind without a member for them are the body
pub said_apart : (said : DgtEvent) (body : List ℕ) (known : Option KnownCode) (code : ℕ)
    (bytes : List ℕ) → (said.kind ≡ 7) ⊎ (said.kind ≡ 9) ⊎ (said.kind ≡ 10) ⊎ (said.kind ≡ 11)
    → said.kind ≡ (carried_reported known code bytes).kind → carried_said known said body ≡ body
said_apart said body known code bytes kind is = search rules

-- a code without a variant is none of the known ones
pub no_case : (known : Option KnownCode) → (IsTrue (is_some known) → ⊥) → known ≡ None
no_case known none = search rules

-- a struct of the kind of other messages, with their code, describes one
pub other_said : (said : DgtEvent) (body bytes : List ℕ) (code : ℕ) → code < 128
    → known_with code ≡ None → said.kind ≡ EVENT_OTHER → code ≡ said.code → bytes ≡ body
    → IsCarried bytes → SaysMessage said body (Content.carried code bytes)
other_said said body bytes code small none kind is same carried = search rules
