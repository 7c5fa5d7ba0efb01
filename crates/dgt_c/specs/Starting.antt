-- How C describes a new board.
use Rattle.std.specs.Prelude.{◌≡◌, ℕ, ◌<◌, ◌≤◌, List, All, map, take}
use Rattle.dgt_values.specs.declared.pieces.Piece.{Piece}
use Rattle.dgt_values.specs.Board.{piece_code}
use Rattle.dgt_values.specs.Bytes.{AreSevenBit}
use Rattle.dgt_message.specs.Clock.{ClockState}
use Rattle.dgt_board.specs.State.{IdentityContent}
use Rattle.dgt_board.specs.View.{BoardView, new_view}
use Rattle.dgt_board.specs.declared.identities.TheConstants.{MAX_KEPT_BODY}
use Rattle.dgt_c.specs.declared.header.DgtClock.{DgtClock}
use Rattle.dgt_c.specs.declared.header.DgtBody.{DgtBody}
use Rattle.dgt_c.specs.declared.header.DgtIdentity.{DgtIdentity}
use Rattle.dgt_c.specs.Clocks.{SaysClock}

-- each number is a piece code
abbrev pub ArePieces : List ℕ → Type 0
ArePieces codes = All (λ code. code < 16) codes

-- the bytes of a reserved member
abbrev pub AreZeros : List ℕ → Type 0
AreZeros bytes = All (λ byte. byte ≡ 0) bytes

abbrev pub body_in : DgtBody → List ℕ
body_in said = take said.len said.bytes

-- the struct describes a body that a board keeps
pub record IsBody (said : DgtBody) : Type 0 where
  pub short : said.len ≤ MAX_KEPT_BODY
  pub seven_bit : AreSevenBit (body_in said)

abbrev pub identity_in : DgtIdentity → IdentityContent
identity_in said = record {
  serial = said.serial;
  trademark = body_in said.trademark;
  main = said.main_number;
  sub = said.sub_number;
  battery = body_in said.battery;
  clock_version = said.clock_version;
  long_serial = body_in said.long_serial;
}

-- the struct describes an identity, with values in their ranges
pub record IsIdentity (said : DgtIdentity) : Type 0 where
  pub serial : AreSevenBit said.serial
  pub main : said.main_number < 128
  pub sub : said.sub_number < 128
  pub trademark : IsBody said.trademark
  pub battery : IsBody said.battery
  pub long_serial : IsBody said.long_serial
  pub reserved : AreZeros said.reserved

-- a new board with what the structs describe
abbrev pub Starts : List ℕ → DgtClock → DgtIdentity → BoardView → Type 0
Starts codes clock identity board =
    (pieces : List Piece) × (shown : ClockState) × (map piece_code pieces ≡ codes)
    × SaysClock clock shown × IsIdentity identity
    × (board ≡ new_view pieces shown (identity_in identity))
