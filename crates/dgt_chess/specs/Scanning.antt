-- What the bytes of a text in Standard Algebraic Notation say, from the left.
use Prim.Native.Char.{code as ascii}
use Rattle.std.specs.Prelude.{ℕ, ◌+◌, ◌-◌, ◌*◌, ◌%◌, Bool, true, false, ◌&&◌, nat_eq, nat_le, if◌then◌else◌, List, fold, Option, Some, None}
use Rattle.dgt_chess.specs.declared.pieces.Colour.{Colour}
use Rattle.dgt_chess.specs.declared.pieces.Man.{Man}
use Rattle.dgt_chess.specs.declared.san.Sign.{Sign}
use Rattle.dgt_chess.specs.declared.san.Style.{Style}
use Rattle.dgt_chess.specs.declared.san_reader.Reading.{Reading}
use Rattle.dgt_chess.specs.declared.san_reader.Scan.{Scan}

abbrev pub start : Scan
start = record {
  man = Man.Pawn;
  has_file = false;
  by_file = false;
  from_file = 0;
  file = 0;
  has_rank = false;
  by_rank = false;
  from_row = 0;
  row = 0;
  takes = false;
  equals = false;
  promotion = None;
  castles = false;
  zero = false;
  has_dash = false;
  is_long = false;
  sign = Sign.Neither;
}

abbrev pub is_file : ℕ → Bool
is_file byte = nat_le (ascii "a") byte && nat_le byte (ascii "h")

abbrev pub is_rank : ℕ → Bool
is_rank byte = nat_le (ascii "1") byte && nat_le byte (ascii "8")

abbrev pub man_of : ℕ → Option Man
man_of byte =
    if nat_eq byte (ascii "N") then Some Man.Knight
    else (if nat_eq byte (ascii "B") then Some Man.Bishop
    else (if nat_eq byte (ascii "R") then Some Man.Rook
    else (if nat_eq byte (ascii "Q") then Some Man.Queen
    else (if nat_eq byte (ascii "K") then Some Man.King else None))))

abbrev pub with_file : Scan → ℕ → Scan
with_file s file = record s {
  by_file = s.has_file;
  has_file = true;
  from_file = s.file;
  file =
      file;
}

abbrev pub with_rank : Scan → ℕ → Scan
with_rank s row = record s { by_rank = s.has_rank; has_rank = true; from_row = s.row; row = row }

abbrev pub with_man : Scan → Man → Scan
with_man s man = if s.has_rank then record s { promotion = Some man } else record s { man = man }

abbrev pub with_sign : Scan → ℕ → Scan
with_sign s byte =
    if nat_eq byte (ascii "x") then record s { takes = true }
    else (if nat_eq byte (ascii "=") then record s { equals = true }
    else (if nat_eq byte (ascii "O") then record s { castles = true }
    else (if nat_eq byte (ascii "0") then record s { castles = true; zero = true }
    else (if nat_eq byte (ascii "-") then record s { has_dash = true; is_long = s.has_dash }
    else (if nat_eq byte (ascii "+") then record s { sign = Sign.Check }
    else (if nat_eq byte (ascii "#") then record s { sign = Sign.Mate } else s))))))

abbrev pub with_other : Scan → Option Man → ℕ → Scan
with_other s (Some man) byte = with_man s man
with_other s None byte = with_sign s byte

abbrev pub step : Scan → ℕ → Scan
step s byte =
    if is_file byte then with_file s (byte - ascii "a")
    else (if is_rank byte then with_rank s (ascii "8" - byte) else with_other s (man_of byte) byte)

abbrev pub scan : List ℕ → Scan
scan text = fold step start text

abbrev pub castling_goal : Colour → Bool → ℕ
castling_goal Colour.White is_long = if is_long then 58 else 62
castling_goal Colour.Black is_long = if is_long then 2 else 6

abbrev pub goal_of : Colour → Scan → ℕ
goal_of turn s = if s.castles then castling_goal turn s.is_long else 8 * (s.row % 8) + s.file % 8

abbrev pub style_of : Scan → Style
style_of s = record {
  by_file = s.by_file;
  by_rank = s.by_rank;
  equals = s.equals;
  zero = s.zero;
  sign = s.sign;
}

abbrev pub reading_of : Colour → Scan → Reading
reading_of turn s = record {
  castles = s.castles;
  man = if s.castles then Man.King else s.man;
  style = style_of s;
  takes = s.takes;
  a = 8 * (s.from_row % 8) + s.from_file % 8;
  b = goal_of turn s;
  promotion = s.promotion;
}

unfoldable pub read : Colour → List ℕ → Reading
read turn text = reading_of turn (scan text)
