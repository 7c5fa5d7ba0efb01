-- No two legal moves share a text, and a legal move has one text.
use Rattle.std.{proofs.Common.{◌≡◌, ◌≢◌, ℕ, ◌+◌, ◌*◌, ◌%◌, ◌/◌, ◌<◌, Bool, true, false, not, nat_eq, if◌then◌else◌, ◌++◌, refl, rules}, specs.{Int.{abs_diff}, Prelude.{Option}}}
use Rattle.{std.{specs.Prelude.{Some}}, dgt_chess.specs.declared.{pieces.{Colour.{Colour}, Man.{Man}}, san.Style.{Style}, san_reader.Reading.{Reading}}}
use Rattle.dgt_chess.specs.{declared.state.State.{State}, Attacks.{file}, Rules.{board, Castles, CastlesWith, LegalBy, Moves, Promotes}, San.{captures, castling_letter, castling_text}}
use Rattle.dgt_chess.{specs.{San.{is_castling, move_text, ordinary_text, sign_text}, Scanning.{castling_goal, read}}, proofs.SanReads.{scan_castling, scan_ordinary, used_equals}}

-- the reading of a text is this move's
pub record IsRead (r : Reading) (style : Style) (man : Man) (state : State) (from to : ℕ)
    (promotion : Option Man) : Type 0 where
  pub castles : r.castles ≡ is_castling man from to
  pub is_man : r.man ≡ man
  pub is_goal : r.b ≡ to
  pub is_promotion : r.promotion ≡ promotion
  pub text : move_text r.style man (board state) from to promotion
      ≡ move_text style man (board state) from to promotion
  pub by_file : is_castling man from to ≡ false → r.style.by_file ≡ style.by_file
  pub by_rank : is_castling man from to ≡ false → r.style.by_rank ≡ style.by_rank
  pub origin : is_castling man from to ≡ false
      → r.a ≡ 8 * (if style.by_rank then from / 8 else 0) + (if style.by_file then from % 8 else 0)
  pub takes : is_castling man from to ≡ false → r.takes ≡ captures man (board state) from to

not_pawn : (man : Man) (s : State) (to : ℕ) (p : Option Man) → Promotes man s to p
    → p ≢ Some Man.Pawn
not_pawn man s to p h = h.1

abbrev pub home : Colour → ℕ
home Colour.White = 60
home Colour.Black = 4

-- the square to which a king castles
leads : (c : Colour) (s : State) (a b : ℕ) → Castles s c a b
    → (b ≡ castling_goal c (not (nat_eq (file b) 6))) × (a ≡ home c)
unfolding CastlesWith
leads c s a b castles = search rules

king_castles : (s : State) (a b : ℕ) → Moves Man.King s a b → nat_eq (abs_diff (file a) (file b)) 2
    ≡ true → Castles s s.turn a b
king_castles s a b moves e = search rules

-- of a castling
read_castling : (s : State) (style : Style) (from to : ℕ) (p : Option Man)
    → LegalBy Man.King s from to p → nat_eq (abs_diff (file from) (file to)) 2 ≡ true
    → IsRead (read s.turn (castling_text (castling_letter style.zero) to ++ sign_text style.sign))
    style Man.King s from to p
unfolding read
read_castling s style from to p legal e =
    let way = leads s.turn s from to (king_castles s from to legal.moves e) in
    search (rules, scan_castling)

-- of any other move
pub same_promotion : (style : Style) (zero : Bool) (man : Man) (takes : Bool) (from to : ℕ)
    (p : Option Man) → ordinary_text (record {
      by_file = style.by_file;
      by_rank = style.by_rank;
      equals = used_equals style.equals p;
      zero = zero;
      sign = style.sign;
    }) man takes from to p
    ≡ ordinary_text style man takes from to p
same_promotion style zero man takes from to p = search rules

read_ordinary : (s : State) (style : Style) (man : Man) (from to : ℕ) (p : Option Man) → from < 64
    → to < 64 → LegalBy man s from to p → is_castling man from to ≡ false → IsRead (read s.turn
    (ordinary_text style man
    (captures man (board s) from to) from to p ++ sign_text style.sign)) style man s from to
    p
unfolding read
read_ordinary s style man from to p small small' legal e =
    rw (scan_ordinary style man (captures man (board s) from to) from to p small small'
    (not_pawn man s to p legal.promotes)) (search rules)

read_by : (castles : Bool) (s : State) (style : Style) (man : Man) (from to : ℕ) (p : Option Man)
    → from < 64 → to < 64 → LegalBy man s from to p → is_castling man from to ≡ castles
    → IsRead (read s.turn (move_text style man (board s) from to p)) style man s from to p
read_by false s style man from to p small small' legal e =
    rw e (read_ordinary s style man from to p small small' legal e)
read_by true s style Man.King from to p small small' legal e =
    rw e (read_castling s style from to p legal e)
read_by true s style Man.Pawn from to p small small' legal e = absurd (let bad : ⊥ = cc in bad)
read_by true s style Man.Knight from to p small small' legal e = absurd (let bad : ⊥ = cc in bad)
read_by true s style Man.Bishop from to p small small' legal e = absurd (let bad : ⊥ = cc in bad)
read_by true s style Man.Rook from to p small small' legal e = absurd (let bad : ⊥ = cc in bad)
read_by true s style Man.Queen from to p small small' legal e = absurd (let bad : ⊥ = cc in bad)

-- what is read of a legal move's text is the move
pub read_move : (s : State) (style : Style) (man : Man) (from to : ℕ) (p : Option Man) → from < 64
    → to < 64 → LegalBy man s from to p
    → IsRead (read s.turn (move_text style man (board s) from to p)) style man s from to p
read_move s style man from to p small small' legal =
    read_by (is_castling man from to) s style man from to p small small' legal refl

-- a castling begins at home
pub king_home : (man : Man) (s : State) (a b : ℕ) (p : Option Man) → LegalBy man s a b p
    → is_castling man a b ≡ true → a ≡ home s.turn
king_home man s a b p legal e = search (rules, leads)
