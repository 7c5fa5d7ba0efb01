-- No two legal moves share a text, and a legal move has one text.
use Rattle.std.{proofs.Common.{◌≡◌, ◌≢◌, ◌∙◌, ℕ, ◌+◌, ◌*◌, ◌%◌, ◌/◌, ◌<◌, Bool, true, false, not, nat_eq, if◌then◌else◌, List, refl, ap, sym, subst, arith, rules}, specs.Prelude.{Option, Some, None}}
use Rattle.{dgt_values.specs.declared.pieces.Piece.{Piece}, dgt_chess.specs.declared.{pieces.{Colour.{Colour}, Man.{Man}}, san.{Sign.{Sign}, Style.{Style}}, san_reader.Reading.{Reading}}}
use Rattle.dgt_chess.specs.{declared.state.State.{State}, Attacks.{file, row, piece_at, piece_of}, Rules.{board, passed, LegalBy, PawnMoves}, San.{captures, is_castling, move_text}}
use Rattle.dgt_chess.{specs.{San.{Distinguishes, Fits, HasRival, HasRivalOn, IsExport, IsOrigin, IsSan, IsSign, OneMoveAText, OneTextAMove}, Scanning.{read}}, proofs.Alike.{Alike, can_move}}
use Rattle.dgt_chess.proofs.{SanTexts.{IsRead, read_move, king_home}, Unique.{same_man}}

equal : (a b : ℕ) → ((a ≢ b) → ⊥) → a ≡ b
equal a b h = grind arith

-- a text's style

some_rival : (line : ℕ → ℕ) (man : Man) (s : State) (a b : ℕ) → HasRivalOn line man s a b
    → HasRival man s a b
unfolding HasRival HasRivalOn
some_rival line man s a b h = (h.0, h.1, h.2.0)

man_shown : (man : Man) (s : State) (a b : ℕ) (f r f' r' : Bool)
    → Distinguishes (HasRival man s a b) (HasRivalOn file man s a b) (HasRivalOn row man s a b) f r
    → Distinguishes (HasRival man s a b) (HasRivalOn file man s a b)
    (HasRivalOn row man s a b) f' r' → (f ≡ f') × (r ≡ r')
man_shown man s a b f r f' r' h k = search (rules, some_rival)

origin_one : (man : Man) (s : State) (a b : ℕ) (f r f' r' : Bool) → IsOrigin man s a b f r
    → IsOrigin man s a b f' r' → (f ≡ f') × (r ≡ r')
origin_one man s a b f r f' r' h k = search (rules, man_shown)

sign_one : (s t : State) → Alike s t → (x y : Sign) → IsSign s x → IsSign t y → x ≡ y
sign_one s t like x y h k = search (rules, can_move)

style_one : (man : Man) (s : State) (a b : ℕ) (p : Option Man) (x y : Style)
    → IsExport man s a b p x → IsExport man s a b p y → x ≡ y
style_one man s a b p x y h k = search (rules, origin_one, sign_one)

-- a legal move has one text
pub one_text : OneTextAMove
unfolding IsSan
one_text s from to p text text' small small' h k =
    let same : k.0 ≡ h.0 = same_man s.turn k.0 h.0 (sym k.1.own ∙ h.1.own) in
    let Other : Man → Type 0 =
    λ man. (style : Style) × IsExport man s from to p style ×
    (text' ≡ move_text style man (board s) from to p) in
    let other : Other h.0 = subst Other same k.2 in
    h.2.2 ∙ ap (λ (style : Style). move_text style h.0 (board s) from to p)
    (style_one h.0 s from to p h.2.0 other.0 h.2.1 other.1) ∙ sym other.2

-- two moves with one text

shown_same : (b c : Bool) (x y : ℕ) → 8 * (if c then x / 8 else 0) + (if b then x % 8 else 0)
    ≡ 8 * (if c then y / 8 else 0) + (if b then y % 8 else 0)
    → (b ≡ true → file x ≡ file y) × (c ≡ true → row x ≡ row y)
shown_same b c x y h = search rules

man_from : (man : Man) (s : State) (x y to : ℕ) (b c : Bool) → y < 64 → LegalBy man s y to None
    → Distinguishes (HasRival man s x to) (HasRivalOn file man s x to)
    (HasRivalOn row man s x to) b c
    → (b ≡ true → file x ≡ file y) → (c ≡ true → row x ≡ row y) → (y ≢ x) → ⊥
unfolding HasRival HasRivalOn
man_from man s x y to false false small legal h f r apart = h (y, small, (apart, legal))
man_from man s x y to true false small legal h f r apart =
    h.1 (y, small, ((apart, legal), sym (f refl)))
man_from man s x y to false true small legal h f r apart =
    h.1 (y, small, ((apart, legal), sym (r refl)))
man_from man s x y to true true small legal h f r apart = search rules

-- another man's move would make it a rival
rival : (man : Man) (s : State) (x y to : ℕ) (p : Option Man) (b c : Bool) → y < 64
    → LegalBy man s y to p → (man ≡ Man.Pawn → ⊥)
    → Distinguishes (HasRival man s x to) (HasRivalOn file man s x to)
    (HasRivalOn row man s x to) b c
    → (b ≡ true → file x ≡ file y) → (c ≡ true → row x ≡ row y) → x ≡ y
rival man s x y to None b c small legal other h f r =
    equal x y (λ apart. man_from man s x y to b c small legal h f r (λ e. apart (sym e)))
rival man s x y to (Some new) b c small legal other h f r =
    absurd (other (legal.promotes.0.0 refl).0)

-- no pawn goes ahead to a square on which another of its file captures
pawn_from : (turn : Colour) (pieces : List Piece) (passed : Option ℕ) (x y to : ℕ)
    → piece_at pieces x ≡ piece_of turn Man.Pawn
    → piece_at pieces y ≡ piece_of turn Man.Pawn → PawnMoves pieces turn passed x to
    → PawnMoves pieces turn passed y to → file x ≡ file y → x ≡ y
pawn_from turn pieces passed x y to own own' pawn_moves pawn_moves' e = search rules

pawn_shows : (t : Bool) (x y to : ℕ) → nat_eq (file x) (file to) ≡ t
    → not (nat_eq (file x) (file to)) ≡ not (nat_eq (file y) (file to))
    → (not (nat_eq (file x) (file to)) ≡ true → file x ≡ file y) → file x ≡ file y
pawn_shows t x y to e h f = search rules

-- what is shown keeps a man's move apart from another's
from_shown : (man : Man) (s : State) (x y to : ℕ) (p : Option Man) (b c : Bool) → x < 64 → y < 64
    → LegalBy man s x to p → LegalBy man s y to p
    → IsOrigin man s x to b c → captures man (board s) x to ≡ captures man (board s) y to
    → (b ≡ true → file x ≡ file y) → (c ≡ true → row x ≡ row y) → x ≡ y
from_shown Man.Pawn s x y to p b c small small' legal legal' h k f r =
    let same = pawn_shows (nat_eq (file x) (file to)) x y to refl k
    (λ e. f (h.0 ∙ e)) in
    pawn_from s.turn (board s) (passed s) x y to legal.own legal'.own legal.moves legal'.moves same
from_shown Man.Knight s x y to p b c small small' legal legal' h k f r =
    rival Man.Knight s x y to p b c small' legal' (λ e. let bad : ⊥ = cc in bad) h f r
from_shown Man.Bishop s x y to p b c small small' legal legal' h k f r =
    rival Man.Bishop s x y to p b c small' legal' (λ e. let bad : ⊥ = cc in bad) h f r
from_shown Man.Rook s x y to p b c small small' legal legal' h k f r =
    rival Man.Rook s x y to p b c small' legal' (λ e. let bad : ⊥ = cc in bad) h f r
from_shown Man.Queen s x y to p b c small small' legal legal' h k f r =
    rival Man.Queen s x y to p b c small' legal' (λ e. let bad : ⊥ = cc in bad) h f r
from_shown Man.King s x y to p b c small small' legal legal' h k f r =
    rival Man.King s x y to p b c small' legal' (λ e. let bad : ⊥ = cc in bad) h f r

-- of two legal moves with one reading, one in the style of the export form
from_one : (t : Bool) (r : Reading) (man : Man) (s : State) (x y to : ℕ) (p : Option Man)
    (style style' : Style) → x < 64 → y < 64
    → LegalBy man s x to p → LegalBy man s y to p → IsExport man s x to p style
    → IsRead r style man s x to p → IsRead r style' man s y to p → is_castling man x to ≡ t → x ≡ y
from_one true r man s x y to p style style' small small' legal legal' export h k e =
    king_home man s x to p legal e
    ∙ sym (king_home man s y to p legal' (sym k.castles ∙ h.castles ∙ e))
from_one false r man s x y to p style style' small small' legal legal' export h k e =
    let e' : is_castling man y to ≡ false = sym k.castles ∙ h.castles ∙ e in
    let b : style'.by_file ≡ style.by_file = sym (k.by_file e') ∙ h.by_file e in
    let c : style'.by_rank ≡ style.by_rank = sym (k.by_rank e') ∙ h.by_rank e in
    let Place : Bool → Bool → Type 0 =
    λ b c. 8 * (if style.by_rank then x / 8 else 0) + (if style.by_file then x % 8 else 0)
    ≡ 8 * (if c then y / 8 else 0) + (if b then y % 8 else 0) in
    let place : Place style.by_file style.by_rank = search rules in
    let shown = shown_same style.by_file style.by_rank x y place in
    from_shown man s x y to p style.by_file style.by_rank small small' legal legal' export.origin
    (sym (h.takes e) ∙ k.takes e') shown.0 shown.1

pub san_fits : (s : State) (from to : ℕ) (p : Option Man) (text : List ℕ) → IsSan s from to p text
    → Fits s from to p text
unfolding IsSan Fits
san_fits s from to p text h = (h.0, h.1, (h.2.0, h.2.2))

-- a move's text fits no other legal move
pub one_fits : (s : State) (text : List ℕ) (x to y to' : ℕ) (p p' : Option Man) → x < 64 → to < 64
    → y < 64 → to' < 64 → IsSan s x to p text → Fits s y to' p' text
    → (x ≡ y) × (to ≡ to') × (p ≡ p')
unfolding IsSan Fits
one_fits s text x to y to' p p' sx st sy st' h k =
    let Text : Style → Man → ℕ → ℕ → Option Man → List ℕ → Type 0 =
    λ style man a b p text. IsRead (read s.turn text) style man s a b p in
    let rd : Text h.2.0 h.0 x to p text = search (rules, read_move) in
    let rk : Text k.2.0 k.0 y to' p' text = search (rules, read_move) in
    let man : k.0 ≡ h.0 = sym rk.is_man ∙ rd.is_man in
    let goal : to' ≡ to = sym rk.is_goal ∙ rd.is_goal in
    let promotion : p' ≡ p = sym rk.is_promotion ∙ rd.is_promotion in
    let All : Man → ℕ → Option Man → Type 0 =
    λ m b q. LegalBy m s y b q × IsRead (read s.turn text) k.2.0 m s y b q in
    let all : All h.0 to p = search rules
    in (
      from_one (is_castling h.0 x to)
          (read s.turn text) h.0 s x y to p h.2.0 k.2.0 sx sy h.1 all.0 h.2.1 rd all.1 refl,
      sym goal,
      sym promotion,
    )

-- no two legal moves share a text
pub one_move : OneMoveAText
one_move s text x to y to' p p' sx st sy st' h k =
    one_fits s text x to y to' p p' sx st sy st' h (san_fits s y to' p' text k)
