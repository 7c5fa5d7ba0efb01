-- Texts of states and of moves are ASCII, so a text is wrong from its first other byte on.
use Prim.Native.Char.{code as ascii}
use Rattle.std.proofs.{Common.{◌≡◌, ◌≢◌, ◌∙◌, ℕ, suc, ◌+◌, ◌<◌, ◌≤◌, List, [], ◌∷◌, ap, arith, inl, inr, length, refl, subst, sym, take, rules}, lemmas.Bool.{cases_lt}}
use Rattle.std.proofs.lemmas.{Fmt.{IsAscii-decimal}, Grind.{common_steps}, List.{get_or-take, length-take-le, take-take, take_all}, Str.{IsAscii-append, Ascii.{IsAscii-cons, IsAscii-nil}}}
use Rattle.{std.specs.{Prelude.{Bool, Option, Err, if◌then◌else◌, slice_index}, Str.{IsAscii}}, dgt_values.specs.declared.pieces.Piece.{Piece}}
use Rattle.{dgt_values.specs.{Board.{square_name}}, dgt_chess.specs.declared.{fen.{BadFen.{BadFen}, FenField.{FenField}}}}
use Rattle.dgt_chess.specs.{declared.{pieces.Man.{Man}, possible.Rights.{Rights}, san_reader.BadSan.{BadSan}, state.State.{State}}, Fen.{HasNoSpace, IsAnyFen}}
use Rattle.dgt_chess.specs.{Fen.{IsDecimal, IsFirstWrong, RefusesFen, Then, field_of, rights_text, space_count}, San.{Fits, FitsOnly, IsSan, IsSanText}}
use Rattle.dgt_chess.specs.San.{ParsesSan, castling_letter, castling_text, file_letter, man_letter, move_text, ordinary_text, promotion_text, rank_digit, shown, sign_text}
use Rattle.{dgt_chess.proofs.{Decimals.{decimal_plain}, FieldBytes.{passed_plain, pieces_plain, rights_plain, turn_plain}}, dgt_c.proofs.AsciiLemmas.{placement_ascii}}

-- ---- the fields of a FEN

one_ascii : (byte : ℕ) → byte < 128 → IsAscii (byte ∷ [])
one_ascii byte h = IsAscii-cons byte [] h IsAscii-nil

rights_ascii : (rights : Rights) → IsAscii (rights_text rights)
rights_ascii rights = search (rules, IsAscii-append, one_ascii, IsAscii-nil)

name_ascii : (square : ℕ) → IsAscii (square_name square)
name_ascii square = search (rules, IsAscii-cons, IsAscii-nil)

decimal_ascii : (number : ℕ) (text : List ℕ) → IsDecimal number text → IsAscii text
decimal_ascii number text is = search (rules, IsAscii-decimal)

-- two fields, with a space between
then_ascii : (A B : List ℕ → Type 0) (text : List ℕ) (is : Then A B text) → IsAscii is.first
    → IsAscii is.rest → IsAscii text
then_ascii A B text is h k = search (rules, IsAscii-append, IsAscii-cons)

fen_ascii : (text : List ℕ) → IsAnyFen text → IsAscii text
fen_ascii text (pieces, turn, rights, passed, half_moves, number, is) =
    let a = is.is_rest in
    let b = a.is_rest in
    let c = b.is_rest in
    let d = c.is_rest in
    then_ascii _ _ text is (placement_ascii is.first pieces is.is_first)
    (then_ascii _ _ is.rest a (rw a.is_first (search (rules, one_ascii)))
    (then_ascii _ _ a.rest b (rw b.is_first (rights_ascii rights))
    (then_ascii _ _ b.rest c (rw c.is_first (search (rules, one_ascii, name_ascii)))
    (then_ascii _ _ c.rest d (decimal_ascii half_moves d.first d.is_first)
    (decimal_ascii number d.rest d.is_rest)))))

-- ---- the spaces of a FEN

no_spaces : (text : List ℕ) → HasNoSpace text → space_count text ≡ 0
no_spaces [] plain = refl
no_spaces (byte ∷ text) plain =
    let first : byte ≢ ascii " " = plain 0 (omega arith) in
    let rest : HasNoSpace text = λ at lt is. plain (suc at) (omega arith) is in
    grind (arith, common_steps, no_spaces text rest)

more_spaces : (A B : List ℕ → Type 0) (text : List ℕ) (is : Then A B text) (n : ℕ)
    → HasNoSpace is.first → space_count is.rest ≡ n → space_count text ≡ n + 1
more_spaces A B text is n plain rest = grind (arith, common_steps, no_spaces)

fen_spaces : (text : List ℕ) → IsAnyFen text → space_count text ≡ 5
fen_spaces text (pieces, turn, rights, passed, half_moves, number, is) =
    let a = is.is_rest in
    let b = a.is_rest in
    let c = b.is_rest in
    let d = c.is_rest in
    more_spaces _ _ text is 4 (pieces_plain is.first (pieces, is.is_first))
    (more_spaces _ _ is.rest a 3 (turn_plain a.first (turn, a.is_first))
    (more_spaces _ _ a.rest b 2 (rights_plain b.first (rights, b.is_first))
    (more_spaces _ _ b.rest c 1 (passed_plain c.first (passed, c.is_first))
    (more_spaces _ _ c.rest d 0 (rw d.is_first.1 (decimal_plain half_moves d.is_first.0))
    (no_spaces d.rest (rw d.is_rest.1 (decimal_plain number d.is_rest.0)))))))

-- ---- bytes that aren't ASCII

-- a text that agrees with an ASCII one in a byte has an ASCII byte there
agrees_ascii : (text other : List ℕ) (at : ℕ) → IsAscii other
    → take (at + 1) other ≡ take (at + 1) text → slice_index text at < 128
agrees_ascii text other at is same = search (rules, get_or-take)

-- a part up to a byte that isn't ASCII, or up to the end, that is wrong makes the whole wrong
wrong_in_prefix : (text : List ℕ) (end at : ℕ) → end ≤ length text
    → (end < length text → 128 ≤ slice_index text end) → IsFirstWrong IsAnyFen (take end text) at
    → IsFirstWrong IsAnyFen text at × (take at (take end text) ≡ take at text)
wrong_in_prefix text end at h top wrong =
    let long : length (take end text) ≡ end = length-take-le end text h in
    let within : at ≤ end = omega (arith, wrong.within, long) in
    let same : take at (take end text) ≡ take at text = take-take at end text within in (
      record {
        within = omega (arith, within, h);
        right = wrong.right;
        is = wrong.is;
        before = wrong.before ∙ same;
        after = λ other is agrees. elim (cases_lt at end) [
          | inl lt ↦ wrong.after other is
              (agrees ∙ sym (take-take (at + 1) end text (omega arith)))
          | inr ge ↦ elim (cases_lt end (length text)) [
            | inl more ↦
                let last : at ≡ end = omega arith in
                let low = agrees_ascii text other at (fen_ascii other is) agrees in
                let byte = ap (λ k. slice_index text k) last in
                absurd (omega (arith, low, byte, top more))
            | inr all ↦ wrong.after other is
                (agrees ∙ ap (λ l. take (at + 1) l) (sym (take_all end text (omega (arith, all)))))
          ]
        ];
      },
      same,
    )

-- a FEN and then a byte that isn't ASCII
wrong_after : (text : List ℕ) (end : ℕ) → end < length text → 128 ≤ slice_index text end
    → IsAnyFen (take end text)
    → IsFirstWrong IsAnyFen text end × (FenField.Number ≡ field_of (space_count (take end text)))
wrong_after text end h top is = (
  record {
    within = omega arith;
    right = take end text;
    is = is;
    before = take-take end end text (omega arith);
    after = search (rules, agrees_ascii, fen_ascii);
  },
  search (rules, fen_spaces),
)

-- the same for what is reported of a prefix
pub refused_in_prefix : (text prefix : List ℕ) (field : FenField) (at : ℕ)
    → length prefix ≤ length text → prefix ≡ take (length prefix) text
    → (length prefix < length text → 128 ≤ slice_index text (length prefix))
    → RefusesFen prefix (BadFen.Text field at) → RefusesFen text (BadFen.Text field at)
refused_in_prefix text prefix field at h e top (wrong, is) =
    let all = wrong_in_prefix text (length prefix) at h top
    (subst (λ p. IsFirstWrong IsAnyFen p at) e wrong) in
    (all.0, is ∙ ap (λ l. field_of (space_count l)) (ap (λ l. take at l) e ∙ all.1))

pub refused_after : (text prefix : List ℕ) → length prefix < length text
    → prefix ≡ take (length prefix) text → 128 ≤ slice_index text (length prefix)
    → IsAnyFen prefix → RefusesFen text (BadFen.Text FenField.Number (length prefix))
refused_after text prefix h e top is = wrong_after text _ h top (subst IsAnyFen e is)

-- ---- the parts of a move's text

man_ascii : (man : Man) → IsAscii (man_letter man)
man_ascii man = search (rules, one_ascii, IsAscii-nil)

shown_ascii : (is : Bool) (byte : ℕ) → byte < 128 → IsAscii (shown is byte)
shown_ascii is byte h = search (rules, one_ascii, IsAscii-nil)

promotion_ascii : (equals : Bool) (promotion : Option Man)
    → IsAscii (promotion_text equals promotion)
promotion_ascii equals promotion = search (rules, IsAscii-append, man_ascii, one_ascii, IsAscii-nil)

sign_ascii : (sign : _) → IsAscii (sign_text sign)
sign_ascii sign = search (rules, one_ascii, IsAscii-nil)

letter_ascii : (zero : Bool) → castling_letter zero < 128
letter_ascii zero = search rules

long_ascii : (short : Bool) (letter : ℕ) → letter < 128
    → IsAscii (if short then [] else ascii "-" ∷ letter ∷ [])
long_ascii short letter h = search (rules, one_ascii, IsAscii-nil, IsAscii-cons)

castling_ascii : (letter to : ℕ) → letter < 128 → IsAscii (castling_text letter to)
castling_ascii letter to h = search (rules, IsAscii-cons, long_ascii)

ordinary_ascii : (style : _) (man : Man) (takes : Bool) (from to : ℕ) (promotion : Option Man)
    → IsAscii (ordinary_text style man takes from to promotion)
ordinary_ascii style man takes from to promotion =
    let a = man_ascii man in
    let b = shown_ascii style.by_file (file_letter from) (omega arith) in
    let c = shown_ascii style.by_rank (rank_digit from) (omega arith) in
    let d = shown_ascii takes (ascii "x") (omega arith) in
    search (rules, IsAscii-append, name_ascii, promotion_ascii)

san_text_ascii : (text : List ℕ) → IsSanText text → IsAscii text
san_text_ascii text is =
    search (rules, IsAscii-append, ordinary_ascii, castling_ascii, letter_ascii, sign_ascii)

move_ascii : (style : _) (man : Man) (pieces : List Piece) (from to : ℕ)
    (promotion : Option Man) → IsAscii (move_text style man pieces from to promotion)
move_ascii style man pieces from to promotion =
    search (rules, IsAscii-append, castling_ascii, letter_ascii, ordinary_ascii, sign_ascii)

fits_ascii : (state : State) (from to : ℕ) (promotion : Option Man) (text : List ℕ)
    → Fits state from to promotion text → IsAscii text
unfolding Fits
fits_ascii state from to promotion text is = search (rules, move_ascii)

san_ascii : (state : State) (from to : ℕ) (promotion : Option Man) (text : List ℕ)
    → IsSan state from to promotion text → IsAscii text
unfolding IsSan
san_ascii state from to promotion text is = search (rules, move_ascii)

-- no text of a move has a byte that isn't ASCII
pub no_san : (state : State) (text : List ℕ) (at : ℕ) → 128 ≤ slice_index text at
    → ParsesSan state text (Err BadSan.NotSan)
no_san state text at high = search (rules, san_ascii, san_text_ascii)

pub no_fit : (state : State) (text : List ℕ) (at : ℕ) → 128 ≤ slice_index text at
    → FitsOnly state text (Err BadSan.NotSan)
no_fit state text at high = search (rules, fits_ascii, san_text_ascii)
