-- What a text says of each move that has it, or fits it.
use Rattle.std.{proofs.Common.{◌≡◌, ◌≢◌, ℕ, ◌<◌, ◌⊎◌, Bool, true, false, not, nat_eq, List, ◌++◌, refl, sym, subst, rules}, specs.Prelude.{Option, Some, None, Err}}
use Rattle.dgt_chess.specs.{declared.{pieces.{Colour.{Colour}, Man.{Man}}, san.Style.{Style}, san_reader.{BadSan.{BadSan}, Reading.{Reading}}, state.State.{State}}, Attacks.{file, piece_at, piece_of}}
use Rattle.dgt_chess.specs.{Rules.{board, LegalBy}, San.{castling_letter, castling_text, move_text, ordinary_text, sign_text, Fits, FitsFrom, FitsOnly, IsRefusal, IsSan, IsSanText}}
use Rattle.dgt_chess.{specs.Scanning.{castling_goal, read}, proofs.{SanReads.{scan_ordinary}, SanTexts.{read_move}}}

-- a move of this reading, from this square
pub record IsReadAt (s : State) (r : Reading) (x to : ℕ) (p : Option Man) : Type 0 where
  pub own : piece_at (board s) x ≡ piece_of s.turn r.man
  pub goal : to ≡ r.b
  pub new : p ≡ r.promotion

pub san_leads : (s : State) (text : List ℕ) (x to : ℕ) (p : Option Man) → x < 64 → to < 64
    → IsSan s x to p text → IsReadAt s (read s.turn text) x to p
unfolding IsSan
san_leads s text x to p sx st h = search (rules, read_move)

pub fits_leads : (s : State) (text : List ℕ) (x to : ℕ) (p : Option Man) → x < 64 → to < 64
    → Fits s x to p text → IsReadAt s (read s.turn text) x to p
unfolding Fits
fits_leads s text x to p sx st h = search (rules, read_move)

-- the text of the reading's style, and that its man makes the move
pub record FitsAs (s : State) (r : Reading) (text : List ℕ) (x to : ℕ)
    (p : Option Man) : Type 0 where
  pub written : move_text r.style r.man (board s) x to p ≡ text
  pub legal : LegalBy r.man s x to p

fits_read : (s : State) (text : List ℕ) (x to : ℕ) (p : Option Man) → x < 64 → to < 64
    → Fits s x to p text → FitsAs s (read s.turn text) text x to p
unfolding Fits
fits_read s text x to p sx st h = search (rules, read_move)

pub fits_as : (s : State) (text : List ℕ) (r : Reading) (x to : ℕ) (p : Option Man) → r
    ≡ read s.turn text → x < 64 → to < 64 → Fits s x to p text → FitsAs s r text x to p
fits_as s text r x to p e sx st h =
    subst (λ (q : Reading). FitsAs s q text x to p) (sym e) (fits_read s text x to p sx st h)

pub san_own : (s : State) (text : List ℕ) (r : Reading) (x to : ℕ) (p : Option Man) → r
    ≡ read s.turn text → x < 64 → to < 64 → IsSan s x to p text
    → piece_at (board s) x ≡ piece_of s.turn r.man
san_own s text r x to p e sx st h = search (rules, san_leads)

pub fits_own : (s : State) (text : List ℕ) (r : Reading) (x to : ℕ) (p : Option Man) → r
    ≡ read s.turn text → x < 64 → to < 64 → Fits s x to p text
    → piece_at (board s) x ≡ piece_of s.turn r.man
fits_own s text r x to p e sx st h = search (rules, fits_leads)

-- a text of no state in particular is written again from what is read of it

pub record IsAgain (r : Reading) (text : List ℕ) (p : Option Man) : Type 0 where
  pub castles : r.castles ≡ false
  pub new : r.promotion ≡ p
  pub written : ordinary_text r.style r.man r.takes r.a r.b r.promotion ++ sign_text r.style.sign
      ≡ text

pub ordinary_again : (turn : Colour) (style : Style) (man : Man) (takes : Bool) (from to : ℕ)
    (p : Option Man) → from < 64 → to < 64 → p ≢ Some Man.Pawn
    → IsAgain (read turn (ordinary_text style man takes from to p ++ sign_text style.sign))
    (ordinary_text style man takes from to p ++ sign_text style.sign) p
unfolding read
ordinary_again turn style man takes from to p small small' not_pawn =
    rw (scan_ordinary style man takes from to p small small' not_pawn) (record {
      castles = refl;
      new = refl;
      written = search rules;
    })

again_at_goal : (turn : Colour) (is_short : Bool)
    → nat_eq (file (castling_goal turn (not is_short))) 6 ≡ is_short
again_at_goal turn is_short = search rules

-- what is read of a text of some move writes the text
abbrev pub Again : Reading → List ℕ → Type 0
Again r text =
    ((r.castles ≡ true) ×
    (castling_text (castling_letter r.style.zero) r.b ++ sign_text r.style.sign ≡ text))
    ⊎ ((r.castles ≡ false) × ((r.promotion ≢ Some Man.Pawn) × (r.promotion ≢ Some Man.King))
    × (ordinary_text r.style r.man r.takes r.a r.b r.promotion ++ sign_text r.style.sign ≡ text))

castling_again : (turn : Colour) (style : Style) (to : ℕ)
    → Again (read turn (castling_text (castling_letter style.zero) to ++ sign_text style.sign))
    (castling_text (castling_letter style.zero) to ++ sign_text style.sign)
unfolding read
castling_again turn style to = search (rules, again_at_goal)

again : (turn : Colour) (text : List ℕ) → IsSanText text → Again (read turn text) text
again turn text san_text = search (rules, ordinary_again, castling_again)

pub again_at : (turn : Colour) (text : List ℕ) (r : Reading) → r ≡ read turn text → IsSanText text
    → Again r text
again_at turn text r e h = subst (λ (q : Reading). Again q text) (sym e) (again turn text h)

-- what the loops over the first squares show

pub none_written : (s : State) (text : List ℕ) (r : Reading) → r ≡ read s.turn text
    → ((k : ℕ) → k < 64 → ¬ (IsSan s k r.b r.promotion text))
    → (from to : ℕ) (p : Option Man) → from < 64 → to < 64 → ¬ (IsSan s from to p text)
none_written s text r e none from to p small small' h = search (rules, san_leads)

pub none_fits : (s : State) (text : List ℕ) (r : Reading) → r ≡ read s.turn text
    → FitsFrom s r.b r.promotion text 64 None
    → (from to : ℕ) (p : Option Man) → from < 64 → to < 64 → ¬ (Fits s from to p text)
none_fits s text r e none from to p small small' h = search (rules, fits_leads)

pub only_fits : (s : State) (text : List ℕ) (r : Reading) (a x y : ℕ) → r ≡ read s.turn text
    → FitsFrom s r.b r.promotion text 64 (Some a) → x ≡ a → y ≡ r.b
    → Fits s x y r.promotion text × ((from to : ℕ) (p : Option Man) → from < 64 → to < 64
    → Fits s from to p text → (from ≡ x) × (to ≡ y) × (p ≡ r.promotion))
only_fits s text r a x y e only f g = search (rules, fits_leads)

pub refused : (s : State) (text : List ℕ) (e : BadSan)
    → ((from to : ℕ) (p : Option Man) → from < 64 → to < 64 → ¬ (Fits s from to p text))
    → IsRefusal text e → FitsOnly s text (Err e)
refused s text e none why = search rules
