-- What the text of a state determines.
use Prim.Native.Char.{code as ascii}
use Rattle.std.proofs.{Math.Logic.{∥∥₁_elim}, Common.{◌≡◌, ℕ, ◌+◌, ◌<◌, ◌^◌, refl, sym, ap, ◌∙◌, subst, arith, List, [], ◌∷◌, ◌++◌, length, take, rules}}
use Rattle.std.{proofs.lemmas.{List.{append_assoc, append_cancel_left}, Fmt.{decimal_injective}}, specs.Prelude.{◌||◌, Bool, false, Option, None, Ok, Err, Result, nat_eq, option_map}}
use Rattle.{dgt_values.specs.{declared.{pieces.Piece.{Piece}, squares.Square.{Square}}, Board.{square_number}, Placement.{IsPlacement, placement_text}}, dgt_chess.specs.declared.fen.BadFen.{BadFen}}
use Rattle.dgt_chess.specs.{declared.{pieces.Colour.{Colour}, possible.Rights.{Rights}, state.State.{State}}, Possible.{HasPassed, IsPossible, RefusedAreImpossible}, Rules.{board, passed}}
use Rattle.dgt_chess.{specs.Fen.{Fen, HasNoSpace, IsFen, IsShown, ParsesFen, SameBut, Then, fen_text, passed_text, rights_text, turn_text}, proofs.Decimals.{decimal_plain}}
use Rattle.dgt_chess.proofs.{FieldBytes.{passed_plain, pieces_plain, rights_plain, turn_plain}, FirstWrong.{same_first}}

-- a text is divided at its spaces in one way
then_one : (A B A' B' : List ℕ → Type 0) (text text' : List ℕ) → text ≡ text' → (o : Then A B text)
    → (o' : Then A' B' text') → HasNoSpace o.first → HasNoSpace o'.first
    → (o.first ≡ o'.first) × (o.rest ≡ o'.rest)
then_one A B A' B' text text' e o o' plain plain' =
    let whole : o.first ++ 32 ∷ o.rest ≡ o'.first ++ 32 ∷ o'.rest = sym o.joined ∙ e ∙ o'.joined in
    let n : ℕ = length o'.first + 1 in
    let one : o.first ≡ o'.first =
    same_first n o.first o.rest o'.first o'.rest plain plain' (omega arith)
    (ap (λ l. take n l) whole) in
    search (rules, append_cancel_left)

turn_injective : (a b : Colour) → turn_text a ≡ turn_text b → a ≡ b
turn_injective a b e = search rules

abbrev has : ℕ → List ℕ → Bool
has letter [] = false
has letter (byte ∷ text) = nat_eq byte letter || has letter text

abbrev rights_in : List ℕ → Rights
rights_in text = record {
  white_short = has (ascii "K") text;
  white_long = has (ascii "Q") text;
  black_short = has (ascii "k") text;
  black_long = has (ascii "q") text;
}

abbrev four : Bool → Bool → Bool → Bool → Rights
four a b c d = record { white_short = a; white_long = b; black_short = c; black_long = d }

rights_read : (a b c d : Bool) → rights_in (rights_text (four a b c d)) ≡ four a b c d
rights_read a b c d = search rules

rights_injective : (a b : Rights) → rights_text a ≡ rights_text b → a ≡ b
rights_injective a b e =
    sym (rights_read a.white_short a.white_long a.black_short a.black_long) ∙ ap rights_in e
    ∙ rights_read b.white_short b.white_long b.black_short b.black_long

passed_injective : (a b : Option Square) → passed_text a ≡ passed_text b
    → option_map square_number a ≡ option_map square_number b
passed_injective a b e = search rules

-- the parts of two texts are the same
pub record SameParts (p p' : List Piece) (t t' : Colour) (r r' : Rights) (s s' : Option Square)
    (h h' n n' : ℕ)
    : Type 0 where
  pub pieces : p ≡ p'
  pub turn : t ≡ t'
  pub rights : r ≡ r'
  pub square : option_map square_number s ≡ option_map square_number s'
  pub half_moves : h ≡ h'
  pub number : n ≡ n'

-- what dgt_values says of placements
abbrev pub OnePlacement : Type 0
OnePlacement = (text : List ℕ) (first second : List Piece) → IsPlacement text first
    → IsPlacement text second → first ≡ second

pub one_fen : OnePlacement → (text : List ℕ) (p p' : List Piece) (t t' : Colour) (r r' : Rights)
    (s s' : Option Square) (h h' n n' : ℕ) → IsFen text p t r s h n → IsFen text p' t' r' s' h' n'
    → SameParts p p' t t' r r' s s' h h' n n'
one_fen law text p p' t t' r r' s s' h h' n n' o o' =
    let a = then_one _ _ _ _ text text refl o o' (pieces_plain o.first (p, o.is_first))
    (pieces_plain o'.first (p', o'.is_first)) in
    let o1 = o.is_rest in
    let o1' = o'.is_rest in
    let b = then_one _ _ _ _ o.rest o'.rest a.1 o1 o1' (turn_plain o1.first (t, o1.is_first))
    (turn_plain o1'.first (t', o1'.is_first)) in
    let o2 = o1.is_rest in
    let o2' = o1'.is_rest in
    let c = then_one _ _ _ _ o1.rest o1'.rest b.1 o2 o2' (rights_plain o2.first (r, o2.is_first))
    (rights_plain o2'.first (r', o2'.is_first)) in
    let o3 = o2.is_rest in
    let o3' = o2'.is_rest in
    let d = then_one _ _ _ _ o2.rest o2'.rest c.1 o3 o3' (passed_plain o3.first (s, o3.is_first))
    (passed_plain o3'.first (s', o3'.is_first)) in
    let o4 = o3.is_rest in
    let o4' = o3'.is_rest in
    let P : List ℕ → Type 0 = λ l. HasNoSpace l in
    let e = then_one _ _ _ _ o3.rest o3'.rest d.1 o4 o4'
    (subst P (sym o4.is_first.1) (decimal_plain h o4.is_first.0))
    (subst P (sym o4'.is_first.1) (decimal_plain h' o4'.is_first.0)) in
    let Q : List ℕ → Type 0 = λ l. IsPlacement l p' in
    record {
      pieces = law o.first p p' o.is_first (subst Q (sym a.0) o'.is_first);
      turn = turn_injective t t' (sym o1.is_first ∙ b.0 ∙ o1'.is_first);
      rights = rights_injective r r' (sym o2.is_first ∙ c.0 ∙ o2'.is_first);
      square = passed_injective s s' (sym o3.is_first ∙ d.0 ∙ o3'.is_first);
      half_moves = decimal_injective h h' (omega (arith, o4.is_first.0))
          (omega (arith, o4'.is_first.0))
          (sym o4.is_first.1 ∙ e.0 ∙ o4'.is_first.1);
      number = decimal_injective n n' (omega (arith, o4.is_rest.0)) (omega (arith, o4'.is_rest.0))
          (sym o4.is_rest.1 ∙ e.1 ∙ o4'.is_rest.1);
    }

pub one_state : OnePlacement → (text : List ℕ) (first second : State) → Fen first text
    → Fen second text → SameBut first second × (passed first ≡ passed second)
one_state law text a b first second =
    let same = one_fen law text (board a)
    (board b) a.turn b.turn a.rights b.rights a.passed b.passed
    a.half_moves b.half_moves a.number b.number first second in (search rules)

-- the fields of a written text
regroup : (p t r s h n : List ℕ) → p ++ 32 ∷ t ++ 32 ∷ r ++ 32 ∷ s ++ 32 ∷ h ++ 32 ∷ n
    ≡ p ++ 32 ∷ (t ++ 32 ∷ (r ++ 32 ∷ (s ++ 32 ∷ (h ++ 32 ∷ n))))
regroup p t r s h n = search (rules, append_assoc)

-- what dgt_values says of written placements
abbrev pub Accepted : Type 0
Accepted = (pieces : List Piece) → length pieces ≡ 64 → IsPlacement (placement_text pieces) pieces

pub written_fen : Accepted → (state : State) (shown : Option Square) (text : List ℕ)
    → state.half_moves < 2 ^ 16 → state.number < 2 ^ 16 → text ≡ fen_text state shown
    → IsFen text (board state) state.turn state.rights shown state.half_moves state.number
written_fen law state shown text few small is = search (rules, regroup)

-- a state is possible also without the square that a pawn has just passed over
nothing_passed : (pieces : List Piece) (turn : Colour) → HasPassed pieces turn None
unfolding HasPassed
nothing_passed pieces turn = λ square is. let none : ⊥ = cc in absurd none

shown_possible : (state : State) (shown : Option Square) → IsShown state shown
    → IsPossible (board state) state.turn state.rights (passed state) state.number
    → IsPossible (board state) state.turn state.rights (option_map square_number shown) state.number
shown_possible state shown h p = search (rules, nothing_passed)

-- a written text is read as a state of the same parts, but for the square
pub record ReadAs (state : State) (shown : Option Square) (new : State) : Type 0 where
  pub same : SameBut state new
  pub square : option_map square_number shown ≡ passed new

pub reads_back : OnePlacement → Accepted → RefusedAreImpossible
    → (state : State) (shown : Option Square) (text : List ℕ)
    (result : Result State BadFen) → state.half_moves < 2 ^ 16 → state.number < 2 ^ 16
    → IsShown state shown → text ≡ fen_text state shown → ParsesFen text result
    → (new : State) × (result ≡ Ok new) × ReadAs state shown new
reads_back law accepted refusal state shown text (Ok new) few small is_shown is reads =
    let same = one_fen law text (board state)
    (board new) state.turn new.turn state.rights new.rights shown new.passed
    state.half_moves new.half_moves state.number new.number
    (written_fen accepted state shown text few small is) reads in (
      new,
      refl,
      search rules,
    )
reads_back law accepted refusal state shown text
    (Err (BadFen.Text field at)) few small is_shown is reads = absurd (reads.0.after text (
      board state,
      state.turn,
      state.rights,
      shown,
      state.half_moves,
      state.number,
      written_fen accepted state shown text few small is,
    ) refl)
reads_back law accepted refusal state shown text (Err (BadFen.Impossible why)) few small is_shown is
    (p, t, r, s, h, n, reads, refuses) =
    let same = one_fen law text p
    (board state) t state.turn r state.rights s shown h state.half_moves n state.number
    reads (written_fen accepted state shown text few small is) in
    let refused = rw (same.pieces, same.turn, same.rights, same.square, same.number) at refuses in
    absurd (∥∥₁_elim state.possible (λ x y. absurd x) (search (rules, shown_possible)))
