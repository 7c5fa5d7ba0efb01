-- A legal move leads from a possible state to a possible one.
use Rattle.std.{proofs.{lemmas.Bool.{cases_eq}, Common.{subst, ◌≡◌, ℕ, ◌+◌, ◌/◌, ◌<◌, ◌≤◌, ◌∙◌, sym, ap, arith, List, inl, inr, Bool, true, rules}}, specs.Prelude.{◌≢◌, ◌⊎◌, Option, Some, None}}
use Rattle.{std.{specs.{Prelude.{if◌then◌else◌, nat_eq, IsTrue}, Int.{abs_diff}}}, dgt_values.specs.declared.pieces.Piece.{Piece}}
use Rattle.dgt_chess.specs.{declared.{possible.Rights.{Rights}, state.State.{State}, pieces.{Colour.{Colour}, Man.{Man, TheVariants.{Pawn, Knight, Bishop, Rook, Queen, King}}}}, Attacks.{piece_at}}
use Rattle.dgt_chess.specs.{Attacks.{piece_of, other, file, row, IsAhead, IsFree, IsInCheck}, Possible.{HasOneKing, HasKings, HasNoExtra, HasNoStray, HasPassed, HasRights, IsAtHome, IsPassedOver}}
use Rattle.dgt_chess.specs.{Possible.{IsPossible}, Rules.{board, passed, pieces_after, Promotes, LegalBy, first_row, remains, rights_after, passed_after, number_after}}
use Rattle.dgt_chess.proofs.{Unique.{Effect, same_man, same_kind}, OneMove.{put, effect_of, spared}}

-- ---- kings

their_king : (old new : List Piece) (turn : Colour) (a b : ℕ) (man : Man)
    → Effect old new turn a b man
    → piece_at old b ≢ piece_of (other turn) King → HasOneKing old (other turn)
    → HasOneKing new (other turn)
unfolding HasOneKing
their_king old new turn a b man e spared king =
    let k = king.0 in
    let off_a : k ≢ a = search rules in
    let off_b : k ≢ b = λ same. spared (ap (piece_at old) (sym same) ∙ king.2) in
    let stays : piece_at new k ≡ piece_of (other turn) King = elim (e.keeps k off_a off_b) [
      | inl same ↦ same ∙ king.2
      | inr more ↦ search rules
    ] in search rules

own_king : (old new : List Piece) (turn : Colour) (a b : ℕ) (man : Man) → b < 64 → a < 64
    → Effect old new turn a b man → (piece_at old a ≡ piece_of turn King → man ≡ King)
    → (man ≡ King → piece_at old a ≡ piece_of turn King) → HasOneKing old turn → HasOneKing new turn
unfolding HasOneKing
own_king old new turn a b man b_small a_small e remains_king was_king king =
    let k = king.0 in
    elim (cases_eq k a) [
      | inl same ↦ search rules
      | inr off_a ↦
          let no_king : man ≢ King = λ crowned. off_a (sym (king.3 a a_small (was_king crowned))) in
          let off_b : k ≢ b = λ same. e.target King (ap (piece_at old) (sym same) ∙ king.2) in
          let stays : piece_at new k ≡ piece_of turn King = elim (e.keeps k off_a off_b) [
            | inl same ↦ same ∙ king.2
            | inr more ↦ elim more [
              | inl pawn ↦ let wrong : King ≡ Pawn =
                  same_kind turn (other turn) King Pawn (sym king.2 ∙ pawn) in cc
              | inr rest ↦ elim rest [
                | inl free ↦ absurd (no_king free.0)
                | inr rook ↦ absurd (no_king rook.0)
              ]
            ]
          ] in search rules
    ]

both_kings : (pieces : List Piece) (turn : Colour) → HasOneKing pieces turn
    → HasOneKing pieces (other turn) → HasKings pieces
both_kings pieces turn own theirs = search rules

king_of : (pieces : List Piece) (turn : Colour) → HasKings pieces → HasOneKing pieces turn
king_of pieces turn kings = search rules

-- ---- no extra piece, no stray pawn

no_new_extra : (old new : List Piece) (turn : Colour) (a b : ℕ) (man : Man)
    → Effect old new turn a b man → HasNoExtra old → HasNoExtra new
unfolding HasNoExtra
no_new_extra old new turn a b man e known s small = search rules

no_new_stray : (old new : List Piece) (turn : Colour) (a b : ℕ) (man : Man)
    → Effect old new turn a b man
    → (man ≡ Pawn → (row b ≡ 0) ⊎ (row b ≡ 7) → ⊥) → HasNoStray old → HasNoStray new
unfolding HasNoStray
no_new_stray old new turn a b man e within pawns s small astray = search rules

-- a man that is a pawn afterwards was one, and was not promoted
within_of : (state : State) (man : Man) (a b : ℕ) (promotion : Option Man) → a < 64 → b < 64
    → HasNoStray (board state)
    → LegalBy man state a b promotion → put man promotion ≡ Pawn → (row b ≡ 0) ⊎ (row b ≡ 7) → ⊥
unfolding HasNoStray
within_of state man a b promotion a_small b_small pawns legal same edge = search rules

-- ---- rights

remains_means : (unmoved : Bool) (home corner a b : ℕ) → IsTrue (remains unmoved home corner a b)
    → IsTrue unmoved × (home ≢ a) × (home ≢ b) × (corner ≢ a) × (corner ≢ b)
remains_means unmoved home corner a b h = search rules

home_stays : (old new : List Piece) (turn colour : Colour) (a b home corner : ℕ) (man : Man)
    (unmoved : Bool) → home < 64 → a < 64 → Effect old new turn a b man
    → (man ≡ King → piece_at old a ≡ piece_of turn King)
    → HasOneKing old turn → IsAtHome unmoved old colour home corner
    → IsAtHome (remains unmoved home corner a b) new colour home corner
unfolding HasOneKing
home_stays old new turn colour a b home corner man unmoved home_small a_small e was_king king
    at_home right =
    let means = remains_means unmoved home corner a b right in
    let stood = at_home means.0 in search rules

-- ---- the passed square

rows_apart : (a b : ℕ) (square : ℕ) (t : Bool)
    → (if t then Some ((a + b) / 2) else None) ≡ Some square → (t ≡ true) × (square ≡ (a + b) / 2)
rows_apart a b square t e = search rules

two_rows : (a b : ℕ) → nat_eq (abs_diff (row a) (row b)) 2 ≡ true → abs_diff (row a) (row b) ≡ 2
two_rows a b t = grind arith

one_row : (turn : Colour) (a b : ℕ) → IsAhead turn 1 a b → abs_diff (row a) (row b) ≢ 2
one_row turn a b ahead = search rules

-- the pieces on and round the square that a pawn passes over
record Passes (old new : List Piece) (turn : Colour) (a b : ℕ) : Type 0 where
  pub files : file a ≡ file b
  pub ahead : IsAhead turn 2 a b
  pub from : row a ≡ first_row turn
  pub behind : IsFree new a
  pub over : IsFree new ((a + b) / 2)
  pub before : piece_at new b ≡ piece_of turn Pawn

double : (state : State) (a b : ℕ) (promotion : Option Man) (new : List Piece)
    → LegalBy Pawn state a b promotion
    → Effect (board state) new state.turn a b (put Pawn promotion) → abs_diff (row a) (row b) ≡ 2
    → Passes (board state) new state.turn a b
double state a b promotion new legal e apart = elim legal.moves [
  | inl step ↦ absurd (one_row state.turn a b step.1 apart)
  | inr more ↦ elim more [
    | inl two ↦
        search rules
    | inr take ↦ absurd (one_row state.turn a b take.0.1 apart)
  ]
]

over_square : (old new : List Piece) (turn : Colour) (a b : ℕ) → Passes old new turn a b
    → IsPassedOver new (other turn) ((a + b) / 2)
over_square old new turn a b p = search rules

passes_stay : (state : State) (man : Man) (a b : ℕ) (promotion : Option Man) (new : List Piece)
    → LegalBy man state a b promotion → Effect (board state) new state.turn a b (put man promotion)
    → HasPassed new (other state.turn) (passed_after man a b)
unfolding HasPassed
passes_stay state Pawn a b promotion new legal e square is =
    let parts = rows_apart a b square (nat_eq (abs_diff (row a) (row b)) 2) is in
    let P : ℕ → Type 0 = λ n. IsPassedOver new (other state.turn) n in
    subst P (sym parts.1)
    (over_square (board state) new state.turn a b
    (double state a b promotion new legal e (two_rows a b parts.0)))
passes_stay state Knight a b promotion new legal e square is = let no : ⊥ = cc in absurd no
passes_stay state Bishop a b promotion new legal e square is = let no : ⊥ = cc in absurd no
passes_stay state Rook a b promotion new legal e square is = let no : ⊥ = cc in absurd no
passes_stay state Queen a b promotion new legal e square is = let no : ⊥ = cc in absurd no
passes_stay state King a b promotion new legal e square is = let no : ⊥ = cc in absurd no

-- ---- all of it

pub was_king : (state : State) (man : Man) (b : ℕ) (promotion : Option Man)
    → Promotes man state b promotion → put man promotion ≡ King → man ≡ King
was_king state man b promotion promotes same = search rules

stays_king : (state : State) (man : Man) (b : ℕ) (promotion : Option Man)
    → Promotes man state b promotion → man ≡ King → put man promotion ≡ King
stays_king state man b promotion promotes same = search rules

twice : (turn : Colour) → turn ≡ other (other turn)
twice turn = search rules

number_stays : (turn : Colour) (number : ℕ) → 1 ≤ number → 1 ≤ number_after turn number
number_stays turn number some = search rules

rights_stay : (state : State) (man : Man) (a b : ℕ) (new : List Piece) → a < 64
    → Effect (board state) new state.turn a b man
    → (man ≡ King → piece_at (board state) a ≡ piece_of state.turn King)
    → HasOneKing (board state) state.turn → HasRights (board state) state.rights
    → HasRights new (rights_after state.rights a b)
rights_stay state man a b new a_small e king one homes = search (rules, home_stays)

pub stays : (state : State) (man : Man) (a b : ℕ) (promotion : Option Man) → a < 64 → b < 64
    → IsPossible (board state) state.turn state.rights (passed state) state.number
    → LegalBy man state a b promotion
    → IsPossible (pieces_after man (board state) state.turn a b promotion) (other state.turn)
    (rights_after state.rights a b) (passed_after man a b) (number_after state.turn state.number)
stays state man a b promotion a_small b_small possible legal =
    let new = pieces_after man (board state) state.turn a b promotion in
    let e = effect_of state man a b promotion a_small b_small legal.own legal.moves legal.promotes
    in
    let crowned : put man promotion ≡ King → piece_at (board state) a ≡ piece_of state.turn King =
    λ same.
    legal.own ∙ ap (piece_of state.turn) (was_king state man b promotion legal.promotes same) in
    let king : piece_at (board state) a ≡ piece_of state.turn King → put man promotion ≡ King =
    λ here.
    stays_king state man b promotion legal.promotes
    (same_man state.turn man King (sym legal.own ∙ here)) in
    let one = king_of (board state) state.turn possible.kings in
    let S : Colour → Type 0 = λ c. ¬ (IsInCheck new c) in
    record {
      kings = both_kings new (other state.turn)
          (their_king (board state) new state.turn a b (put man promotion) e
          (spared state man a b legal.moves)
          (king_of (board state) (other state.turn) possible.kings))
          (let K : Colour → Type 0 = λ c. HasOneKing new c in
          subst K (twice state.turn) (search (rules, own_king)));
      known = no_new_extra (board state) new state.turn a b (put man promotion) e possible.known;
      pawns = search (rules, no_new_stray, within_of);
      safe = subst S (twice state.turn) legal.safe;
      homes = rights_stay state (put man promotion) a b new a_small e crowned one possible.homes;
      steps = passes_stay state man a b promotion new legal e;
      counted = number_stays state.turn state.number possible.counted;
    }

-- the same, of values that are equal to these
pub stays_as : (old new : List Piece) (turn turn' : Colour) (rights rights' : Rights)
    (stepped stepped' : Option ℕ)
    (number number' : ℕ) → old ≡ new → turn ≡ turn' → rights ≡ rights' → stepped ≡ stepped'
    → number ≡ number'
    → IsPossible old turn rights stepped number → IsPossible new turn' rights' stepped' number'
stays_as old new turn turn' rights rights' stepped stepped' number number' p t r s n possible =
    search rules
