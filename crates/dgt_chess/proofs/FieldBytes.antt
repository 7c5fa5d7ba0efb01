-- The fields of a text, their bytes and their first wrong bytes.
use Prim.Native.Char.{code as ascii}
use Rattle.std.proofs.Common.{◌≡◌, ◌≢◌, ℕ, ◌+◌, ◌-◌, ◌%◌, ◌<◌, ◌≤◌, ◌⊎◌, inl, inr, refl, sym, ap, ◌∙◌, subst, arith, List, [], ◌∷◌, ◌++◌, length, take, drop, get_or, length-take, take-append-drop}
use Rattle.std.{proofs.{Common.{below_more, rules}, lemmas.{Bool.{cases_lt}, List.{length-take-le, take_all, take_at}}}, specs.{Prelude.{Bool, true, false, Option, Some, None}, List.{join_with_byte}}}
use Rattle.dgt_values.specs.{declared.{pieces.Piece.{Piece}, squares.Square.{Square}}, Board.{square_name, square_number}, Placement.{AreRanks, IsFirstBadOffset, IsPlacement, IsRank}}
use Rattle.{dgt_values.specs.Placement.{MeansSquares}, dgt_chess.specs.{declared.{pieces.Colour.{Colour}, possible.Rights.{Rights}}, Fen.{HasNoSpace, IsFirstWrong, IsPassed, IsPieces, IsRights}}}
use Rattle.dgt_chess.{specs.Fen.{IsTurn, or_hyphen, passed_text, rights_of, rights_text, turn_text}, proofs.FirstWrong.{append_plain, fewer}}

-- the first byte, and the first two

pub one_byte : (f : List ℕ) → 0 < length f → take 1 f ≡ get_or f 0 0 ∷ []
one_byte f some = search rules

pub two_bytes : (f : List ℕ) → 1 < length f → take 2 f ≡ get_or f 0 0 ∷ get_or f 1 0 ∷ []
two_bytes f some = search rules

nil_plain : HasNoSpace []
nil_plain k lt is = absurd (omega arith)

cons_plain : (byte : ℕ) (f : List ℕ) → byte ≢ 32 → HasNoSpace f → HasNoSpace (byte ∷ f)
cons_plain byte f plain plains = search rules

-- placements

byte_plain : (byte : ℕ) (squares : List Piece) → MeansSquares byte squares → byte ≢ 32
byte_plain byte squares means_squares = search rules

rank_plain : (bytes : List ℕ) (squares : List Piece) → IsRank bytes squares → HasNoSpace bytes
rank_plain [] squares h = nil_plain
rank_plain (byte ∷ bytes) squares (first, rest, means, more, is) =
    cons_plain byte bytes (byte_plain byte first means) (rank_plain bytes rest more)

ranks_plain : (ranks : List (List ℕ)) (pieces : List Piece) → AreRanks ranks pieces
    → HasNoSpace (join_with_byte (ascii "/") ranks)
ranks_plain [] pieces h = nil_plain
ranks_plain (rank ∷ []) pieces (squares, rest, eight, is, none, e) = rank_plain rank squares is
ranks_plain (rank ∷ next ∷ ranks) pieces (squares, rest, eight, is, more, e) =
    search (rules, append_plain, rank_plain, cons_plain, ranks_plain (next ∷ ranks) rest more)

pub pieces_plain : (text : List ℕ) → IsPieces text → HasNoSpace text
pieces_plain text (pieces, p) = search (rules, ranks_plain)

-- what dgt_values says of a wrong placement
pub wrong_pieces : (text : List ℕ) (at : ℕ) → IsFirstBadOffset text at
    → IsFirstWrong IsPieces text at
wrong_pieces text at bad = record {
  within = bad.within;
  right = take at text ++ bad.begins.0;
  is = (bad.begins.1, bad.begins.2);
  before = take_at (take at text) bad.begins.0 at (length-take-le at text bad.within);
  after = λ other o same.
      let P : List ℕ → Type 0 = λ t. IsPlacement t o.0 in
      elim (cases_lt at (length text)) [
        | inl lt ↦ bad.no_longer lt (
          drop (at + 1) other,
          o.0,
          subst P (search (rules, take-append-drop)) o.1,
        )
        | inr ge ↦
            let end : at ≡ length text = omega (arith, bad.within) in
            let long : length (take (at + 1) other) ≡ length (take (at + 1) text) =
            ap length same in
            let short : length other < at + 1 =
            omega (arith, length-take (at + 1) other, length-take (at + 1) text) in
            bad.too_short end o.0
            (search (rules, take_all))
      ];
}

-- the side to move

pub turn_plain : (text : List ℕ) → IsTurn text → HasNoSpace text
turn_plain text (turn, is) = search rules

-- a side agrees in its one byte
turn_agrees : (f other : List ℕ) (turn : Colour) (at : ℕ) → other ≡ turn_text turn
    → take (at + 1) other ≡ take (at + 1) f → turn_text turn ≡ take (at + 1) f
turn_agrees f other turn at is same = search (rules, take_all)

pub turn_none : (f : List ℕ) → length f ≡ 0 → IsFirstWrong IsTurn f 0
turn_none f none = record {
  within = omega arith;
  right = turn_text Colour.White;
  is = (Colour.White, refl);
  before = refl;
  after = search rules;
}

pub turn_other : (f : List ℕ) → 0 < length f
    → ((turn : Colour) → turn_text turn ≢ get_or f 0 0 ∷ []) → IsFirstWrong IsTurn f 0
turn_other f some none = record {
  within = omega arith;
  right = turn_text Colour.White;
  is = (Colour.White, refl);
  before = refl;
  after = λ other o same. none o.0 (turn_agrees f other o.0 0 o.1 same ∙ one_byte f some);
}

pub turn_more : (f : List ℕ) (turn : Colour) → 1 < length f → turn_text turn ≡ get_or f 0 0 ∷ []
    → IsFirstWrong IsTurn f 1
turn_more f turn some is = record {
  within = omega arith;
  right = turn_text turn;
  is = (turn, refl);
  before = search rules;
  after = search rules;
}

pub turn_whole : (f : List ℕ) (turn : Colour) → length f ≡ 1 → turn_text turn ≡ get_or f 0 0 ∷ []
    → f ≡ turn_text turn
turn_whole f turn one is = sym (take_all 1 f (omega arith)) ∙ one_byte f (omega arith) ∙ sym is

pub ruleset turns = (turn_none, turn_other, turn_more, turn_whole)

-- the square that a pawn has just passed over

passed_byte : (passed : Option Square) → HasNoSpace (passed_text passed)
passed_byte passed = search rules

pub passed_plain : (text : List ℕ) → IsPassed text → HasNoSpace text
passed_plain text (passed, is) =
    let P : List ℕ → Type 0 = λ t. HasNoSpace t in subst P (sym is) (passed_byte passed)

-- how a text of this field agrees with another: a hyphen, or the name of a square
pub data Agrees (f : List ℕ) (at : ℕ) : Type 0 where
  hyphen : take (at + 1) (ascii "-" ∷ []) ≡ take (at + 1) f → Agrees f at
  named : (square : ℕ) → square < 64 → take (at + 1) (square_name square) ≡ take (at + 1) f
      → Agrees f at

agreeing : (f other : List ℕ) (passed : Option Square) (at : ℕ) → other ≡ passed_text passed
    → take (at + 1) other ≡ take (at + 1) f → Agrees f at
agreeing f other None at is same = hyphen (ap (λ l. take (at + 1) l) (sym is) ∙ same)
agreeing f other (Some square) at is same =
    named (square_number square) square.small (ap (λ l. take (at + 1) l) (sym is) ∙ same)

-- a byte that begins a square's name, or ends it
abbrev pub IsFile : ℕ → Type 0
IsFile byte = (97 ≤ byte) × (byte ≤ 104)

abbrev pub IsRow : ℕ → Type 0
IsRow byte = (49 ≤ byte) × (byte ≤ 56)

-- nothing agrees with a first byte that is neither a hyphen nor a file
never_first : (f : List ℕ) → (0 < length f → get_or f 0 0 ≢ 45)
    → (0 < length f → ¬ (IsFile (get_or f 0 0))) → ¬ (Agrees f 0)
never_first f no_hyphen no_file = search rules

pub passed_other : (f : List ℕ) → (0 < length f → get_or f 0 0 ≢ 45)
    → (0 < length f → ¬ (IsFile (get_or f 0 0))) → IsFirstWrong IsPassed f 0
passed_other f no_hyphen no_file = record {
  within = omega arith;
  right = passed_text None;
  is = (None, refl);
  before = refl;
  after = λ other o same. never_first f no_hyphen no_file (agreeing f other o.0 0 o.1 same);
}

-- nothing agrees with a hyphen and more
never_hyphen : (f : List ℕ) → 1 < length f → get_or f 0 0 ≡ 45 → ¬ (Agrees f 1)
never_hyphen f more is = search rules

pub passed_hyphen : (f : List ℕ) → 1 < length f → get_or f 0 0 ≡ 45 → IsFirstWrong IsPassed f 1
passed_hyphen f more is = record {
  within = omega arith;
  right = passed_text None;
  is = (None, refl);
  before = ap (λ b. b ∷ []) (sym is) ∙ sym (one_byte f (omega arith));
  after = λ other o same. never_hyphen f more is (agreeing f other o.0 1 o.1 same);
}

-- nothing agrees with a file and then no row
never_row : (f : List ℕ) → IsFile (get_or f 0 0) → (1 < length f → ¬ (IsRow (get_or f 1 0)))
    → ¬ (Agrees f 1)
never_row f is_file no_row = search rules

pub passed_row : (f : List ℕ) → 0 < length f → IsFile (get_or f 0 0)
    → (1 < length f → ¬ (IsRow (get_or f 1 0))) → IsFirstWrong IsPassed f 1
passed_row f some is_file no_row =
    let square : Square = record { index = get_or f 0 0 - 97; small = omega (arith, is_file.1) } in
    let one : 97 + (get_or f 0 0 - 97) % 8 ≡ get_or f 0 0 = omega (arith, is_file.0, is_file.1) in
    record {
      within = omega arith;
      right = passed_text (Some square);
      is = (Some square, refl);
      before = ap (λ b. b ∷ []) one ∙ sym (one_byte f some);
      after = λ other o same. never_row f is_file no_row (agreeing f other o.0 1 o.1 same);
    }

-- nothing is longer than the name of a square
never_third : (f : List ℕ) → 2 < length f → ¬ (Agrees f 2)
never_third f more = search rules

pub passed_more : (f : List ℕ) → 2 < length f → (square : Square)
    → square_name (square_number square) ≡ get_or f 0 0 ∷ get_or f 1 0 ∷ []
    → IsFirstWrong IsPassed f 2
passed_more f more square is = record {
  within = omega arith;
  right = passed_text (Some square);
  is = (Some square, refl);
  before = is ∙ sym (two_bytes f (omega arith));
  after = λ other o same. never_third f more (agreeing f other o.0 2 o.1 same);
}

pub ruleset passes = (passed_other, passed_hyphen, passed_row, passed_more)

-- rights

-- of no letters, and of some

pub hyphen_of_none : (text : List ℕ) → length text ≡ 0 → or_hyphen text ≡ text ++ ascii "-" ∷ []
hyphen_of_none text none = search rules

pub hyphen_of_some : (text : List ℕ) → length text ≢ 0 → or_hyphen text ≡ text
hyphen_of_some text some = search rules

pub ruleset hyphens = (hyphen_of_none, hyphen_of_some)

rights_byte : (rights : Rights) → HasNoSpace (rights_text rights)
rights_byte rights = search rules

pub rights_plain : (text : List ℕ) → IsRights text → HasNoSpace text
rights_plain text (rights, is) =
    let P : List ℕ → Type 0 = λ t. HasNoSpace t in subst P (sym is) (rights_byte rights)

-- all rights have a number
every_rights : (a b c d : Bool) → (code : ℕ) × (code < 16)
    × (rights_of code ≡ record {
      white_short = a;
      white_long = b;
      black_short = c;
      black_long = d;
    })
every_rights false false false false = (0, omega arith, refl)
every_rights true false false false = (1, omega arith, refl)
every_rights false true false false = (2, omega arith, refl)
every_rights true true false false = (3, omega arith, refl)
every_rights false false true false = (4, omega arith, refl)
every_rights true false true false = (5, omega arith, refl)
every_rights false true true false = (6, omega arith, refl)
every_rights true true true false = (7, omega arith, refl)
every_rights false false false true = (8, omega arith, refl)
every_rights true false false true = (9, omega arith, refl)
every_rights false true false true = (10, omega arith, refl)
every_rights true true false true = (11, omega arith, refl)
every_rights false false true true = (12, omega arith, refl)
every_rights true false true true = (13, omega arith, refl)
every_rights false true true true = (14, omega arith, refl)
every_rights true true true true = (15, omega arith, refl)

-- the most bytes that the texts of all numbers have in common with the field
pub record BestOf (field : List ℕ) (code most : ℕ) : Type 0 where
  pub within : most ≤ length field
  pub rights : Rights
  pub best : take most (rights_text rights) ≡ take most field
  pub others : (k : ℕ) → k < code
      → take (most + 1) (rights_text (rights_of k)) ≢ take (most + 1) field

-- the next number's text was compared
pub best_more : (field : List ℕ) (code most next same : ℕ) (right : List ℕ) → BestOf field code most
    → right ≡ rights_text (rights_of code) → ¬ (right ≡ field) → same ≤ length field
    → take same right ≡ take same field
    → ((n : ℕ) → same < n → take n right ≡ take n field → right ≡ field)
    → most ≤ next → same ≤ next → (next ≡ most) ⊎ (next ≡ same) → BestOf field (code + 1) next
best_more field code most next same right best is other within agrees apart le le' which = record {
  within = elim which [ inl e ↦ omega (arith, best.within) | inr e ↦ omega arith ];
  rights = elim which [ inl e ↦ best.rights | inr e ↦ rights_of code ];
  best = search rules;
  others = below_more (λ k. take (next + 1) (rights_text (rights_of k)) ≢ take
      (next + 1) field) code
      (λ k lt agree. best.others k lt
      (fewer (most + 1) (next + 1) (rights_text (rights_of k)) field (omega arith) agree))
      (λ agree. other (apart (next + 1) (omega arith) (ap (λ l. take (next + 1) l) is ∙ agree)));
}

pub wrong_rights : (field : List ℕ) (code most : ℕ) → 16 ≤ code → BestOf field code most
    → IsFirstWrong IsRights field most
wrong_rights field code most all best = record {
  within = best.within;
  right = rights_text best.rights;
  is = (best.rights, refl);
  before = best.best;
  after = λ other o same.
      let known = every_rights o.0.white_short o.0.white_long o.0.black_short o.0.black_long in
      search rules;
}
