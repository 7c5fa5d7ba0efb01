-- The kinds of what is after each field, and the whole text.
use Rattle.{std.{proofs.Common.{ℕ, refl, List, ◌∷◌, ◌++◌, rules}, specs.Prelude.{None, decimal}}, dgt_chess.specs.{declared.pieces.Colour.{Colour}, Fen.{AreCounters, IsAnyFen, IsFirstWrong}}}
use Rattle.dgt_chess.specs.Fen.{IsFromPassed, IsFromRights, IsFromTurn, IsNumber, IsPassed, IsPieces, IsRights, IsTurn, Then, passed_text, rights_of, rights_text, turn_text}
use Rattle.dgt_chess.proofs.Decimals.{zero_number}

-- some text of a kind
abbrev pub Some_of : (List ℕ → Type 0) → Type 0
Some_of Is = (text : List ℕ) × Is text

both : (A B : List ℕ → Type 0) → Some_of A → Some_of B → Some_of (Then A B)
both A B a b = (
  a.0 ++ 32 ∷ b.0,
  record { first = a.0; rest = b.0; is_first = a.1; is_rest = b.1; joined = refl },
)

pub some_number : Some_of IsNumber
some_number = (decimal 0, zero_number)

pub some_counters : Some_of AreCounters
some_counters = both IsNumber IsNumber some_number some_number

pub some_from_passed : Some_of IsFromPassed
some_from_passed = both IsPassed AreCounters (passed_text None, (None, refl)) some_counters

pub some_from_rights : Some_of IsFromRights
some_from_rights = both IsRights IsFromPassed
    (rights_text (rights_of 0), (rights_of 0, refl)) some_from_passed

pub some_from_turn : Some_of IsFromTurn
some_from_turn = both IsTurn IsFromRights
    (turn_text Colour.White, (Colour.White, refl)) some_from_rights

-- two kinds that are one
pub same_kind : (A B : List ℕ → Type 0) → ((t : List ℕ) → A t → B t) → ((t : List ℕ) → B t → A t)
    → (text : List ℕ) (at : ℕ) → IsFirstWrong A text at → IsFirstWrong B text at
same_kind A B to from text at w = search rules

to_any : (text : List ℕ) → Then IsPieces IsFromTurn text → IsAnyFen text
to_any text o =
    let turn = o.is_rest in
    let rights = turn.is_rest in
    let passed = rights.is_rest in
    let counters = passed.is_rest in (
      o.is_first.0,
      turn.is_first.0,
      rights.is_first.0,
      passed.is_first.0,
      counters.is_first.0,
      counters.is_rest.0,
      search rules,
    )

pub from_any : (text : List ℕ) → IsAnyFen text → Then IsPieces IsFromTurn text
from_any text (pieces, turn, rights, passed, half_moves, number, o) = search rules

-- the first wrong byte by kinds is the first wrong one
pub wrong_fen : (text : List ℕ) (at : ℕ) → IsFirstWrong (Then IsPieces IsFromTurn) text at
    → IsFirstWrong IsAnyFen text at
wrong_fen text at w = same_kind (Then IsPieces IsFromTurn) IsAnyFen to_any from_any text at w
