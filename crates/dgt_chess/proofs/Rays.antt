-- All men but knights attack along a line.
use Rattle.{std.{proofs.{lemmas.Bool.{cases_eq, cases_lt}, Common.{◌≡◌, ℕ, ◌<◌, ◌≤◌, ◌+◌, arith, List, inl, inr, rules}}, specs.Prelude.{◌⊎◌}}, dgt_values.specs.declared.pieces.Piece.{Piece}}
use Rattle.dgt_chess.specs.declared.{pieces.{Colour.{Colour}, Man.{Man, TheVariants.{Knight}}}, lines.Line.{Line, TheVariants.{Rank, File, Falling, Rising}}}
use Rattle.dgt_chess.specs.{Attacks.{file, row, Adjoins, Attacks, IsFree, OnLine, Slides}, Steps.{step}}

next : (a b : ℕ) → a < b → Adjoins a b → (line : Line) × OnLine line a b × (b ≡ a + step line)
next a b rises near =
    let files = near.1 in
    let rows = near.2 in
    elim (cases_eq (row a) (row b)) [
      | inl row_same ↦ (Rank, row_same, omega arith)
      | inr rows_differ ↦ elim (cases_eq (file a) (file b)) [
        | inl file_same ↦ (File, file_same, omega arith)
        | inr files_differ ↦ elim (cases_eq (file b) (file a + 1)) [
          | inl right ↦ (Falling, omega arith, omega arith)
          | inr left ↦ (Rising, omega arith, omega arith)
        ]
      ]
    ]

adjoining : (pieces : List Piece) (a b : ℕ) → Adjoins a b → (line : Line) × Slides line pieces a b
adjoining pieces a b near = search (rules, next)

pub sees : (man : Man) (colour : Colour) (pieces : List Piece) (a b : ℕ)
    → Attacks man colour pieces a b → (man ≡ Knight) ⊎ ((line : Line) × Slides line pieces a b)
sees man colour pieces a b attacks = search (rules, adjoining)

-- no square of a line is between two that follow each other
pub one_more : (line : Line) (pieces : List Piece) (a at n : ℕ) → n ≡ step line
    → OnLine line a at → ((s : ℕ) → a < s → s ≤ at → OnLine line a s → IsFree pieces s)
    → IsFree pieces (at + n) → (s : ℕ) → a < s → s ≤ at + n → OnLine line a s → IsFree pieces s
one_more line pieces a at n long on clear free s above below there = elim (cases_lt at s) [
  | inl later ↦
      search rules
  | inr before ↦ clear s above before there
]
