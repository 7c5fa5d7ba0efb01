use Rattle.std.{proofs.{lemmas.Bool.{cases_eq}, Common.{◌≡◌, ◌<◌, ◌≤◌, ◌+◌, ◌%◌, ◌∙◌, ℕ, zero, suc, List, rules, arith, inl, inr, sym, refl, subst}}, specs.Prelude.{◌≢◌, ◌⊎◌}}
use Rattle.{dgt_values.specs.declared.pieces.Piece.{Piece}, dgt_chess.specs.{declared.pieces.Man.{Man, TheVariants.{Knight, Bishop, King}}, Attacks.{file, row}}}
use Rattle.dgt_chess.specs.Draws.{BishopsAreDead, FewAreDead, FitsShade, HaveOneShade, HasBishops, HasOneKnight, Holds, IsBare, IsBareBut, IsDead, IsMinor, NothingElseIsDead}
use Rattle.dgt_chess.proofs.Unique.{not_free, same_kind}
use Rattle.dgt_chess.proofs.laws.dead_positions.Goals as goal

-- ---- what stands on one square

one_man : (pieces : List Piece) (square : ℕ) (a b : Man) → Holds pieces a square
    → Holds pieces b square → a ≡ b
unfolding Holds
one_man pieces square a b (c, is) (d, is') = same_kind c d a b (sym is ∙ is')

bare_man : (pieces : List Piece) (square : ℕ) (man : Man) → man ≢ King → Holds pieces man square
    → IsBare pieces square → ⊥
unfolding Holds
bare_man pieces square man no_king (c, is) (inl free) = not_free c man (sym is ∙ free)
bare_man pieces square man no_king holds (inr king) =
    no_king (one_man pieces square man King holds king)

knight_bishop : (pieces : List Piece) (square : ℕ) → Holds pieces Knight square
    → Holds pieces Bishop square → ⊥
knight_bishop pieces square knight bishop =
    let same = one_man pieces square Knight Bishop knight bishop in cc

-- ---- few are dead

one_bishop : (pieces : List Piece) (square n : ℕ) → IsBareBut pieces square
    → FitsShade pieces n square → HasBishops pieces n
unfolding HasBishops FitsShade
one_bishop pieces square n others fits s small = search rules

bare_fits : (pieces : List Piece) (n square : ℕ) → IsBare pieces square → FitsShade pieces n square
unfolding FitsShade
bare_fits pieces n square is = inl is

bishop : (pieces : List Piece) (square n : ℕ) → Holds pieces Bishop square
    → (file square + row square) % 2 ≡ n → FitsShade pieces n square
unfolding FitsShade
bishop pieces square n holds is = inr (holds, is)

dead_of : (pieces : List Piece) (n : ℕ) → n < 2 → HasBishops pieces n → IsDead pieces
dead_of pieces n two has = elim (cases_eq n 0) [
  | inl even ↦ inr (inl (subst (λ (k : ℕ). HasBishops pieces k) even has))
  | inr odd ↦
      let one : n ≡ 1 = omega arith in inr (inr (subst (λ (k : ℕ). HasBishops pieces k) one has))
]

few : FewAreDead
unfolding HasOneKnight
few pieces square small others (inl is) =
    inr (inl (one_bishop pieces square 0 others (bare_fits pieces 0 square is)))
few pieces square small others (inr (inl knight)) = inl (square, small, knight, others)
few pieces square small others (inr (inr holds)) =
    dead_of pieces _ (omega arith)
    (one_bishop pieces square _ others (bishop pieces square _ holds refl))

-- ---- so are bishops on squares of one colour

abbrev Bishops : List Piece → Type 0
Bishops pieces = (square : ℕ) → square < 64 → IsBare pieces square ⊎ Holds pieces Bishop square

-- the first squares have a bishop, or they are bare
find : (pieces : List Piece) → Bishops pieces → (n : ℕ) → n ≤ 64
    → ((one : ℕ) × (one < 64) × Holds pieces Bishop one) ⊎ ((s : ℕ) → s < n → IsBare pieces s)
find pieces all zero few = inr (λ s small. absurd (omega arith))
find pieces all (suc n) few = elim (all n (omega arith)) [
  | inr bishop ↦ inl (n, omega arith, bishop)
  | inl here ↦ elim (find pieces all n (omega arith)) [
    | inl found ↦ inl found
    | inr below ↦ inr (λ s small. elim (cases_eq s n) [
      | inl same ↦ subst (λ (k : ℕ). IsBare pieces k) (sym same) here
      | inr apart ↦ below s (omega arith)
    ])
  ]
]

shaded : (pieces : List Piece) (n : ℕ)
    → ((square : ℕ) → square < 64 → FitsShade pieces n square) → HasBishops pieces n
unfolding HasBishops
shaded pieces n fits = fits

same_shade : (pieces : List Piece) → Bishops pieces → HaveOneShade pieces → (one : ℕ) → one < 64
    → Holds pieces Bishop one → HasBishops pieces ((file one + row one) % 2)
same_shade pieces all alike one small holds = shaded pieces _ (λ square small'.
    elim (all square small') [
      | inl is ↦ bare_fits pieces _ square is
      | inr other ↦ bishop pieces square _ other (alike square one small' small other holds)
    ])

bishops_dead : BishopsAreDead
bishops_dead pieces all alike = elim (find pieces all 64 (omega arith)) [
  | inr none ↦
      inr (inl (shaded pieces 0 (λ square small. bare_fits pieces 0 square (none square small))))
  | inl (one, small, holds) ↦
      dead_of pieces _ (omega arith) (same_shade pieces all alike one small holds)
]

-- ---- nothing else is

beside_knight : (pieces : List Piece) (k square : ℕ) → square < 64 → Holds pieces Knight k
    → IsBareBut pieces k → IsBare pieces square ⊎ ((square ≡ k) × Holds pieces Knight square)
beside_knight pieces k square small knight others = elim (cases_eq square k) [
  | inl same ↦ inr (same, subst (λ (s : ℕ). Holds pieces Knight s) (sym same) knight)
  | inr apart ↦ inl (others square small apart)
]

shade : (pieces : List Piece) (n : ℕ) → HasBishops pieces n → (square : ℕ) → square < 64
    → IsBare pieces square ⊎ (Holds pieces Bishop square × ((file square + row square) % 2 ≡ n))
unfolding HasBishops FitsShade
shade pieces n bishops square small = bishops square small

abbrev Alive : List Piece → ℕ → Type 0
Alive pieces square =
    (IsBare pieces square ⊎ IsMinor pieces square)
    × (Holds pieces Knight square → IsBareBut pieces square)
    × ((s : ℕ) → s < 64 → Holds pieces Bishop square → Holds pieces Bishop s
    → (file square + row square) % 2 ≡ (file s + row s) % 2)

with_knight : (pieces : List Piece) (square : ℕ) → square < 64 → HasOneKnight pieces
    → Alive pieces square
unfolding HasOneKnight
with_knight pieces square small one = search (rules, beside_knight, bare_man, knight_bishop)

with_bishops : (pieces : List Piece) (n square : ℕ) → square < 64 → HasBishops pieces n
    → Alive pieces square
with_bishops pieces n square small bishops = search (rules, shade, bare_man, knight_bishop)

alive_all : (pieces : List Piece) → ((square : ℕ) → square < 64 → Alive pieces square)
    → ((square : ℕ) → square < 64 → IsBare pieces square ⊎ IsMinor pieces square)
    × ((square : ℕ) → square < 64 → Holds pieces Knight square → IsBareBut pieces square)
    × HaveOneShade pieces
alive_all pieces all = (
  λ square small. (all square small).0,
  λ square small. (all square small).1,
  λ one two small small' holds holds'. (all one small).2 two small' holds holds',
)

alive : NothingElseIsDead
alive pieces (inl one) =
    alive_all pieces (λ square small. with_knight pieces square small one)
alive pieces (inr (inl bishops)) =
    alive_all pieces (λ square small. with_bishops pieces 0 square small bishops)
alive pieces (inr (inr bishops)) =
    alive_all pieces (λ square small. with_bishops pieces 1 square small bishops)

pub returns-clause-few : goal.returns-clause-few
returns-clause-few c = few

pub returns-clause-bishops : goal.returns-clause-bishops
returns-clause-bishops c = bishops_dead

pub returns-clause-only : goal.returns-clause-only
returns-clause-only c = alive
