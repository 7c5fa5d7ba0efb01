-- What is found in sets of lines, which differ in their first half-moves.
use Rattle.std.{proofs.Common.{rules, ◌≡◌, ◌∙◌, ℕ, ◌<◌, List, ◌∷◌, ap, arith, inl, inr, length, refl, subst, sym}, specs.Prelude.{◌≢◌, ◌⊎◌, ◌+◌, ◌≤◌, ⊤, suc, Option}}
use Rattle.{dgt_values.specs.{declared.pieces.Piece.{Piece}, Board.{square_number}}, dgt_chess.{specs.declared.{pieces.Man.{Man}, state.{Move.{Move}, State.{State}}}, proofs.Same.{same_move}}}
use Rattle.dgt_game.specs.{declared.ways.Ways.{Ways, TheVariants.{Nothing, Only, Several}}, Lines.{IsMove, IsOnly, LeadsTo, NoLine, moves_of}, Ways.{AreWays, AreWaysBy, BeginsIn, Ends, Follows}}
use Rattle.dgt_game.{specs.Ways.{IsSeveral, IsWay, both}, proofs.Same.{one_next}}

-- the legal half-moves of one set are in another
abbrev pub Within : State → (Move → Type 0) → (Move → Type 0) → Type 0
Within state F G = (one : Move) (next : State) → IsMove state one next → F one → G one

within : (F G : Move → Type 0) (halves : ℕ) (state : State) (pieces : List Piece)
    (moves : List Move) (new : State) → Within state F G → IsWay halves state pieces moves new
    → BeginsIn F moves → BeginsIn G moves
within F G halves state pieces moves new h way begins = search rules

-- sets with the same lines
same_lines : (F G : Move → Type 0) (halves : ℕ) (state : State) (pieces : List Piece) (ways : Ways)
    → ((moves : List Move) (new : State) → IsWay halves state pieces moves new → BeginsIn F moves
    → BeginsIn G moves)
    → ((moves : List Move) (new : State) → IsWay halves state pieces moves new → BeginsIn G moves
    → BeginsIn F moves)
    → AreWaysBy F halves state pieces ways → AreWaysBy G halves state pieces ways
same_lines F G halves state pieces Nothing there back h =
    λ moves new way begins. h moves new way (back moves new way begins)
same_lines F G halves state pieces (Only moves new) there back (way, begins, only) = search rules
same_lines F G halves state pieces (Several new) there back
    (one, other, (way, begins), (end, way', begins'), differ) = search rules

pub same_set : (F G : Move → Type 0) (halves : ℕ) (state : State) (pieces : List Piece)
    (ways : Ways) → Within state F G → Within state G F → AreWaysBy F halves state pieces ways
    → AreWaysBy G halves state pieces ways
same_set F G halves state pieces ways there back h = search (rules, same_lines)

-- several lines of a part are several of the whole
pub several : (F G : Move → Type 0) (halves : ℕ) (state : State) (pieces : List Piece)
    (ways : Ways) → Within state F G → IsSeveral ways → AreWaysBy F halves state pieces ways
    → AreWaysBy G halves state pieces ways
several F G halves state pieces (Several new) there is
    (one, other, (way, begins), (end, way', begins'), differ) = search (rules, within)
several F G halves state pieces Nothing there is h = absurd is
several F G halves state pieces (Only moves new) there is h = absurd is

-- a set of half-moves whose legal ones are in two others
abbrev pub Splits : State → (Move → Type 0) → (Move → Type 0) → (Move → Type 0) → Type 0
Splits state H F G = (one : Move) (next : State) → IsMove state one next → H one → F one ⊎ G one

differing : (F G : Move → Type 0) (moves others : List Move) → ((one : Move) → F one → ¬ (G one))
    → BeginsIn F moves → BeginsIn G others → moves ≢ others
differing F G moves others one f g e = search rules

-- what is found in one of two sets, if the other has no lines
alone : (F G H : Move → Type 0) (halves : ℕ) (state : State) (pieces : List Piece) (ways : Ways)
    → Within state F H → Splits state H F G → AreWaysBy G halves state pieces Nothing
    → AreWaysBy F halves state pieces ways → AreWaysBy H halves state pieces ways
alone F G H halves state pieces ways inside parts none h = search (rules, same_lines)

swapped : (F G H : Move → Type 0) (state : State) → Splits state H F G → Splits state H G F
swapped F G H state parts one next move h =
    elim (parts one next move h) [ inl f ↦ inr f | inr g ↦ inl g ]

-- what is found in two sets of lines that share none
pub joined : (F G H : Move → Type 0) (halves : ℕ) (state : State) (pieces : List Piece)
    (ways other : Ways) → Within state F H → Within state G H → Splits state H F G
    → ((one : Move) → F one → ¬ (G one)) → AreWaysBy F halves state pieces ways
    → AreWaysBy G halves state pieces other → AreWaysBy H halves state pieces (both ways other)
joined F G H halves state pieces ways Nothing in_f in_g parts apart h k =
    alone F G H halves state pieces ways in_f parts k h
joined F G H halves state pieces Nothing (Only moves' new') in_f in_g parts apart h k =
    alone G F H halves state pieces (Only moves' new') in_g (swapped F G H state parts) h k
joined F G H halves state pieces Nothing (Several new') in_f in_g parts apart h k =
    alone G F H halves state pieces (Several new') in_g (swapped F G H state parts) h k
joined F G H halves state pieces (Only moves new) (Only moves' new') in_f in_g parts apart
    (way, begins, only) (way', begins', only') = (
      moves_of moves,
      moves_of moves',
      (way, within F H halves state pieces (moves_of moves) new in_f way begins),
      (new', way', within G H halves state pieces (moves_of moves') new' in_g way' begins'),
      differing F G (moves_of moves) (moves_of moves') apart begins begins',
    )
joined F G H halves state pieces (Only moves new) (Several new') in_f in_g parts apart
    (way, begins, only) (one, other, (way', begins'), more, differ) = (
      moves_of moves,
      one,
      (way, within F H halves state pieces (moves_of moves) new in_f way begins),
      (new', way', within G H halves state pieces one new' in_g way' begins'),
      differing F G (moves_of moves) one apart begins begins',
    )
joined F G H halves state pieces (Several new) (Only moves' new') in_f in_g parts apart h k =
    several F H halves state pieces (Several new) in_f tt h
joined F G H halves state pieces (Several new) (Several new') in_f in_g parts apart h k =
    several F H halves state pieces (Several new) in_f tt h

begins_so : (F : Move → Type 0) (halves : ℕ) (moves : List Move) → ((one : Move) → F one)
    → length moves ≡ suc halves → BeginsIn F moves
begins_so F halves moves one e = search rules

-- all lines
pub all_ways : (F : Move → Type 0) (halves : ℕ) (state : State) (pieces : List Piece) (ways : Ways)
    → ((one : Move) → F one) → AreWaysBy F (suc halves) state pieces ways
    → AreWays (suc halves) state pieces ways
unfolding NoLine LeadsTo IsOnly
all_ways F halves state pieces Nothing every h =
    λ moves long (new, line, same).
    h moves new (long, line, same) (begins_so F halves moves every long)
all_ways F halves state pieces (Only moves new) every (way, begins, only) = (
  way,
  λ others long (end, line, same).
      let longer : length others ≡ suc halves = long ∙ way.0 in
      only others end (longer, line, same) (begins_so F halves others every longer),
)
all_ways F halves state pieces (Several new) every
    (one, other, (way, begins), (end, way', begins'), differ) =
    (one, other, way, (end, way'), differ)

-- the lines after a half-move
rest_of : (halves : ℕ) (state next : State) (pieces : List Piece) (one : Move) (moves : List Move)
    (new : State) → IsMove state one next → IsWay (suc halves) state pieces moves new
    → BeginsIn (λ other. other ≡ one) moves
    → (rest : List Move) × (moves ≡ one ∷ rest) × IsWay halves next pieces rest new
rest_of halves state next pieces one moves new rest way begins = search (rules, one_next)

longer : (halves : ℕ) (state next : State) (pieces : List Piece) (one : Move) (moves : List Move)
    (new : State) → IsMove state one next → IsWay halves next pieces moves new
    → IsWay (suc halves) state pieces (one ∷ moves) new
longer halves state next pieces one moves new move (long, line, same) =
    (ap suc long, (next, move, line), same)

after_only : (halves : ℕ) (state next : State) (pieces : List Piece) (one : Move)
    (all moves : List Move) (new : State) → all ≡ one ∷ moves → IsMove state one next
    → IsWay halves next pieces moves new → IsOnly next moves pieces
    → IsWay (suc halves) state pieces all new × BeginsIn (λ other. other ≡ one) all
    × ((others : List Move) (end : State) → IsWay (suc halves) state pieces others end
    → BeginsIn (λ other. other ≡ one) others → others ≡ all)
unfolding LeadsTo IsOnly
after_only halves state next pieces one all moves new listed move way only = (
  rw listed (longer halves state next pieces one moves new move way),
  rw listed refl,
  λ others end way' begins.
      let r = rest_of halves state next pieces one others end move way' begins in
      r.1 ∙ ap (λ ms. one ∷ ms) (only r.0 (r.2.0 ∙ sym way.0) (end, r.2.1, r.2.2)) ∙ sym listed,
)

pub after_move : (halves : ℕ) (state next : State) (pieces : List Piece) (one : Move)
    (ways new : Ways) → Follows one ways new → IsMove state one next
    → AreWays halves next pieces ways
    → AreWaysBy (λ other. other ≡ one) (suc halves) state pieces new
unfolding NoLine LeadsTo
after_move halves state next pieces one Nothing new follows move h =
    rw follows (λ moves end way begins.
    let r = rest_of halves state next pieces one moves end move way begins in
    h r.0 r.2.0 (end, r.2.1, r.2.2))
after_move halves state next pieces one (Only moves end) new (all, e, listed) move (way, only) =
    rw e (after_only halves state next pieces one (moves_of all) (moves_of moves) end
    listed move way only)
after_move halves state next pieces one (Several new') new follows move
    (first, other, way, (end, way'), differ) = rw follows (
      one ∷ first,
      one ∷ other,
      (longer halves state next pieces one first new' move way, refl),
      (end, longer halves state next pieces one other end move way', refl),
      λ e. differ (cc),
    )

pub no_move : (halves : ℕ) (state : State) (pieces : List Piece) (one : Move)
    → ((next : State) → ¬ (IsMove state one next))
    → AreWaysBy (λ other. other ≡ one) (suc halves) state pieces Nothing
no_move halves state pieces one next h' new way begins = search rules

-- ---- sets by the ends of half-moves

pub by_parts : (halves : ℕ) (state : State) (pieces : List Piece) (one : Move) (from to : ℕ)
    (ways : Ways) → square_number one.from ≡ from → square_number one.to ≡ to
    → AreWaysBy (λ other. other ≡ one) halves state pieces ways
    → AreWaysBy (Ends from to (λ other. other ≡ one.promotion)) halves state pieces ways
by_parts halves state pieces one from to ways from_is to_is h = search (rules, same_set, same_move)

-- one more promotion
pub promoted : (halves : ℕ) (state : State) (pieces : List Piece) (from to : ℕ)
    (P : Option Man → Type 0) (promotion : Option Man) (ways other : Ways) → ¬ (P promotion)
    → AreWaysBy (Ends from to P) halves state pieces ways
    → AreWaysBy (Ends from to (λ p. p ≡ promotion)) halves state pieces other
    → AreWaysBy (Ends from to (λ p. P p ⊎ (p ≡ promotion))) halves state pieces (both ways other)
promoted halves state pieces from to P promotion ways other differ h k =
    joined (Ends from to P) (Ends from to (λ p. p ≡ promotion))
    (Ends from to (λ p. P p ⊎ (p ≡ promotion))) halves state pieces ways other
    (λ one next move (a, b, p). (a, b, inl p)) (λ one next move (a, b, p). (a, b, inr p))
    (λ one next move (a, b, either). elim either [ inl p ↦ inl (a, b, p) | inr p ↦ inr (a, b, p) ])
    (λ one (a, b, p) (a', b', same). differ (subst P same p)) h k

-- one more goal
pub further : (halves : ℕ) (state : State) (pieces : List Piece) (from to : ℕ)
    (ways other new : Ways) → new ≡ both ways other
    → AreWaysBy (λ one. (square_number one.from ≡ from) × (square_number one.to < to)) halves state
    pieces ways
    → AreWaysBy (λ one. (square_number one.from ≡ from) × (square_number one.to ≡ to)) halves state
    pieces other
    → AreWaysBy (λ one. (square_number one.from ≡ from) × (square_number one.to < to + 1)) halves
    state pieces new
further halves state pieces from to ways other new e h k =
    let F : Move → Type 0 = λ one. (square_number one.from ≡ from) × (square_number one.to < to) in
    let G : Move → Type 0 = λ one. (square_number one.from ≡ from) × (square_number one.to ≡ to) in
    let H : Move → Type 0 =
    λ one. (square_number one.from ≡ from) × (square_number one.to < to + 1) in
    rw e (joined F G H halves state pieces ways other (λ one next move (a, b). (a, omega arith))
    (λ one next move (a, b). (a, omega arith)) (search rules) (λ one (a, b) (a', b'). omega arith)
    h k)

-- one more first square
pub next_from : (halves : ℕ) (state : State) (pieces : List Piece) (from : ℕ)
    (ways other new : Ways) → new ≡ both ways other
    → AreWaysBy (λ one. square_number one.from < from) halves state pieces ways
    → AreWaysBy (λ one. square_number one.from ≡ from) halves state pieces other
    → AreWaysBy (λ one. square_number one.from < from + 1) halves state pieces new
next_from halves state pieces from ways other new e h k =
    let F : Move → Type 0 = λ one. square_number one.from < from in
    let G : Move → Type 0 = λ one. square_number one.from ≡ from in
    let H : Move → Type 0 = λ one. square_number one.from < from + 1 in
    rw e (joined F G H halves state pieces ways other (λ one next move a. omega arith)
    (λ one next move a. omega arith) (search rules) (λ one a b. omega arith) h k)

-- the goals below 64, and the first squares
pub all_goals : (halves : ℕ) (state : State) (pieces : List Piece) (from to : ℕ) (ways : Ways)
    → 64 ≤ to
    → AreWaysBy (λ one. (square_number one.from ≡ from) × (square_number one.to < to)) halves state
    pieces ways → AreWaysBy (λ one. square_number one.from ≡ from) halves state pieces ways
all_goals halves state pieces from to ways end h = search (rules, same_set)

pub several_from : (halves : ℕ) (state : State) (pieces : List Piece) (from to : ℕ) (ways : Ways)
    → IsSeveral ways
    → AreWaysBy (λ one. (square_number one.from ≡ from) × (square_number one.to < to)) halves state
    pieces ways → AreWaysBy (λ one. square_number one.from ≡ from) halves state pieces ways
several_from halves state pieces from to ways is h = search (rules, several)

pub all_from : (halves : ℕ) (state : State) (pieces : List Piece) (from : ℕ) (ways : Ways)
    → 64 ≤ from → AreWaysBy (λ one. square_number one.from < from) (suc halves) state pieces ways
    → AreWays (suc halves) state pieces ways
all_from halves state pieces from ways end h = search (rules, all_ways)

pub several_ways : (halves : ℕ) (state : State) (pieces : List Piece) (from : ℕ) (ways : Ways)
    → IsSeveral ways
    → AreWaysBy (λ one. square_number one.from < from) (suc halves) state pieces ways
    → AreWays (suc halves) state pieces ways
several_ways halves state pieces from ways is h =
    all_ways (λ one. ⊤) halves state pieces ways (λ one. tt) (search (rules, several))
