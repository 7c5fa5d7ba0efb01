-- A half-move leaves its first square, and the opponent's answer puts none of its men there.
use Rattle.std.{proofs.{Common.{rules, ◌≡◌, ◌∙◌, ℕ, ◌≤◌, List, [], ◌∷◌, ap, arith, inl, inr, subst, sym}, lemmas.Bool.{cases_eq}}, specs.Prelude.{◌≢◌, suc, Option, Some}}
use Rattle.{dgt_values.specs.{declared.pieces.Piece.{Piece, TheVariants.{Empty}}, Board.{square_number}}, dgt_chess.specs.declared.{state.{Move.{Move}, State.{State}}, pieces.Colour.{Colour}}}
use Rattle.dgt_chess.{specs.{declared.pieces.Man.{Man, TheVariants.{Pawn, Rook}}, Attacks.{other, piece_at, piece_of, IsFree}, Rules.{CanGo, Legal, board}}, proofs.OneMove.{effect_of, put}}
use Rattle.{dgt_chess.proofs.Unique.{Effect, not_free, not_theirs, same_kind}, dgt_game.{proofs.HalfMoves.{made_by}, specs.{declared.ways.Ways.TheVariants.{Nothing}, Lines.{IsMove}}}}
use Rattle.dgt_game.specs.Ways.{AreWaysBy, IsWay}

was_pawn : (man : Man) (promotion : Option Man) → promotion ≢ Some Pawn → put man promotion ≡ Pawn
    → man ≡ Pawn
was_pawn man promotion differ e = search rules

pub effect : (state : State) (one : Move) (next : State) → IsMove state one next
    → (man : Man) × (next.turn ≡ other state.turn) × Effect (board state) (board next) state.turn
    (square_number one.from) (square_number one.to) man
    × (man ≡ Pawn → piece_at (board state) (square_number one.from) ≡ piece_of state.turn Pawn)
unfolding IsMove
effect state one next (man, legal, after) =
    let from = square_number one.from in
    let to = square_number one.to in (
      put man one.promotion,
      after.turn,
      rw after.pieces (search (rules, effect_of)),
      λ e. legal.own ∙ ap (piece_of state.turn) (was_pawn man one.promotion legal.promotes.1 e),
    )

-- none of the opponent's men comes to a free square
none_comes : (old new : List Piece) (turn turn' : Colour) (a b at : ℕ) (man theirs : Man)
    → turn ≡ other turn' → Effect old new turn a b man → IsFree old at
    → piece_at new at ≢ piece_of turn' theirs
none_comes old new turn turn' a b at man theirs turns effect free here = search rules

-- If at most one half-move follows, the piece on the first square changes.
changes : (rest : ℕ) (state : State) (pieces : List Piece) (one : Move) (moves : List Move)
    (new : State) → rest ≤ 1 → IsWay (suc rest) state pieces (one ∷ moves) new
    → piece_at (board state) (square_number one.from) ≢ piece_at pieces (square_number one.from)
changes rest state pieces one [] new small (long, (next, move, line), same) e =
    search (rules, effect)
changes rest state pieces one (answer ∷ []) new small
    (long, (next, move, (last, move', line)), same) e =
    let (man, turn, first, pawn) = effect state one next move in
    let (man', turn', second, pawn') = effect next answer last move' in
    let at = square_number one.from in
    let there : piece_at (board last) at ≡ piece_at pieces at =
    ap (λ (s : State). piece_at (board s) at) line ∙ ap (λ ps. piece_at ps at) same in
    none_comes (board next) (board last) next.turn state.turn (square_number answer.from)
    (square_number answer.to) at man' first.begins.0 turn second first.vacated
    (there ∙ sym e ∙ first.begins.1)
changes rest state pieces one (answer ∷ more ∷ moves) new small (long, line, same) e =
    omega (arith, long)

pub kept : (rest : ℕ) (state : State) (pieces : List Piece) (at : ℕ) → rest ≤ 1
    → piece_at (board state) at ≡ piece_at pieces at
    → AreWaysBy (λ one. square_number one.from ≡ at) (suc rest) state pieces Nothing
kept rest state pieces at small e [] new way begins = begins
kept rest state pieces at small e (one ∷ moves) new way begins =
    changes rest state pieces one moves new small way (rw begins e)

no_man_left : (rest : ℕ) (state : State) (pieces : List Piece) (one : Move) (moves : List Move)
    (new : State) → IsWay (suc rest) state pieces (one ∷ moves) new
    → (own : Man) × (piece_at (board state) (square_number one.from) ≡ piece_of state.turn own)
no_man_left rest state pieces one moves new (long, (next, move, line), same) =
    (effect state one next move).2.begins

pub no_man : (halves : ℕ) (state : State) (pieces : List Piece) (at : ℕ)
    → ((man : Man) → piece_at (board state) at ≢ piece_of state.turn man)
    → AreWaysBy (λ one. square_number one.from ≡ at) (suc halves) state pieces Nothing
no_man halves state pieces at none [] new way begins = begins
no_man halves state pieces at none (one ∷ moves) new way begins =
    let (own, here) = no_man_left halves state pieces one moves new way in
    search rules

pub no_goal : (halves : ℕ) (state : State) (pieces : List Piece) (from to : ℕ)
    → ¬ (CanGo state from to)
    → AreWaysBy (λ one. (square_number one.from ≡ from) × (square_number one.to ≡ to)) (suc halves)
    state pieces Nothing
unfolding CanGo
no_goal halves state pieces from to none [] new way begins = begins
no_goal halves state pieces from to none (one ∷ moves) new (long, (next, move, line), same) (a, b) =
    let P : ℕ → ℕ → Type 0 = λ m n. Legal state m n one.promotion in
    none (
      one.promotion,
      subst (λ n. P from n) b (rw a at (made_by state one next move)),
    )

-- A move of the opponent empties no square of a man, but for a pawn captured in passing.
pub stays_put : (old new : List Piece) (turn turn' : Colour) (a b at : ℕ) (man own : Man)
    → turn ≡ other turn' → Effect old new turn a b man → piece_at old at ≡ piece_of turn' own
    → IsFree new at → own ≡ Pawn
stays_put old new turn turn' a b at man own turns made here free =
    let theirs : (m : Man) → piece_at old at ≢ piece_of turn m = λ m e.
    not_theirs turn' own m (sym here ∙ e ∙ ap (λ (c : Colour). piece_of c m) turns) in
    let busy : piece_at old at ≢ Empty = λ e. not_free turn' own (sym here ∙ e) in
    elim (cases_eq at a) [
      | inl same ↦ absurd (theirs made.begins.0 (ap (piece_at old) same ∙ made.begins.1))
      | inr not_a ↦ elim (cases_eq at b) [
        | inl same ↦ search rules
        | inr not_b ↦ elim (made.keeps at not_a not_b) [
          | inl kept ↦ absurd (busy (sym kept ∙ free))
          | inr more ↦ elim more [
            | inl pawn ↦ same_kind turn' (other turn) own Pawn (sym here ∙ pawn)
            | inr more ↦ elim more [
              | inl vacant ↦ absurd (busy vacant.1)
              | inr rook ↦ absurd (theirs Rook rook.1)
            ]
          ]
        ]
      ]
    ]

-- If at most one half-move follows, only a pawn leaves its second square free.
was_taken : (rest : ℕ) (state : State) (pieces : List Piece) (one : Move) (moves : List Move)
    (new : State) → rest ≤ 1 → IsWay (suc rest) state pieces (one ∷ moves) new
    → IsFree pieces (square_number one.to)
    → piece_at (board state) (square_number one.from) ≡ piece_of state.turn Pawn
was_taken rest state pieces one [] new small (long, (next, move, line), same) free =
    search (rules, effect)
was_taken rest state pieces one (answer ∷ []) new small
    (long, (next, move, (last, move', line)), same) free =
    let (man, turn, first, pawn) = effect state one next move in
    let (man', turn', second, pawn') = effect next answer last move' in
    let to = square_number one.to in
    let there : IsFree (board last) to =
    ap (λ (s : State). piece_at (board s) to) line ∙ ap (λ ps. piece_at ps to) same ∙ free in
    search (rules, stays_put)
was_taken rest state pieces one (answer ∷ more ∷ moves) new small (long, line, same) free =
    absurd (omega (arith, long))

pub vacant : (rest : ℕ) (state : State) (pieces : List Piece) (man : Man) (from to : ℕ) → rest ≤ 1
    → piece_at (board state) from ≡ piece_of state.turn man → man ≢ Pawn → IsFree pieces to
    → AreWaysBy (λ one. (square_number one.from ≡ from) × (square_number one.to ≡ to)) (suc rest)
    state pieces Nothing
vacant rest state pieces man from to small own officer free [] new way begins = begins
vacant rest state pieces man from to small own officer free (one ∷ moves) new way (a, b) =
    let pawn = was_taken rest state pieces one moves new small way (rw b free) in
    search rules
