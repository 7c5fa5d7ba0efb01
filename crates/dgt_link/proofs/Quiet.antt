-- A sound state with nothing under way and nothing to be sent.
use Rattle.std.proofs.{Common.{◌≡◌, refl, sym, ◌∙◌, ◌⊎◌, ℕ, zero, suc, ◌<◌, List, [], ◌∷◌, Option, Some, Bool, false, cond, length, get_or, arith, rules}, lemmas.Grind.{common_steps}}
use Rattle.{std.{proofs.lemmas.List.{get_or_default, same_lists, FromFn.{get_or-range_with_len}}, specs.Prelude.{IsTrue, IsSome, filter, map}}, dgt_values.specs.declared.pieces.Piece.{Piece}}
use Rattle.{dgt_message.specs.Clock.{ClockState}, dgt_board.specs.{Sending.{differs, every_square}, State.{BoardState, follows_clock, updates}}, dgt_link.specs.Machine.{MachineState}}
use Rattle.dgt_link.{specs.{Promise.{IsPromised, IsQuiet, PictureIsComing}, Sound.{IsSound, IsExact, IsUnknownOr}}, proofs.{Lists.{right_empty}, Subsequences.{subsequence_of_nothing}}}

-- ---- nothing is pending

map_empty : {X Y : Type 0} (f : X → Y) (xs : List X) → map f xs ≡ [] → xs ≡ []
map_empty f [] h = refl
map_empty f (x ∷ xs) h = cc

-- a test that keeps nothing fails at each element
kept_none : (test : ℕ → Bool) (x : ℕ) (rest : List ℕ) (passes : Bool)
    → cond passes (x ∷ rest) rest ≡ [] → (passes ≡ false) × (rest ≡ [])
kept_none test x rest passes h = search rules

filter_empty : (test : ℕ → Bool) (xs : List ℕ) (k d : ℕ) → k < length xs → filter test xs ≡ []
    → test (get_or xs k d) ≡ false
filter_empty test [] k d within h = absurd (omega arith)
filter_empty test (x ∷ xs) zero d within h = (kept_none test x (filter test xs) (test x) h).0
filter_empty test (x ∷ xs) (suc k) d within h =
    filter_empty test xs k d (omega arith) (kept_none test x (filter test xs) (test x) h).1

every_square-at : (k : ℕ) → k < 64 → (k < length every_square) × (get_or every_square k 0 ≡ k)
unfolding every_square
every_square-at k h = (h, get_or-range_with_len 0 64 k 0 h ∙ omega arith)

-- if no square differs, the board has reported its squares
none_differs : (board : BoardState) → length board.squares ≡ 64 → length board.reported_squares ≡ 64
    → filter (differs board) every_square ≡ [] → board.reported_squares ≡ board.squares
none_differs board squares reported none =
    same_lists board.reported_squares board.squares (reported ∙ sym squares) same_at
  where
    same_at : (k : ℕ) (d : Piece) → k < length board.reported_squares
        → get_or board.reported_squares k d ≡ get_or board.squares k d
    same_at k d h =
        let below : k < 64 = rw reported at h in
        let at = every_square-at k below in
        search (rules, get_or_default, filter_empty)

-- what a board with nothing to send has reported
pub record IsUpToDate (board : BoardState) : Type 0 where
  pub owed : board.owed ≡ []
  pub squares : IsTrue (updates board.mode) → board.reported_squares ≡ board.squares
  pub times_owed : board.times_owed ≡ false

pub quiet_up_to_date : (x : MachineState) → IsSound x → IsQuiet x → IsUpToDate x.board
quiet_up_to_date x sound quiet = search (rules, none_differs, right_empty, map_empty)

pub quiet_picture : (x : MachineState) → IsSound x → IsQuiet x → IsTrue (updates x.board.mode)
    → IsUnknownOr x.picture (Some x.board.squares)
quiet_picture x sound quiet asks = search (rules, quiet_up_to_date)

-- when everything is quiet, a picture to come is known
pub picture_has_come : (x : MachineState) → IsSound x → IsQuiet x → PictureIsComing x
    → IsSome x.picture
picture_has_come x sound quiet coming = search (rules, quiet_up_to_date)

-- a promised state that is quiet has the board's squares as its picture
pub promised_picture : (x : MachineState) → IsSound x → IsPromised x → IsQuiet x
    → x.picture ≡ Some x.board.squares
promised_picture x sound promised quiet = grind (arith, common_steps, quiet_picture)

-- the clock, in an exact state with a mode that follows it
pub reported_clock : (owed : Bool) (reported clock : Option ClockState) → owed ≡ false
    → IsTrue owed ⊎ (reported ≡ clock) → reported ≡ clock
reported_clock owed reported clock none either = search rules

pub quiet_clock : (x : MachineState) → IsExact x → IsQuiet x → IsTrue (follows_clock x.board.mode)
    → x.host_clock ≡ Some x.board.clock
quiet_clock x exact quiet follows = search (rules, quiet_up_to_date)

pub quiet_clock_reported : (x : MachineState) → IsSound x → IsQuiet x
    → IsTrue (follows_clock x.board.mode) → IsUnknownOr x.host_clock (Some x.board.clock)
quiet_clock_reported x sound quiet follows = search (rules, quiet_up_to_date)

pub quiet_awaited : (x : MachineState) → IsSound x → IsQuiet x → x.awaited ≡ []
quiet_awaited x sound quiet = search (rules, subsequence_of_nothing, quiet_up_to_date)
