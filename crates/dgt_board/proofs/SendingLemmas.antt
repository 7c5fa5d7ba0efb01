-- Each message that is sent leaves less to send.
use Rattle.std.proofs.Common.{arith, ◌≡◌, ◌≢◌, ◌↔◌, refl, ap, sym, subst, ◌∙◌, ◌==◌, ℕ, zero, suc, ◌+◌, ◌<◌, ◌≤◌, List, [], ◌∷◌, ◌++◌, map, Some, None, Bool, true, false, cond, not, length, slice_get}
use Rattle.std.proofs.{Common.{length-append, get_or-set_same, get_or-set_other, rules}, lemmas.{Bool.{eqb-true, eq-eqb, false≢true}, List.{length-map}, Option.{same_Some}}}
use Rattle.{std.{proofs.lemmas.List.FromFn.{length-range_with_len}, specs.{List.{range_with_len}, Prelude.{filter}}}, dgt_values.specs.{Board.{piece_code}, declared.pieces.Piece.{Piece}}}
use Rattle.{dgt_message.specs.{Clock.{ClockState}, Content.{clock_message, Content}}, dgt_board.specs.Sending.{after_sending, after_reporting, clock_news, differs, every_square, field_of}}
use Rattle.dgt_board.specs.{Sending.{left_to_send, next_message, piece_on, reply_message, times_owed_after, unreported_squares}, State.{BoardState, updates}, declared.replies.Reply.{Reply}}

-- ---- what passes a test

-- one element more for two tests, of which the first fails wherever the second does
fewer_step : (x : ℕ) (a b : Bool) (xs ys : List ℕ) → (b ≡ false → a ≡ false) → length xs ≤ length ys
    → length (cond a (x ∷ xs) xs) ≤ length (cond b (x ∷ ys) ys)
fewer_step x a b xs ys h rest = search (rules, false≢true)

-- no more pass a test that fails wherever another does
fewer_pass : (less test : ℕ → Bool) → ((k : ℕ) → test k ≡ false → less k ≡ false) → (xs : List ℕ)
    → length (filter less xs) ≤ length (filter test xs)
fewer_pass less test h [] = omega arith
fewer_pass less test h (x ∷ xs) =
    fewer_step x (less x) (test x) (filter less xs) (filter test xs) (h x)
    (fewer_pass less test h xs)

-- the same, if the first test also fails at the first place that passes the second
one_step : (x at : ℕ) (a b : Bool) (xs ys rest : List ℕ) → (b ≡ false → a ≡ false)
    → (x ≡ at → a ≡ false) → length xs ≤ length ys → (ys ≡ at ∷ rest → length xs < length ys)
    → cond b (x ∷ ys) ys ≡ at ∷ rest → length (cond a (x ∷ xs) xs) < length (cond b (x ∷ ys) ys)
one_step x at a b xs ys rest h here few on e = search rules

-- fewer pass a test that fails also at the first place that passes the other
one_fewer_passes : (less test : ℕ → Bool) (at : ℕ) (rest : List ℕ)
    → ((k : ℕ) → test k ≡ false → less k ≡ false) → less at ≡ false → (xs : List ℕ)
    → filter test xs ≡ at ∷ rest → length (filter less xs) < length (filter test xs)
one_fewer_passes less test at rest h fails [] e = cc
one_fewer_passes less test at rest h fails (x ∷ xs) e =
    one_step x at (less x) (test x) (filter less xs) (filter test xs) rest (h x) (λ f. rw f fails)
    (fewer_pass less test h xs) (one_fewer_passes less test at rest h fails xs) e

-- at most all pass
at_most : (test : ℕ → Bool) (xs : List ℕ) → length (filter test xs) ≤ length xs
at_most test [] = omega arith
at_most test (x ∷ xs) = search (rules, at_most test xs)

-- ---- how many messages are left to send

-- the replies, the squares that differ if the mode reports them, and the clock
abbrev pub left_by : Bool → BoardState → ℕ
left_by asks board =
    length board.owed + length (cond asks (filter (differs board) every_square) [])
    + length (clock_news board)

pub left_is : (board : BoardState) → left_to_send board ≡ left_by (updates board.mode) board
left_is board = search (rules, length-append, length-map)

-- a list has no first element exactly if nothing is in it
pub none_first : {X : Type 0} (xs : List X) → (slice_get xs 0 ≡ None) ↔ (length xs ≡ 0)
none_first [] = (λ _. refl, λ _. refl)
none_first (x ∷ xs) = (λ h. cc, λ h. absurd (omega (arith, h)))

-- with no next message, no reply is owed
pub none_owed : (board : BoardState) → next_message board ≡ None → board.owed ≡ []
none_owed board none = go board.owed refl none
  where
    go : (owed : List Reply) → board.owed ≡ owed → slice_get
        (map (reply_message board) owed
        ++ (map (field_of board) (unreported_squares board) ++ clock_news board)) 0
        ≡ None → board.owed ≡ []
    go [] e h = e
    go (reply ∷ rest) e h = cc

-- a square with the reported piece doesn't differ
same_square : (a b : Piece) → a ≡ b → not (piece_code a == piece_code b) ≡ false
same_square a b e = ap not (eq-eqb (piece_code a) (piece_code b) (ap piece_code e))

-- sending the clock alters no square
after_clock : (board : BoardState) (clock : ClockState)
    → after_reporting board (clock_message clock)
    ≡ record board { reported_clock = Some board.clock; times_owed = false }
after_clock board clock = search rules

-- ---- a reply is sent

-- a reply makes no square differ
reply_reports : (board : BoardState) (reply : Reply) (k : ℕ) → differs board k ≡ false
    → differs (after_reporting board (reply_message board reply)) k ≡ false
reply_reports board reply k h = search (rules, same_square, after_clock)

-- a reply makes no times owed
reply_news : (board : BoardState) (reply : Reply) → board.times_owed ≡ false
    → times_owed_after board (reply_message board reply) ≡ false
reply_news board reply h = search (rules, after_clock)

-- one reply less
reply_lowers : (asks : Bool) (board : BoardState) (reply : Reply) (rest : List Reply)
    → board.owed ≡ reply ∷ rest
    → left_by asks (after_sending board (reply_message board reply)) < left_by asks board
reply_lowers asks board reply rest e =
    search (rules, fewer_pass, reply_reports, reply_news, false≢true)

-- ---- a field update is sent

-- the square is then reported
field_reported : (board : BoardState) (square k : ℕ) → square < length board.reported_squares
    → k ≡ square → differs (after_reporting board (field_of board square)) k ≡ false
field_reported board square k within e = search (rules, same_square, get_or-set_same)

-- a square that was reported stays so
field_reports : (board : BoardState) (square k : ℕ) → square < length board.reported_squares
    → differs board k ≡ false → differs (after_reporting board (field_of board square)) k ≡ false
field_reports board square k within h = go (k == square) refl
  where
    piece : Piece
    piece = piece_on board.squares square

    go : (same : Bool) → (k == square) ≡ same
        → differs (after_reporting board (field_of board square)) k ≡ false
    go true e = field_reported board square k within (eqb-true k square e)
    go false e =
        let other : k ≢ square = λ f. false≢true (sym e ∙ eq-eqb k square f) in
        rw (get_or-set_other board.reported_squares square k piece Piece.Empty other) h

-- one square less
field_lowers : (asks : Bool) (board : BoardState) (square : ℕ) (rest : List ℕ)
    → (updates board.mode ≡ true → asks ≡ true) → square < length board.reported_squares
    → board.owed ≡ [] → unreported_squares board ≡ square ∷ rest
    → left_by asks (after_sending board (field_of board square)) < left_by asks board
field_lowers asks board square rest more within none first =
    search (rules, field_reports, field_reported, one_fewer_passes)

-- ---- the clock is sent

-- the clock is no longer owed
times_lower : (asks : Bool) (board : BoardState) → board.owed ≡ [] → board.times_owed ≡ true
    → left_by asks (after_sending board (clock_message board.clock)) < left_by asks board
times_lower asks board none owed = search (rules, after_clock)

-- ---- all three

-- the first number of a range that passes a test is in the range
first_below : (test : ℕ → Bool) (a n at : ℕ) (rest : List ℕ)
    → filter test (range_with_len a n) ≡ at ∷ rest → at < a + n
first_below test a zero at rest e = cc
first_below test a (suc n) at rest e = search (rules, first_below test (a + 1) n)

-- therefore a square that is left has one of the 64 numbers
square_below : (asks : Bool) (test : ℕ → Bool) (at : ℕ) (rest : List ℕ)
    → cond asks (filter test every_square) [] ≡ at ∷ rest → at < 64
unfolding every_square
square_below true test at rest e = let below = first_below test 0 64 at rest e in
    omega (arith, below)
square_below false test at rest e = cc

-- each message that is sent leaves less, also by the squares that the mode doesn't ask for
pub next_lowers : (asks : Bool) (board : BoardState) (message : Content)
    → (updates board.mode ≡ true → asks ≡ true) → length board.reported_squares ≡ 64
    → next_message board ≡ Some message
    → left_by asks (after_sending board message) < left_by asks board
next_lowers asks board message more all next =
    go board.owed (unreported_squares board) board.times_owed refl refl refl next
  where
    Lowers : Content → Type 0
    Lowers sent = left_by asks (after_sending board sent) < left_by asks board

    pending : List Reply → List ℕ → Bool → List Content
    pending owed squares times =
        map (reply_message board) owed ++
        (map (field_of board) squares ++ cond times (clock_message board.clock ∷ []) [])

    go : (owed : List Reply) (squares : List ℕ) (times : Bool)
        → board.owed ≡ owed → unreported_squares board ≡ squares → board.times_owed ≡ times
        → slice_get (pending owed squares times) 0 ≡ Some message → Lowers message
    go (reply ∷ rest) squares times e f g h =
        subst Lowers (same_Some (reply_message board reply) message h)
        (reply_lowers asks board reply rest e)
    go [] (square ∷ rest) times e f g h =
        let within : square < length board.reported_squares =
        rw all (square_below (updates board.mode) (differs board) square rest f) in
        subst Lowers (same_Some (field_of board square) message h)
        (field_lowers asks board square rest more within e f)
    go [] [] true e f g h =
        subst Lowers (same_Some (clock_message board.clock) message h) (times_lower asks board e g)
    go [] [] false e f g h = cc

-- therefore less is left to send
pub sending_lowers : (board : BoardState) (message : Content) → length board.reported_squares ≡ 64
    → next_message board ≡ Some message
    → left_to_send (after_sending board message) < left_to_send board
sending_lowers board message all next = search (rules, left_is, next_lowers)

-- ---- what is due

-- each map of a list with this first element begins with its image
first_mapped : (f : ℕ → Content) (xs : List ℕ) (others : List Content) (x : ℕ)
    → slice_get xs 0 ≡ Some x → slice_get (map f xs ++ others) 0 ≡ Some (f x)
first_mapped f [] others x h = cc
first_mapped f (y ∷ ys) others x h = ap Some (ap f (same_Some y x h))

no_first : {X : Type 0} (xs : List X) → slice_get xs 0 ≡ None → xs ≡ []
no_first [] h = refl
no_first (x ∷ xs) h = cc

-- with no reply owed, the first square that is left is next
pub field_is_next : (board : BoardState) (square : ℕ) → slice_get board.owed 0 ≡ None
    → slice_get (unreported_squares board) 0 ≡ Some square
    → next_message board ≡ Some (field_of board square)
field_is_next board square none first = search (rules, no_first, first_mapped)

-- with no square left either, the clock is, if it is owed
pub times_are_next : (board : BoardState) → slice_get board.owed 0 ≡ None
    → slice_get (unreported_squares board) 0 ≡ None
    → board.times_owed ≡ true → next_message board ≡ Some (clock_message board.clock)
times_are_next board none squares owed =
    rw (no_first board.owed none, no_first (unreported_squares board) squares, owed) refl

-- with no reply, no square and no clock left, nothing is next
pub nothing_is_next : (board : BoardState) → slice_get board.owed 0 ≡ None
    → slice_get (unreported_squares board) 0 ≡ None
    → board.times_owed ≡ false → next_message board ≡ None
nothing_is_next board none squares owed =
    rw (no_first board.owed none, no_first (unreported_squares board) squares, owed) refl

-- ---- how much may be left

-- no more than one message of the clock
pub few_news : (owed : Bool) (message : Content) → length (cond owed (message ∷ []) []) ≤ 1
few_news owed message = search rules

few_squares : (asks : Bool) (test : ℕ → Bool)
    → length (cond asks (filter test every_square) []) ≤ 64
unfolding every_square
few_squares true test =
    omega (arith, at_most test (range_with_len 0 64), length-range_with_len 0 64)
few_squares false test = omega arith

-- at most the replies, the 64 squares and the clock
pub left-at_most : (board : BoardState) → left_to_send board ≤ length board.owed + 65
left-at_most board = search (rules, few_squares, few_news, left_is)
