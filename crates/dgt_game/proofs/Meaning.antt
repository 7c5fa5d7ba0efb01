-- What lines, events and pictures mean, in other words.
use Rattle.std.proofs.Common.{rules, ◌≡◌, ◌∙◌, ◌<◌, ◌≤◌, inl, inr, ℕ, refl, sym, ap, subst, arith, zero, suc, length, length-append, List, [], ◌∷◌, ◌++◌, Option}
use Rattle.std.specs.Prelude.{⊤, ◌≢◌, Contains, MatchOption}
use Rattle.{dgt_values.specs.declared.pieces.Piece.{Piece}, dgt_game.specs.{declared.event.Event.{Event}, Lines.{IsLine}}}
use Rattle.dgt_chess.specs.{declared.{pieces.Man.{Man}, state.{Move.{Move}, State.{State}}}, Attacks.{piece_at, piece_of}, Rules.{board}}
use Rattle.dgt_game.specs.{Lines.{IsMove, IsOnly, LeadsTo, moves_of}, Results.{IsKing}}
use Rattle.dgt_game.specs.Told.{IsLegalTold, Joins, LacksMen, LacksOne, Leads, Told, WasShown, told_pieces}
use Rattle.dgt_game.specs.Laws.{AreJoined, BackIsCounted, JoinedIsOne, LegalIsJoined}
use Rattle.dgt_game.specs.Laws.{EndIsShown, HeldMayLack, NoneAndOne, OneIsGone, OneIsShown, OneLine, OthersAreHeld, SeveralAreShown, ShownIsHeld, StartIsShown, UnseenIsOnly, first_of}
use Rattle.dgt_game.proofs.{Gone.{gone_at, one_differs, others_stand, same_or_gone}, Links.{turned_back}, Same.{one_next}}

rest_joined : (told : Told) (line : List Told) → AreJoined (told ∷ line) → AreJoined line
rest_joined told [] h = tt
rest_joined told (before ∷ line) h = h.2

joined_on : (line new : List Told) (event : Event) → AreJoined line → Leads line event new
    → AreJoined new
unfolding Joins
joined_on line new (Event.Begun state is_turned) h leads = rw leads refl
joined_on (last ∷ line) new (Event.Made one) h leads =
    rw leads.2 ((one ∷ [], refl, (leads.0, leads.1, refl)), refl, h)
joined_on (last ∷ line) new (Event.Unseen moves) h leads =
    rw leads.3 ((moves_of moves, refl, leads.1), refl, h)
joined_on (last ∷ line) new (Event.Gap state count) h leads = rw leads.1 (leads.0, refl, h)
joined_on (last ∷ line) new (Event.Back count stays) h leads = rw leads.2 (rest_joined last line h)
joined_on line new (Event.Ended result) h leads = rw leads h
joined_on line new (Event.Lost squares) h leads = rw leads h
joined_on line new Event.Found h leads = rw leads h
joined_on [] new (Event.Made one) h leads = absurd leads
joined_on [] new (Event.Unseen moves) h leads = absurd leads
joined_on [] new (Event.Gap state count) h leads = absurd leads
joined_on [] new (Event.Back count stays) h leads = absurd leads

joined_after : (events : List Event) (line new : List Told) → AreJoined line
    → IsLegalTold line events new → AreJoined new
joined_after [] line new h legal = rw legal h
joined_after (event ∷ events) line new h legal =
    joined_after events legal.0 new (joined_on line legal.0 event h legal.1) legal.2

pub legal_is_joined : LegalIsJoined
legal_is_joined events line legal = joined_after events [] line tt legal

line_append : (a b c : State) (moves more : List Move) → IsLine a moves b → IsLine b more c
    → IsLine a (moves ++ more) c
line_append a b c [] more first next = rw first next
line_append a b c (one ∷ moves) more first next =
    (first.0, first.1, line_append first.0 b c moves more first.2 next)

pub joined_is_one : JoinedIsOne
unfolding Joins
joined_is_one last [] h = (([], omega (arith, h), refl), refl)
joined_is_one last (before ∷ line) h =
    let ((first, count, legal), turned) = joined_is_one before line h.2 in
    let (moves, halves, made) = h.0 in (
      (
        first ++ moves,
        omega (arith, length-append first moves, count, halves),
        line_append (first_of before line).state before.state last.state first moves legal made,
      ),
      turned ∙ sym h.1,
    )

no_line : (state new : State) (moves : List Move) → length moves ≡ 0 → IsLine state moves new
    → state ≡ new
no_line state new [] e h = h
no_line state new (one ∷ moves) e h = absurd (omega arith)

single : (state new : State) (moves : List Move) → length moves ≡ 1 → IsLine state moves new
    → (one : Move) × IsMove state one new
single state new [] e h = absurd (omega arith)
single state new (one ∷ moves) e h =
    let same : h.0 ≡ new = no_line h.0 new moves (omega (arith, e)) h.2 in
    (one, rw same at h.1)

pub none_and_one : NoneAndOne
unfolding Joins IsMove
none_and_one state new = (
  (λ h. no_line state new h.0 h.1 h.2),
  (λ h. let (one, made) = single state new h.0 h.1 h.2 in (one, made, (made.0, made.1))),
)

one_end : (state a b : State) (moves : List Move) → IsLine state moves a → IsLine state moves b
    → a ≡ b
one_end state a b [] h k = sym h ∙ k
one_end state a b (one ∷ moves) h k = one_end k.0 a b moves (search (rules, one_next)) k.2

pub one_line : OneLine
one_line line new other h h' k = search (rules, one_next, one_end)

pub unseen_is_only : UnseenIsOnly
unfolding IsOnly LeadsTo
unseen_is_only last told line new moves others end leads legal count same =
    let here : told.state ≡ leads.0 = cc leads.3 in
    leads.2 others count (end, legal, same ∙ ap board here)

pub back_is_counted : BackIsCounted
back_is_counted h new count leads = search rules

arrived : (shown : List (List Piece)) (told : Told) → WasShown shown told → 2 ≤ told.halves
    → Contains shown (told_pieces told)
unfolding WasShown
arrived shown told h some = search rules

pub several_are_shown : SeveralAreShown
several_are_shown shown [] n told h e some =
    absurd (subst (λ (o : Option Told). MatchOption o ⊤ (λ _. ⊥)) e tt)
several_are_shown shown (first ∷ line) zero told h e some = search (rules, arrived)
several_are_shown shown (first ∷ line) (suc n) told h e some =
    several_are_shown shown line n told h.1 e some

pub one_is_shown : OneIsShown
unfolding WasShown
one_is_shown shown told h one = elim h [
  | inl whole ↦ (told_pieces told, whole, inl (inl (λ k small. inl (search (rules, turned_back)))))
  | inr more ↦ elim more [
    | inl held ↦ held.1
    | inr start ↦ absurd (search (rules, start, one))
  ]
]

men_differ : (picture : List Piece) (state : State) (k : ℕ) → LacksMen picture state → k < 64
    → piece_at picture k ≢ piece_at (board state) k
    → ((man : Man) → piece_at (board state) k ≢ piece_of state.turn man) → ⊥
men_differ picture state k men small differs none = search rules

only_gone : (picture : List Piece) (state : State) (k : ℕ) → LacksOne picture state k
    → (piece_at picture k ≡ Piece.Empty) × ¬ (IsKing (piece_at (board state) k))
    × ((square : ℕ) → square ≢ k → piece_at picture square ≡ piece_at (board state) square)
only_gone picture state k lacks = (
  gone_at picture state k lacks,
  lacks.2,
  λ square other. others_stand picture state k square lacks other,
)

pub one_is_gone : OneIsGone
one_is_gone picture state k (inl men) small differs none =
    absurd (men_differ picture state k men small differs none)
one_is_gone picture state k (inr (square, lacks)) small differs none =
    let same = sym (one_differs picture state square k lacks differs) in
    only_gone picture state k (subst (LacksOne picture state) same lacks)

pub end_is_shown : EndIsShown
unfolding WasShown
end_is_shown shown told picture result one seen kings explains =
    inr (inl (one, (picture, seen, inr (result, kings, explains))))

pub others_are_held : OthersAreHeld
others_are_held picture state first second (inl men) small small' one none two none' =
    absurd (men_differ picture state first men small one none)
others_are_held picture state first second (inr (square, lacks)) small small' one none two none' =
    one_differs picture state square first lacks one
    ∙ sym (one_differs picture state square second lacks two)

pub held_may_lack : HeldMayLack
held_may_lack picture state =
    (inl, λ square small some king less. inr (square, (small, some, king, less)))

pub shown_is_held : ShownIsHeld
shown_is_held picture state k (inl men) small some = search rules
shown_is_held picture state k (inr (square, lacks)) small some =
    elim (same_or_gone picture state square k lacks) [
      | inl same ↦ same
      | inr gone ↦ absurd (some gone)
    ]

pub start_is_shown : StartIsShown
unfolding WasShown
start_is_shown told h = search rules
