-- One state follows a move.
use Rattle.{std.{proofs.Common.{rules, ◌≡◌, ◌∙◌, ℕ, sym}, specs.Prelude.{Option}}, dgt_chess.specs.{declared.{pieces.Man.{Man}, state.{Move.{Move}, State.{State}}}, Rules.{IsAfter}}}
use Rattle.{dgt_chess.proofs.{Same.{alike}, Unique.{same_man}}, dgt_game.specs.Lines.{IsMove}}

one_after : (man : Man) (state : State) (from to : ℕ) (promotion : Option Man) (a b : State)
    → IsAfter man state from to promotion a → IsAfter man state from to promotion b → a ≡ b
one_after man state from to promotion a b x y = search (rules, alike)

-- one state follows a move
pub one_next : (state : State) (one : Move) (a b : State) → IsMove state one a
    → IsMove state one b → a ≡ b
unfolding IsMove
one_next state one a b (man, legal, x) (man', legal', y) =
    let men : man' ≡ man = same_man state.turn man' man (sym legal'.own ∙ legal.own) in
    search (rules, one_after)
