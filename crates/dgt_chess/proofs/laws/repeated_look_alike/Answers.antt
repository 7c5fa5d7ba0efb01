use Rattle.{std.{proofs.Common.{◌≡◌, ◌<◌, ℕ, rules, inl, inr, sym}, specs.Prelude.{Option, option_map}}, dgt_values.specs.{declared.squares.Square.{Square}, Board.{square_number}}}
use Rattle.dgt_chess.specs.{declared.state.State.{State}, Rules.{CanGo, passed}, Draws.{IsRepeated, LooksAlike, RepeatedLookAlike}, Fen.{IsShown, SameMoves}}
use Rattle.dgt_chess.proofs.{FenAgain.{GoesToo, can_take, goes_too, other_way}, SameMoves.{SameParts, back, same_moves, shown_same}}
use Rattle.dgt_chess.proofs.laws.repeated_look_alike.Goals as goal

shows : (a b : State) (s s' : Option Square) → IsShown a s → IsShown b s' → SameParts a b
    → GoesToo a b → GoesToo b a → option_map square_number s ≡ option_map square_number s'
shows a b s s' shown shown' same one two =
    let same' = back a b same in search (rules, can_take)

looks : (a b : State) (s s' : Option Square) → IsShown a s → IsShown b s' → IsRepeated a b
    → LooksAlike a b s s'
looks a b s s' shown shown' repeated =
    let there : GoesToo a b = λ from to small small' go.
    (repeated.moves from to small small').0 go in
    let back : GoesToo b a = λ from to small small' go.
    (repeated.moves from to small small').1 go in
    let same : SameParts a b = search rules in
    record {
      pieces = repeated.pieces;
      turn = repeated.turn;
      rights = repeated.rights;
      passed = shows a b s s' shown shown' same there back;
    }

repeated : (a b : State) (s s' : Option Square) → IsShown a s → IsShown b s' → LooksAlike a b s s'
    → IsRepeated a b
repeated a b s s' shown shown' like =
    let same : SameParts a b = search rules in
    let moves = same_moves a b same (shown_same a b s s' shown shown' like.passed)
    (shown_same b a s' s shown' shown (sym like.passed)) in
    record {
      pieces = like.pieces;
      turn = like.turn;
      rights = like.rights;
      moves = λ from to small small'. (
        λ go. goes_too a b moves from to small small' go,
        λ go. goes_too b a (other_way a b moves) from to small small' go,
      );
    }

look_alike : RepeatedLookAlike
look_alike a b s s' shown shown' =
    (λ same. looks a b s s' shown shown' same, λ like. repeated a b s s' shown shown' like)

pub returns : goal.returns
returns c = look_alike
