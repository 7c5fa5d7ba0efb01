use Rattle.{std.proofs.Common.{rules, ◌≡◌, ℕ, ◌+◌, ◌∙◌, [], ◌∷◌, sym, ap}, dgt_chess.specs.{declared.state.State.{State}, Draws.{Counts, OneCount}}}
use Rattle.dgt_chess.proofs.laws.one_count.Goals as goal

same_counts : (one state : State) (n m : ℕ) → Counts one state n → Counts one state m → n ≡ m
same_counts one state n m first second = search rules

one_count : OneCount
one_count [] state n m first second = first ∙ sym second
one_count (one ∷ history) state n m first second =
    let more = same_counts one state first.0 second.0 first.2 second.2 in
    let rest = one_count history state first.1 second.1 first.3 second.3 in
    first.4 ∙ ap (λ k. k + first.1) more ∙ ap (λ k. second.0 + k) rest ∙ sym second.4

pub returns : goal.returns
returns c = one_count
