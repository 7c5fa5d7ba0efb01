-- One field, and what is after its space.
use Rattle.std.{proofs.Common.{◌≡◌, ℕ, ◌+◌, sym, subst, List, ◌∷◌, ◌++◌, length, rules}, specs.Prelude.{Option, Some, None, MatchOption}}
use denote.Ref.{Bor}
use Rattle.dgt_chess.{specs.Fen.{HasNoSpace, IsFirstWrong, Then}, proofs.FirstWrong.{ends_early, wrong_alone, wrong_first, wrong_rest}}

-- the field is wrong
pub field_wrong : (A B : List ℕ → Type 0) (text field b : List ℕ) (rest : Option (Bor (List ℕ)))
    (at : ℕ) → MatchOption rest (text ≡ field) (λ r. text ≡ field ++ 32 ∷ r.now) → HasNoSpace field
    → ((a : List ℕ) → A a → HasNoSpace a) → B b → IsFirstWrong A field at
    → IsFirstWrong (Then A B) text at
field_wrong A B text field b None at is plain plains some w =
    let P : List ℕ → Type 0 = λ t. IsFirstWrong (Then A B) t at in
    subst P (sym is) (wrong_alone A B field b at plain some w)
field_wrong A B text field b (Some r) at is plain plains some w =
    let P : List ℕ → Type 0 = λ t. IsFirstWrong (Then A B) t at in
    subst P (sym is) (wrong_first A B field r.now b at plain plains some w)

-- no space is after the field
pub rest_missing : (A B : List ℕ → Type 0) (text field b : List ℕ) → text ≡ field → HasNoSpace field
    → A field → B b → IsFirstWrong (Then A B) text (length text)
rest_missing A B text field b is plain first some =
    let P : List ℕ → Type 0 = λ t. IsFirstWrong (Then A B) t (length t) in
    subst P (sym is) (ends_early A B field b plain first some)

-- the rest is wrong
pub rest_wrong : (A B : List ℕ → Type 0) (text field rest : List ℕ) (at : ℕ)
    → text ≡ field ++ 32 ∷ rest
    → HasNoSpace field → ((a : List ℕ) → A a → HasNoSpace a) → A field → IsFirstWrong B rest at
    → IsFirstWrong (Then A B) text (length field + 1 + at)
rest_wrong A B text field rest at is plain plains first w = search (rules, wrong_rest)
