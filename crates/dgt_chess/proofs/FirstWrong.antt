-- The first wrong byte of two fields, from that of one of them.
use Rattle.std.proofs.Common.{◌≡◌, ◌≢◌, ℕ, zero, suc, ◌+◌, ◌<◌, ◌≤◌, inl, inr, refl, sym, ap, ◌∙◌, arith, List, [], ◌∷◌, ◌++◌, length, take, get_or, length-append, rules}
use Rattle.std.proofs.lemmas.{Bool.{cases_lt}, List.{append_cancel_left, take_all, take_at, take-take, take-append-le, get_or-take, get_or_append_left, get_or_at, get_or_past, get_or-append_right}}
use Rattle.{dgt_chess.specs.Fen.{HasNoSpace, IsFirstWrong, Then}, std.proofs.lemmas.Grind.{common_steps}}

-- texts that agree in their first bytes have each of these in common
pub byte_of : (n k : ℕ) (s t : List ℕ) → take n s ≡ take n t → k < n → get_or s k 0 ≡ get_or t k 0
byte_of n k s t same lt =
    sym (get_or-take n s k 0 lt) ∙ ap (λ l. get_or l k 0) same ∙ get_or-take n t k 0 lt

-- they agree in fewer bytes, too
pub fewer : (m n : ℕ) (s t : List ℕ) → m ≤ n → take n s ≡ take n t → take m s ≡ take m t
fewer m n s t le same = sym (take-take m n s le) ∙ ap (λ l. take m l) same ∙ take-take m n t le

-- the right text is as long as the offset
pub right_long : (Is : List ℕ → Type 0) (f : List ℕ) (at : ℕ) (w : IsFirstWrong Is f at)
    → at ≤ length w.right
right_long Is f at w = search (rules, take_all)

-- no byte is a space, also past the end
pub no_space : (f : List ℕ) → HasNoSpace f → (k : ℕ) → get_or f k 0 ≢ 32
no_space f plain k is = search (rules, get_or_past)

pub append_plain : (a b : List ℕ) → HasNoSpace a → HasNoSpace b → HasNoSpace (a ++ b)
append_plain a b plain plain' k lt is =
    search (rules, no_space, get_or_append_left, get_or-append_right)

-- the first spaces of two texts that agree so far are at one offset
same_end : (n : ℕ) (a b f c : List ℕ) → HasNoSpace a → HasNoSpace f → length f < n
    → take n (a ++ 32 ∷ b) ≡ take n (f ++ 32 ∷ c) → length a ≡ length f
same_end n a b f c plain plain' lt same = elim (cases_lt (length a) (length f)) [
  | inl less ↦
      let space = byte_of n (length a) (a ++ 32 ∷ b) (f ++ 32 ∷ c) same (omega arith) in
      absurd (search (rules, get_or_append_left, get_or_at))
  | inr ge ↦ elim (cases_lt (length f) (length a)) [
    | inl less ↦
        let space = byte_of n (length f) (a ++ 32 ∷ b) (f ++ 32 ∷ c) same lt in
        absurd (search (rules, get_or_append_left, get_or_at))
    | inr le ↦ omega arith
  ]
]

-- and so what is before the spaces is the same
pub same_first : (n : ℕ) (a b f c : List ℕ) → HasNoSpace a → HasNoSpace f → length f < n
    → take n (a ++ 32 ∷ b) ≡ take n (f ++ 32 ∷ c) → a ≡ f
same_first n a b f c plain plain' lt same =
    let long = same_end n a b f c plain plain' lt same in
    sym (take_at a (32 ∷ b) (length f) long)
    ∙ fewer (length f) n (a ++ 32 ∷ b) (f ++ 32 ∷ c) (omega arith) same
    ∙ take_at f (32 ∷ c) (length f) refl

-- the first bytes of a field, a space and more
take_past : (f b : List ℕ) (k n : ℕ) → n ≡ length f + 1 + k
    → take n (f ++ 32 ∷ b) ≡ f ++ 32 ∷ take k b
take_past [] b k zero e = absurd (omega arith)
take_past [] b k (suc n) e = let same : n ≡ k = omega arith in ap (λ m. 32 ∷ take m b) same
take_past (x ∷ f) b k zero e = absurd (omega arith)
take_past (x ∷ f) b k (suc n) e = ap (λ l. x ∷ l) (take_past f b k n (omega arith))

-- after one field, the rest agrees if the whole does
same_rest : (f b c : List ℕ) (k n : ℕ) → n ≡ length f + 1 + k
    → take n (f ++ 32 ∷ b) ≡ take n (f ++ 32 ∷ c) → take k b ≡ take k c
same_rest f b c k n e same =
    let cut : f ++ 32 ∷ take k b ≡ f ++ 32 ∷ take k c =
    sym (take_past f b k n e) ∙ same ∙ take_past f c k n e in
    search (rules, append_cancel_left)

-- two texts agree up to a space of one, and the other has no space
space_too_early : (A B : List ℕ → Type 0) (other f : List ℕ) (n : ℕ) → HasNoSpace f
    → (o : Then A B other) → length o.first < n → take n other ≡ take n f → ⊥
space_too_early A B other f n plain o lt same =
    no_space f plain (length o.first)
    (search (rules, byte_of, get_or_at))

-- the first field is wrong, and no space follows
pub wrong_alone : (A B : List ℕ → Type 0) (f b : List ℕ) (at : ℕ) → HasNoSpace f → B b
    → IsFirstWrong A f at → IsFirstWrong (Then A B) f at
wrong_alone A B f b at plain is w = record {
  within = w.within;
  right = w.right ++ 32 ∷ b;
  is = record { first = w.right; rest = b; is_first = w.is; is_rest = is; joined = refl };
  before = take-append-le at w.right (32 ∷ b) (right_long A f at w) ∙ w.before;
  after = λ other o same. elim (cases_lt at (length o.first)) [
    | inl lt ↦ search (rules, take-append-le)
    | inr ge ↦ space_too_early A B other f (at + 1) plain o (omega arith) same
  ];
}

-- the first field is wrong, and a space follows
pub wrong_first : (A B : List ℕ → Type 0) (f rest b : List ℕ) (at : ℕ) → HasNoSpace f
    → ((a : List ℕ) → A a → HasNoSpace a) → B b → IsFirstWrong A f at
    → IsFirstWrong (Then A B) (f ++ 32 ∷ rest) at
wrong_first A B f rest b at plain plains is w = record {
  within = omega (arith, w.within, length-append f (32 ∷ rest));
  right = w.right ++ 32 ∷ b;
  is = record { first = w.right; rest = b; is_first = w.is; is_rest = is; joined = refl };
  before = search (rules, take-append-le, right_long);
  after = search (rules, take-append-le, same_first);
}

-- the first field is right, and no space follows
pub ends_early : (A B : List ℕ → Type 0) (f b : List ℕ) → HasNoSpace f → A f → B b
    → IsFirstWrong (Then A B) f (length f)
ends_early A B f b plain is_first is_rest = record {
  within = omega arith;
  right = f ++ 32 ∷ b;
  is = record { first = f; rest = b; is_first = is_first; is_rest = is_rest; joined = refl };
  before = take_at f (32 ∷ b) (length f) refl ∙ sym (take_all (length f) f (omega arith));
  after = λ other o same. elim (cases_lt (length f) (length o.first)) [
    | inl lt ↦
        grind (arith, common_steps)
    | inr ge ↦ space_too_early A B other f (length f + 1) plain o (omega arith) same
  ];
}

-- the first field is right, and the rest is wrong
pub wrong_rest : (A B : List ℕ → Type 0) (f g : List ℕ) (at : ℕ) → HasNoSpace f
    → ((a : List ℕ) → A a → HasNoSpace a) → A f → IsFirstWrong B g at
    → IsFirstWrong (Then A B) (f ++ 32 ∷ g) (length f + 1 + at)
wrong_rest A B f g at plain plains is_first w = record {
  within = omega (arith, w.within, length-append f (32 ∷ g));
  right = f ++ 32 ∷ w.right;
  is = record { first = f; rest = w.right; is_first = is_first; is_rest = w.is; joined = refl };
  before = take_past f w.right at (length f + 1 + at) refl ∙ ap (λ l. f ++ 32 ∷ l) w.before
      ∙ sym (take_past f g at (length f + 1 + at) refl);
  after = search (rules, same_first, same_rest);
}

-- no first wrong byte is before another
not_before : (Is : List ℕ → Type 0) (text : List ℕ) (first second : ℕ) → IsFirstWrong Is text first
    → IsFirstWrong Is text second → first < second → ⊥
not_before Is text first second a b lt =
    a.after b.right b.is (fewer (first + 1) second b.right text (omega arith) b.before)

pub one_wrong : (Is : List ℕ → Type 0) (text : List ℕ) (first second : ℕ)
    → IsFirstWrong Is text first → IsFirstWrong Is text second → first ≡ second
one_wrong Is text first second a b = elim (cases_lt first second) [
  | inl lt ↦ absurd (not_before Is text first second a b lt)
  | inr le ↦ elim (cases_lt second first) [
    | inl lt ↦ absurd (not_before Is text second first b a lt)
    | inr ge ↦ omega arith
  ]
]
