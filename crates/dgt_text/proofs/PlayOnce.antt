-- A script divides into lines in one way, and is played in one way.
use Rattle.{std.{proofs.Common.{◌≡◌, ◌≢◌, ℕ, List, [], ◌∷◌, ◌++◌, refl, sym, ◌∙◌, ap, arith, append_assoc, suc, zero, rules}, specs.Prelude.{All, flat_map}}, dgt_link.specs.View.{WorldView}}
use Rattle.{dgt_link.specs.declared.acts.Outcome.{Outcome}, dgt_script.specs.{Script.{AsksFor, IsSingleValued, Vocabulary}, ScriptLines.{HasNoFeed, IsCut, ended}}, dgt_text.specs.Simulating.{Plays}}
use Rattle.dgt_text.specs.Simulating.{Rules, rules_of}

pub rest_of : {A : Type 0} (P : A → Type 0) (x : A) (xs : List A) → All P (x ∷ xs) → All P xs
rest_of P x xs h k d b = h (suc k) d (omega arith)

pub first_of_all : {A : Type 0} (P : A → Type 0) (x : A) (xs : List A) → All P (x ∷ xs) → P x
first_of_all P x xs h = h zero x (omega arith)

-- bytes with no line feed don't hold one
pub no_feed_in : (line bytes after : List ℕ) → HasNoFeed bytes → bytes ≡ line ++ 10 ∷ after → ⊥
no_feed_in [] [] after h e = cc
no_feed_in [] (b ∷ bytes) after h e = first_of_all (λ x. x ≢ 10) b bytes h cc
no_feed_in (c ∷ line) [] after h e = cc
no_feed_in (c ∷ line) (b ∷ bytes) after h e = let more : bytes ≡ line ++ 10 ∷ after = cc in
    no_feed_in line bytes after (rest_of (λ x. x ≢ 10) b bytes h) more

-- the first line feed ends the first line
pub feed_once : (a b x y : List ℕ) → HasNoFeed a → HasNoFeed b → a ++ 10 ∷ x ≡ b ++ 10 ∷ y
    → (a ≡ b) × (x ≡ y)
feed_once [] [] x y h k e = let more : x ≡ y = cc in (refl, more)
feed_once [] (c ∷ b) x y h k e = absurd (first_of_all (λ z. z ≢ 10) c b k cc)
feed_once (c ∷ a) [] x y h k e = absurd (first_of_all (λ z. z ≢ 10) c a h cc)
feed_once (c ∷ a) (d ∷ b) x y h k e =
    let tail : a ++ 10 ∷ x ≡ b ++ 10 ∷ y = cc in
    let more = feed_once a b x y (rest_of (λ z. z ≢ 10) c a h) (rest_of (λ z. z ≢ 10) d b k) tail in
    search rules

pub flat_first : (line : List ℕ) (lines : List (List ℕ)) (rest : List ℕ)
    → flat_map ended (line ∷ lines) ++ rest ≡ line ++ 10 ∷ (flat_map ended lines ++ rest)
flat_first line lines rest = search (rules, append_assoc)

lines_once : (ls ks : List (List ℕ)) (r s : List ℕ) → All HasNoFeed ls → All HasNoFeed ks
    → HasNoFeed r → HasNoFeed s → flat_map ended ls ++ r ≡ flat_map ended ks ++ s
    → (ls ≡ ks) × (r ≡ s)
lines_once [] [] r s h k f g e = (refl, e)
lines_once [] (line ∷ ks) r s h k f g e =
    absurd (no_feed_in line r (flat_map ended ks ++ s) f (e ∙ flat_first line ks s))
lines_once (line ∷ ls) [] r s h k f g e =
    absurd (no_feed_in line s (flat_map ended ls ++ r) g (sym e ∙ flat_first line ls r))
lines_once (line ∷ ls) (other ∷ ks) r s h k f g e =
    let first = feed_once line other (flat_map ended ls ++ r) (flat_map ended ks ++ s)
    (first_of_all HasNoFeed line ls h) (first_of_all HasNoFeed other ks k)
    (sym (flat_first line ls r) ∙ e ∙ flat_first other ks s) in
    let more =
    lines_once ls ks r s (rest_of HasNoFeed line ls h) (rest_of HasNoFeed other ks k) f g first.1 in
    (ap (λ z. z ∷ ls) first.0 ∙ ap (λ z. other ∷ z) more.0, more.1)

pub cut_once : (bytes : List ℕ) (lines others : List (List ℕ)) (rest other : List ℕ)
    → IsCut bytes lines rest → IsCut bytes others other → (lines ≡ others) × (rest ≡ other)
cut_once bytes lines others rest other c d = search (rules, lines_once)

-- each line has one outcome
abbrev pub HasOneOutcome : Rules → Type 0
HasOneOutcome rules =
    (line : List ℕ) (world after other : WorldView) (answer also : Outcome)
    → rules.does line world answer after
    → rules.does line world also other → (answer ≡ also) × (after ≡ other)

-- lines of which each has one outcome
module _ (rules : Rules) (one : HasOneOutcome rules) where
  pub plays_once : (w : WorldView) (ls : List (List ℕ)) (t u : List ℕ) (l k : WorldView)
      → Plays rules w ls t l → Plays rules w ls u k → (t ≡ u) × (l ≡ k)
  plays_once w [] t u l k p q = (p.0 ∙ sym q.0, sym p.1 ∙ q.1)
  plays_once w (line ∷ ls) t u l k p q =
      let step = one line w p.1 q.1 p.0 q.0 p.3 q.3 in
      let more = plays_once q.1 ls p.2 q.2 l k (rw step.1 at p.5) q.5 in (cc, more.1)

-- a line asks for one act, which has one outcome
pub acts_once : {V A : Type 0} (vocabulary : Vocabulary V A)
    (steps : A → WorldView → Outcome → WorldView → Type 0) → IsSingleValued (AsksFor vocabulary)
    → ((act : A) (world after other : WorldView) (answer also : Outcome)
    → steps act world answer after → steps act world also other → (answer ≡ also) × (after ≡ other))
    → HasOneOutcome (rules_of vocabulary steps)
acts_once vocabulary steps meaning one line w l k o v p q = search rules
