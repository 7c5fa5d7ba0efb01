-- The effect of a faulty line on a confirmed picture.
use Rattle.std.proofs.Common.{◌≡◌, ◌⊎◌, inl, inr, ◌+◌, ◌≤◌, Bool, true, false, not, ◌&&◌, nat_eq, Option, Some, None, refl, sym, ap, ◌∙◌, ℕ, List, [], ◌∷◌, ◌++◌, zero, suc, slice_get, slice_set}
use Rattle.std.{proofs.{Common.{option_to_list, rules}, lemmas.{Grind.{flat_map-append}, Bool.{eqb-true, eq-eqb, false≢true}}, Math.Bool.{and-true}}, specs.Prelude.{◌↔◌, IsTrue}}
use Rattle.dgt_values.{specs.{Board.{piece_code}, declared.{pieces.Piece.{Piece}, positions.Position.{Position}, squares.Square.{Square}}}, proofs.PieceCodes.{same_code}}
use Rattle.dgt_message.specs.{Content.{Content, content, Content.{dump, field}}, Picture.{picture_after, picture_after_all}, declared.message.Message.{Message}}
use Rattle.dgt_host.specs.Confirmed.{same_pieces, differ, changes, repeats, confirmed_after, confirmed_after_all, AllLeave, Passage, Whole, Faulty, sent, heard, faults_after, faults_after_all}
use Rattle.dgt_host.specs.Confirmed.{IsRight, ConfirmedWasReported, ConfirmedIsReported, TwoFaultsSuffice, LateFaultsSuffice, UnconfirmedIsWrong, ConfirmedByDump, ChangesIsExact}
use Rattle.dgt_host.specs.Confirmed.{FaultlessIsRight, LeavingIsExact}

-- ---- Booleans

pub first_of : (a b : Bool) → (a && b) ≡ true → a ≡ true
first_of a b e = search rules

pub second_of : (a b : Bool) → (a && b) ≡ true → b ≡ true
second_of a b e = search rules

not_true : (a : Bool) → not a ≡ true → a ≡ false
not_true a e = search rules

not_false : (a : Bool) → not a ≡ false → a ≡ true
not_false a e = search rules

-- ---- Pictures

pub same_is : (a b : List Piece) → same_pieces a b ≡ true → a ≡ b
same_is [] [] e = refl
same_is [] (y ∷ b) e = cc
same_is (x ∷ a) [] e = cc
same_is (x ∷ a) (y ∷ b) e = search (rules, same_code, eqb-true, same_is a b)

pub is_same : (a : List Piece) → same_pieces a a ≡ true
is_same [] = refl
is_same (x ∷ a) = rw (eq-eqb (piece_code x) (piece_code x) refl) (is_same a)

-- whether two pictures are compared as equal
pub compared : (equal : Bool) (a b : List Piece) → IsTrue equal ↔ (a ≡ b)
    → not equal ≡ not (same_pieces a b)
compared equal a b iff = search (rules, false≢true, same_is, is_same)

-- one square is set
pub same_set : (a : List Piece) (square : ℕ) (before after : Piece)
    → slice_get a square ≡ Some before
    → same_pieces a (slice_set a square after) ≡ nat_eq (piece_code before) (piece_code after)
same_set [] square before after e = cc
same_set (x ∷ a) zero before after e = search (rules, is_same, and-true)
same_set (x ∷ a) (suc square) before after e = search (rules, eq-eqb, same_set a square)

pub unmoved : (picture : Option (List Piece)) → differ picture picture ≡ false
unmoved picture = search (rules, is_same)

-- a message that is neither a dump nor a field update
pub quiet : (picture : Option (List Piece)) (m : Message)
    → ((x : Position) → m ≡ Message.Dump x → ⊥)
    → ((x : Square) (y : Piece) → m ≡ Message.Field x y → ⊥)
    → (picture ≡ picture_after picture (content m)) × (false ≡ changes picture (content m))
quiet picture m no_one no_other = search (rules, unmoved)

-- a known picture that a message doesn't change
unchanged : (known : List Piece) (said : Content) → changes (Some known) said ≡ false
    → picture_after (Some known) said ≡ Some known
unchanged known (dump pieces) e = ap Some (sym (same_is known pieces (not_false _ e)))
unchanged known (field square piece) e =
    ap Some (sym (same_is known (slice_set known square piece) (not_false _ e)))
unchanged known _ e = refl

abbrev Known : Option (List Piece) → Type 0
Known shown = (known : List Piece) × (shown ≡ Some known)

-- a message after which a picture is confirmed leaves it as it was, and it was known
stays : (confirmed : Bool) (shown : Option (List Piece)) (said : Content)
    → (confirmed ≡ true → Known shown) → confirmed_after confirmed shown said ≡ true
    → Known shown × (picture_after shown said ≡ shown)
stays confirmed shown said is e = search (rules, same_is, unchanged)

-- a message that isn't a dump
record NoDump (said : Content) : Type 0 where
  none : picture_after None said ≡ None
  rest : (confirmed : Bool) (shown : Option (List Piece))
      → confirmed_after confirmed shown said ≡ (confirmed && not (changes shown said))
  faults : (n : ℕ) → faults_after n (Whole said) ≡ n

-- a message is a dump, or it isn't
kinds : (said : Content) → ((pieces : List Piece) × (said ≡ dump pieces)) ⊎ NoDump said
kinds said = search rules

-- a known picture stays known
some_after : (picture : Option (List Piece)) (said : Content) → Known picture
    → Known (picture_after picture said)
some_after (Some known) (field square piece) is = (slice_set known square piece, refl)
some_after picture (dump pieces) is = (pieces, refl)
some_after picture said is = is

-- ---- Without a fault

abbrev Right : Option (List Piece) → Option (List Piece) → Type 0
Right reported shown = (shown ≡ None) ⊎ (shown ≡ reported)

right_known : (reported shown : Option (List Piece)) → Right reported shown → Known shown
    → shown ≡ reported
right_known reported shown right is = search rules

right_after : (reported shown : Option (List Piece)) (said : Content) → NoDump said
    → Right reported shown → Right (picture_after reported said) (picture_after shown said)
right_after reported shown said no_dump right = search rules

-- ---- What always holds

record Holds (reported : Option (List Piece)) (restated : Bool) (shown : Option (List Piece))
    (confirmed : Bool)
    (faults : ℕ) : Type 0 where
  reports : Known reported
  known : confirmed ≡ true → Known shown
  right : faults ≡ 0 → Right reported shown
  is : confirmed ≡ true → restated ≡ true → faults ≤ 1 → shown ≡ reported

module _ (reported : Option (List Piece)) (restated : Bool) (shown : Option (List Piece))
    (confirmed : Bool)
    (faults : ℕ) (holds : Holds reported restated shown confirmed faults) where
  whole_holds : (said : Content)
      → Holds (picture_after reported said) (confirmed_after restated reported said)
      (picture_after shown said) (confirmed_after confirmed shown said)
      (faults_after faults (Whole said))
  whole_holds said = search (rules, kinds, some_after, stays, right_after, first_of)

faulty_holds : (reported : Option (List Piece)) (restated : Bool) (shown : Option (List Piece))
    (confirmed : Bool) (faults : ℕ) (sent heard : Option Content)
    → Holds reported restated shown confirmed faults
    → Holds (picture_after_all reported (option_to_list sent))
    (confirmed_after_all restated reported (option_to_list sent))
    (picture_after_all shown (option_to_list heard))
    (confirmed_after_all confirmed shown (option_to_list heard)) (faults + 1)
faulty_holds reported restated shown confirmed faults sent heard holds =
    search (rules, right_known, stays, some_after)

all_hold : (reported : Option (List Piece)) (restated : Bool) (shown : Option (List Piece))
    (confirmed : Bool) (faults : ℕ) (line : List Passage)
    → Holds reported restated shown confirmed faults
    → Holds (picture_after_all reported (sent line))
    (confirmed_after_all restated reported (sent line)) (picture_after_all shown (heard line))
    (confirmed_after_all confirmed shown (heard line)) (faults_after_all faults line)
all_hold reported restated shown confirmed faults [] holds = holds
all_hold reported restated shown confirmed faults (Whole said ∷ more) holds =
    all_hold (picture_after reported said) (confirmed_after restated reported said)
    (picture_after shown said) (confirmed_after confirmed shown said)
    (faults_after faults (Whole said)) more
    (whole_holds reported restated shown confirmed faults holds said)
all_hold reported restated shown confirmed faults (Faulty a b ∷ more) holds =
    let rest =
    all_hold (picture_after_all reported (option_to_list a))
    (confirmed_after_all restated reported (option_to_list a))
    (picture_after_all shown (option_to_list b))
    (confirmed_after_all confirmed shown (option_to_list b)) (faults + 1) more
    (faulty_holds reported restated shown confirmed faults a b holds) in
    search rules

begins : (reported : List Piece) (shown : Option (List Piece)) → IsRight reported shown
    → Holds (Some reported) false shown false 0
begins reported shown right = search rules

pub confirmed_is : ConfirmedIsReported
confirmed_is reported shown line right few again e =
    (all_hold (Some reported) false shown false 0 line (begins reported shown right)).is e again few

-- ---- The dump that confirmed

pub pictures_append : (picture : Option (List Piece)) (said more : List Content)
    → picture_after_all picture (said ++ more)
    ≡ picture_after_all (picture_after_all picture said) more
pictures_append picture [] more = refl
pictures_append picture (m ∷ said) more = pictures_append (picture_after picture m) said more

pub leaving_exact : LeavingIsExact
leaving_exact pieces [] = (λ all. all, λ all. all)
leaving_exact pieces (m ∷ said) = let more = leaving_exact pieces said in (
  λ all. (unchanged pieces m all.0, more.0 all.1),
  λ all. (rw all.0 (unmoved (Some pieces)), more.1 all.1),
)

all_leave : (pieces : List Piece) (said : List Content) → AllLeave pieces said
    → picture_after_all (Some pieces) said ≡ Some pieces
all_leave pieces [] leave = refl
all_leave pieces (m ∷ said) leave = rw (unchanged pieces m leave.0) (all_leave pieces said leave.1)

repeated : (shown : Option (List Piece)) (pieces : List Piece) → repeats shown pieces ≡ true
    → shown ≡ Some pieces
repeated (Some known) pieces e = ap Some (same_is known pieces e)
repeated None pieces e = cc

pub confirmed_was : ConfirmedWasReported
confirmed_was reported pieces shown earlier later passage right is again leave few =
    let held = all_hold (Some reported) false shown false 0 earlier (begins reported shown right) in
    search (rules, flat_map-append, pictures_append, all_leave, repeated, right_known)

-- ---- Why the premises are needed

pub two_faults : TwoFaultsSuffice
two_faults a b = search (rules, is_same)

pub late_faults : LateFaultsSuffice
late_faults a square piece changed = search (rules, is_same)

pub unconfirmed : UnconfirmedIsWrong
unconfirmed a b =
    record { counts = refl; restates = is_same a; confirms = refl; reports = refl; shows = refl }

-- ---- The meaning of a confirmed picture

-- a picture that was confirmed before these messages and by none of them, or by a dump among them
By : Option (List Piece) → List Content → Type 0
By shown said =
    (pieces : List Piece) × (before : List Content) × (after : List Content)
    × (said ≡ before ++ dump pieces ∷ after)
    × (repeats (picture_after_all shown before) pieces ≡ true) × AllLeave pieces after

Before : Option (List Piece) → Bool → List Content → Type 0
Before shown confirmed said =
    (confirmed ≡ true) × ((known : List Piece) → shown ≡ Some known → AllLeave known said)

by_which : (shown : Option (List Piece)) (confirmed : Bool) (said : List Content)
    → confirmed_after_all confirmed shown said ≡ true → Before shown confirmed said ⊎ By shown said
unfolding By Before
by_which shown confirmed [] e = inl (e, λ known is. tt)
by_which shown confirmed (m ∷ said) e =
    elim (by_which (picture_after shown m) (confirmed_after confirmed shown m) said e) [
      | inl before ↦ go (kinds m) before
      | inr (pieces, before, after, is, again, leave) ↦
          inr (pieces, m ∷ before, after, ap (λ (xs : List Content). m ∷ xs) is, again, leave)
    ]
  where
    go : ((pieces : List Piece) × (m ≡ dump pieces)) ⊎ NoDump m
        → Before (picture_after shown m) (confirmed_after confirmed shown m) said
        → Before shown confirmed (m ∷ said) ⊎ By shown (m ∷ said)
    go (inl (pieces, is)) (again, leave) = inr (
      pieces,
      [],
      said,
      ap (λ (x : Content). x ∷ said) is,
      rw is at again,
      leave pieces (ap (picture_after shown) is),
    )
    go (inr no_dump) (again, leave) =
        let both : (confirmed && not (changes shown m)) ≡ true =
        sym (no_dump.rest confirmed shown) ∙ again in
        let same : changes shown m ≡ false = not_true _ (second_of confirmed _ both) in
        inl (first_of confirmed _ both, λ known is. search (rules, unchanged))

pub by_dump : ConfirmedByDump
unfolding By Before
by_dump shown said e = search (rules, by_which, false≢true)

-- ---- The meaning of a change

pub changes_exact : ChangesIsExact
changes_exact picture said = search (rules, false≢true, unmoved, unchanged)

pub faultless : FaultlessIsRight
faultless reported shown line right none =
    (all_hold (Some reported) false shown false 0 line (begins reported shown right)).right none

-- ---- A follower records no more than its messages say

pub confirms_more : (a b : Bool) → (a ≡ true → b ≡ true)
    → (picture : Option (List Piece)) (said : List Content)
    → confirmed_after_all a picture said ≡ true → confirmed_after_all b picture said ≡ true
confirms_more a b more picture [] e = more e
confirms_more a b more picture (m ∷ said) e =
    confirms_more (confirmed_after a picture m) (confirmed_after b picture m)
    (search (rules, kinds, first_of, second_of)) (picture_after picture m) said e
