-- The derived `==` of clock messages.
use Rattle.std.proofs.{Common.{◌≡◌, ℕ, nat_eq, refl, ap, sym, ◌∙◌, List, [], ◌∷◌, length, true, false, rules}, lemmas.{Bool.Decides.{Decides-eqb}, Slice.Eq.{slice_eq-Decides}}}
use Rattle.{std.specs.Prelude.{◌↔◌, IsTrue, slice_index}, dgt_command.specs.{Content.{ClockContent, clock_content}, Equality.{HasArrays}, Ids.{has_own_case}, declared.clock.RawClock.{RawClock}}}
use Rattle.{dgt_command.proofs.ListLemmas.{members}, dgt_values.specs.Equality.{EqualIsSameReadOf}}
use lib.Pointwise.{pointwise}
use Rattle.dgt_command.specs.declared.clock.ClockCommand.TheVariants as clock
use Rattle.dgt_command.specs.contracts.clock.ClockCommandPartialEq.TheImpl as derived_clock

-- two lists of numbers are equal exactly if they are the same
pub equal_bytes : (xs ys : List ℕ) → IsTrue (pointwise nat_eq xs ys) ↔ (xs ≡ ys)
equal_bytes xs ys = slice_eq-Decides Decides-eqb xs ys _ refl

-- values of different numbers are neither equal nor the same
pub differ : {T : Type 0} → (number : T → ℕ) (a b : T) → nat_eq (number a) (number b) ≡ false
    → IsTrue false ↔ (a ≡ b)
differ number a b apart = search rules

-- one of the bytes of the payload
abbrev byte_of : ℕ → ClockContent → ℕ
byte_of i said = slice_index said.payload i

-- the places of a display
abbrev places_of : ClockContent → List ℕ
places_of p = byte_of 2 p ∷ byte_of 1 p ∷ byte_of 0 p ∷ byte_of 5 p ∷ byte_of 4 p ∷ byte_of 3 p ∷ []

-- the times that a clock is set to
abbrev left_of : ClockContent → List ℕ
left_of p = byte_of 0 p ∷ byte_of 1 p ∷ byte_of 2 p ∷ []

abbrev right_of : ClockContent → List ℕ
right_of p = byte_of 3 p ∷ byte_of 4 p ∷ byte_of 5 p ∷ []

-- the letters of a text
abbrev letters_of : ClockContent → List ℕ
letters_of p =
    byte_of 0 p ∷ byte_of 1 p ∷ byte_of 2 p ∷ byte_of 3 p ∷ byte_of 4 p ∷ byte_of 5 p ∷ byte_of 6 p
    ∷ byte_of 7 p ∷ []

-- displays mean the same exactly if their parts are the same
same_display : (places others : List ℕ) (dots more beep long : ℕ) → length places ≡ 6
    → length others ≡ 6
    → ((places ≡ others) × ((dots ≡ more) × (beep ≡ long)))
    ↔ (clock_content (clock.Display places dots beep)
    ≡ clock_content (clock.Display others more long))
same_display places others dots more beep long h k = (
  λ parts. λ i. clock_content (clock.Display (parts.0 i) (parts.1.0 i) (parts.1.1 i)),
  λ e. (
    members 6 places h ∙ ap places_of e ∙ sym (members 6 others k),
    (ap (byte_of 6) e, ap (byte_of 7) e),
  ),
)

-- settings mean the same exactly if their parts are the same
same_setting : (left other right another : List ℕ) (control byte : ℕ) → length left ≡ 3
    → length other ≡ 3 → length right ≡ 3 → length another ≡ 3
    → ((left ≡ other) × ((right ≡ another) × (control ≡ byte)))
    ↔ (clock_content (clock.SetAndRun left right control)
    ≡ clock_content (clock.SetAndRun other another byte))
same_setting left other right another control byte h k m n = (
  λ parts. λ i. clock_content (clock.SetAndRun (parts.0 i) (parts.1.0 i) (parts.1.1 i)),
  λ e. (
    members 3 left h ∙ ap left_of e ∙ sym (members 3 other k),
    (members 3 right m ∙ ap right_of e ∙ sym (members 3 another n), ap (byte_of 6) e),
  ),
)

-- texts mean the same exactly if their parts are the same
same_text : (letters others : List ℕ) (beep long : ℕ) → length letters ≡ 8 → length others ≡ 8
    → ((letters ≡ others) × (beep ≡ long))
    ↔ (clock_content (clock.Text letters beep) ≡ clock_content (clock.Text others long))
same_text letters others beep long h k = (
  λ parts. λ i. clock_content (clock.Text (parts.0 i) (parts.1 i)),
  λ e. (members 8 letters h ∙ ap letters_of e ∙ sym (members 8 others k), ap (byte_of 8) e),
)

-- a raw clock message has no variant of its own
raw_apart : (raw : RawClock) (said : ClockContent)
    → has_own_case said.id (length said.payload) ≡ true → clock_content (clock.Raw raw) ≡ said → ⊥
raw_apart raw said own e = cc

-- two clock messages are equal exactly if they mean the same
pub equal_clocks : EqualIsSameReadOf HasArrays clock_content (derived_clock.eq-value).it
equal_clocks (clock.Display places dots beep) (clock.Display others more long) h k =
    let same = same_display places others dots more beep long h k in
    search (rules, same, equal_bytes)
equal_clocks (clock.SetAndRun left right control) (clock.SetAndRun other another byte) h k =
    let same = same_setting left other right another control byte h.0 k.0 h.1 k.1 in
    search (rules, same, equal_bytes)
equal_clocks (clock.Text letters beep) (clock.Text others long) h k =
    let same = same_text letters others beep long h k in
    search (rules, same, equal_bytes)
equal_clocks (clock.Raw a) (clock.Raw b) h k = search rules
equal_clocks (clock.Raw a) b h k = (λ t. cc, λ e. absurd (raw_apart a (clock_content b) refl e))
equal_clocks a (clock.Raw b) h k =
    (λ t. cc, λ e. absurd (raw_apart b (clock_content a) refl (sym e)))
equal_clocks a b h k = search rules
