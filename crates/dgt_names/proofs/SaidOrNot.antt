-- Bytes either have a meaning or not.
use Rattle.std.proofs.Common.{◌≡◌, ◌≢◌, ◌<◌, ◌≤◌, ◌⊎◌, ℕ, suc, inl, inr, List, [], ◌∷◌, arith, length, rules, Bool, true, false, Some, None, refl, slice_index as nth}
use Rattle.std.{proofs.lemmas.Bool.{false≢true, Decides.{eqb_tells, leb_tells}}, specs.Prelude.{IsTrue, IsBitSet, Option, bit_and, ◌/◌, ◌%◌, ◌^◌, ◌↔◌}}
use Rattle.{dgt_command.specs.declared.ids.KnownId.{KnownId}, dgt_names.specs.Names.{ArePressed, IsBattery, IsKnownAs, IsNoButton, IsSignal, IsText, Says}}
use Rattle.dgt_names.{specs.declared.{battery.BatteryState.{BatteryState}, clock.{Button.{Button}, Signal.{Signal}}}, proofs.SaidOnce.{none_said}}

-- there is a meaning, or there is none
abbrev pub Decided : {A : Type 0} → (A → Type 0) → Type 0
Decided {A} Says = ((said : A) × Says said) ⊎ ((said : A) → ¬ (Says said))

-- two numbers are the same or not
pub either : {C : Type 0} (a b : ℕ) → (a ≡ b → C) → (a ≢ b → C) → C
either {C} a b same other = search (rules, eqb_tells)

-- ---- signals

no_button : (t : ℕ) → t ≢ 0x31 → t ≢ 0x32 → t ≢ 0x33 → t ≢ 0x34 → t ≢ 0x35 → IsNoButton t
no_button t a b c d e = search rules

ok_pressed : (s t : ℕ) → t ≡ 0x35 → (signal : Signal) × ArePressed signal s t
ok_pressed s t e =
    either (bit_and s (2 ^ 2)) 0 (λ z. (Signal.Pressed Button.Ok, (e, λ _ h. h.0 z)))
    (λ n. either (bit_and s (2 ^ 6)) 0 (λ z. (Signal.Pressed Button.Ok, (e, λ _ h. h.1 z)))
    (λ m. (Signal.Off, (e, (n, m)))))

pressed_or_none : (s t : ℕ) → ((signal : Signal) × ArePressed signal s t) ⊎ IsNoButton t
pressed_or_none s t =
    either t 0x31 (λ e. inl (Signal.Pressed Button.Back, (e, search rules)))
    (λ a. either t 0x32 (λ e. inl (Signal.Pressed Button.Plus, (e, search rules)))
    (λ b. either t 0x33 (λ e. inl (Signal.Pressed Button.Run, (e, search rules)))
    (λ c. either t 0x34 (λ e. inl (Signal.Pressed Button.Minus, (e, search rules)))
    (λ d. either t 0x35 (λ e. inl (ok_pressed s t e)) (λ e. inr (no_button t a b c d e))))))

-- a signal of buttons
buttons_say : (kind s t : ℕ) → (kind ≡ 0x08) ⊎ (kind ≡ 0x88) → (signal : Signal)
    → ArePressed signal s t → Says signal kind s t
buttons_say kind s t k signal p = search rules

answered : (kind s t : ℕ) → kind ≡ 0x08 → Decided (λ signal. Says signal kind s t)
answered kind s t k = elim (pressed_or_none s t) [
  | inl p ↦ inl (p.0, buttons_say kind s t (inl k) p.0 p.1)
  | inr none ↦ inl (Signal.Done KnownId.Button, (k, none))
]

unasked : (kind s t : ℕ) → kind ≡ 0x88 → Decided (λ signal. Says signal kind s t)
unasked kind s t k = elim (pressed_or_none s t) [
  | inl p ↦ inl (p.0, buttons_say kind s t (inr k) p.0 p.1)
  | inr none ↦ inr (λ signal h. none_said signal s t none (rw k at h))
]

other_kind : (kind s t : ℕ) → kind ≢ 0x01 → kind ≢ 0x02 → kind ≢ 0x03 → kind ≢ 0x08 → kind ≢ 0x09
    → kind ≢ 0x0a → kind ≢ 0x0b → kind ≢ 0x0c → kind ≢ 0x81 → kind ≢ 0x88 → (signal : Signal)
    → ¬ (Says signal kind s t)
other_kind kind s t a b c d e f g h i j signal = search rules

says_or_not : (kind s t : ℕ) → Decided (λ signal. Says signal kind s t)
says_or_not kind s t =
    either kind 0x01 (λ e. inl (Signal.Done KnownId.Display, e))
    (λ a. either kind 0x02 (λ e. inl (Signal.Done KnownId.Icons, e))
    (λ b. either kind 0x03 (λ e. inl (Signal.Done KnownId.End, e))
    (λ c. either kind 0x08 (answered kind s t)
    (λ d. either kind 0x09 (λ e. inl (Signal.Version (s / 16) (s % 16), (e, refl, refl)))
    (λ e. either kind 0x0a (λ k. inl (Signal.Done KnownId.SetAndRun, k))
    (λ f. either kind 0x0b (λ k. inl (Signal.Done KnownId.Beep, k))
    (λ g. either kind 0x0c (λ k. inl (Signal.Done KnownId.Text, k))
    (λ h. either kind 0x81 (λ k. inl (Signal.Ready, k))
    (λ i. either kind 0x88 (unasked kind s t)
    (λ j. inr (other_kind kind s t a b c d e f g h i j)))))))))))

pub signal_or_none : (bytes : List ℕ) → Decided (IsSignal bytes)
signal_or_none bytes =
    either (nth bytes 0) 0x10 (λ e. elim (says_or_not (nth bytes 1) (nth bytes 2) (nth bytes 3)) [
      | inl said ↦ inl (said.0, (e, said.1))
      | inr none ↦ inr (λ signal h. none signal h.1)
    ]) (λ n. inr (λ signal h. n h.0))

-- ---- batteries

known_or_none : (byte : ℕ) → (known : Option ℕ) × IsKnownAs byte known
known_or_none byte = either byte 0x7f (λ e. (None, e)) (λ n. (Some byte, (n, refl)))

bit_or_none : (byte bit : ℕ) → (is : Bool) × (IsTrue is ↔ IsBitSet byte bit)
bit_or_none byte bit =
    either (bit_and byte (2 ^ bit)) 0
    (λ z. (false, ((λ e. absurd (false≢true e)), (λ n. absurd (n z)))))
    (λ n. (true, ((λ _. n), (λ _. refl))))

state_of : (bytes : List ℕ) → length bytes ≡ 9 → (state : BatteryState) × IsBattery bytes state
state_of bytes nine =
    let percent = known_or_none (nth bytes 0) in
    let hours = known_or_none (nth bytes 1) in
    let minutes = known_or_none (nth bytes 2) in
    let charging = bit_or_none (nth bytes 8) 0 in
    let discharging = bit_or_none (nth bytes 8) 1 in (
      record {
        percent = percent.0;
        hours_left = hours.0;
        minutes_left = minutes.0;
        hours_on = nth bytes 3;
        minutes_on = nth bytes 4;
        days_resting = nth bytes 5;
        hours_resting = nth bytes 6;
        minutes_resting = nth bytes 7;
        charging = charging.0;
        discharging = discharging.0;
      },
      search rules,
    )

pub battery_or_none : (bytes : List ℕ) → Decided (IsBattery bytes)
battery_or_none bytes =
    either (length bytes) 9 (λ e. inl (state_of bytes e)) (λ n. inr (λ state h. n h.nine))

-- ---- texts

abbrev Prints : ℕ → Type 0
Prints byte = (0x20 ≤ byte) × (byte ≤ 0x7e)

abbrev AllPrint : List ℕ → Type 0
AllPrint bytes = (k : ℕ) → k < length bytes → Prints (nth bytes k)

prints_or_not : (byte : ℕ) → Prints byte ⊎ ¬ (Prints byte)
prints_or_not byte = search (rules, leb_tells)

print_both : (byte : ℕ) (bytes : List ℕ) → Prints byte → AllPrint bytes → AllPrint (byte ∷ bytes)
print_both byte bytes p q = search rules

all_or_not : (bytes : List ℕ) → AllPrint bytes ⊎ ¬ (AllPrint bytes)
all_or_not [] = inl (λ k h. absurd (omega (arith, h)))
all_or_not (byte ∷ bytes) = by (prints_or_not byte) (all_or_not bytes)
  where
    by : Prints byte ⊎ ¬ (Prints byte) → AllPrint bytes ⊎ ¬ (AllPrint bytes)
        → AllPrint (byte ∷ bytes) ⊎ ¬ (AllPrint (byte ∷ bytes))
    by (inl p) (inl q) = inl (print_both byte bytes p q)
    by (inl p) (inr n) = inr (λ h. n (λ k l. h (suc k) (omega (arith, l))))
    by (inr n) q = inr (λ h. n (h 0 (omega arith)))

pub text_or_none : (bytes : List ℕ) → IsText bytes ⊎ ¬ (IsText bytes)
text_or_none [] = inr (λ h. omega (arith, h.0))
text_or_none (byte ∷ bytes) = elim (all_or_not (byte ∷ bytes)) [
  | inl h ↦ inl (omega arith, h)
  | inr n ↦ inr (λ h. n h.1)
]
