-- The bytes of a whole command, one by one.
use Rattle.std.proofs.{Common.{◌≡◌, ℕ, suc, ◌+◌, ◌-◌, ◌≤◌, List, [], ◌∷◌, ◌++◌, length, get_or, take, drop, refl, sym, ap, subst, ◌⊎◌, inl, inr, arith, length-append}, lemmas.Grind.{common_steps}}
use Rattle.dgt_command.{specs.{Content.{ClockContent, CommandContent, ClockMessage, Leds}, Encoding.{command_encoding}}, proofs.WordLemmas.{prefix, last_of}}

-- bytes that are framed as a clock message encode it
pub clock_view : (bytes : List ℕ) (message : ClockContent) → 5 ≤ length bytes
    → get_or bytes 0 0 ≡ 0x2b → get_or bytes 2 0 ≡ 0x03 → get_or bytes (length bytes - 1) 0 ≡ 0x00
    → message.id ≡ get_or bytes 3 0 → message.payload ≡ take (length bytes - 1 - 4) (drop 4 bytes)
    → length (take (length bytes - 1 - 4) (drop 4 bytes)) + 3 ≡ get_or bytes 1 0
    → bytes ≡ command_encoding (ClockMessage message)
clock_view bytes message long first third last id carried size = grind (arith, common_steps)

-- what the bytes of a clock message look like
pub record IsClockForm (bytes : List ℕ) : Type 0 where
  pub long : 5 ≤ length bytes
  pub first : get_or bytes 0 0 ≡ 0x2b
  pub third : get_or bytes 2 0 ≡ 0x03
  pub last : get_or bytes (length bytes - 1) 0 ≡ 0x00
  pub size : length (take (length bytes - 1 - 4) (drop 4 bytes)) + 3 ≡ get_or bytes 1 0

-- what the bytes of an LED frame look like
pub record IsLedForm (bytes : List ℕ) : Type 0 where
  pub long : 2 ≤ length bytes
  pub first : get_or bytes 0 0 ≡ 0x60
  pub size : length (drop 2 bytes) ≡ get_or bytes 1 0

-- a command is one byte, a clock message or an LED frame
pub forms : (command : CommandContent) (bytes : List ℕ) → bytes ≡ command_encoding command
    → (length bytes ≡ 1) ⊎ IsClockForm bytes ⊎ IsLedForm bytes
forms (ClockMessage message) bytes is =
    inr (inl (subst IsClockForm (sym is) (clock_form message.id message.payload)))
  where
    clock_form : (id : ℕ) (p : List ℕ)
        → IsClockForm (0x2b ∷ (length p + 3) ∷ 0x03 ∷ id ∷ (p ++ 0x00 ∷ []))
    clock_form id p =
        let rest : List ℕ = p ++ 0x00 ∷ [] in
        let m : length (0x2b ∷ (length p + 3) ∷ 0x03 ∷ id ∷ rest) - 1 - 4 ≡ length rest - 1 =
        omega arith in
        let n : length (0x2b ∷ (length p + 3) ∷ 0x03 ∷ id ∷ rest) - 1
        ≡ suc (suc (suc (suc (length rest - 1)))) =
        omega (arith, length-append p (0x00 ∷ [])) in
        record {
          long = omega (arith, length-append p (0x00 ∷ []));
          first = refl;
          third = refl;
          last = rw n (last_of p 0x00);
          size = rw (m, prefix p 0x00) refl;
        }
forms (Leds leds) bytes is =
    inr (inr (subst IsLedForm (sym is) (record { long = omega arith; first = refl; size = refl })))
forms _ bytes is = inl (ap length is)
