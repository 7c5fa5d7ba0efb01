-- The first wrong byte of a decimal number.
use Rattle.std.proofs.Common.{◌≡◌, ℕ, ◌+◌, ◌-◌, ◌*◌, ◌/◌, ◌%◌, ◌<◌, ◌≤◌, ◌^◌, ◌⊎◌, inl, inr, refl, sym, ap, ◌∙◌, subst, arith, List, [], ◌∷◌, ◌++◌, length, take, get_or, length-append}
use Rattle.std.proofs.{Common.{rules}, lemmas.{Fmt.{decimal_by_steps, decimal_digit, decimal_injective, decimal_is_IsNumeral, decimal_nonempty, decimal_step}}}
use Rattle.std.{proofs.lemmas.{Fmt.{first_decimal, length-decimal-le}, Str.Parse.{digit_at}, List.{append_cancel_right, take_all, take_more, take-append-le, take-take}}, specs.Prelude.{decimal}}
use Rattle.{std.proofs.lemmas.Grind.{common_steps}, dgt_chess.{specs.Fen.{HasNoSpace, IsDecimal, IsFirstWrong, IsNumber}}}

-- each byte is a digit
digit_of : (n k : ℕ) → n < 2 ^ 64 → k < length (decimal n)
    → (48 ≤ get_or (decimal n) k 0) × (get_or (decimal n) k 0 ≤ 57)
digit_of n k small lt = digit_at (decimal n) k ((decimal_is_IsNumeral n small).0.1) lt

pub decimal_plain : (n : ℕ) → n < 2 ^ 16 → HasNoSpace (decimal n)
decimal_plain n small k lt is = search (rules, digit_of)

pub number_plain : (text : List ℕ) → IsNumber text → HasNoSpace text
number_plain text (number, is) =
    let P : List ℕ → Type 0 = λ t. HasNoSpace t in subst P (sym is.1) (decimal_plain number is.0)

pub zero_number : IsNumber (decimal 0)
zero_number = (0, (omega arith, refl))

-- one more digit of a number
pub decimal_more : (n d : ℕ) → 0 < n → n < 2 ^ 16 → d < 10
    → decimal (10 * n + d) ≡ decimal n ++ (48 + d) ∷ []
decimal_more n d some small digit = search (rules, decimal_step)

-- a number with these first digits is no smaller than the number of these
abbrev Begins : ℕ → List ℕ → Type 0
Begins n text = decimal n ≡ text → n < 2 ^ 64 → (k m : ℕ) → 0 < k → m < 2 ^ 64
    → take k text ≡ decimal m → m ≤ n

begins_one : (n : ℕ) → n < 10 → Begins n ((48 + n) ∷ [])
begins_one n small is fits k m some fits' same = search (rules, take_all, decimal_injective)

begins_more : (n : ℕ) (text : List ℕ) → 10 ≤ n → Begins (n / 10) text
    → Begins n (text ++ (48 + n % 10) ∷ [])
begins_more n text large before is fits k m some fits' same =
    let shorter : decimal (n / 10) ≡ text = search (rules, append_cancel_right, decimal_step) in
    search (rules, take_all, length-append, decimal_injective, take-append-le)

begins_le : (n k m : ℕ) → n < 2 ^ 64 → 0 < k → m < 2 ^ 64 → take k (decimal n) ≡ decimal m → m ≤ n
begins_le n k m fits some fits' same =
    decimal_by_steps Begins begins_one begins_more n fits refl fits k m some fits' same

-- what was read before an offset
abbrev pub ReadNumber : List ℕ → ℕ → ℕ → Type 0
ReadNumber bytes at number =
    ((at ≡ 0) × (number ≡ 0)) ⊎ ((0 < at) × (take at bytes ≡ decimal number))

-- one more byte was read
pub read_more : (bytes : List ℕ) (at number next : ℕ) → at < length bytes → number < 2 ^ 16
    → ReadNumber bytes at number → 48 ≤ get_or bytes at 0 → get_or bytes at 0 ≤ 57
    → (0 < at → 0 < number) → next ≡ 10 * number + (get_or bytes at 0 - 48)
    → ReadNumber bytes (at + 1) next
read_more bytes at number next lt small h low high some is =
    grind (arith, common_steps, decimal_digit, decimal_more)

-- a number that agrees so far has a digit here
agrees : (bytes : List ℕ) (at n : ℕ) → at < length bytes → n < 2 ^ 16
    → take (at + 1) (decimal n) ≡ take (at + 1) bytes
    → (at < length (decimal n)) × (get_or (decimal n) at 0 ≡ get_or bytes at 0)
agrees bytes at n lt small same = grind (arith, common_steps)

-- the byte continues no number
abbrev pub Stops : ℕ → ℕ → ℕ → Type 0
Stops number digits byte =
    (byte < 48) ⊎ (57 < byte) ⊎ ((0 < digits) × (number ≡ 0))
    ⊎ (2 ^ 16 ≤ 10 * number + (byte - 48))

-- no number goes on with a leading zero
leading_zero : (bytes : List ℕ) (at n : ℕ) → n < 2 ^ 16 → 0 < at → at < length (decimal n)
    → take at bytes ≡ decimal 0 → take (at + 1) (decimal n) ≡ take (at + 1) bytes → ⊥
leading_zero bytes at n small begun long read same =
    let first : get_or (decimal n) 0 0 ≡ 48 = grind (arith, decimal_digit) in
    search (rules, decimal_digit, first_decimal)

-- no number goes on with a byte that stops it
stops : (bytes : List ℕ) (at number n : ℕ) → at < length bytes → number < 2 ^ 16
    → ReadNumber bytes at number → Stops number at (get_or bytes at 0) → n < 2 ^ 16
    → take (at + 1) (decimal n) ≡ take (at + 1) bytes → ⊥
stops bytes at number n lt fits read (inl low) small same =
    let here = agrees bytes at n lt small same in
    search (rules, digit_of)
stops bytes at number n lt fits read (inr (inl high)) small same =
    let here = agrees bytes at n lt small same in
    search (rules, digit_of)
stops bytes at number n lt fits (inl (start, none)) (inr (inr (inl (begun, is)))) small same =
    absurd (omega arith)
stops bytes at number n lt fits (inr (some, read)) (inr (inr (inl (begun, is)))) small same =
    let here = agrees bytes at n lt small same in
    leading_zero bytes at n small begun here.0 (read ∙ ap decimal is) same
stops bytes at number n lt fits (inl (start, none)) (inr (inr (inr large))) small same =
    let here = agrees bytes at n lt small same in
    search (rules, digit_of)
stops bytes at number n lt fits (inr (begun, read)) (inr (inr (inr large))) small same =
    let here = agrees bytes at n lt small same in
    let digit = digit_of n at (omega arith) here.0 in
    let d : ℕ = get_or bytes at 0 - 48 in
    let byte : get_or bytes at 0 ≡ 48 + d = omega (arith, here.1, digit.0) in
    let fits_digit : d < 10 = omega (arith, here.1, digit.1) in
    let some : 0 < number = omega arith in
    let more : take (at + 1) bytes ≡ decimal (10 * number + d) =
    search (rules, take_more, decimal_more) in
    search (rules, begins_le)

-- what was read begins a number
begun_by : (bytes : List ℕ) (at number : ℕ) → number < 2 ^ 16 → ReadNumber bytes at number
    → take at (decimal number) ≡ take at bytes
begun_by bytes at number fits read_number = search (rules, take-take)

-- the byte is the first wrong one
pub number_stops : (bytes : List ℕ) (at number : ℕ) → at < length bytes → number < 2 ^ 16
    → ReadNumber bytes at number → Stops number at (get_or bytes at 0)
    → IsFirstWrong IsNumber bytes at
number_stops bytes at number lt fits read stop = record {
  within = omega arith;
  right = decimal number;
  is = (number, (fits, refl));
  before = begun_by bytes at number fits read;
  after = λ other o same. stops bytes at number o.0 lt fits read stop o.1.0
      (ap (λ l. take (at + 1) l) (sym o.1.1) ∙ same);
}

-- no number is empty
pub number_empty : (bytes : List ℕ) → length bytes ≡ 0 → IsFirstWrong IsNumber bytes 0
number_empty bytes none = record {
  within = omega arith;
  right = decimal 0;
  is = (0, (omega arith, refl));
  before = refl;
  after = search (rules, decimal_nonempty);
}

-- the whole text was read
pub number_read : (bytes : List ℕ) (at number : ℕ) → length bytes ≤ at → 0 < length bytes
    → ReadNumber bytes at number → number < 2 ^ 16 → IsDecimal number bytes
number_read bytes at number end some read_number fits = search (rules, take_all)

pub five_digits : (n : ℕ) → n < 2 ^ 16 → length (decimal n) ≤ 5
five_digits n small = length-decimal-le 5 n (omega arith) (omega arith) (omega arith)

pub one_long : (n : ℕ) → n < 10 → length (decimal n) ≡ 1
one_long n small = ap (λ l. length l) (decimal_digit n small)

pub more_long : (n : ℕ) → 10 ≤ n → n < 2 ^ 16 → length (decimal n) ≡ length (decimal (n / 10)) + 1
more_long n large small = search (rules, decimal_step, length-append)
