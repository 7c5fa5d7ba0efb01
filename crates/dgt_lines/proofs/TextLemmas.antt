-- Texts that are written one part after another.
use Rattle.std.proofs.Common.{◌≡◌, ℕ, ◌+◌, ◌/◌, ◌%◌, ◌^◌, ◌<◌, List, [], ◌∷◌, ◌++◌, ◌∙◌, ap, append_assoc, append-nil, arith, get_or, length, map, refl, sym, take, Bool, true, rules}
use Rattle.std.{proofs.lemmas.{Fmt.{decimal_digit, decimal_step, decimal_nonempty}, Grind.{common_steps}, List.Folds.{list_all-append}}, specs.{List.{list_all}, Prelude.{◌&&◌, codes, decimal}}}
use Rattle.{dgt_message.specs.Clock.{Times}, dgt_lines.specs.{Clocks.{has_bit, low_text, running_text, shown_times, turn_text}, Lines.{byte_text, padded_decimal, shown_time, words_text}}}

-- no leading zero
pub padded_one : (n : ℕ) → n < 2 ^ 64 → padded_decimal 1 n ≡ decimal n
padded_one n h = search (rules, decimal_nonempty)

-- two digits
pub padded_two : (n : ℕ) → n < 100 → padded_decimal 2 n ≡ (48 + n / 10) ∷ (48 + n % 10) ∷ []
padded_two n h = search (rules, decimal_digit, decimal_step)

-- two digits for each byte, and a space before them
abbrev pub spaced_text : List ℕ → List ℕ
spaced_text [] = []
spaced_text (byte ∷ bytes) = 32 ∷ byte_text byte ++ spaced_text bytes

spaced_text-append : (s t : List ℕ) → spaced_text (s ++ t) ≡ spaced_text s ++ spaced_text t
spaced_text-append [] t = refl
spaced_text-append (byte ∷ s) t = search (rules, append_assoc, spaced_text-append s t)

pub spaced_text-take : (s : List ℕ) (i : ℕ) → i < length s
    → spaced_text (take (i + 1) s) ≡ spaced_text (take i s) ++ (32 ∷ byte_text (get_or s i 0))
spaced_text-take s i h = grind (arith, common_steps, spaced_text-append)

pub words_text-bytes : (word bytes : List ℕ)
    → words_text (word ∷ map byte_text bytes) ≡ word ++ spaced_text bytes
words_text-bytes word [] = sym (append-nil word)
words_text-bytes word (byte ∷ bytes) =
    ap (λ l. word ++ 32 ∷ l) (words_text-bytes (byte_text byte) bytes)

-- the text of a clock, by what is added one after another
pub clock_in_parts : (t : Times) → codes "clock "
    ++ (shown_time t.first
    ++ (codes " "
    ++ (shown_time t.second ++ (codes " " ++ running_text t.status)
    ++ (codes " " ++ turn_text (has_bit t.status 3) (has_bit t.status 4)) ++ low_text t.status)))
    ≡ shown_times t
unfolding shown_times
clock_in_parts t = simp append_assoc refl

-- if a test holds of the first ones, it holds of all if it holds of the last ones
pub list_all_behind : (test : ℕ → Bool) (xs ys : List ℕ) → list_all test xs ≡ true
    → list_all test (xs ++ ys) ≡ list_all test ys
list_all_behind test xs ys h = list_all-append test xs ys ∙ ap (λ t. t && list_all test ys) h
