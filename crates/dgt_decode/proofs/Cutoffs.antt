-- A message that is cut off a few bytes after its first.
use Rattle.dgt_decode.{proofs.BodyRuns.{seven_among}, specs.{Feeding.{FirstEvent}, Grammar.{Cut, has_top_bit, announced_total, at_place, events, unfinished_message}, Taking.{FramesPrefix, IsKept}}}
use Rattle.dgt_decode.{specs.declared.framer.FramerState.{FramerState}, proofs.{Feeds.{first_of_run}, SevenBit.{SevenByRecursion}, Steps.{Gives, IsHeld, first-begins, next-begins, next-short}}}
use Rattle.{dgt_decode.proofs.Steps.{next-waits}, std.proofs.Common.{rules, ◌≡◌, ◌≢◌, ℕ, zero, suc, ◌+◌, ◌*◌, ◌-◌, ◌<◌, ◌≤◌, List, [], ◌∷◌, ◌++◌, length, take, get_or, Some, true, ap, ◌∙◌, arith}}
use Rattle.std.{proofs.lemmas.{Bool.{leb-true}, List.{length-take, length-take-le, take-take, take_more}}, specs.List.{position_or_len}}
use Rattle.dgt_decode.specs.declared.event.Found.TheVariants as found

-- if one byte is kept, it is held
one_held : (state : FramerState) (k : ℕ) → IsKept state (k ∷ []) → IsHeld (k ∷ [])
one_held state k is = search rules

-- with seven-bit bytes that are fewer than the header says nothing is reported
quiet_run : (k : ℕ) (rest : List ℕ) (run : ℕ) → IsHeld (k ∷ []) → SevenByRecursion (take run rest)
    → run ≤ length rest → 1 + run < announced_total (k ∷ rest)
    → Gives (k ∷ take run rest) [] (k ∷ take run rest)
quiet_run k rest zero held seven within less =
    next-short (k ∷ []) [] held (omega arith) tt (omega arith)
quiet_run k (h ∷ rest) (suc zero) held seven within less =
    next-short (k ∷ []) (h ∷ []) held (omega arith) (seven.0, tt) (omega arith)
quiet_run k (h ∷ l ∷ more) (suc (suc n)) held seven within less =
    next-waits (k ∷ []) (h ∷ l ∷ take n more) held (omega arith) seven
    (omega (arith, less, length-take n more))
quiet_run k _ _ held seven within less = absurd (omega (arith, within))

-- the byte after them cuts the message off
cut_after : (k : ℕ) (rest : List ℕ) (run : ℕ) → IsHeld (k ∷ []) → SevenByRecursion (take run rest)
    → run < length rest → 1 + run < announced_total (k ∷ rest) → 128 ≤ get_or rest run 0
    → FramesPrefix (k ∷ []) rest (1 + run) (get_or rest run 0 ∷ []) (Some (found.Cut (1 + run)))
cut_after k rest run held seven within less top =
    let b = get_or rest run 0 in
    let body = take run rest in
    let all = take (1 + run) rest in
    let next : 1 + run ≡ run + 1 = omega arith in
    let all_is : all ≡ body ++ b ∷ [] = ap (λ n. take n rest) next ∙ take_more rest run 0 within in
    let all_long : length all ≡ 1 + run = length-take-le (1 + run) rest (omega (arith, within)) in
    let quiet = quiet_run k rest run held seven (omega (arith, within)) less in
    let long : length (k ∷ body) ≡ 1 + run =
    omega (arith, length-take-le run rest (omega (arith, within))) in
    let g = next-begins (k ∷ body) b quiet.leaves (omega arith) top in
    let place : 1 + run + 1 ≡ length (k ∷ []) + length all = omega (arith, all_long) in
    let fewer : length all - 1 ≡ run = omega (arith, all_long) in
    let early : events (k ∷ take (length all - 1) all) ≡ [] = search (rules, take-take) in
    let reported : events (k ∷ all) ≡ at_place (length (k ∷ []) + length all) (Cut (1 + run)) ∷ [] =
    search rules in
    let leaves : unfinished_message (k ∷ all) ≡ b ∷ [] = search rules in
    let begins = first-begins b top in
    let first : FirstEvent (unfinished_message (k ∷ [])) all (length all) (Some (Cut (1 + run))) =
    rw held
    (first_of_run (k ∷ []) all (Some (Cut (1 + run))) (omega (arith, all_long)) early reported) in
    search rules

-- If one byte is kept, the first of the next eight with a set top bit cuts the message off, unless
-- it has come whole before. The header's bytes are h and l.
pub frames-cut_run : (state : FramerState) (kept rest : List ℕ) (run h l : ℕ) → IsKept state kept
    → length kept ≡ 1 → 8 ≤ length rest → run ≡ position_or_len has_top_bit (take 8 rest) → run ≢ 8
    → h ≡ get_or rest 0 0 → l ≡ get_or rest 1 0 → 1 + run < 128 * h + l
    → FramesPrefix kept rest (1 + run) (get_or rest run 0 ∷ []) (Some (found.Cut (1 + run)))
    × (128 ≤ get_or rest run 0)
frames-cut_run state (k ∷ []) rest run h l is one enough found_at some high low less =
    let before = seven_among 8 run rest found_at in
    let few : run < 8 = omega (arith, before.0, some) in
    let here : 0 + run ≡ run = omega arith in
    let top : has_top_bit (get_or rest run 0) ≡ true = search rules in
    let first : 128 ≤ get_or rest run 0 = leb-true 128 (get_or rest run 0) top in (
      cut_after k rest run (one_held state k is) before.2 (omega (arith, few, enough))
          (omega (arith, high, low, less)) first,
      first,
    )
frames-cut_run state _ rest run h l is one enough found_at some high low less =
    absurd (omega (arith, one))
