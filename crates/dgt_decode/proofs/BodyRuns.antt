-- A run of a message's body.
use Rattle.std.proofs.Common.{◌≡◌, ℕ, zero, suc, ◌+◌, ◌-◌, ◌<◌, ◌≤◌, Bool, true, false, cond, not, List, [], ◌∷◌, ◌++◌, length, take, drop, get_or, refl, subst, arith, rules}
use Rattle.std.{proofs.lemmas.{Bool.{lt-leb}, Grind.{common_steps}, List.{length-append, length-take, take-take, Sums.{prefix_len-le-length}}}, specs.List.{position_or_len}}
use Rattle.dgt_decode.{specs.{Grammar.{has_top_bit, announced_total}, Taking.{FramesPrefix, IsKept}, declared.framer.FramerState.{FramerState, TheVariants.{Body}}}}
use Rattle.dgt_decode.proofs.{Framing.{after, reports-after}, SevenBit.{SevenByRecursion}, Steps.{next-waits}, Verdicts.{announced_total-append}}

-- ---- In a body

-- the bytes before the first with a set top bit are seven-bit
pub seven-before : (bytes : List ℕ)
    → SevenByRecursion (take (position_or_len has_top_bit bytes) bytes)
seven-before [] = tt
seven-before (b ∷ bytes) = go (has_top_bit b) refl (seven-before bytes)
  where
    go : (t : Bool) → has_top_bit b ≡ t
        → SevenByRecursion (take (position_or_len has_top_bit bytes) bytes)
        → SevenByRecursion
        (take (cond (not t) (1 + position_or_len has_top_bit bytes) 0) (b ∷ bytes))
    go true e more = tt
    go false e more = search rules

-- there are some if the first byte is
some-before : (bytes : List ℕ) → 0 < length bytes → get_or bytes 0 0 < 128
    → 0 < position_or_len has_top_bit bytes
some-before bytes some seven = grind (arith, common_steps)

-- The search for a set top bit may begin after seven-bit bytes.
pub search-after : (n : ℕ) (bytes : List ℕ) → n ≤ length bytes → SevenByRecursion (take n bytes)
    → n + position_or_len has_top_bit (drop n bytes) ≡ position_or_len has_top_bit bytes
search-after zero bytes within seven = omega arith
search-after (suc n) [] within seven = absurd (omega (arith, within))
search-after (suc n) (b ∷ bytes) within seven =
    rw (lt-leb 128 b seven.0) (omega (arith, search-after n bytes (omega (arith, within)) seven.1))

-- those before the first with a set top bit among the first n
pub seven_among : (n used : ℕ) (bytes : List ℕ) → used ≡ position_or_len has_top_bit (take n bytes)
    → (used ≤ n) × (used ≤ length bytes) × SevenByRecursion (take used bytes)
seven_among n used bytes is =
    let wanted = take n bytes in
    let up_to : used ≤ length wanted =
    omega (arith, is, prefix_len-le-length (λ x. not (has_top_bit x)) wanted) in
    let long = length-take n bytes in
    let prefix : take used wanted ≡ take used bytes =
    take-take used n bytes (omega (arith, up_to, long)) in
    let before = seven-before wanted in
    search rules

-- this many of the first remaining bytes are seven-bit, and no more than are missing
pub record IsBodyRun (missing : ℕ) (rest : List ℕ) (used : ℕ) : Type 0 where
  pub some : 0 < used
  pub within : used ≤ length rest
  pub fits : used ≤ missing
  pub seven : SevenByRecursion (take used rest)

-- these are those before the next set top bit among as many as are missing
pub body_run : (missing used : ℕ) (rest : List ℕ) → 0 < missing → 0 < length rest
    → get_or rest 0 0 < 128 → used ≡ position_or_len has_top_bit (take missing rest)
    → IsBodyRun missing rest used
body_run (suc more) used (b ∷ rest) room some seven is =
    let run = seven_among (suc more) used (b ∷ rest) is in
    let first = some-before (take (suc more) (b ∷ rest)) (omega arith) seven in
    search rules
body_run _ used _ room some seven is = absurd (omega arith)

-- the beginning of seven-bit bytes is seven-bit
pub seven-take : (n : ℕ) (bytes : List ℕ) → SevenByRecursion bytes → SevenByRecursion (take n bytes)
seven-take n bytes seven = grind (arith, common_steps)

-- A run of the body ends the message if none of it is missing then, and reports nothing otherwise.
pub frames-body_run : (state : FramerState) (kept rest : List ℕ) (left used : ℕ) → IsKept state kept
    → state ≡ Body left → IsBodyRun left rest used
    → FramesPrefix kept rest used (kept ++ take used rest) (after (left - used)).1
    × IsKept (after (left - used)).0 (kept ++ take used rest)
frames-body_run state kept rest left used was body run =
    let is : IsKept (Body left) kept = subst (λ s. IsKept s kept) body was in
    let bytes = take used rest in
    let count : length bytes ≡ used = omega (arith, length-take used rest, run.within) in
    let sum : length (kept ++ bytes) ≡ length kept + length bytes = length-append kept bytes in
    let all : announced_total (kept ++ bytes) ≡ length (kept ++ bytes) + (left - used) =
    omega (arith, announced_total-append kept bytes is.1, is.2, is.3, run.fits) in
    let t = reports-after kept bytes (left - used) is.0 (omega (arith, is.1))
    (omega (arith, run.some)) run.seven all in
    search (rules, take-take, seven-take, length-append, announced_total-append, next-waits)
