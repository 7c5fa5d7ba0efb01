-- A run that begins a message.
use Rattle.dgt_decode.{proofs.BodyRuns.{seven_among, seven-take}, specs.{Feeding.{IsWholeMessage}, Grammar.{has_top_bit, events, unfinished_message, announced_total}, Taking.{Begins, FramesPrefix}}}
use Rattle.dgt_decode.{specs.Taking.{IsKept}, proofs.{Feeds.{first_of_run}, Framing.{after, reports-after}, SevenBit.{SevenByRecursion, by_recursion}, Steps.{Gives, first-begins, next-short}}}
use Rattle.{dgt_decode.proofs.Steps.{next-waits}, std.proofs.{Common.{◌≡◌, ℕ, zero, suc, ◌+◌, ◌-◌, ◌<◌, ◌≤◌, List, [], ◌∷◌, length, take, drop, min, Some, arith, rules}, lemmas.List.{length-take}}}
use Rattle.std.{proofs.lemmas.List.{take-take}, specs.List.{position_or_len}}
use Rattle.dgt_decode.specs.declared.event.Found.TheVariants as found

-- the first bytes, this many, are a header and a run of its body
pub record IsBeginning (total : ℕ) (rest : List ℕ) (used : ℕ) : Type 0 where
  pub header : 3 ≤ used
  pub within : used ≤ length rest
  pub fits : used ≤ total
  pub short : total ≤ 16383
  pub seven : SevenByRecursion (take (used - 3) (drop 3 rest))

-- these are those before the next set top bit after the header
pub beginning : (total all end run : ℕ) (rest : List ℕ) → Begins total rest
    → all ≡ min (length rest) total → end ≡ min all 128
    → run ≡ position_or_len has_top_bit (take (end - 3) (drop 3 rest))
    → IsBeginning total rest (3 + run)
beginning total all end run (b ∷ h ∷ l ∷ more) begins least first is =
    let header = by_recursion (h ∷ l ∷ []) begins.header in
    let before = seven_among (end - 3) run more is in
    search rules
beginning total all end run _ begins least first is = absurd (omega (arith, begins.enough))

-- there is no event before the last of them
early : (b h l n total : ℕ) (more : List ℕ) → Gives (b ∷ h ∷ []) [] (b ∷ h ∷ []) → l < 128
    → SevenByRecursion (take n more) → n ≤ length more → 3 + n ≤ total
    → total ≡ announced_total (b ∷ h ∷ l ∷ more)
    → events (take (suc (suc n)) (b ∷ h ∷ l ∷ more)) ≡ []
early b h l zero total more two low seven within fits is = two.reported
early b h l (suc n) total [] two low seven within fits is = absurd (omega (arith, within))
early b h l (suc n) total (x ∷ more) two low seven within fits is =
    (next-waits (b ∷ h ∷ []) (l ∷ take n (x ∷ more)) two.leaves (omega arith) (low, shorter)
    (omega (arith, is, fits, length-take n (x ∷ more)))).reported
  where
    fewer : take n (take (suc n) (x ∷ more)) ≡ take n (x ∷ more)
    fewer = take-take n (suc n) (x ∷ more) (omega arith)

    shorter : SevenByRecursion (take n (x ∷ more))
    shorter = rw (← fewer) (seven-take n (take (suc n) (x ∷ more)) seven)

-- A message that begins is whole if none of its bytes is missing then, and reports nothing
-- otherwise.
pub frames-beginning : (kept rest : List ℕ) (total used : ℕ) → unfinished_message kept ≡ []
    → Begins total rest → IsBeginning total rest used
    → FramesPrefix kept rest used (take used rest) (after (total - used)).1
    × IsKept (after (total - used)).0 (take used rest)
frames-beginning kept (b ∷ h ∷ l ∷ more) total (suc (suc (suc n))) none begins run =
    let used = suc (suc (suc n)) in
    let body = take n more in
    let count : length body ≡ n = omega (arith, length-take n more, run.within) in
    let is_n : used - 3 ≡ n = omega arith in
    let header = by_recursion (h ∷ l ∷ []) begins.header in
    let seven : SevenByRecursion body = rw is_n at run.seven in
    let two =
    next-short (b ∷ []) (h ∷ []) (first-begins b begins.first).leaves (omega arith) (header.0, tt)
    (omega arith) in
    let left = total - used in
    let all : announced_total (b ∷ h ∷ l ∷ body) ≡ length (b ∷ h ∷ l ∷ body) + left =
    omega (arith, begins.is, count, run.fits) in
    let t = reports-after (b ∷ h ∷ []) (l ∷ body) left two.leaves (omega arith) (omega arith)
    (header.1.0, seven) all in
    let long : 2 + length (l ∷ body) ≡ 0 + length (b ∷ h ∷ l ∷ body) = omega arith in
    let less : length (b ∷ h ∷ l ∷ body) - 1 ≡ suc (suc n) = omega (arith, count) in
    search (rules, take-take, early, first_of_run)
frames-beginning kept _ total _ none begins run = absurd (omega (arith, begins.enough, run.header))

-- A message that is complete is reported at once.
pub frames-whole : (kept rest : List ℕ) (total : ℕ) → unfinished_message kept ≡ []
    → total ≤ length rest → IsWholeMessage (take total rest)
    → FramesPrefix kept rest total (take total rest) (Some found.Message)
frames-whole kept (b ∷ h ∷ l ∷ more) (suc (suc (suc n))) none within whole =
    let total = suc (suc (suc n)) in
    let rest = b ∷ h ∷ l ∷ more in
    let is : total ≡ announced_total rest =
    omega (arith, whole.whole, length-take total rest, within) in
    let later = by_recursion (h ∷ l ∷ take n more) whole.later in
    let begins : Begins total rest = search rules in
    let behind : total - 3 ≡ n = omega arith in
    let all : IsBeginning total rest total = search rules in
    let none_left : total - total ≡ 0 = omega arith in
    rw none_left at (frames-beginning kept rest total total none begins all).0
frames-whole kept rest total none within whole =
    absurd (omega (arith, within, whole.long, length-take total rest))
