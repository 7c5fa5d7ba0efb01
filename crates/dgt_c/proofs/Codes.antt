-- Lists of numbers that are written or read one by one.
use Rattle.std.proofs.{Common.{◌≡◌, ℕ, suc, ◌+◌, ◌<◌, List, ◌++◌, length, map, take, drop, set, get_or, arith, drop-cons}, Math.Seq.{set-append_seam}, lemmas.{Grind.{common_steps}, List.{take_more}}}
use Rattle.std.proofs.lemmas.List.{length-map, length-take}

-- one more number has replaced the one at its place
pub one_more_in_prefix : {A : Type 0} (f : A → ℕ) (xs : List A) (old : List ℕ) (i : ℕ) (d : A)
    → i < length xs → i < length old → set (map f (take i xs) ++ drop i old) i (f (get_or xs i d))
    ≡ map f (take (i + 1) xs) ++ drop (i + 1) old
one_more_in_prefix f xs old i d h k =
    let prefix : length (map f (take i xs)) ≡ i =
    omega (arith, length-map (take i xs) f, length-take i xs) in
    let a =
    set-append_seam (map f (take i xs)) (get_or old i 0) (drop (suc i) old) (f (get_or xs i d)) in
    let b = drop-cons old i 0 k in
    grind (arith, common_steps, take_more)
