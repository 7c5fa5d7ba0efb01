-- The first byte that isn't valid in its place, as it is computed, and its fault.
use Rattle.std.{proofs.Common.{◌≡◌, ℕ, zero, suc, ◌<◌, Bool, true, false, cond, refl, List, length, arith, Option, Some, None, below_more, rules}, specs.Option.{option_map_or, option_or}}
use Rattle.{std.specs.Prelude.{◌==◌, IfSome, MatchOption, slice_index}, dgt_message.specs.{Code.{HasSize}, Layout.{Column, column_at, layout_of}, Reading.{Allows, IsFaultOf, IsFirstBad, fault_of}}}
use Rattle.dgt_message.{specs.Reading.{first_bad_place, first_failure, is_allowed}, proofs.Sizes.{AllowsBefore}}

-- a search for the first number that fails a test
data Search (test : ℕ → Bool) (n : ℕ) : Option ℕ → Type 0 where
  all : ((k : ℕ) → k < n → test k ≡ true) → Search test n None
  fails : (at : ℕ) → at < n → test at ≡ false → ((k : ℕ) → k < at → test k ≡ true)
      → Search test n (Some at)

-- the search finds the least one
searched : (test : ℕ → Bool) (n : ℕ) → Search test n (first_failure test n)
searched test zero = all (λ k l. absurd (omega arith))
searched test (suc n) = go (first_failure test n) (searched test n) (test n) refl
  where
    go : (found : Option ℕ) → Search test n found → (t : Bool) → test n ≡ t
        → Search test (suc n) (option_or found (cond t None (Some n)))
    go None (all h) true e = all (λ k l. below_more _ _ h e k (omega arith))
    go None (all h) false e = fails n (omega arith) e h
    go (Some at) (fails _ l f h) t e = fails at (omega arith) f h

-- a byte that passes the test of its column is valid
allowed : (c : Column) (byte : ℕ) → is_allowed c byte ≡ true → Allows c byte
allowed c byte h = search rules

-- the search in a body of the right size finds the first bad place, and if it finds none there is
-- none
search_finds : (code : ℕ) (body : List ℕ) → HasSize code body → (found : Option ℕ)
    → Search (λ place. is_allowed (column_at code body place) (slice_index body place))
    (length body) found
    → MatchOption found (AllowsBefore (layout_of code body) body (length body))
    (IsFirstBad code body)
search_finds code body size None (all h) =
    λ k l. allowed (column_at code body k) (slice_index body k) (h k l)
search_finds code body size (Some at) (fails _ l f h) = search rules

pub first_bad_place-reports : (code : ℕ) (body : List ℕ) → HasSize code body
    → MatchOption (first_bad_place code body)
    (AllowsBefore (layout_of code body) body (length body)) (IsFirstBad code body)
first_bad_place-reports code body size =
    search_finds code body size (first_bad_place code body) (searched _ (length body))

-- the fault of the column at the first bad place is one of the body
pub place_fault : (code : ℕ) (body : List ℕ) (at : ℕ) → IsFirstBad code body at
    → IsFaultOf code body (fault_of (column_at code body at) at)
place_fault code body at h = search rules

-- the test of the size refuses a wrong one
pub wrong_size : (o : Option ℕ) (n : ℕ) → option_map_or (λ total. n == total) o true ≡ false
    → IfSome o (λ total. n ≡ total) → ⊥
wrong_size o n h h3 = search rules
