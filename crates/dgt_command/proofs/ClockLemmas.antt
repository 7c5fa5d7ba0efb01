-- A clock message of a known id, by the places of its payload.
use Rattle.{std.{proofs.{Common.{◌≡◌, ℕ, true, List, [], length, refl, sym, Some}, lemmas.{Bool.{eqb-true}, List.{nil_from_length}}}, specs.Prelude.{IsTrue}}, dgt_command.specs.Ids.{has_own_case}}
use Rattle.dgt_command.{specs.{Ids.{has_size, id_with}, declared.ids.KnownId.{KnownId}}, proofs.ListLemmas.{at_places, members}}

-- the payload of a known id, by its places
abbrev pub by_places : KnownId → List ℕ → List ℕ
by_places KnownId.Display p = at_places 0 8 p
by_places KnownId.Icons p = p
by_places KnownId.SetAndRun p = at_places 0 7 p
by_places KnownId.Beep p = at_places 0 1 p
by_places KnownId.Text p = at_places 0 9 p
by_places _ p = []

-- these are all of it
all_places : (known : KnownId) (p : List ℕ) → has_size known (length p) ≡ true
    → by_places known p ≡ p
all_places KnownId.Display p h = sym (members 8 p (eqb-true _ _ h))
all_places KnownId.SetAndRun p h = sym (members 7 p (eqb-true _ _ h))
all_places KnownId.Beep p h = sym (members 1 p (eqb-true _ _ h))
all_places KnownId.Text p h = sym (members 9 p (eqb-true _ _ h))
all_places KnownId.Icons p h = refl
all_places _ p h = sym (nil_from_length p (eqb-true _ _ h))

-- the same, if the id is known and has this many bytes
pub own_places : (known : KnownId) (id : ℕ) (p : List ℕ) → id_with id ≡ Some known
    → IsTrue (has_own_case id (length p)) → by_places known p ≡ p
own_places known id p e h = all_places known p (rw e at h)
