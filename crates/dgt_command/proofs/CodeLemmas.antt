-- A number belongs to one known id, and a byte is the code of one command of one byte.
use Rattle.std.proofs.{Common.{◌≡◌, ◌≢◌, ℕ, Bool, true, false, cond, refl, sym, List, [], ◌∷◌, Some, None, arith, rules}, lemmas.{Bool.{and_parts, eqb-true}}}
use Rattle.{std.specs.{List.{list_all}, Prelude.{◌==◌, ◌↔◌, find}}, dgt_command.specs.{Content.{command_content, Read}, Encoding.{bare_command}, Ids.{id_number}}}
use Rattle.dgt_command.specs.{Ids.{id_with, known_ids}, Words.{BeginsNoCommand, HasForm}, declared.{command.Command.{Command}, ids.KnownId.{KnownId}}}

-- the result of a search passes its test, and each test that all members pass
found_passes : {X : Type 0} (listed test : X → Bool) (xs : List X) (x : X)
    → list_all listed xs ≡ true → find test xs ≡ Some x → (test x ≡ true) × (listed x ≡ true)
found_passes listed test [] x all e = cc
found_passes listed test (y ∷ xs) x all e =
    let parts = and_parts (listed y) (list_all listed xs) all in
    go (test y) refl e parts.0 (found_passes listed test xs x parts.1)
  where
    go : (t : Bool) → test y ≡ t → cond t (Some y) (find test xs) ≡ Some x → listed y ≡ true
        → (find test xs ≡ Some x → (test x ≡ true) × (listed x ≡ true))
        → (test x ≡ true) × (listed x ≡ true)
    go true f e first later = (cc, cc)
    go false f e first later = later e

-- the number of the id that is found
pub found_id : (number : ℕ) (known : KnownId) → id_with number ≡ Some known
    → number ≡ id_number known
found_id number known e =
    sym
    (eqb-true _ _
    (found_passes (λ each. true) (λ each. id_number each == number) known_ids known refl e).0)

-- the id of its number
id_found : (known : KnownId) → id_with (id_number known) ≡ Some known
id_found known = search rules

-- a number has only one id
pub one_id : (number : ℕ) (known : KnownId)
    → (id_with number ≡ Some known) ↔ (number ≡ id_number known)
one_id number known = (found_id number known, λ e. rw e (id_found known))

-- the command that is found is encoded by the byte
pub bare_form : (byte : ℕ) (each : Command) → bare_command byte ≡ Some each
    → HasForm (Read (command_content each)) (byte ∷ [])
bare_form byte each e = grind arith

-- a byte that is no command of one byte begins no command but the longer ones
pub no_command : (byte : ℕ) → bare_command byte ≡ None → byte ≢ 0x2b → byte ≢ 0x60
    → BeginsNoCommand byte
no_command byte none not_clock not_leds = search rules
