-- Bodies that are carried unread.
use Rattle.{std.proofs.Common.{◌≡◌, ◌≢◌, ℕ, zero, suc, true, refl, List, length, Option, None, Ok, rules}, dgt_message.specs.{Code.{known_total, known_with}, Content.{carried}, Layout.{Layout}}}
use Rattle.dgt_message.specs.{Layout.{known_layout}, Reading.{first_failure, reading}, declared.known.KnownCode.{KnownCode}}

-- each byte of a body that is carried is valid
none_bad : (count : ℕ) → first_failure (λ place. true) count ≡ None
none_bad zero = refl
none_bad (suc count) = rw (none_bad count) refl

-- a code that is none of these
module _ (code : ℕ) (body : List ℕ) (dump : code ≢ 0x06) (clock : code ≢ 0x0d) (field : code ≢ 0x0e)
    (serial : code ≢ 0x11) (version : code ≢ 0x13) where
  -- fixes no length and no bytes
  is_free : (found : Option KnownCode) → known_with code ≡ found
      → (known_total found ≡ None) × (known_layout found body ≡ Layout.carried)
  is_free found e = search rules

  -- therefore its bodies are carried
  pub other_body : reading code body ≡ Ok (carried code body)
  unfolding reading
  other_body =
      let free = is_free (known_with code) refl in
      rw (free.0, free.1) (rw (none_bad (length body)) refl)
