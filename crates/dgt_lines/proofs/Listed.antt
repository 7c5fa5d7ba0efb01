-- The lines of a host's commands, for all bytes that were read.
use Rattle.{std.proofs.Common.{◌≡◌, ◌≤◌, ◌+◌, ◌-◌, ℕ, List, [], ◌++◌, Result, length, refl, length-append, take, rules}, dgt_command.specs.{Content.{EventContent}, Encoding.{AreBytes}}}
use Rattle.{dgt_command.specs.Words.{IsPartial, IsWord}, dgt_lines.specs.{CommandLaws.{EachIsPrinted}, CommandLines.{Prints, command_line}, Commanding.{IsListed}, Printing.{HasCommandLines}}}
use Rattle.dgt_lines.{specs.{Printing.{IsPrinted}, declared.faults.RunFault.{RunFault}}, proofs.PrintedWords.{texts_append, part_is_printed, word_is_printed}}

pub listed_none : IsPartial [] → (held : List ℕ) → held ≡ [] → Prints 0 [] held []
listed_none none held h = rw h (part_is_printed 0 [] none)

-- ---- after a call of `advance`, with a chunk of which it used n bytes

module _ {held bytes text : List ℕ} (h : Prints 0 bytes held text) where
  -- they complete a word
  pub listed_event : (chunk : List ℕ) (n offset : ℕ) (event : EventContent) → n ≤ length chunk
      → offset ≡ length bytes → IsPartial [] → IsWord event (held ++ take n chunk)
      → (held' : List ℕ) → held' ≡ []
      → Prints 0 (bytes ++ take n chunk) held' (text ++ command_line (offset + n) event)
  listed_event chunk n offset event within counted none word held' e =
      let place = 0 + (length bytes - length held) in
      let same : place + length (held ++ take n chunk) ≡ offset + n =
      search (rules, length-append) in
      search (rules, texts_append, word_is_printed)

  -- they complete none
  pub listed_part : (more held' : List ℕ) → held' ≡ held ++ more → IsPartial held'
      → Prints 0 (bytes ++ more) held' (text ++ [])
  listed_part more held' e part = search (rules, texts_append)

  -- whatever comes after
  pub listed_on : EachIsPrinted → (more : List ℕ) → AreBytes (held ++ more)
      → (others : List ℕ) × (last : List ℕ) × HasCommandLines (bytes ++ more) (text ++ others) last
  listed_on each more are =
      let on = each (0 + (length bytes - length held)) (held ++ more) are in
      (on.1, _, (on.0, texts_append 0 bytes more held on.0 text on.1 h on.2, refl))

pub listed : {A : Type 0} (r : Result A RunFault) (bytes out : List ℕ)
    → IsPrinted HasCommandLines r bytes out → IsListed r bytes out
listed r bytes out p = search rules
