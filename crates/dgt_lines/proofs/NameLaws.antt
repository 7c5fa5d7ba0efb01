-- An event has one name or none, and so events have one text.
use Rattle.{std.proofs.Common.{◌≡◌, ℕ, List, [], ◌∷◌, ◌++◌, Option, Some, ◌∙◌, ap, sym, rules}, dgt_message.specs.{declared.known.KnownCode.{KnownCode}}}
use Rattle.{dgt_decode.specs.Grammar.{Event, Placed}, dgt_names.specs.{Names.{IsBattery, IsSignal}, declared.{battery.BatteryState.{BatteryState}, clock.Signal.{Signal}}}}
use Rattle.dgt_lines.specs.NamedLines.{AreNamedLines, HasCarriedName, IsNamed, IsOwnText, IsTextOf, battery_text, named_line}

one_text_of : {A : Type 0} (IsSaid : A → Type 0) (text : A → List ℕ)
    → ((one other : A) → IsSaid one → IsSaid other → one ≡ other) → (one other : Option (List ℕ))
    → IsTextOf IsSaid text one → IsTextOf IsSaid text other → one ≡ other
one_text_of IsSaid text same one other p q = search rules

one_own_text : (bytes : List ℕ) (one other : Option (List ℕ)) → IsOwnText bytes one
    → IsOwnText bytes other → one ≡ other
one_own_text bytes one other p q = search rules

-- signals and batteries are said once
module _
    (signals : (bytes : List ℕ) (one other : Signal) → IsSignal bytes one → IsSignal bytes other
    → one ≡ other)
    (batteries : (bytes : List ℕ) (one other : BatteryState) → IsBattery bytes one
    → IsBattery bytes other → one ≡ other) where
  one_carried : (code : Option KnownCode) (body : List ℕ) (one other : Option (List ℕ))
      → HasCarriedName code body one → HasCarriedName code body other → one ≡ other
  one_carried (Some KnownCode.Serial) body one other p q = one_own_text body one other p q
  one_carried (Some KnownCode.LongSerial) body one other p q = one_own_text body one other p q
  one_carried (Some KnownCode.Trademark) body one other p q = one_own_text body one other p q
  one_carried (Some KnownCode.Battery) body one other p q =
      one_text_of (IsBattery body) battery_text (batteries body) one other p q
  one_carried _ body one other p q = p ∙ sym q

  pub one_name : (event : Event) (one other : Option (List ℕ)) → IsNamed event one
      → IsNamed event other → one ≡ other
  one_name event one other p q = search (rules, one_carried)

  pub one_text : (placed : List Placed) (one other : List ℕ) → AreNamedLines placed one
      → AreNamedLines placed other → one ≡ other
  one_text [] one other p q = p ∙ sym q
  one_text (x ∷ more) one other p q =
      p.3 ∙ ap (λ name. named_line x name ++ p.1) (one_name x.event p.0 q.0 p.2 q.2)
      ∙ ap (λ rest. named_line x q.0 ++ rest) (one_text more p.1 q.1 p.4 q.4) ∙ sym q.3
