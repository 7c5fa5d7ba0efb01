-- Which acts are of which kind.
use Rattle.std.{proofs.{Common.{◌≡◌, ◌⊎◌, refl, ℕ, suc, List, [], ◌∷◌, true, false, arith, rules}, lemmas.Bool.{false≢true}}, specs.{List.{AllByRecursion}, Prelude.{◌↔◌, Contains}}}
use Rattle.{dgt_command.specs.Content.{CommandContent}, dgt_link.specs.{Act.{ActContent}, Clocks.{AreClockCalm, stops_clock}, Faults.{AreCalm, AreFaultless, FaultyContent, begins_anew, is_break}}}
use Rattle.dgt_link.{specs.Faults.{is_fault, loses_step, sends, stops}, proofs.Lists.{nothing_contained}}

-- ---- each kind

pub fault_is : (act : FaultyContent)
    → (is_fault act ≡ true)
    ↔ (((bytes : List ℕ) × (act ≡ FaultyContent.GarbleUp bytes))
    ⊎ (((bytes : List ℕ) × (act ≡ FaultyContent.GarbleDown bytes))
    ⊎ (act ≡ FaultyContent.BoardLost)))
fault_is act = search (rules, false≢true)

pub loses_step_is : (act : FaultyContent)
    → (loses_step act ≡ true)
    ↔ (((bytes : List ℕ) × (act ≡ FaultyContent.GarbleDown bytes))
    ⊎ (act ≡ FaultyContent.BoardLost))
loses_step_is act = search (rules, false≢true)

pub stops_is : (act : FaultyContent) → (stops act ≡ true)
    ↔ ((act ≡ sends CommandContent.Reset) ⊎ (act ≡ FaultyContent.Plain ActContent.Break))
stops_is act = search (rules, false≢true)

abbrev clock_stops : List FaultyContent
clock_stops = sends CommandContent.Reset ∷ sends CommandContent.UpdateBoard
    ∷ FaultyContent.Plain ActContent.Break
    ∷ FaultyContent.Plain ActContent.HostBreak ∷ FaultyContent.Restart ∷ []

a_clock_stop : (act : FaultyContent) → stops_clock act ≡ true → Contains clock_stops act
a_clock_stop (FaultyContent.Plain (ActContent.Host CommandContent.Reset)) is =
    (0, omega arith, refl)
a_clock_stop (FaultyContent.Plain (ActContent.Host CommandContent.UpdateBoard)) is =
    (1, omega arith, refl)
a_clock_stop (FaultyContent.Plain ActContent.Break) is = (2, omega arith, refl)
a_clock_stop (FaultyContent.Plain ActContent.HostBreak) is = (3, omega arith, refl)
a_clock_stop FaultyContent.Restart is = (4, omega arith, refl)
a_clock_stop _ is = absurd (false≢true is)

pub stops_clock_is : (act : FaultyContent) → (stops_clock act ≡ true) ↔ Contains clock_stops act
stops_clock_is act = search (rules, a_clock_stop, nothing_contained)

pub begins_is : (act : FaultyContent) → (begins_anew act ≡ true)
    ↔ ((act ≡ FaultyContent.Restart) ⊎ (act ≡ FaultyContent.Plain ActContent.HostBreak))
begins_is act = search (rules, false≢true)

pub break_is : (act : ActContent)
    → (is_break act ≡ true) ↔ ((act ≡ ActContent.Break) ⊎ (act ≡ ActContent.HostBreak))
break_is act = search (rules, false≢true)

-- ---- all acts of a list

all_of : (P : FaultyContent → Type 0) (acts : List FaultyContent)
    → ((act : FaultyContent) → Contains acts act → P act) → AllByRecursion P acts
all_of P [] each = tt
all_of P (first ∷ acts) each = (
  each first (0, omega arith, refl),
  all_of P acts (λ act has. each act (suc has.0, omega (arith, has.1), has.2)),
)

pub all_calm : (acts : List FaultyContent)
    → ((act : FaultyContent) → Contains acts act → (is_fault act ≡ false) × (stops act ≡ false))
    → AreCalm acts
all_calm = all_of (λ act. (is_fault act ≡ false) × (stops act ≡ false))

pub all_clock_calm : (acts : List FaultyContent)
    → ((act : FaultyContent) → Contains acts act
    → (is_fault act ≡ false) × (stops_clock act ≡ false)) → AreClockCalm acts
all_clock_calm = all_of (λ act. (is_fault act ≡ false) × (stops_clock act ≡ false))

pub all_faultless : (acts : List FaultyContent)
    → ((act : FaultyContent) → Contains acts act → is_fault act ≡ false) → AreFaultless acts
all_faultless = all_of (λ act. is_fault act ≡ false)
