-- The derived `==` of acts.
use Rattle.{std.proofs.Common.{ℕ, refl, rules}, dgt_values.specs.Equality.{EqualIsSameRead, EqualIsSameReadOf}, dgt_message.specs.Content.{clock_seen}, dgt_command.specs.Content.{command_content}}
use Rattle.{dgt_command.{specs.Equality.{CommandHasArrays}, proofs.Equal.{differ}}, dgt_link.specs.{Act.{ActContent, ActHasArrays, act_content}, Faults.{FaultyActHasArrays}}}
use Rattle.dgt_link.specs.Faults.{FaultyContent, faulty_content}
use Rattle.dgt_message.specs.contracts.clock.ClockPartialEq.TheImpl as derived_clock
use Rattle.dgt_command.specs.contracts.command.CommandPartialEq.TheImpl as derived_command
use Rattle.dgt_link.specs.declared.acts.Act.TheVariants as act
use Rattle.dgt_link.specs.contracts.acts.ActPartialEq.TheImpl as derived
use Rattle.dgt_link.specs.contracts.faulty.FaultyActPartialEq.TheImpl as derived_faulty
use Rattle.dgt_link.specs.declared.faulty.FaultyAct.TheVariants as faulty

-- the number of an act's case
abbrev case_of : ActContent → ℕ
case_of (ActContent.Change square piece) = 0
case_of (ActContent.ClockRead clock) = 1
case_of (ActContent.Host command) = 2
case_of ActContent.BoardSend = 3
case_of (ActContent.ToBoard count) = 4
case_of (ActContent.ToHost count) = 5
case_of ActContent.Break = 6
case_of ActContent.HostBreak = 7

module _ (equal_clocks : EqualIsSameRead clock_seen (derived_clock.eq-value).it)
    (equal_commands : EqualIsSameReadOf CommandHasArrays command_content
    (derived_command.eq-value).it) where
  -- two acts are equal exactly if they do the same
  pub equal_acts : EqualIsSameReadOf ActHasArrays act_content (derived.eq-value).it
  equal_acts (act.Change square piece) (act.Change other second) h k = search rules
  equal_acts (act.ClockRead a) (act.ClockRead b) h k = search rules
  equal_acts (act.Host a) (act.Host b) h k = search rules
  equal_acts act.BoardSend act.BoardSend h k = (λ _. refl, λ _. refl)
  equal_acts (act.ToBoard a) (act.ToBoard b) h k = search rules
  equal_acts (act.ToHost a) (act.ToHost b) h k = search rules
  equal_acts act.Break act.Break h k = (λ _. refl, λ _. refl)
  equal_acts act.HostBreak act.HostBreak h k = (λ _. refl, λ _. refl)
  equal_acts a b h k = differ case_of (act_content a) (act_content b) refl

-- ---- in a world in which the lines and the board may fail

-- the number of such an act's case
abbrev faulty_case_of : FaultyContent → ℕ
faulty_case_of (FaultyContent.Plain act) = 0
faulty_case_of (FaultyContent.GarbleUp bytes) = 1
faulty_case_of (FaultyContent.GarbleDown bytes) = 2
faulty_case_of FaultyContent.BoardLost = 3
faulty_case_of FaultyContent.Restart = 4
faulty_case_of FaultyContent.GiveUp = 5

module _ (equal : EqualIsSameReadOf ActHasArrays act_content (derived.eq-value).it) where
  pub equal_faulty_acts : EqualIsSameReadOf FaultyActHasArrays faulty_content
      (derived_faulty.eq-value).it
  equal_faulty_acts (faulty.Plain a) (faulty.Plain b) h k = search rules
  equal_faulty_acts (faulty.GarbleUp a) (faulty.GarbleUp b) h k = search rules
  equal_faulty_acts (faulty.GarbleDown a) (faulty.GarbleDown b) h k = search rules
  equal_faulty_acts faulty.BoardLost faulty.BoardLost h k = (λ _. refl, λ _. refl)
  equal_faulty_acts faulty.Restart faulty.Restart h k = (λ _. refl, λ _. refl)
  equal_faulty_acts faulty.GiveUp faulty.GiveUp h k = (λ _. refl, λ _. refl)
  equal_faulty_acts a b h k = differ faulty_case_of (faulty_content a) (faulty_content b) refl
