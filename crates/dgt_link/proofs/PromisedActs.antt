-- How an act changes the promise, for any states that the worlds before and after it stand for.
use Rattle.{std.proofs.Common.{◌≡◌, ◌≢◌, rules}, dgt_command.specs.Content.{CommandContent}, dgt_link.specs.{Act.{ActContent}, Machine.{MachineState, after_moves}}}
use Rattle.dgt_link.specs.{Promise.{act_requests, mode_after, IsPromised, IsRestarted, PictureIsComing, coming_mode}, Stands.{StandsAfterStep, StandsFor}, Step.{Step}, View.{WorldView}}
use Rattle.dgt_link.{specs.declared.acts.Outcome.{Outcome}, proofs.{Asking.{dump_is_coming, host_break_moves, mode-step, step_keeps_coming}}}

-- an act is moves of the machine
abbrev pub StepsAreMoves : Type 0
StepsAreMoves = (act : ActContent) (world after : WorldView) (answer : Outcome) (x : MachineState)
    → StandsFor world x → Step act world answer after → StandsAfterStep act answer x after

-- how it leads the states for which the worlds before and after it stand
pub record Leads : Type 0 where
  pub moves : StepsAreMoves
  pub mode : (act : ActContent) (world after : WorldView) (answer : Outcome) (x y : MachineState)
      → StandsFor world x → Step act world answer after → StandsFor after y
      → coming_mode y ≡ mode_after (coming_mode x) (act_requests answer act)
  pub kept : (act : ActContent) (world after : WorldView) (answer : Outcome) (x y : MachineState)
      → act ≢ ActContent.Break → StandsFor world x → Step act world answer after → StandsFor after y
      → PictureIsComing x → PictureIsComing y

module _ (moves : StepsAreMoves)
    (one : (world : WorldView) (x y : MachineState) → StandsFor world x → StandsFor world y
    → x ≡ y) where
  pub half_begins : (world after : WorldView) (x y : MachineState) → StandsFor world x
      → Step (ActContent.Host CommandContent.Dump) world Outcome.Done after → StandsFor after y
      → PictureIsComing y
  half_begins world after x y stands step also =
      let reached =
      moves (ActContent.Host CommandContent.Dump) world after Outcome.Done x stands step in
      rw (one after y (after_moves x reached.0) also reached.2)
      (dump_is_coming x reached.0 reached.1)

  pub half_keeps : (act : ActContent) (world after : WorldView) (answer : Outcome)
      (x y : MachineState) → act ≢ ActContent.Break → StandsFor world x
      → Step act world answer after → StandsFor after y → PictureIsComing x → PictureIsComing y
  half_keeps act world after answer x y other stands step also coming =
      let reached = moves act world after answer x stands step in
      rw (one after y (after_moves x reached.0) also reached.2)
      (step_keeps_coming x act answer reached.0 other reached.1 coming)

  pub half_ends : (world after : WorldView) (answer : Outcome) (x y : MachineState)
      → StandsFor world x → Step ActContent.Break world answer after → StandsFor after y
      → ¬ (PictureIsComing y)
  half_ends world after answer x y stands step also =
      let reached = moves ActContent.Break world after answer x stands step in
      search rules

  pub anew_begins : (world after : WorldView) (answer : Outcome) (x y : MachineState)
      → StandsFor world x → Step ActContent.HostBreak world answer after → StandsFor after y
      → IsRestarted y × IsPromised y
  anew_begins world after answer x y stands step also =
      let reached = moves ActContent.HostBreak world after answer x stands step in
      rw (one after y (after_moves x reached.0) also reached.2)
      (host_break_moves x answer reached.0 step.answers reached.1)

  pub mode_is : (act : ActContent) (world after : WorldView) (answer : Outcome) (x y : MachineState)
      → StandsFor world x → Step act world answer after → StandsFor after y
      → coming_mode y ≡ mode_after (coming_mode x) (act_requests answer act)
  mode_is act world after answer x y stands step also = search (rules, mode-step)
