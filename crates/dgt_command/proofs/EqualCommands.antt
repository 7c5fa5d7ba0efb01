-- The derived `==` of commands, of events and of results.
use Rattle.std.{proofs.Common.{◌≡◌, arith, rules}, specs.{Option.{option_eq, option_map}, Prelude.{◌↔◌, IsTrue, Option, Some, IfSome}}}
use Rattle.dgt_command.specs.{Content.{command_content, command_event_content}, Equality.{CommandHasArrays, EventHasArrays, FedHasArrays, fed_seen}}
use Rattle.{dgt_command.{specs.declared.command.CommandEvent.{CommandEvent}, proofs.Equal.{equal_clocks}}, dgt_values.specs.Equality.{EqualIsSameReadOf}}
use Rattle.dgt_command.specs.declared.command.Command.TheVariants as command
use Rattle.dgt_command.specs.declared.command.CommandEvent.TheVariants as event
use Rattle.dgt_command.specs.contracts.command.CommandPartialEq.TheImpl as derived_command
use Rattle.dgt_command.specs.contracts.command.CommandEventPartialEq.TheImpl as derived_event
use Rattle.dgt_command.specs.contracts.decoder.CommandFedPartialEq.TheImpl as derived_fed

-- two commands are equal exactly if they mean the same
pub equal_commands : EqualIsSameReadOf CommandHasArrays command_content
    (derived_command.eq-value).it
equal_commands (command.ClockMessage a) (command.ClockMessage b) h k = search (rules, equal_clocks)
equal_commands a b h k = search rules

-- two events are equal exactly if they report the same
pub equal_events : EqualIsSameReadOf EventHasArrays command_event_content
    (derived_event.eq-value).it
equal_events (event.Command a) (event.Command b) h k = search (rules, equal_commands)
equal_events a b h k = search rules

-- two events, or none, are equal exactly if they report the same
equal_found : (a b : Option CommandEvent) → IfSome a EventHasArrays → IfSome b EventHasArrays
    → IsTrue (option_eq (derived_event.eq-value).it a b) ↔
    (option_map command_event_content a ≡ option_map command_event_content b)
equal_found (Some a) (Some b) h k = search (rules, equal_events)
equal_found a b h k = search rules

-- two results are equal exactly if they use and report the same
pub equal_fed : EqualIsSameReadOf FedHasArrays fed_seen (derived_fed.eq-value).it
equal_fed a b h k = grind (arith, equal_found)
