-- The struct and the body that report an event describe it, and its text is written.
use Rattle.{std.proofs.Common.{ℕ, Some, rules}, dgt_message.specs.declared.viewing.BodyFault.{BodyFault}, dgt_decode.specs.Grammar.{Refused}, dgt_c.specs.Once.{EventsAreRead, EventsHaveTexts}}
use Rattle.dgt_c.{specs.{Once.{NothingHasNoText, ReportsAreSaid}, Reported.{reported_at}, Texts.{SaysFault}}, proofs.EncodingLemmas.{carried_bytes, other_code}}

fault_said : (place code : ℕ) (fault : BodyFault)
    → SaysFault (reported_at place (Some (Refused code fault))) fault
fault_said place code fault = search rules

pub reports_are_said : ReportsAreSaid
reports_are_said = search (rules, fault_said, other_code, carried_bytes)

pub events_have_texts : EventsHaveTexts
events_have_texts = search rules

pub nothing_has_no_text : NothingHasNoText
nothing_has_no_text = search rules

pub events_are_read : EventsAreRead
events_are_read said body event says none = none event says
