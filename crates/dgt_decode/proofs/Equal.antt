-- The derived `==` of events and of results for a chunk.
use Rattle.{std.proofs.Common.{rules}, dgt_values.specs.Equality.{EqualIsSameRead}, dgt_message.specs.Content.{content}, dgt_decode.specs.Feeding.{event_content}}
use Rattle.dgt_message.specs.contracts.message.MessagePartialEq.TheImpl as message
use Rattle.dgt_decode.specs.declared.event.Event.TheVariants as code_events
use Rattle.dgt_decode.specs.contracts.event.EventPartialEq.TheImpl as event

module _ (equal_messages : EqualIsSameRead content (message.eq-value).it) where
  -- two events are equal exactly if they report the same
  pub equal_events : EqualIsSameRead event_content (event.eq-value).it
  equal_events (code_events.Message a) (code_events.Message b) = search rules
  equal_events (code_events.Refused code fault) (code_events.Refused other second) = search rules
  equal_events (code_events.Cut have) (code_events.Cut other) = search rules
  equal_events code_events.BadLength code_events.BadLength = search rules
  equal_events (code_events.Stray byte) (code_events.Stray other) = search rules
  equal_events _ _ = (λ t. cc, λ e. cc)
