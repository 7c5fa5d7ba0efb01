-- A host's picture and clock are those that lines show of the same bytes.
use Rattle.{std.{proofs.Common.{◌≡◌, List, [], ◌∷◌, refl, sym, ◌∙◌, ap, rules}, specs.Prelude.{option_map}}, dgt_decode.specs.Grammar.{Event, Placed, events}, dgt_host.specs.Host.{HostView}}
use Rattle.{dgt_host.specs.Host.{host_after_event, host_after_events, new_host}, dgt_lines.specs.{Clocks.{clock_text}, Pictures.{picture_after_event, picture_after_events}, Reports.{LastLineIsClock}}}
use Rattle.{dgt_lines.specs.Reports.{clock_after_event, clock_after_events}, dgt_text.specs.Hosts.{LastClockIsTheHosts, PictureIsTheHosts}}

one_event : (host : HostView) (event : Event)
    → ((host_after_event host event).picture ≡ picture_after_event host.picture event)
    × ((host_after_event host event).clock ≡ clock_after_event host.clock event)
one_event host event = search rules

all_events : (host : HostView) (xs : List Placed)
    → ((host_after_events host xs).picture ≡ picture_after_events host.picture xs)
    × ((host_after_events host xs).clock ≡ clock_after_events host.clock xs)
all_events host [] = (refl, refl)
all_events host (x ∷ xs) = search (rules, one_event, all_events (host_after_event host x.event) xs)

pub picture_is_the_hosts : PictureIsTheHosts
picture_is_the_hosts bytes = (all_events new_host (events bytes)).0

pub last_clock_is_the_hosts : LastLineIsClock → LastClockIsTheHosts
last_clock_is_the_hosts last doubts bytes =
    last doubts bytes ∙ ap (option_map clock_text) (sym (all_events new_host (events bytes)).1)
