-- What a follower records of the messages that it hears.
use Rattle.{std.proofs.Common.{◌≡◌, true, refl, ℕ, List, [], ◌∷◌, ◌++◌, rules}, dgt_message.specs.{Content.{Content}, Picture.{picture_after_all}}, dgt_decode.specs.Grammar.{Event, Placed, events}}
use Rattle.{dgt_host.{specs.Confirmed.{confirmed_after_all, message_in, messages}, proofs.ConfirmedLemmas.{confirms_more}}, dgt_follow.specs.Follower.{AskingsConfirmNothing, ConfirmedAsHeard}}
use Rattle.dgt_follow.specs.Follower.{FollowerView, follower_after_event, follower_after_events}

Heard : FollowerView → FollowerView → List Content → Type 0
Heard before after said = (after.host.picture ≡ picture_after_all before.host.picture said)
    × (after.pace.confirmed ≡ true
    → confirmed_after_all before.pace.confirmed before.host.picture said ≡ true)

one_event : (f after : FollowerView) (now : ℕ) (event : Event) (more : List Content)
    → Heard (follower_after_event f now event) after more → Heard f after (message_in event ++ more)
unfolding Heard
one_event f after now event more heard = search (rules, confirms_more)

heard_events : (f : FollowerView) (now : ℕ) (xs : List Placed)
    → Heard f (follower_after_events f now xs) (messages xs)
unfolding Heard
heard_events f now [] = (refl, λ e. e)
heard_events f now (x ∷ xs) =
    one_event f (follower_after_events f now (x ∷ xs)) now x.event (messages xs)
    (heard_events (follower_after_event f now x.event) now xs)

pub as_heard : ConfirmedAsHeard
unfolding Heard
as_heard follower now bytes = heard_events follower now (events (follower.host.unread ++ bytes))

pub confirm_nothing : AskingsConfirmNothing
confirm_nothing = search rules
