-- How a follower changes by the events of bytes in chunks.
use Rattle.std.proofs.{Common.{◌≡◌, ◌+◌, Option, Bool, is_some, option_map, refl, ap, ◌∙◌, ℕ, List, [], ◌∷◌, ◌++◌, append_assoc, take, drop, rules}, Math.Seq.{take-add}}
use Rattle.{std.proofs.lemmas.List.{take_all}, dgt_decode.specs.{Feeding.{FirstEvent}, Grammar.{Event, Placed, events, shifted, unfinished_message}, Laws.{EventsAppend, UnfinishedAppend}}}
use Rattle.{dgt_values.specs.declared.{kinds.Kind.{Kind}, pieces.Piece.{Piece}}, dgt_host.specs.Host.{HostView, host_after, host_after_events}, dgt_follow.specs.Follower.{FollowedInChunks}}
use Rattle.dgt_follow.specs.{Follower.{FollowerView, follower_after, follower_after_event, follower_after_events, follower_hearing, following, with_unfinished, with_unread}, Pace.{KeepsCount}}
use Rattle.dgt_follow.specs.{Noting.{pace_after_event_if_any}, Pace.{PaceView, unfinished_by}}

follower_after_events-append : (f : FollowerView) (now : ℕ) (xs ys : List Placed)
    → follower_after_events f now (xs ++ ys)
    ≡ follower_after_events (follower_after_events f now xs) now ys
follower_after_events-append f now [] ys = refl
follower_after_events-append f now (x ∷ xs) ys =
    follower_after_events-append (follower_after_event f now x.event) now xs ys

-- the places of the events don't matter
follower_after_events-behind : (f : FollowerView) (now n : ℕ) (xs : List Placed)
    → follower_after_events f now (shifted n xs) ≡ follower_after_events f now xs
follower_after_events-behind f now n [] = refl
follower_after_events-behind f now n (x ∷ xs) =
    follower_after_events-behind (follower_after_event f now x.event) now n xs

-- a part that is restored after them, and that none of them reads, doesn't matter
follower_after_events-part : {X : Type 0} (put : FollowerView → X → FollowerView)
    → ((f : FollowerView) (first last : X) → put (put f first) last ≡ put f last)
    → ((f : FollowerView) (now : ℕ) (x : X) (event : Event)
    → follower_after_event (put f x) now event ≡ put (follower_after_event f now event) x)
    → (f : FollowerView) (now : ℕ) (before after : X) (xs : List Placed)
    → put (follower_after_events (put f before) now xs) after
    ≡ put (follower_after_events f now xs) after
follower_after_events-part put last same f now before after [] = last f before after
follower_after_events-part put last same f now before after (x ∷ xs) =
    rw (same f now before x.event)
    (follower_after_events-part put last same (follower_after_event f now x.event) now before after
    xs)

-- the events of two chunks, one after the other
both : EventsAppend → (f : FollowerView) (now : ℕ) (s more : List ℕ)
    → follower_after_events (follower_after_events f now (events s)) now
    (events (unfinished_message s ++ more)) ≡ follower_after_events f now (events (s ++ more))
both later f now s more = search (rules, follower_after_events-behind, follower_after_events-append)

in_two : EventsAppend → UnfinishedAppend → (f : FollowerView) (now : ℕ) (s more whole : List ℕ)
    → s ++ more ≡ whole
    → with_unread
    (follower_after_events
    (with_unread (follower_after_events f now (events s)) (unfinished_message s)) now
    (events (unfinished_message s ++ more))) (unfinished_message (unfinished_message s ++ more))
    ≡ with_unread (follower_after_events f now (events whole)) (unfinished_message whole)
in_two later still f now s more whole e =
    follower_after_events-part with_unread (λ f first last. refl)
    (λ f now unread event. search rules) (follower_after_events f now (events s)) now
    (unfinished_message s) _ (events (unfinished_message s ++ more))
    ∙ cc (both later f now s more, still s more)

-- ---- whether a message was unfinished before doesn't matter

hearing-unfinished : (f : FollowerView) (now : ℕ) (before after : Option ℕ) (bytes : List ℕ)
    → with_unfinished (follower_hearing (with_unfinished f before) now bytes) after
    ≡ with_unfinished (follower_hearing f now bytes) after
hearing-unfinished f now before after bytes =
    ap (λ (g : FollowerView). with_unread g (unfinished_message (f.host.unread ++ bytes)))
    (follower_after_events-part with_unfinished (λ f first last. refl)
    (λ f now unfinished event. search rules) f now before after
    (events (f.host.unread ++ bytes)))

hearing_in_two : EventsAppend → UnfinishedAppend
    → (f : FollowerView) (now : ℕ) (bytes more : List ℕ)
    → follower_hearing (follower_hearing f now bytes) now more
    ≡ follower_hearing f now (bytes ++ more)
hearing_in_two later still f now bytes more = search (rules, in_two, append_assoc)

pub followed_in_chunks : EventsAppend → UnfinishedAppend → FollowedInChunks
followed_in_chunks later still f now bytes more =
    let first = unfinished_message (f.host.unread ++ bytes) in
    let before = unfinished_by f.pace.unfinished now bytes first in
    let after = unfinished_by before now more (unfinished_message (first ++ more)) in
    let forgotten = hearing-unfinished (follower_hearing f now bytes) now before after more in
    let joined = hearing_in_two later still f now bytes more in
    search (rules, append_assoc)

-- some more bytes of a chunk
pub heard_more : FollowedInChunks
    → (f before after : FollowerView) (now : ℕ) (chunk : List ℕ) (i n : ℕ)
    → before ≡ follower_after f now (take i chunk)
    → after ≡ follower_after before now (take n (drop i chunk))
    → after ≡ follower_after f now (take (i + n) chunk)
heard_more in_chunks f before after now chunk i n e g = search (rules, take-add)

-- ---- one call

-- no event says whether a message is unfinished
pub same_unfinished : (pace : PaceView) (now : ℕ) (awaited : List Kind)
    (picture : Option (List Piece)) (event : Option Event)
    → (pace_after_event_if_any pace now awaited picture event).unfinished ≡ pace.unfinished
same_unfinished pace now awaited picture event = search rules

-- the host after a call, with the pace's record of the event and of the bytes, is the follower
-- after it
pub heard_once : (host : HostView) (pace : PaceView) (now used : ℕ) (chunk : List ℕ)
    (event : Option Event) → FirstEvent host.unread chunk used event
    → with_unfinished
    (following (host_after host (take used chunk))
    (pace_after_event_if_any pace now host.awaited host.picture event))
    (unfinished_by pace.unfinished now (take used chunk)
    (unfinished_message (host.unread ++ take used chunk)))
    ≡ follower_after (following host pace) now (take used chunk)
heard_once host pace now used chunk event first = search (rules, take_all)

-- ---- the effect on the host and on the counts

host_of_events : (f : FollowerView) (now : ℕ) (xs : List Placed)
    → (follower_after_events f now xs).host ≡ host_after_events f.host xs
host_of_events f now [] = refl
host_of_events f now (x ∷ xs) = host_of_events (follower_after_event f now x.event) now xs

pub host_of_heard : (f : FollowerView) (now : ℕ) (bytes : List ℕ)
    → (follower_after f now bytes).host ≡ host_after f.host bytes
host_of_heard f now bytes = search (rules, host_of_events)

counts_of_events : (f : FollowerView) (now : ℕ) (xs : List Placed)
    → KeepsCount f.pace (follower_after_events f now xs).pace
counts_of_events f now [] = assumption
counts_of_events f now (x ∷ xs) =
    assumption (counts_of_events (follower_after_event f now x.event) now xs)

pub counts_of_heard : (f : FollowerView) (now : ℕ) (bytes : List ℕ)
    → KeepsCount f.pace (follower_after f now bytes).pace
counts_of_heard f now bytes = assumption (counts_of_events f now (events (f.host.unread ++ bytes)))

-- a value exists if its view exists
pub is_some_seen : {A B : Type 0} (see : A → B) (value : Option A) (seen : Option B) (known : Bool)
    → known ≡ is_some value → option_map see value ≡ seen → known ≡ is_some seen
is_some_seen see value seen known e same = search rules
