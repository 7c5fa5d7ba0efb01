-- How consecutive calls of a follower change its picture.
use Rattle.{std.proofs.Common.{◌≡◌, Bool, true, Option, refl, ℕ, List, [], ◌∷◌, ◌++◌, append_assoc, rules}, dgt_values.specs.declared.pieces.Piece.{Piece}, dgt_message.specs.Content.{Content}}
use Rattle.{dgt_message.specs.Picture.{picture_after, picture_after_all}, dgt_decode.specs.{Grammar.{events, unfinished_message}, Laws.{EventsAppend, UnfinishedAppend, UnfinishedIsQuiet}}}
use Rattle.dgt_host.{specs.Confirmed.{confirmed_after, confirmed_after_all, messages}, proofs.{ConfirmedLemmas.{confirms_more, pictures_append}, StretchLemmas.{messages_append, messages_behind}}}
use Rattle.dgt_follow.specs.{Calls.{Hears, Asks, ConfirmedOverCalls, bytes_heard, follower_after_call, follower_after_calls, follower_asking}, Follower.{AskingsConfirmNothing, ConfirmedAsHeard}}
use Rattle.dgt_follow.specs.{Follower.{FollowerView, asking_of, follower_after}, declared.asking.Asking.{Asking}}

confirmed_append : (confirmed : Bool) (picture : Option (List Piece)) (said more : List Content)
    → confirmed_after_all confirmed picture (said ++ more) ≡ confirmed_after_all
    (confirmed_after_all confirmed picture said) (picture_after_all picture said) more
confirmed_append confirmed picture [] more = refl
confirmed_append confirmed picture (m ∷ said) more =
    confirmed_append (confirmed_after confirmed picture m) (picture_after picture m) said more

-- the picture, and how it is confirmed, of messages that were heard
abbrev Made : FollowerView → FollowerView → List Content → Type 0
Made before after said = (after.host.picture ≡ picture_after_all before.host.picture said)
    × (after.pace.confirmed ≡ true
    → confirmed_after_all before.pace.confirmed before.host.picture said ≡ true)

-- a call that hears nothing
abbrev Keeps : FollowerView → FollowerView → Type 0
Keeps before after =
    (after.host.picture ≡ before.host.picture) × (after.host.unread ≡ before.host.unread)
    × (after.pace.confirmed ≡ true → before.pace.confirmed ≡ true)

asking_keeps : AskingsConfirmNothing → (what : Asking) (f : FollowerView) (now : ℕ)
    → Keeps f (follower_asking what f now)
asking_keeps none what f now = search rules

module _ (later : EventsAppend) (still : UnfinishedAppend) (quiet : UnfinishedIsQuiet)
    (heard : ConfirmedAsHeard) (none : AskingsConfirmNothing) where
  nothing_more : (unread : List ℕ) → unfinished_message unread ≡ unread
      → messages (events (unread ++ [])) ≡ []
  nothing_more unread held = search rules

  -- the messages heard after some bytes
  joined : (f between after : FollowerView) (bytes more : List ℕ)
      → between.host.unread ≡ unfinished_message (f.host.unread ++ bytes)
      → Made f between (messages (events (f.host.unread ++ bytes)))
      → Made between after (messages (events (between.host.unread ++ more)))
      → Made f after (messages (events (f.host.unread ++ (bytes ++ more))))
  joined f between after bytes more unread first next = search (
    rules,
    append_assoc,
    pictures_append,
    confirmed_append,
    confirms_more,
    messages_append,
    messages_behind,
  )

  kept : (f between after : FollowerView) (bytes : List ℕ) → Keeps f between
      → Made between after (messages (events (between.host.unread ++ bytes)))
      → Made f after (messages (events (f.host.unread ++ bytes)))
  kept f between after bytes (picture, unread, less) next = search (rules, confirms_more)

  pub over_calls : ConfirmedOverCalls
  over_calls f [] held = search (rules, nothing_more)
  over_calls f (Hears now bytes ∷ more) held =
      joined f (follower_after f now bytes) (follower_after_calls (follower_after f now bytes) more)
      bytes (bytes_heard more) refl (heard f now bytes)
      (over_calls (follower_after f now bytes) more (quiet.stays (f.host.unread ++ bytes)))
  over_calls f (Asks now ∷ more) held =
      let keeps = asking_keeps none (asking_of f now) f now in
      let between : FollowerView = follower_after_call f (Asks now) in
      kept f between (follower_after_calls between more) (bytes_heard more) keeps
      (over_calls between more (rw (keeps.1) held))
  over_calls f (call ∷ more) held =
      search (rules, confirms_more, over_calls (follower_after_call f call) more held)
