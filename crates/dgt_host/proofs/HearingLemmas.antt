-- How a host changes by the events of bytes in chunks.
use Rattle.std.proofs.{Common.{◌≡◌, ◌+◌, Some, refl, ap, ◌∙◌, ℕ, List, [], ◌∷◌, ◌++◌, append_assoc, length, take, drop, append-nil, rules}, Math.Seq.{take-add}}
use Rattle.{std.specs.List.{AllByRecursion, flat_map}, dgt_values.specs.declared.pieces.Piece.{Piece}, dgt_message.specs.{Content.{Content, IsMessage}, Encoding.{encoding}, Picture.{clock_after_all}}}
use Rattle.{dgt_message.specs.Picture.{picture_after_all}, dgt_decode.specs.{Grammar.{Event, Placed, shifted, unfinished_message}, Laws.{EventsAppend, UnfinishedAppend}}}
use Rattle.{dgt_decode.specs.Laws.{UnfinishedIsQuiet, EncodingIsRead}, dgt_host.specs.Host.{HeardInChunks, HostView, host_after, host_after_event, host_after_events, host_after_message}}

host_after_events-append : (host : HostView) (xs ys : List Placed)
    → host_after_events host (xs ++ ys) ≡ host_after_events (host_after_events host xs) ys
host_after_events-append host [] ys = refl
host_after_events-append host (x ∷ xs) ys =
    host_after_events-append (host_after_event host x.event) xs ys

-- the places of events don't matter
pub host_after_events-behind : (host : HostView) (n : ℕ) (xs : List Placed)
    → host_after_events host (shifted n xs) ≡ host_after_events host xs
host_after_events-behind host n [] = refl
host_after_events-behind host n (x ∷ xs) =
    host_after_events-behind (host_after_event host x.event) n xs

host_after_event-unread : (host : HostView) (unread : List ℕ) (event : Event)
    → host_after_event (record host { unread = unread }) event
    ≡ record (host_after_event host event) { unread = unread }
host_after_event-unread host unread event = search rules

-- the bytes that were unread before don't matter
host_after_events-unread : (host : HostView) (before after : List ℕ) (xs : List Placed)
    → record (host_after_events (record host { unread = before }) xs) { unread = after }
    ≡ record (host_after_events host xs) { unread = after }
host_after_events-unread host before after [] = refl
host_after_events-unread host before after (x ∷ xs) =
    ap (λ (h : HostView). record (host_after_events h xs) { unread = after })
    (host_after_event-unread host before x.event)
    ∙ host_after_events-unread (host_after_event host x.event) before after xs

pub heard_in_chunks : EventsAppend → UnfinishedAppend → HeardInChunks
heard_in_chunks later still host bytes more = search (
  rules,
  append_assoc,
  host_after_events-unread,
  host_after_events-behind,
  host_after_events-append,
)

-- a host that hears no bytes
pub nothing_heard : UnfinishedIsQuiet → (host : HostView)
    → unfinished_message host.unread ≡ host.unread → host_after host [] ≡ host
nothing_heard quiet host held = search (rules, append-nil)

-- some more bytes of a chunk
pub heard_more : HeardInChunks → (host before now : HostView) (chunk : List ℕ) (i n : ℕ)
    → before ≡ host_after host (take i chunk) → now ≡ host_after before (take n (drop i chunk))
    → now ≡ host_after host (take (i + n) chunk)
heard_more in_chunks host before now chunk i n e f = search (rules, take-add)

-- ---- Whole messages

module _ (read : EncodingIsRead) where
  -- the output of `encode` for a message is heard as this message, whatever was received before
  pub message_heard : (host : HostView) (bytes : List ℕ) (said : Content) → IsMessage said
      → host_after host (bytes ++ encoding said)
      ≡ record (host_after_message (host_after host bytes) said) { unread = [] }
  message_heard host bytes said is = search (rules, append_assoc, host_after_events-append)

  -- therefore messages in a row are heard one after another
  pub pictures_heard : (host : HostView) (bytes : List ℕ) (said : List Content)
      → AllByRecursion IsMessage said
      → (host_after host (bytes ++ flat_map encoding said)).picture
      ≡ picture_after_all (host_after host bytes).picture said
  pictures_heard host bytes [] are = search rules
  pictures_heard host bytes (m ∷ said) are =
      let rest = pictures_heard host (bytes ++ encoding m) said are.1 in
      search (rules, append_assoc, message_heard)

  pub clocks_heard : (host : HostView) (bytes : List ℕ) (said : List Content)
      → AllByRecursion IsMessage said
      → (host_after host (bytes ++ flat_map encoding said)).clock
      ≡ clock_after_all (host_after host bytes).clock said
  clocks_heard host bytes [] are = search rules
  clocks_heard host bytes (m ∷ said) are =
      let rest = clocks_heard host (bytes ++ encoding m) said are.1 in
      search (rules, append_assoc, message_heard)

  -- a dump that is heard whole sets the picture
  pub dump_repairs : (host : HostView) (bytes : List ℕ) (pieces : List Piece) (said : List Content)
      → length pieces ≡ 64 → AllByRecursion IsMessage said
      → (host_after host (bytes ++ flat_map encoding (Content.dump pieces ∷ said))).picture
      ≡ picture_after_all (Some pieces) said
  dump_repairs host bytes pieces said all are =
      pictures_heard host bytes (Content.dump pieces ∷ said) (all, are)
