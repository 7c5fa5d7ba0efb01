-- What a host hears of consecutive messages, in whatever parts.
use Rattle.{std.{proofs.Common.{◌≡◌, refl, sym, ap, ◌⊎◌, inl, inr, ℕ, ◌+◌, List, [], ◌∷◌, ◌++◌, length, rules}, specs.{List.{flat_map}, Prelude.{map}}}, dgt_message.specs.Content.{Content}}
use Rattle.{dgt_message.specs.{Content.{IsMessage}, Encoding.{encoding}}, dgt_decode.specs.Grammar.{Event, Message, Placed, at_place, events, shifted, unfinished_message}}
use Rattle.{dgt_decode.proofs.Division.{nil_raised}, dgt_host.specs.Host.{HostView, host_after_events, host_after_message}, dgt_link.specs.{Readers.{Reads}, Stands.{AreEncoded}}}
use Rattle.dgt_link.proofs.Lists.{IsShorter, Reaches, prefixes, left_empty, not_empty, right_empty}

-- no bytes complete no event, and hold nothing
no_events : events [] ≡ []
unfolding events
no_events = refl

pub nothing_unfinished : unfinished_message [] ≡ []
unfolding unfinished_message
nothing_unfinished = refl

-- the host after messages
abbrev pub host_after_messages : HostView → List Content → HostView
host_after_messages host [] = host
host_after_messages host (message ∷ messages) =
    host_after_messages (host_after_message host message) messages

-- the events, at whatever places
abbrev pub known : List Placed → List Event
known xs = map (λ x. x.event) xs

known_behind : (n : ℕ) (xs : List Placed) → known (shifted n xs) ≡ known xs
known_behind n [] = refl
known_behind n (x ∷ xs) = ap (λ (more : List Event). x.event ∷ more) (known_behind n xs)

-- the effect of events that are messages on a host
pub heard_of : (xs : List Placed) (messages : List Content) → known xs ≡ map Message messages
    → (host : HostView) → host_after_events host xs ≡ host_after_messages host messages
heard_of [] [] e host = refl
heard_of (x ∷ xs) (message ∷ messages) e host =
    search (rules, heard_of xs messages (cc e) (host_after_message host message))
heard_of [] (message ∷ messages) e host = cc
heard_of (x ∷ xs) [] e host = cc

module _ (reads : Reads) where
  -- a single message
  read_alone : (message : Content) → IsMessage message
      → events (encoding message) ≡ at_place (0 + length (encoding message)) (Message message) ∷ []
  read_alone message is = rw (no_events, nothing_unfinished) at (reads.encoding [] message is).0

  pub held_alone : (message : Content) → IsMessage message
      → unfinished_message (encoding message) ≡ []
  held_alone message is = (reads.encoding [] message is).1

  -- after bytes with an event, the rest of a message completes none
  nothing_more : (prefix rest : List ℕ) (x y : Placed) (xs : List Placed) → events prefix ≡ x ∷ xs
      → events (prefix ++ rest) ≡ y ∷ [] → events (unfinished_message prefix ++ rest) ≡ []
  nothing_more prefix rest x y xs e whole = search (rules, nil_raised, right_empty)

  -- a part of a message completes no event, and all of it is held
  prefix_waits : (word prefix more : List ℕ) (next : ℕ) (y : Placed) → events word ≡ y ∷ []
      → unfinished_message word ≡ []
      → word ≡ prefix ++ next ∷ more → (events prefix ≡ []) × (unfinished_message prefix ≡ prefix)
  prefix_waits word prefix more next y read held e = go (events prefix) refl
    where
      go : (es : List Placed) → events prefix ≡ es
          → (events prefix ≡ []) × (unfinished_message prefix ≡ prefix)
      go [] f = (f, reads.quiet_held prefix f)
      go (x ∷ xs) f = search (rules, nothing_more, not_empty)

  -- the messages in a prefix of messages in a row, and the rest of them
  pub record IsPrefix (prefix more : List ℕ) (messages : List Content) : Type 0 where
    pub heard : List Content
    pub left : List Content
    pub all : messages ≡ heard ++ left
    pub known : known (events prefix) ≡ map Message heard
    pub encoded : AreEncoded left (unfinished_message prefix ++ more)

  -- one message, and a prefix of those after it
  after_message : (word prefix others : List ℕ) (n : ℕ) (message : Content) (heard : List Content)
      → events word ≡ at_place n (Message message) ∷ [] → unfinished_message word ≡ []
      → prefix ≡ word ++ others → known (events others) ≡ map Message heard
      → known (events prefix) ≡ Message message ∷ map Message heard
  after_message word prefix others n message heard read held e more = search (rules, known_behind)

  pub heard_prefix : (prefix more : List ℕ) (messages : List Content)
      → AreEncoded messages (prefix ++ more) → IsPrefix prefix more messages
  heard_prefix prefix more [] encoded = search (rules, left_empty, no_events, right_empty)
  heard_prefix prefix more (message ∷ messages) encoded =
      go (λ others f. heard_prefix others more messages
      (record { are_messages = encoded.are_messages.1; in_a_row = sym f }))
      (prefixes prefix more (encoding message) (flat_map encoding messages) encoded.in_a_row)
    where
      read : events (encoding message)
          ≡ at_place (0 + length (encoding message)) (Message message) ∷ []
      read = read_alone message encoded.are_messages.0

      held : unfinished_message (encoding message) ≡ []
      held = held_alone message encoded.are_messages.0

      go : ((others : List ℕ) → flat_map encoding messages ≡ others ++ more
          → IsPrefix others more messages)
          → IsShorter prefix (encoding message)
          ⊎ Reaches prefix more (encoding message) (flat_map encoding messages)
          → IsPrefix prefix more (message ∷ messages)
      go on (inl (next, others, e)) =
          let waits = prefix_waits (encoding message) prefix others next _ read held e in
          record {
            heard = [];
            left = message ∷ messages;
            all = refl;
            known = rw waits.0 refl;
            encoded = rw waits.1 encoded;
          }
      go on (inr (others, e, f)) =
          let rest = on others f in
          record {
            heard = message ∷ rest.heard;
            left = rest.left;
            all = ap (λ (list : List Content). message ∷ list) rest.all;
            known = after_message (encoding message) prefix others _ message rest.heard read held e
                rest.known;
            encoded = rw (e, reads.unfinished_append (encoding message) others, held) rest.encoded;
          }
