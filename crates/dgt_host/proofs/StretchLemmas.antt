-- Bytes that a line has altered, between whole messages.
use Rattle.{std.{proofs.Common.{◌≡◌, refl, ap, ◌∙◌, ℕ, List, [], ◌∷◌, ◌++◌, append_assoc, append-nil, rules}, specs.List.{AllByRecursion, flat_map}}, dgt_message.specs.Content.{Content}}
use Rattle.{dgt_message.specs.{Content.{IsMessage}, Encoding.{encoding}}, dgt_decode.specs.{Grammar.{Placed, cut_of, events, shifted, unfinished_message}, Laws.{EncodingIsRead}}}
use Rattle.{dgt_decode.specs.Laws.{EventsAppend, UnfinishedAppend}, dgt_host.specs.Confirmed.{StretchIsOne, message_in, messages}}

pub messages_append : (xs ys : List Placed) → messages (xs ++ ys) ≡ messages xs ++ messages ys
messages_append [] ys = refl
messages_append (x ∷ xs) ys = search (rules, append_assoc, messages_append xs ys)

pub messages_behind : (n : ℕ) (xs : List Placed) → messages (shifted n xs) ≡ messages xs
messages_behind n [] = refl
messages_behind n (x ∷ xs) =
    ap (λ (m : List Content). message_in x.event ++ m) (messages_behind n xs)

no_message : (n : ℕ) (unread : List ℕ) → messages (shifted n (cut_of unread)) ≡ []
no_message n unread = search rules

module _ (read : EncodingIsRead) (later : EventsAppend) (still : UnfinishedAppend) where
  one_more : (bytes : List ℕ) (said : Content) → IsMessage said
      → messages (events (bytes ++ encoding said)) ≡ messages (events bytes) ++ said ∷ []
  one_more bytes said is = search (rules, messages_append, no_message, append-nil)

  many_more : (bytes : List ℕ) (said : List Content) → AllByRecursion IsMessage said
      → messages (events (bytes ++ flat_map encoding said)) ≡ messages (events bytes) ++ said
  many_more bytes [] are = search (rules, append-nil)
  many_more bytes (m ∷ said) are =
      search (rules, append_assoc, one_more, many_more (bytes ++ encoding m) said are.1)

  ends : (bytes : List ℕ) (said : List Content) → unfinished_message bytes ≡ []
      → AllByRecursion IsMessage said → unfinished_message (bytes ++ flat_map encoding said) ≡ []
  ends bytes [] none are = ap unfinished_message (append-nil bytes) ∙ none
  ends bytes (m ∷ said) none are =
      search (rules, append_assoc, ends (bytes ++ encoding m) said (read bytes m are.0).1 are.1)

  -- after whole messages nothing is unfinished, so the next bytes have their own meaning
  by_themselves : (first bytes : List ℕ) → unfinished_message first ≡ []
      → messages (events (first ++ bytes)) ≡ messages (events first) ++ messages (events bytes)
  by_themselves first bytes none = search (rules, messages_append, messages_behind)

  nothing_said : (unfinished_message [] ≡ []) × (messages (events []) ≡ [])
  unfolding events unfinished_message
  nothing_said = (refl, refl)

  pub stretch : StretchIsOne
  stretch before after bytes are_before are_after =
      let nothing_left = ends [] before nothing_said.0 are_before in
      let none = nothing_said.1 in
      search (rules, many_more, by_themselves, many_more [] before are_before)
