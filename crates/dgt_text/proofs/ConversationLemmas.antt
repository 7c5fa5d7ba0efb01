-- Conversations of a board.
use Rattle.std.proofs.Common.{◌≡◌, ℕ, ◌<◌, ◌≤◌, suc, zero, List, [], ◌∷◌, ◌++◌, Option, Some, None, refl, sym, ◌∙◌, ap, subst, length, arith, append_assoc, append-nil, rules}
use Rattle.{std.proofs.{lemmas.{List.{append_cancel_left}, Option.{none-some, same_Some}}, Math.ListN.{length-set}}, dgt_message.specs.Content.{Content}, dgt_command.specs.Content.{EventContent}}
use Rattle.{dgt_command.specs.{Encoding.{AreBytes}, Laws.{DivisionsAppend, EachDividesOnce, PrefixesDivideFirst}, Words.{IsWord, IsPartial}}, dgt_board.specs.Sending.{after_sending, left_to_send}}
use Rattle.{dgt_board.specs.{Sending.{next_message}, State.{BoardState, effect}, View.{BoardView, after_bytes}}, dgt_text.specs.Conversation.{Exchange, sent, heard, Converses, events_heard}}
use Rattle.dgt_text.specs.Conversation.{bytes_sent, Hears, HearsPrefix, EachIsAnswered, EachIsAnsweredOnce, EachPrefixGoesOn}

-- ---- steps in a row

pub converses-append : (b : BoardState) (s t : List Exchange) (c d : BoardState) → Converses b s c
    → Converses c t d → Converses b (s ++ t) d
converses-append b [] t c d p q = subst (λ x. Converses x t d) (sym p) q
converses-append b (sent message ∷ s) t c d p q =
    (p.0, converses-append (after_sending b message) s t c d p.1 q)
converses-append b (heard event ∷ s) t c d p q =
    (p.0, converses-append (effect b event) s t c d p.1 q)

pub events_heard-append : (s t : List Exchange)
    → events_heard (s ++ t) ≡ events_heard s ++ events_heard t
events_heard-append [] t = refl
events_heard-append (step ∷ s) t = search (rules, events_heard-append s t)

pub bytes_sent-append : (s t : List Exchange) → bytes_sent (s ++ t) ≡ bytes_sent s ++ bytes_sent t
bytes_sent-append [] t = refl
bytes_sent-append (step ∷ s) t = search (rules, append_assoc, bytes_sent-append s t)

pub hears_then : DivisionsAppend
    → (old mid new : BoardView) (s t : List ℕ) (steps more : List Exchange) → Hears old s steps mid
    → Hears mid t more new → Hears old (s ++ t) (steps ++ more) new
hears_then append old mid new s t steps more p q =
    search (rules, converses-append, events_heard-append, append_assoc)

pub prefix_then : DivisionsAppend
    → (old mid new : BoardView) (s t : List ℕ) (steps more : List Exchange) → Hears old s steps mid
    → HearsPrefix mid t more new → HearsPrefix old (s ++ t) (steps ++ more) new
prefix_then append old mid new s t steps more p q = record {
  prefix = s ++ q.prefix;
  rest = q.rest;
  whole = ap (λ (l : List ℕ). s ++ l) q.whole ∙ sym (append_assoc s q.prefix q.rest);
  hears = hears_then append old mid new s q.prefix steps more p q.hears;
}

pub prefix_longer : (old new : BoardView) (s t : List ℕ) (steps : List Exchange)
    → HearsPrefix old s steps new → HearsPrefix old (s ++ t) steps new
prefix_longer old new s t steps p = search (rules, append_assoc)

pub prefix_whole : (old new : BoardView) (s : List ℕ) (steps : List Exchange)
    → Hears old s steps new → HearsPrefix old s steps new
prefix_whole old new s steps p = search (rules, append-nil)

-- ---- one step

-- a message is reported
pub converses-sent : (old mid new : BoardState) (steps : List Exchange) (message : Content)
    → Converses old steps mid → next_message mid ≡ Some message → new ≡ after_sending mid message
    → Converses old (steps ++ sent message ∷ []) new
converses-sent old mid new steps message p next is = search (rules, converses-append)

-- messages hear nothing
pub hears_nothing : (old new : BoardView) (steps : List Exchange)
    → Converses old.state steps new.state → events_heard steps ≡ [] → new.partial ≡ old.partial
    → IsPartial new.partial → Hears old [] steps new
hears_nothing old new steps p none is partial = search (rules, append-nil)

-- bytes that end a word
pub hears_word : IsPartial [] → (old new : BoardView) (bytes : List ℕ) (event : EventContent)
    → next_message old.state ≡ None → IsWord event (old.partial ++ bytes)
    → new ≡ after_bytes old bytes (Some event) → Hears old bytes (heard event ∷ []) new
hears_word nothing old new bytes event none word is = search (rules, append-nil)

-- bytes that end none
pub hears_part : (old new : BoardView) (bytes : List ℕ) → IsPartial (old.partial ++ bytes)
    → new ≡ after_bytes old bytes None → Hears old bytes [] new
hears_part old new bytes partial is = search rules

-- ---- each board answers

-- a board with all its squares
record IsWhole (board : BoardState) : Type 0 where
  pub squares : length board.squares ≡ 64
  pub reported_squares : length board.reported_squares ≡ 64

whole_after_sending : (board : BoardState) (message : Content) → IsWhole board
    → IsWhole (after_sending board message)
whole_after_sending board message whole =
    record { squares = whole.squares; reported_squares = search (rules, length-set) }

abbrev Lowers : Type 0
Lowers = (board : BoardState) (message : Content) → length board.reported_squares ≡ 64
    → next_message board ≡ Some message
    → left_to_send (after_sending board message) < left_to_send board

-- a board hears these events and reports all that there is to report
record GoesOn (board : BoardState) (events : List EventContent) : Type 0 where
  pub steps : List Exchange
  pub after : BoardState
  pub whole : IsWhole after
  pub conversation : Converses board steps after
  pub settled : next_message after ≡ None
  pub heard : events_heard steps ≡ events

sends_first : (board : BoardState) (next : Option Content) → next_message board ≡ next
    → IsWhole board → ((message : Content) → next_message board ≡ Some message
    → GoesOn (after_sending board message) []) → GoesOn board []
sends_first board None is whole rest = search rules
sends_first board (Some message) is whole rest =
    let more = rest message is in
    record {
      steps = sent message ∷ more.steps;
      after = more.after;
      whole = more.whole;
      conversation = (is, more.conversation);
      settled = more.settled;
      heard = more.heard;
    }

sends_all : Lowers → (n : ℕ) (board : BoardState) → IsWhole board → left_to_send board ≤ n
    → GoesOn board []
sends_all lowers zero board whole few = search (rules, sends_first)
sends_all lowers (suc n) board whole few = sends_first board (next_message board) refl whole
    (λ message is. let less = lowers board message whole.reported_squares is in sends_all lowers n
    (after_sending board message) (whole_after_sending board message whole)
    (omega (arith, less, few)))

goes_on : Lowers → (board : BoardState) (events : List EventContent) → IsWhole board
    → GoesOn board events
goes_on lowers board [] whole = sends_all lowers (left_to_send board) board whole (omega arith)
goes_on lowers board (event ∷ events) whole =
    let first = sends_all lowers (left_to_send board) board whole (omega arith) in
    let squares = first.whole in
    let more = goes_on lowers (effect first.after event) events (search rules) in
    record {
      steps = first.steps ++ heard event ∷ more.steps;
      after = more.after;
      whole = more.whole;
      conversation = search (rules, converses-append);
      settled = more.settled;
      heard = search (rules, events_heard-append);
    }

pub each_is_answered : EachDividesOnce
    → ((rest more : List ℕ) → IsPartial rest → AreBytes more → AreBytes (rest ++ more)) → Lowers
    → EachIsAnswered
each_is_answered divisions are_all_bytes lowers before bytes board are =
    let found =
    divisions.0 (before.partial ++ bytes) (are_all_bytes before.partial bytes board.partial are) in
    let talk = goes_on lowers before.state found.0
    (record { squares = board.squares; reported_squares = board.reported_squares }) in (
      talk.steps,
      record { state = talk.after; partial = found.1 },
      search rules,
    )

-- ---- and in one way

-- others are the steps, and then a conversation between the boards
abbrev Continues : List Exchange → List Exchange → BoardState → BoardState → Type 0
Continues steps others between after =
    (more : List Exchange) × (others ≡ steps ++ more) × Converses between more after

-- a conversation that ends with nothing to report goes on from each that hears the first of its
-- events
follows : (board between after : BoardState) (steps others : List Exchange)
    (events : List EventContent) → Converses board steps between → Converses board others after
    → next_message after ≡ None → events_heard others ≡ events_heard steps ++ events
    → Continues steps others between after
follows board between after [] others events p q settled is =
    (others, refl, subst (λ x. Converses x others after) p q)
follows board between after (sent message ∷ steps) (sent later ∷ others) events p q settled is =
    let same : later ≡ message = same_Some later message (sym q.0 ∙ p.0) in
    let rest = follows (after_sending board message) between after steps others events p.1
    (rw same at q.1) settled is in
    search rules
follows board between after (heard event ∷ steps) (heard later ∷ others) events p q settled is =
    let same : later ≡ event = cc in
    let left : events_heard others ≡ events_heard steps ++ events = cc in
    let rest = follows (effect board event) between after steps others events p.1 (rw same at q.1)
    settled left in
    search rules
follows board between after steps others events p q settled is = search (rules, none-some)

pub each_prefix_goes_on : PrefixesDivideFirst → EachPrefixGoesOn
each_prefix_goes_on prefixes before between after bytes steps others prefix answers =
    search (rules, append_assoc, follows)

-- a settled board says no more to events that it doesn't hear
nothing_more : (board after : BoardState) (steps : List Exchange) → next_message board ≡ None
    → Converses board steps after → events_heard steps ≡ [] → (steps ≡ []) × (board ≡ after)
nothing_more board after [] settled p none = (refl, p)
nothing_more board after (step ∷ steps) settled p none = search (rules, none-some)

pub each_is_answered_once : EachDividesOnce → EachIsAnsweredOnce
each_is_answered_once divisions before after other bytes steps others p q =
    let same = divisions.1 (before.partial ++ bytes) (events_heard steps)
    (events_heard others) after.partial other.partial p.hears.heard q.hears.heard in
    let rest = follows before.state after.state other.state steps others [] p.hears.conversation
    q.hears.conversation q.settled (sym same.0 ∙ sym (append-nil (events_heard steps))) in
    let none : [] ≡ events_heard rest.0 = append_cancel_left (events_heard steps) [] _
    (append-nil _ ∙ same.0 ∙ ap events_heard rest.1 ∙ events_heard-append steps rest.0) in
    let last = nothing_more after.state other.state rest.0 p.settled rest.2 (sym none) in (
      sym (rest.1 ∙ ap (λ (l : List Exchange). steps ++ l) last.0 ∙ append-nil steps),
      views after other last.1 same.1,
    )
  where
    views : (a b : BoardView) → a.state ≡ b.state → a.partial ≡ b.partial → a ≡ b
    views a b h k = search rules
