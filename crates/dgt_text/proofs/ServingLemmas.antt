-- The text of a board's conversation in a sink.
use Rattle.std.proofs.Common.{◌≡◌, ℕ, ◌+◌, ◌-◌, ◌≤◌, List, [], ◌∷◌, ◌++◌, Option, Some, None, Result, Ok, Err, IsErrAnd, refl, ◌∙◌, ap, append_assoc, append-nil, length, take, drop, arith, true}
use Rattle.std.proofs.{Common.{false, is_some, IfSome, IfNone, option_map, rules}, KnownBytes.{Appends-trans, Consumes-trans}, Math.Seq.{take-add, take-append_seam}, lemmas.Grind.{common_steps}}
use Rattle.{std.{proofs.lemmas.List.{take-append-drop, take_all, take_rest}, specs.Io.KnownBytes.{Consumes}}, dgt_message.specs.{Content.{Content}, Encoding.{encoding}}}
use Rattle.{dgt_command.specs.{Content.{EventContent}, Laws.{DivisionsAppend}, Words.{IsWord, IsPartial}}, dgt_board.specs.{Sending.{after_sending, next_message}, View.{Polls, BoardView}}}
use Rattle.{dgt_board.specs.{View.{after_bytes}, declared.sending.Polled.{Polled}}, dgt_lines.specs.{Turns.{Ran, change, InTurns}, Writing.{Wrote, Stopped, Writes, InARow}}}
use Rattle.{dgt_lines.proofs.TurnLemmas.{BetweenReads}, dgt_text.specs.{Conversation.{Exchange, sent, heard, Converses, events_heard, bytes_sent, Hears}, Serving.{IsAlmostSent, IsServed, Served}}}
use Rattle.dgt_text.{specs.{Serving.{Halted, Serves}, Simulating.{part}}, proofs.ConversationLemmas.{events_heard-append, bytes_sent-append, converses-sent, hears_then, hears_nothing, hears_word}}
use Rattle.dgt_text.proofs.ConversationLemmas.{hears_part, prefix_then, prefix_longer, prefix_whole}
use Rattle.dgt_lines.specs.declared.{faults.RunFault.{RunFault}, streams.{Sink.{Ghosts as Sink}, Source.{Ghosts as Source}}, faults.RunFault.TheVariants.{WriteFailed}}

-- ---- chunks

-- n more bytes of a chunk
pub chunk_more : (chunk : List ℕ) (i n : ℕ)
    → take (i + n) chunk ≡ take i chunk ++ take n (take (length chunk - i) (drop i chunk))
chunk_more chunk i n = rw take_rest (take-add i n chunk)

pub chunk_rest : (chunk : List ℕ) (i n : ℕ)
    → (take i chunk ++ take n (take (length chunk - i) (drop i chunk))) ++ drop (i + n) chunk
    ≡ chunk
chunk_rest chunk i n = rw (← chunk_more chunk i n) (take-append-drop (i + n) chunk)

-- ---- calls of the board

-- a message that was sent into the beginning of a slice
pub record HasSent (before after : BoardView) (count : ℕ) (out : List ℕ) : Type 0 where
  pub message : Content
  pub next : next_message before.state ≡ Some message
  pub state : after ≡ record before { state = after_sending before.state message }
  pub bytes : take count out ≡ encoding message

pub has_sent : (before after : BoardView) (count : ℕ) (old out : List ℕ)
    → Polls (Polled.Wrote count) (next_message before.state) before after old out
    → HasSent before after count out
has_sent before after count old out = go (next_message before.state) refl
  where
    go : (next : Option Content) → next_message before.state ≡ next
        → Polls (Polled.Wrote count) next before after old out → HasSent before after count out
    go next is p = search (rules, take-append_seam)

-- bytes that ended a word
pub hears_some : {E : Type 0} → IsPartial []
    → (content : E → EventContent) (before after : BoardView) (bytes : List ℕ) (event : Option E)
    → next_message before.state ≡ None → true ≡ is_some event
    → IfSome event (λ e. IsWord (content e) (before.partial ++ bytes))
    → after ≡ after_bytes before bytes (option_map content event)
    → (found : EventContent) × Hears before bytes (heard found ∷ []) after
hears_some nothing content before after bytes event settled some word is =
    search (rules, hears_word)

-- bytes that ended none, and so are all of the chunk
pub hears_none : {E : Type 0} (content : E → EventContent) (before after : BoardView)
    (chunk : List ℕ) (used : ℕ) (event : Option E) → false ≡ is_some event
    → IfNone event ((used ≡ length chunk) × IsPartial (before.partial ++ chunk))
    → after ≡ after_bytes before (take used chunk) (option_map content event)
    → IsPartial (before.partial ++ take used chunk)
    × (after ≡ after_bytes before (take used chunk) None)
hears_none content before after chunk used event none part is = search (rules, take_all)

-- ---- what was written

-- all but the last step was written, and a prefix of what that reported
pub almost_sent : (before last : List Exchange) (prefix rest : List ℕ) → length last ≤ 1
    → bytes_sent last ≡ prefix ++ rest → IsAlmostSent (before ++ last) (bytes_sent before ++ prefix)
almost_sent before last prefix rest one is = record {
  before = before;
  last = last;
  whole = refl;
  one = one;
  sure = (prefix, refl);
  prefix = (rest, search (rules, append_assoc, bytes_sent-append));
}

almost_sent_then : (steps more : List Exchange) (out : List ℕ) → IsAlmostSent more out
    → IsAlmostSent (steps ++ more) (bytes_sent steps ++ out)
almost_sent_then steps more out p = record {
  before = steps ++ p.before;
  last = p.last;
  whole = search (rules, append_assoc);
  one = p.one;
  sure = search (rules, append_assoc, bytes_sent-append);
  prefix = search (rules, bytes_sent-append, append_assoc);
}

-- the board sent some of what it had to send, and took nothing
pub record Sent {S : Type 0} (W : Sink S) (before after : BoardView) (old new : S) : Type 0 where
  pub steps : List Exchange
  pub conversation : Converses before.state steps after.state
  pub none_heard : events_heard steps ≡ []
  pub partial : after.partial ≡ before.partial
  pub wrote : Wrote W old new (bytes_sent steps)

module _ {S : Type 0} (W : Sink S) where
  pub sent_more : InARow W → (old mid new : BoardView) (a b c : S) (message : Content)
      → Sent W old mid a b → next_message mid.state ≡ Some message
      → new ≡ record mid { state = after_sending mid.state message }
      → Wrote W b c (encoding message) → Sent W old new a c
  sent_more row old mid new a b c message p next is q = record {
    steps = p.steps ++ sent message ∷ [];
    conversation = search (rules, converses-sent);
    none_heard = search (rules, events_heard-append);
    partial = ap (λ (v : BoardView). v.partial) is ∙ p.partial;
    wrote = grind (arith, common_steps, bytes_sent-append, append-nil);
  }

  -- the sink refused a message
  pub sent_halts : (old mid new : BoardView) (a b c : S) (message : Content) → Sent W old mid a b
      → IsPartial mid.partial → next_message mid.state ≡ Some message
      → new ≡ record mid { state = after_sending mid.state message }
      → Stopped W b c (encoding message) → Halted W old new a c []
  sent_halts old mid new a b c message p partial next is q =
      let steps = p.steps ++ sent message ∷ [] in
      let conversation =
      converses-sent old.state mid.state new.state p.steps message p.conversation next
      (ap (λ (v : BoardView). v.state) is) in
      let none : events_heard steps ≡ [] = search (rules, events_heard-append) in
      let same : new.partial ≡ mid.partial = ap (λ (v : BoardView). v.partial) is in
      record {
        out = bytes_sent p.steps ++ q.prefix;
        breaks = search (rules, prefix_whole, hears_nothing, almost_sent, append-nil);
        appends = Appends-trans _ _ _ (bytes_sent p.steps) q.prefix p.wrote.appends q.appends;
        refused = q.refused;
        in_time = λ h. q.in_time (p.wrote.kept ∙ h) ∙ p.wrote.in_time h;
      }

  -- ---- bytes in a row

  -- steps that report nothing, and what follows them
  pub served_then : InARow W → DivisionsAppend
      → (old mid between new : BoardView) (a b c : S) (s t : List ℕ) (steps : List Exchange)
      → Served W old mid a b s → Hears mid t steps between → bytes_sent steps ≡ []
      → Served W between new b c [] → Served W old new a c (s ++ t)
  served_then row append old mid between new a b c s t steps p h none q =
      let all = p.steps ++ (steps ++ q.steps) in
      let later : Hears mid t (steps ++ q.steps) new = rw (append-nil t) at
      (hears_then append mid between new t [] steps q.steps h q.answers.hears) in
      let sent : bytes_sent all ≡ bytes_sent p.steps ++ bytes_sent q.steps
      = search (rules, bytes_sent-append) in
      record {
        steps = all;
        answers = search (rules, hears_then);
        wrote = grind (arith, common_steps);
      }

  pub halted_longer : (old new : BoardView) (a b : S) (s t : List ℕ) → Halted W old new a b s
      → Halted W old new a b (s ++ t)
  halted_longer old new a b s t p = search (rules, prefix_longer)

  halted_then : DivisionsAppend
      → (old mid new : BoardView) (a b c : S) (s t : List ℕ) (steps : List Exchange)
      → Hears old s steps mid → Wrote W a b (bytes_sent steps) → Halted W mid new b c t
      → Halted W old new a c (s ++ t)
  halted_then append old mid new a b c s t steps h w q = record {
    out = bytes_sent steps ++ q.out;
    breaks = record {
      steps = steps ++ q.breaks.steps;
      hears = prefix_then append old mid new s t steps q.breaks.steps h q.breaks.hears;
      sent = almost_sent_then steps q.breaks.steps q.out q.breaks.sent;
    };
    appends = Appends-trans _ _ _ (bytes_sent steps) q.out w.appends q.appends;
    refused = q.refused;
    in_time = λ h. q.in_time (w.kept ∙ h) ∙ w.in_time h;
  }

  -- some bytes, and then more
  pub served_more : InARow W → DivisionsAppend
      → (old mid new : BoardView) (a b c : S) (s t : List ℕ) → Served W old mid a b s
      → Served W mid new b c t → Served W old new a c (s ++ t)
  served_more row append old mid new a b c s t p q = record {
    steps = p.steps ++ q.steps;
    answers = search (rules, hears_then);
    wrote = grind (arith, common_steps, bytes_sent-append);
  }

  -- the sink refused after a word
  pub served_halts : InARow W → DivisionsAppend
      → (old mid between new : BoardView) (a b c : S) (s t : List ℕ) (event : EventContent)
      → Served W old mid a b s → Hears mid t (heard event ∷ []) between
      → Halted W between new b c [] → Halted W old new a c (s ++ t)
  served_halts row append old mid between new a b c s t event p h q =
      let later =
      halted_then append mid between new b b c t [] (heard event ∷ []) h (row.nothing b) q in
      halted_then append old mid new a b c s t p.steps p.answers.hears p.wrote
      (rw (append-nil t) at later)

  -- bytes that end no word
  pub served_part : DivisionsAppend → (old mid new : BoardView) (a b : S) (s t : List ℕ)
      → Served W old mid a b s → IsPartial (mid.partial ++ t) → new ≡ after_bytes mid t None
      → Served W old new a b (s ++ t)
  served_part append old mid new a b s t p partial is = record {
    steps = p.steps ++ [];
    answers = record {
      hears = search (rules, hears_then, hears_part);
      settled = rw is p.answers.settled;
    };
    wrote = rw (append-nil p.steps) p.wrote;
  }

  -- a flush at the end
  pub served_flushed : InARow W
      → (old new : BoardView) (a b c : S) (s : List ℕ) (r : Result (Unit {0}) RunFault)
      → Served W old new a b s → Writes W b c r [] → Serves W (change old new) (change a c) r s
  served_flushed row old new a b c s (Ok x) p q = search (rules, append-nil)
  served_flushed row old new a b c s (Err e) p q = (
    q.0,
    record {
      out = bytes_sent p.steps ++ q.1.prefix;
      breaks = record {
        steps = p.steps;
        hears = prefix_whole old new s p.steps p.answers.hears;
        sent = grind (arith, common_steps, append-nil, almost_sent);
      };
      appends = Appends-trans _ _ _ (bytes_sent p.steps) q.1.prefix p.wrote.appends q.1.appends;
      refused = q.1.refused;
      in_time = λ h. q.1.in_time (p.wrote.kept ∙ h) ∙ p.wrote.in_time h;
    },
  )

  -- the exit of a `?`
  pub halted_exit : {A : Type 0} (old new : BoardView) (a b : S) (s : List ℕ)
      (r : Result A RunFault) (e : RunFault) → IsErrAnd r (λ y. y ≡ e) → e ≡ WriteFailed
      → Halted W old new a b s → Serves W (change old new) (change a b) r s
  halted_exit old new a b s r e k w q = search rules

-- ---- runs

module _ {S T : Type 0} (R : Source S) (W : Sink T) where
  -- the sink refused
  pub halted_run : {A : Type 0} (limit : ℕ) (a b : S) (c d : T) (old new : BoardView)
      (bytes : List ℕ) (r : Result A RunFault) (e : RunFault) → Consumes (R.left a) (R.left b) bytes
      → Halted W old new c d bytes → IsErrAnd r (λ y. y ≡ e) → e ≡ WriteFailed
      → Ran R W (change a b) (change c d) (InTurns limit r (IsServed r old new))
  halted_run limit a b c d old new bytes r e k q h w = search rules

-- it refused after a read
pub served_stops : {S T A : Type 0} {R : Source S} {W : Sink T} {a b : S} {c d : T}
    {taken limit : ℕ} → DivisionsAppend
    → (b' : S) (d' : T) (old mid new : BoardView) (chunk : List ℕ) (r : Result A RunFault)
    (e : RunFault) → (t : BetweenReads R W a b c d taken limit) → Served W old mid c d t.bytes
    → Consumes (R.left b) (R.left b') chunk → Halted W mid new d d' chunk → IsErrAnd r (λ y. y ≡ e)
    → e ≡ WriteFailed → Ran R W (change a b') (change c d') (InTurns limit r (IsServed r old new))
served_stops {R = R} {W = W} {a = a} {b = b} {c = c} {d = d} {limit = limit} append b' d' old mid
    new chunk r e t p k q
    h w =
    halted_run R W limit a b' c d' old new (t.bytes ++ chunk) r e
    (Consumes-trans _ _ _ t.bytes chunk t.given k)
    (halted_then W append old mid new c d d' t.bytes chunk p.steps p.answers.hears p.wrote q) h w
