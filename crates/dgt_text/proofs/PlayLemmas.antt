-- Lines that are played in a row.
use Rattle.std.proofs.Common.{◌≡◌, ◌≢◌, ℕ, ◌+◌, ◌-◌, ◌<◌, List, [], ◌∷◌, ◌++◌, ◌⊎◌, inl, inr, Bool, Result, Ok, Err, IsErrAnd, IsTrue, refl, sym, ◌∙◌, ap, length, arith, append_assoc, append-nil}
use Rattle.std.proofs.{Common.{length-append, take, drop, slice_index, add-one, rules}, KnownBytes.{Appends-trans, Appends-nil}, Math.Seq.{take-add, take-suc}, lemmas.Grind.{flat_map-append}}
use Rattle.std.{proofs.lemmas.{Grind.{common_steps}, List.{places, take_rest, take-append-drop, Elements.{All-append}}}, specs.{Prelude.{◌↔◌, All, MatchResult, flat_map}, Io.KnownBytes.{Appends}}}
use Rattle.{dgt_link.specs.{View.{IsQuietWorld, WorldView}, declared.acts.Outcome.{Outcome}}, dgt_lines.specs.{Monitoring.{IsPrefix}, declared.faults.RunFault.TheVariants.{BadLine}}}
use Rattle.{dgt_script.specs.{Outcomes.{outcome_line}, ScriptLines.{HasNoFeed, IsCut, KeepsLine, ended}, declared.script_lines.LineBuffer.{LineBuffer}}, dgt_text.specs.Closing.{closing_lines}}
use Rattle.dgt_text.specs.Simulating.{BeginsWith, IsSimulatedFrom, Plays, Part, PlaysOn, PlaysTorn, Rules, Stops, Took, all_lines, part}
use Rattle.dgt_lines.specs.{Writing.{Writes, Stopped}, declared.{faults.RunFault.{RunFault}, streams.Sink.{Ghosts as Sink}, faults.RunFault.TheVariants.{ReadFailed, WriteFailed, TooManyTurns}}}

-- ---- lines

pub all_none : All HasNoFeed []
all_none k d h = absurd (omega arith)

pub no_byte : HasNoFeed []
no_byte k d h = absurd (omega arith)

pub all_one : (line : List ℕ) → HasNoFeed line → All HasNoFeed (line ∷ [])
all_one line h = search rules

-- lines, and then more lines
whole_after : (bytes tail rest : List ℕ) (lines more : List (List ℕ))
    → bytes ≡ flat_map ended lines ++ tail → tail ≡ flat_map ended more ++ rest
    → bytes ≡ flat_map ended (lines ++ more) ++ rest
whole_after bytes tail rest lines more e f = search (rules, append_assoc, flat_map-append)

pub cut_after : (bytes tail rest : List ℕ) (lines more : List (List ℕ))
    → bytes ≡ flat_map ended lines ++ tail → All HasNoFeed lines → IsCut tail more rest
    → IsCut bytes (lines ++ more) rest
cut_after bytes tail rest lines more e h c =
    search (rules, whole_after bytes tail rest lines more, All-append HasNoFeed lines more)

pub all_lines-append : (lines more : List (List ℕ)) (rest : List ℕ)
    → all_lines (lines ++ more) rest ≡ lines ++ all_lines more rest
all_lines-append lines more rest = search (rules, append_assoc)

-- a script begins with no line
pub begins_none : (at_end : Bool) (bytes : List ℕ) → BeginsWith at_end bytes []
begins_none at_end bytes = inl (bytes, refl, all_none)

-- a line with its line feed
pub begins_ended : (at_end : Bool) (line rest bytes : List ℕ) → HasNoFeed line
    → bytes ≡ (line ++ 10 ∷ []) ++ rest → BeginsWith at_end bytes (line ∷ [])
begins_ended at_end line rest bytes h e =
    inl (rest, e ∙ ap (λ l. l ++ rest) (sym (append-nil (ended line))), all_one line h)

-- a last line
pub begins_last : (at_end : Bool) (line : List ℕ) → IsTrue at_end → HasNoFeed line → line ≢ []
    → BeginsWith at_end line (line ∷ [])
begins_last at_end line e h n = search (rules, all_none)

begins_after : (at_end : Bool) (bytes tail : List ℕ) (lines more : List (List ℕ))
    → bytes ≡ flat_map ended lines ++ tail → All HasNoFeed lines → BeginsWith at_end tail more
    → BeginsWith at_end bytes (lines ++ more)
begins_after at_end bytes tail lines more e h (inl p) =
    inl (p.0, whole_after bytes tail p.0 lines more e p.1, All-append HasNoFeed lines more h p.2)
begins_after at_end bytes tail lines more e h (inr p) = inr (
  lines ++ p.0,
  p.1,
  cut_after bytes tail p.1 lines p.0 e h p.2,
  ap (λ l. lines ++ l) p.3 ∙ sym (all_lines-append lines p.0 p.1),
  p.4,
)

-- ---- sinks

-- a list that has a prefix and a rest of no byte is none
prefix_none : (prefix rest : List ℕ) → [] ≡ prefix ++ rest → prefix ≡ []
prefix_none [] rest h = refl
prefix_none (b ∷ prefix) rest h = cc

pub stopped_none : {S : Type 0} (W : Sink S) (a b : S) → Stopped W a b []
    → Appends (W.written a) (W.written b) []
stopped_none W a b p = search (rules, prefix_none)

module _ (rules : Rules) where
  -- ---- playing

  pub plays_append : (w m l : WorldView) (ls ks : List (List ℕ)) (t u : List ℕ)
      → Plays rules w ls t m → Plays rules m ks u l → Plays rules w (ls ++ ks) (t ++ u) l
  plays_append w m l [] ks t u p q = rw (p.0, p.1) q
  plays_append w m l (line ∷ ls) ks t u p q =
      grind (arith, common_steps, append_assoc, plays_append p.1 m l ls ks p.2 u p.5 q)

  pub plays_one : (w l : WorldView) (line : List ℕ) (o : Outcome) → rules.does line w o l
      → Plays rules w (line ∷ []) (outcome_line o) l
  plays_one w l line o h = (o, l, [], h, sym (append-nil (outcome_line o)), (refl, refl))

  -- no line
  pub torn_none : (w : WorldView) → PlaysTorn rules w [] [] w
  torn_none w = grind (arith, common_steps)

  -- one line, with an outcome that may be torn
  torn_one : (w l : WorldView) (line prefix text : List ℕ) → Plays rules w (line ∷ []) text l
      → IsPrefix prefix text → PlaysTorn rules w (line ∷ []) prefix l
  torn_one w l line prefix text p f = record {
    earlier = [];
    final = line ∷ [];
    split = refl;
    at_most_one = omega arith;
    between = w;
    text = [];
    torn = text;
    prefix = prefix;
    plays = (refl, refl);
    ends = p;
    is_prefix = f;
    out_is = refl;
  }

  torn_after : (w m l : WorldView) (ls ks : List (List ℕ)) (t out : List ℕ) → Plays rules w ls t m
      → PlaysTorn rules m ks out l → PlaysTorn rules w (ls ++ ks) (t ++ out) l
  torn_after w m l ls ks t out p q = record {
    earlier = ls ++ q.earlier;
    final = q.final;
    split = ap (λ x. ls ++ x) q.split ∙ sym (append_assoc ls q.earlier q.final);
    at_most_one = q.at_most_one;
    between = q.between;
    text = t ++ q.text;
    torn = q.torn;
    prefix = q.prefix;
    plays = plays_append w m q.between ls q.earlier t q.text p q.plays;
    ends = q.ends;
    is_prefix = q.is_prefix;
    out_is = ap (λ x. t ++ x) q.out_is ∙ sym (append_assoc t q.text q.prefix);
  }

  -- ---- lines, and then what is made of the rest

  -- what holds of a part of a script and its text holds of that part with lines before it, too
  abbrev pub HoldsWithLines : (Part → List ℕ → Type 0) → Type 0
  HoldsWithLines P =
      (w m l : WorldView) (number number' : ℕ) (bytes tail t out : List ℕ) (ls : List (List ℕ))
      → bytes ≡ flat_map ended ls ++ tail → All HasNoFeed ls → number' ≡ number + length ls
      → Plays rules w ls t m → P (part number' tail m l) out → P (part number bytes w l) (t ++ out)

  pub stops_after : (at_end : Bool) (e : RunFault) → HoldsWithLines (λ p. Stops rules at_end p e)
  stops_after at_end WriteFailed w m l number number' bytes tail t out ls e h n p s = (
    ls ++ s.0,
    begins_after at_end bytes tail ls s.0 e h s.1,
    torn_after w m l ls s.0 t out p s.2,
  )
  stops_after at_end (BadLine bad at) w m l number number' bytes tail t out ls e h n p s = (
    ls ++ s.0,
    s.1,
    rw (append_assoc ls s.0 (s.1 ∷ []))
        (begins_after at_end bytes tail ls (s.0 ++ s.1 ∷ []) e h s.2),
    plays_append w m l ls s.0 t out p s.3,
    s.4,
    (let k = length-append ls s.0 in let f = s.5 in omega arith),
  )
  stops_after at_end e w m l number number' bytes tail t out ls whole h n p s = absurd s

  all_after : (w m l : WorldView) (bytes tail rest t u : List ℕ) (ls ks : List (List ℕ))
      → Plays rules w ls t m → Plays rules m (all_lines ks rest) u l
      → Plays rules w (all_lines (ls ++ ks) rest) (t ++ u) l
  all_after w m l bytes tail rest t u ls ks p q = search (rules, all_lines-append, plays_append)

  pub simulated_after : {A : Type 0} (at_end : Bool) (r : Result A RunFault)
      → HoldsWithLines (λ p. IsSimulatedFrom rules at_end p r)
  simulated_after at_end (Ok x) w m l number number' bytes tail t out ls e h n p s = (
    ls ++ s.0,
    s.1,
    t ++ s.2,
    s.3,
    cut_after bytes tail s.1 ls s.0 e h s.4,
    all_after w m l bytes tail s.1 t s.2 ls s.0 p s.5,
    s.6,
    ap (λ x. t ++ x) s.7 ∙ sym (append_assoc t s.2 (closing_lines l s.3)),
  )
  simulated_after at_end (Err (BadLine bad at)) w m l number number' bytes tail t out ls e h n p s =
      stops_after at_end (BadLine bad at) w m l number number' bytes tail t out ls e h n p s
  simulated_after at_end (Err WriteFailed) w m l number number' bytes tail t out ls e h n p
      (inl s) =
      inl
      (stops_after at_end WriteFailed w m l number number' bytes tail t out ls e h n p s)
  simulated_after at_end (Err WriteFailed) w m l number number' bytes tail t out ls e h n p
      (inr s) = inr (
        ls ++ s.0,
        s.1,
        t ++ s.2,
        s.3,
        s.4,
        cut_after bytes tail s.1 ls s.0 e h s.5,
        all_after w m l bytes tail s.1 t s.2 ls s.0 p s.6,
        s.7,
        s.8,
        ap (λ x. t ++ x) s.9 ∙ sym (append_assoc t s.2 s.4),
        s.10,
      )
  simulated_after at_end (Err fault) w m l number number' bytes tail t out ls e h n p s = (
    ls ++ s.0,
    s.1,
    cut_after bytes tail s.1 ls s.0 e h s.2,
    plays_append w m l ls s.0 t out p s.3,
  )

  stops_simulated : (at_end : Bool) (A : Type 0) (e : RunFault) (w l : WorldView) (number : ℕ)
      (bytes out : List ℕ) → Stops rules at_end (part number bytes w l) e out
      → IsSimulatedFrom {A = A} rules at_end (part number bytes w l) (Err e) out
  stops_simulated at_end A e w l number bytes out s = grind (arith, common_steps)

  -- ---- sinks

  -- a line with this number, with which a script of these bytes begins
  abbrev PlaysLine : {S A : Type 0} → Sink S → Bool → WorldView → WorldView → S → S
      → Result A RunFault → ℕ → List ℕ → List ℕ → Type 0
  PlaysLine W at_end world last old new r number line bytes =
      MatchResult r (λ _. Took W old new (λ out. Plays rules world (line ∷ []) out last))
      (λ fault. Took W old new (Stops rules at_end (part number bytes world last) fault))

  -- a chunk of a script; the bytes are those since the last line feed before it, and the chunk
  abbrev PlaysPiece : {S A : Type 0} → Sink S → Bool → WorldView → WorldView → S → S → LineBuffer
      → ℕ → ℕ → Result A RunFault → List ℕ → Type 0
  PlaysPiece W at_end world last old new line number number' r bytes =
      MatchResult r (λ _. PlaysOn rules W (part number bytes world last) old new line number')
      (λ fault. Took W old new (Stops rules at_end (part number bytes world last) fault))

  module _ {S : Type 0} (W : Sink S) where
    -- the line of an outcome, or a prefix of it
    pub line_put : {A : Type 0} (at_end : Bool) (r : Result A RunFault) (w l : WorldView) (a b : S)
        (number : ℕ) (line bytes : List ℕ) (o : Outcome) → Writes W a b r (outcome_line o)
        → rules.does line w o l → BeginsWith at_end bytes (line ∷ [])
        → PlaysLine W at_end w l a b r number line bytes
    line_put at_end (Ok x) w l a b number line bytes o p h g =
        (outcome_line o, p.appends, plays_one w l line o h)
    line_put at_end (Err e) w l a b number line bytes o p h g =
        let torn = torn_one w l line p.1.prefix (outcome_line o) (plays_one w l line o h)
        (p.1.rest, p.1.whole) in
        rw p.0 (p.1.prefix, p.1.appends, (line ∷ [], g, torn))

    -- a line that is not an act
    pub line_refused : {A : Type 0} (at_end : Bool) (r : Result A RunFault) (w : WorldView)
        (a b : S) (number at : ℕ) (line bytes : List ℕ)
        → (r ≡ Err (BadLine number at)) ⊎ (r ≡ Err WriteFailed)
        → Appends (W.written a) (W.written b) [] → rules.is_bad line at
        → BeginsWith at_end bytes (line ∷ []) → PlaysLine W at_end w w a b r number line bytes
    line_refused at_end r w a b number at line bytes (inl e) p h g =
        rw e ([], p, ([], line, g, (refl, refl), h, omega arith))
    line_refused at_end r w a b number at line bytes (inr e) p h g =
        grind (arith, common_steps, begins_none, torn_none)

    -- ---- chunks

    pub on_none : (w : WorldView) (a : S) (line : LineBuffer) (number : ℕ) (rest : List ℕ)
        → KeepsLine line rest → HasNoFeed rest
        → PlaysOn rules W (part number rest w w) a a line number
    on_none w a line number rest k h = record {
      lines = [];
      rest = rest;
      text = [];
      cut = record { whole = refl; each = all_none; last = h };
      kept = k;
      counted = omega arith;
      plays = (refl, refl);
      wrote = Appends-nil (W.written a);
    }

    -- a line with its line feed
    pub on_one : (w l : WorldView) (a b : S) (line : LineBuffer) (number : ℕ) (whole : List ℕ)
        → KeepsLine line [] → HasNoFeed whole → Took W a b (λ out. Plays rules w (whole ∷ []) out l)
        → PlaysOn rules W (part number (whole ++ 10 ∷ []) w l) a b line (number + 1)
    on_one w l a b line number whole k h p = record {
      lines = whole ∷ [];
      rest = [];
      text = p.0;
      cut = search (rules, append-nil, all_one, no_byte);
      kept = k;
      counted = omega arith;
      plays = p.2;
      wrote = p.1;
    }

    on_whole : {w m : WorldView} {a b : S} {line : LineBuffer} {n n' : ℕ} (bytes : List ℕ)
        (q : PlaysOn rules W (part n bytes w m) a b line n') (p : List ℕ)
        → bytes ++ p ≡ flat_map ended q.lines ++ (q.rest ++ p)
    on_whole bytes q p =
        ap (λ l. l ++ p) q.cut.whole ∙ append_assoc (flat_map ended q.lines) q.rest p

    pub on_more : (w m l : WorldView) (a b c : S) (line line' : LineBuffer) (n n' n'' : ℕ)
        (bytes chunk : List ℕ) (q : PlaysOn rules W (part n bytes w m) a b line n')
        → PlaysOn rules W (part n' (q.rest ++ chunk) m l) b c line' n''
        → PlaysOn rules W (part n (bytes ++ chunk) w l) a c line' n''
    on_more w m l a b c line line' n n' n'' bytes chunk q p = record {
      lines = q.lines ++ p.lines;
      rest = p.rest;
      text = q.text ++ p.text;
      cut = search (rules, cut_after, on_whole);
      kept = p.kept;
      counted = let k = length-append q.lines p.lines in let i = q.counted in let j = p.counted in
          omega arith;
      plays = plays_append w m l q.lines p.lines q.text p.text q.plays p.plays;
      wrote = Appends-trans _ _ _ q.text p.text q.wrote p.wrote;
    }

    -- more bytes of the line
    pub on_held : (w m : WorldView) (a b : S) (line line' : LineBuffer) (n n' : ℕ)
        (bytes p : List ℕ) (q : PlaysOn rules W (part n bytes w m) a b line n') → HasNoFeed p
        → KeepsLine line' (q.rest ++ p) → PlaysOn rules W (part n (bytes ++ p) w m) a b line' n'
    on_held w m a b line line' n n' bytes p q h k = on_more w m m a b b line line' n n' n' bytes p q
        (on_none m b line' n' (q.rest ++ p) k (All-append (λ x. x ≢ 10) q.rest p q.cut.last h))

    -- a line feed after them
    pub on_line : (w m l : WorldView) (a b c : S) (line line' : LineBuffer) (n n' : ℕ)
        (bytes p : List ℕ) (q : PlaysOn rules W (part n bytes w m) a b line n') → HasNoFeed p
        → KeepsLine line' [] → Took W b c (λ out. Plays rules m ((q.rest ++ p) ∷ []) out l)
        → PlaysOn rules W (part n (bytes ++ (p ++ 10 ∷ [])) w l) a c line' (n' + 1)
    on_line w m l a b c line line' n n' bytes p q h k t =
        on_more w m l a b c line line' n n' (n' + 1) bytes (p ++ 10 ∷ []) q
        (rw (append_assoc q.rest p (10 ∷ [])) at
        (on_one m l b c line' n' (q.rest ++ p) k (All-append (λ x. x ≢ 10) q.rest p q.cut.last h)
        t))

    -- what holds of the rest, with them before it
    pub on_rest : (P : Part → List ℕ → Type 0) → HoldsWithLines P
        → (w m l : WorldView) (a b c : S) (line : LineBuffer) (n n' : ℕ) (bytes p : List ℕ)
        (q : PlaysOn rules W (part n bytes w m) a b line n')
        → Took W b c (P (part n' (q.rest ++ p) m l)) → Took W a c (P (part n (bytes ++ p) w l))
    on_rest P holds w m l a b c line n n' bytes p q t = (
      q.text ++ t.0,
      Appends-trans _ _ _ q.text t.0 q.wrote t.1,
      holds w m l n n' (bytes ++ p) (q.rest ++ p) q.text t.0 q.lines (on_whole bytes q p) q.cut.each
          q.counted q.plays
          t.2,
    )

    -- the exit of a `?` in a chunk
    pub piece_exit : {A : Type 0} (at_end : Bool) (r : Result A RunFault) (e : RunFault)
        (w l : WorldView) (a b : S) (line : LineBuffer) (n n' : ℕ) (bytes : List ℕ)
        → IsErrAnd r (λ y. y ≡ e) → Took W a b (Stops rules at_end (part n bytes w l) e)
        → PlaysPiece W at_end w l a b line n n' r bytes
    piece_exit at_end r e w l a b line n n' bytes k t = grind (arith, common_steps)

    -- ---- the end

    -- the exit of a `?` at the end
    pub end_exit : {A : Type 0} (at_end : Bool) (r : Result A RunFault) (e : RunFault)
        (w l : WorldView) (a b : S) (n : ℕ) (bytes : List ℕ) → IsErrAnd r (λ y. y ≡ e)
        → Took W a b (Stops rules at_end (part n bytes w l) e)
        → Took W a b (IsSimulatedFrom rules at_end (part n bytes w l) r)
    end_exit at_end r e w l a b n bytes k t = grind (arith, common_steps, stops_simulated)

    pub end_some : (w l : WorldView) (a b : S) (rest : List ℕ) → rest ≢ []
        → Took W a b (λ out. Plays rules w (rest ∷ []) out l) → Took W a b
        (λ out. Plays rules w (all_lines [] rest) out l)
    end_some w l a b rest n t = grind (arith, common_steps)

    pub end_none : (w l : WorldView) (a b : S) (rest : List ℕ) → rest ≡ [] → l ≡ w → b ≡ a
        → Took W a b (λ out. Plays rules w (all_lines [] rest) out l)
    end_none w l a b rest e f h = rw (e, f, h) ([], Appends-nil (W.written a), (refl, refl))

    -- the closing lines, or a prefix of them
    pub end_closing : {A : Type 0} (at_end : Bool) (r : Result A RunFault) (w l : WorldView)
        (a b c : S) (n : ℕ) (rest : List ℕ) (quiet : Bool) → IsTrue at_end → HasNoFeed rest
        → Took W a b (λ out. Plays rules w (all_lines [] rest) out l)
        → (IsTrue quiet ↔ IsQuietWorld l) → Writes W b c r (closing_lines l quiet)
        → Took W a c (IsSimulatedFrom rules at_end (part n rest w l) r)
    end_closing at_end (Ok x) w l a b c n rest quiet e h t k p = (
      t.0 ++ closing_lines l quiet,
      Appends-trans _ _ _ t.0 (closing_lines l quiet) t.1 p.appends,
      ([], rest, t.0, quiet, record { whole = refl; each = all_none; last = h }, t.2, k, refl),
    )
    end_closing at_end (Err f) w l a b c n rest quiet e h t k p = rw p.0 (
      t.0 ++ p.1.prefix,
      Appends-trans _ _ _ t.0 p.1.prefix t.1 p.1.appends,
      inr (grind (arith, common_steps, all_none)),
    )

-- ---- the bytes of a chunk

pub held_bytes : (rest chunk : List ℕ) (i n : ℕ)
    → (rest ++ take i chunk) ++ take n (take (length chunk - i) (drop i chunk))
    ≡ rest ++ take (i + n) chunk
held_bytes rest chunk i n = rw (take_rest, take-add i n chunk) (append_assoc rest (take i chunk) _)

line_feed : (chunk : List ℕ) (i n : ℕ) → i + n < length chunk
    → (n < length (take (length chunk - i) (drop i chunk))
    → slice_index (take (length chunk - i) (drop i chunk)) n ≡ 10)
    → take (n + 1) (take (length chunk - i) (drop i chunk))
    ≡ take n (take (length chunk - i) (drop i chunk)) ++ 10 ∷ []
line_feed chunk i n h k = grind (arith, common_steps, places, add-one, take-suc)

pub line_bytes : (rest chunk : List ℕ) (i n : ℕ) → i + n < length chunk
    → (n < length (take (length chunk - i) (drop i chunk))
    → slice_index (take (length chunk - i) (drop i chunk)) n ≡ 10)
    → (rest ++ take i chunk) ++ (take n (take (length chunk - i) (drop i chunk)) ++ 10 ∷ [])
    ≡ rest ++ take (i + n + 1) chunk
line_bytes rest chunk i n h k =
    let sum : i + (n + 1) ≡ i + n + 1 = omega arith in
    ap (λ l. (rest ++ take i chunk) ++ l) (sym (line_feed chunk i n h k)) ∙ held_bytes rest chunk i
    (n + 1) ∙ ap (λ m. rest ++ take m chunk) sum

-- the bytes after those that were played
pub left_bytes : (rest chunk : List ℕ) (i : ℕ)
    → (rest ++ take i chunk) ++ drop i chunk ≡ rest ++ chunk
left_bytes rest chunk i = search (rules, append_assoc, take-append-drop)

-- they begin with a line
pub feed_begins : (at_end : Bool) (rest chunk : List ℕ) (i n : ℕ) → i + n < length chunk
    → (n < length (take (length chunk - i) (drop i chunk))
    → slice_index (take (length chunk - i) (drop i chunk)) n ≡ 10) → HasNoFeed rest
    → HasNoFeed (take n (take (length chunk - i) (drop i chunk)))
    → BeginsWith at_end (rest ++ drop i chunk)
    ((rest ++ take n (take (length chunk - i) (drop i chunk))) ∷ [])
feed_begins at_end rest chunk i n h k none clean =
    let left = take (length chunk - i) (drop i chunk) in
    let line = take n left in
    begins_ended at_end (rest ++ line) (drop (n + 1) left) (rest ++ drop i chunk)
    (All-append (λ x. x ≢ 10) rest line none clean)
    (ap (λ l. rest ++ l)
    (sym (take_rest chunk i) ∙ sym (take-append-drop (n + 1) left)
    ∙ ap (λ l. l ++ drop (n + 1) left) (line_feed chunk i n h k))
    ∙ sym (append_assoc rest (line ++ 10 ∷ []) (drop (n + 1) left))
    ∙ ap (λ l. l ++ drop (n + 1) left) (sym (append_assoc rest line (10 ∷ []))))
