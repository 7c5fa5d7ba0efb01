-- The bytes moved out of a line, some at a time.
use Rattle.std.proofs.Common.{◌≡◌, refl, sym, subst, ap, ◌∙◌, ◌⊎◌, inl, inr, ℕ, ◌+◌, ◌-◌, ◌<◌, ◌≤◌, List, [], ◌∷◌, ◌++◌, Option, Some, None, length, take, drop, get_or, suc, false, IsTrue, IfSome}
use Rattle.std.proofs.{Common.{IfNone, arith, drop-cons, append_assoc, rules}, Math.Seq.{take-add, take-append_seam}, lemmas.{List.{drop-drop, length-drop, length-take}}}
use Rattle.{std.{proofs.lemmas.{List.{length-take-le, take-take, take-append-drop, take_all}, Bool.Decides.{leb_tells}}}, dgt_message.specs.Content.{Content}}
use Rattle.{dgt_message.specs.Encoding.{Encodes, encoding}, dgt_command.specs.{Content.{EventContent}, Words.{IsPartial, IsWord}}, dgt_board.specs.{Sending.{after_sending}, View.{Polls, BoardView}}}
use Rattle.{dgt_board.specs.{View.{HasTaken, after_bytes}, declared.sending.Polled.{Polled}}, dgt_host.specs.Host.{HostView, host_after, HeardInChunks}, dgt_link.specs.Step.{Delivers}}
use Rattle.dgt_link.specs.{Step.{StaysUnfinished, is_full, sending_outcome}, View.{LineContents, WorldView, with_bytes, without_first}, declared.acts.Outcome.{Outcome}}

left_on : (line now left : LineContents) (i n : ℕ) → now ≡ without_first line i
    → left ≡ without_first now n → left ≡ without_first line (i + n)
left_on line now left i n e f = search (rules, drop-drop)

-- bytes of a chunk of the front are bytes of the line
pub prefix_bytes : (bytes prefix : List ℕ) (k used : ℕ) → prefix ≡ take (length prefix) bytes
    → used ≤ length (take k prefix) → take used (take k prefix) ≡ take used bytes
prefix_bytes bytes prefix k used is within = search (rules, length-take, take-take)

-- ---- the board sends

-- the bytes polled into the beginning of a buffer are sent by it if the line has room for them
pub polled_is_sent : (count room : ℕ) (next : Option Content) (before after : BoardView)
    (line left : LineContents) (old new more : List ℕ)
    → Polls (Polled.Wrote count) next before after old new → length old ≤ room
    → room + length line.bytes ≡ line.capacity → left ≡ with_bytes line (take count (new ++ more))
    → (Outcome.Done ≡ sending_outcome next line)
    × ((message : Content) × (next ≡ Some message) × Encodes message (encoding message)
    × (after ≡ record before { state = after_sending before.state message })
    × (left ≡ with_bytes line (encoding message)))
polled_is_sent count room next before after line left old new more none short rest e =
    search (rules, append_assoc, take-append_seam)

-- ---- the board takes

-- taking in turn is taking together
abbrev TakingsAppend : Type 0
TakingsAppend =
    (before between after : BoardView) (bytes more : List ℕ) → HasTaken before bytes between
    → HasTaken between more after → HasTaken before (bytes ++ more) after

-- bytes after others, cut before one of them
cut_bytes : (before bytes : List ℕ) (n : ℕ) → n < length bytes
    → before ++ bytes ≡ (before ++ take n bytes) ++ (get_or bytes n 0 ∷ drop (suc n) bytes)
cut_bytes before bytes n within = search (rules, take-append-drop, drop-cons, append_assoc)

-- a proper prefix of a frame
word_prefix : (event : EventContent) (before bytes : List ℕ) (n : ℕ) → n < length bytes
    → IsWord event (before ++ bytes) → IsPartial (before ++ take n bytes)
word_prefix event before bytes n within word = record {
  event = event;
  next = get_or bytes n 0;
  more = drop (suc n) bytes;
  word = subst (IsWord event) (cut_bytes before bytes n within) word;
}

-- a prefix of a proper prefix
partial_prefix : (before bytes : List ℕ) (n : ℕ) → n < length bytes → IsPartial (before ++ bytes)
    → IsPartial (before ++ take n bytes)
partial_prefix before bytes n within part = record {
  event = part.event;
  next = get_or bytes n 0;
  more = drop (suc n) bytes ++ (part.next ∷ part.more);
  word = subst (IsWord part.event)
      (ap (λ (l : List ℕ). l ++ (part.next ∷ part.more)) (cut_bytes before bytes n within)
      ∙ append_assoc
      (before ++ take n bytes) (get_or bytes n 0 ∷ drop (suc n) bytes) (part.next ∷ part.more))
      part.word;
}

-- after bytes that complete no frame a board owes no more
stays : (board : BoardView) (bytes : List ℕ) → length board.state.owed < 8
    → IsPartial (board.partial ++ bytes)
    → (between : BoardView) × HasTaken board bytes between × (is_full between.state ≡ false)
stays board bytes room part = (
  after_bytes board bytes None,
  record { events = []; divided = (refl, part); state = refl },
  search rules,
)

-- bytes of which only the last may complete a frame
prefix_of_word : {E : Type 0} (content : E → EventContent) (before bytes chunk : List ℕ) (used : ℕ)
    (event : Option E) → take used chunk ≡ take used bytes
    → IfSome event (λ e. IsWord (content e) (before ++ take used chunk))
    → IfNone event ((used ≡ length chunk) × IsPartial (before ++ chunk)) → (fewer : ℕ)
    → fewer < length (take used bytes) → IsPartial (before ++ take fewer (take used bytes))
prefix_of_word content before bytes chunk used (Some e) same word part fewer less =
    search (rules, word_prefix)
prefix_of_word content before bytes chunk used None same word part fewer less =
    search (rules, take_all, partial_prefix)

pub stays_unfinished : {E : Type 0} (content : E → EventContent) (board : BoardView)
    (bytes chunk : List ℕ) (used : ℕ) (event : Option E) → take used chunk ≡ take used bytes
    → used ≤ length chunk → length board.state.owed < 8
    → IfSome event (λ e. IsWord (content e) (board.partial ++ take used chunk))
    → IfNone event ((used ≡ length chunk) × IsPartial (board.partial ++ chunk))
    → StaysUnfinished board bytes used
stays_unfinished content board bytes chunk used event same within room word part =
    let long : length (take used bytes) ≡ used =
    ap length (sym same) ∙ length-take-le used chunk within in
    λ fewer some less. stays board (take fewer bytes) room
    (subst (λ (l : List ℕ). IsPartial (board.partial ++ l))
    (take-take fewer used bytes (omega (arith, less)))
    (prefix_of_word content board.partial bytes chunk used event same word part fewer
    (omega (arith, less, long))))

-- the board as it was, or as these bytes left it
abbrev HasTakenAny : BoardView → List ℕ → ℕ → BoardView → Type 0
HasTakenAny before bytes moved now =
    ((moved ≡ 0) × (now ≡ before)) ⊎ ((0 < moved) × HasTaken before (take moved bytes) now)

-- the progress of a delivery to the board
pub record IsTaking (before : BoardView) (line : LineContents) (moved : ℕ) (now : BoardView)
    (left : LineContents) : Type 0 where
  pub within : moved ≤ length line.bytes
  pub taken : HasTakenAny before line.bytes moved now
  pub left_is : left ≡ without_first line moved
  pub earlier : StaysUnfinished before line.bytes moved

taken_more : TakingsAppend → (before now new : BoardView) (bytes : List ℕ) (moved n : ℕ)
    → HasTakenAny before bytes moved now → HasTaken now (take n (drop moved bytes)) new
    → HasTaken before (take (moved + n) bytes) new
taken_more append before now new bytes moved n (inl (none, same)) next =
    rw (take-add moved n bytes, none) (rw (none, same) at next)
taken_more append before now new bytes moved n (inr taken) next = search (rules, take-add)

-- fewer than this many before, this many, or more
data Fewer (fewer moved n : ℕ) : Type 0 where
  sooner : (less : fewer < moved) → Fewer fewer moved n
  just : (same : fewer ≡ moved) → Fewer fewer moved n
  later : (k : ℕ) (some : 0 < k) (less : k < n) (is : fewer ≡ moved + k) → Fewer fewer moved n

fewer_than : (fewer moved n : ℕ) → fewer < moved + n → Fewer fewer moved n
fewer_than fewer moved n h = elim (leb_tells moved fewer) [
  | inr less ↦ sooner less.1
  | inl most ↦ elim (leb_tells fewer moved) [
    | inl least ↦ just (omega (arith, most.1, least.1))
    | inr more ↦ later (fewer - moved) (omega (arith, more.1)) (omega (arith, h, more.1))
        (omega (arith, more.1))
  ]
]

pub taking_more : TakingsAppend
    → (board now new : BoardView) (line left after : LineContents) (moved n : ℕ)
    → IsTaking board line moved now left → 0 < n → moved + n ≤ length line.bytes
    → length now.state.owed < 8 → HasTaken now (take n left.bytes) new
    → StaysUnfinished now left.bytes n → after ≡ without_first left n
    → IsTaking board line (moved + n) new after
taking_more append board now new line left after moved n taking more within room next calm e =
    let rest : left.bytes ≡ drop moved line.bytes =
    ap (λ (l : LineContents). l.bytes) taking.left_is in
    let calm' : StaysUnfinished now (drop moved line.bytes) n =
    rw rest at calm in
    record {
      within = within;
      taken = search (rules, taken_more);
      left_is = left_on line left after moved n taking.left_is e;
      earlier = λ fewer some less. earlier_than fewer some (fewer_than fewer moved n less) calm';
    }
  where
    earlier_than : (fewer : ℕ) → 0 < fewer → Fewer fewer moved n
        → StaysUnfinished now (drop moved line.bytes) n
        → (between : BoardView) × HasTaken board (take fewer line.bytes) between
        × (is_full between.state ≡ false)
    earlier_than fewer some (sooner less) calm = taking.earlier fewer some less
    earlier_than fewer some (just same) calm = search rules
    earlier_than fewer some (later k positive less is) calm =
        let found = calm k positive less in search (rules, taken_more)

-- the rest of the line
pub left_length : (before now : BoardView) (line left : LineContents) (moved : ℕ)
    → IsTaking before line moved now left → length left.bytes ≡ length line.bytes - moved
left_length before now line left moved taking =
    ap (λ (l : LineContents). length l.bytes) taking.left_is ∙ length-drop moved line.bytes

-- a board that is full by now has taken some
pub some_moved : (before now : BoardView) (line left : LineContents) (moved : ℕ)
    → IsTaking before line moved now left → length before.state.owed < 8 → 8 ≤ length now.state.owed
    → 0 < moved
some_moved before now line left moved taking room full = search rules

pub taking_ends : (world : WorldView) (count moved : ℕ) (before now : BoardView)
    (line left : LineContents) → IsTaking before line moved now left → 0 < moved → moved ≤ count
    → ((moved ≡ count) ⊎ ((moved ≡ length line.bytes) ⊎ IsTrue (is_full now.state)))
    → Delivers count (record world { board = before; down = line })
    (record world { board = now; down = left })
taking_ends world count moved before now line left taking some most ended = search rules

-- ---- the host hears

-- the host as it was, or as these bytes left it
abbrev HasHeardAny : HostView → List ℕ → ℕ → HostView → Type 0
HasHeardAny before bytes moved now =
    ((moved ≡ 0) × (now ≡ before)) ⊎ (now ≡ host_after before (take moved bytes))

-- the progress of a delivery to the host
pub record IsHearing (before : HostView) (line : LineContents) (moved : ℕ) (now : HostView)
    (left : LineContents) : Type 0 where
  pub heard : HasHeardAny before line.bytes moved now
  pub left_is : left ≡ without_first line moved

pub hearing_more : HeardInChunks
    → (before now new : HostView) (line left after : LineContents) (moved n : ℕ)
    → IsHearing before line moved now left → new ≡ host_after now (take n left.bytes)
    → after ≡ without_first left n → IsHearing before line (moved + n) new after
hearing_more chunks before now new line left after moved n hearing next e =
    search (rules, left_on, take-add)
