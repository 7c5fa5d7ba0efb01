-- One faulty byte in a message leaves one message at most.
use Rattle.std.proofs.lemmas.Grind.{common_steps}
use Rattle.std.proofs.Common.{◌≡◌, ◌⊎◌, ◌≤◌, ◌<◌, ◌+◌, ℕ, zero, suc, Bool, true, false, cond, List, [], ◌∷◌, ◌++◌, length, take, drop, Option, Some, None, option_to_list, refl, sym, ap, ◌∙◌, inl, inr}
use Rattle.{std.proofs.{Common.{arith, append_assoc, append-nil, rules}, lemmas.Bool.{cases_lt}}, dgt_message.specs.{Content.{Content, IsMessage}, Encoding.{Encodes, encoding}}}
use Rattle.dgt_decode.specs.Grammar.{Event, Message, Placed, announced_total, cut_of, events, has_top_bit, lead, segment_events, segments, segments_events}
use Rattle.dgt_decode.{specs.Grammar.{strays, verdict}, proofs.{SevenBit.{SevenByRecursion, by_recursion}, Verdicts.{verdict-short, verdict-waits}}}
use Rattle.{dgt_host.{specs.Confirmed.{message_in, messages}, proofs.StretchLemmas.{messages_append, messages_behind}}, dgt_followed.specs.OneByte.{OneByteIsAStretch, with_fault}}

-- one message at most
abbrev One : List Content → Type 0
One said = (heard : Option Content) × (said ≡ option_to_list heard)

-- these bytes contain at most one message
abbrev SaysOne : List ℕ → Type 0
SaysOne bytes = One (messages (events bytes))

-- ---- the messages of segments

no_strays : (s : List ℕ) → messages (strays s) ≡ []
no_strays [] = refl
no_strays (b ∷ s) = search (rules, messages_behind, no_strays s)

no_cuts : (s : List ℕ) → messages (cut_of s) ≡ []
no_cuts [] = refl
no_cuts (b ∷ s) = refl

of_event : (event : Event) → One (message_in event)
of_event (Message said) = (Some said, refl)
of_event _ = (None, refl)

same : (said other : List Content) → said ≡ other → One other → One said
same said other e (heard, is) = (heard, e ∙ is)

of_verdict : (v : Option Placed) (g : List ℕ) → One (messages (segment_events v g))
of_verdict None g = (None, refl)
of_verdict (Some x) g =
    same _ (message_in x.event) (search (rules, messages_behind, no_strays, append-nil))
    (of_event x.event)

last_is : (g : List ℕ)
    → messages (segments_events (g ∷ [])) ≡ messages (segment_events (verdict g) g)
last_is g = search (rules, messages_append, append-nil)

of_last : (g : List ℕ) → One (messages (segments_events (g ∷ [])))
of_last g = same _ _ (last_is g) (of_verdict (verdict g) g)

nothing_in : (v : Option Placed) (g : List ℕ) → v ≡ None → messages (segment_events v g) ≡ []
nothing_in v g e = rw e refl

both_are : (g k : List ℕ) → messages (segments_events (g ∷ k ∷ []))
    ≡ messages (segment_events (verdict g) g) ++ messages (segment_events (verdict k) k)
both_are g k = search (rules, messages_append, messages_behind, no_cuts, last_is)

-- one of two segments contains no message
of_both : (g k : List ℕ) → (verdict g ≡ None) ⊎ (verdict k ≡ None)
    → One (messages (segments_events (g ∷ k ∷ [])))
of_both g k (inl none) = same _ _ (search (rules, both_are, nothing_in)) (of_verdict (verdict k) k)
of_both g k (inr none) =
    same _ _ (search (rules, both_are, nothing_in, append-nil)) (of_verdict (verdict g) g)

in_segments : (s : List ℕ) → messages (events s) ≡ messages (segments_events (segments s))
unfolding events
in_segments s = search (rules, messages_append, no_strays, messages_behind)

-- ---- bytes with at most two set top bits

no_bit : (b : ℕ) → b < 128 → has_top_bit b ≡ false
no_bit b small = search rules

seven_lead : (s more : List ℕ) → SevenByRecursion s → lead (s ++ more) ≡ s ++ lead more
seven_lead [] more seven = refl
seven_lead (b ∷ s) more (small, seven) = search (rules, no_bit, seven_lead s more)

seven_segments : (s more : List ℕ) → SevenByRecursion s → segments (s ++ more) ≡ segments more
seven_segments [] more seven = refl
seven_segments (b ∷ s) more (small, seven) = rw (no_bit b small) (seven_segments s more seven)

no_segments : (s : List ℕ) → SevenByRecursion s → segments s ≡ []
no_segments s seven = ap segments (sym (append-nil s)) ∙ seven_segments s [] seven

all_lead : (s : List ℕ) → SevenByRecursion s → lead s ≡ s
all_lead s seven = ap lead (sym (append-nil s)) ∙ seven_lead s [] seven ∙ append-nil s

of_seven : (s : List ℕ) → SevenByRecursion s → SaysOne s
of_seven s seven = search (rules, in_segments, no_segments)

of_one : (b : ℕ) (s : List ℕ) → SevenByRecursion s → SaysOne (b ∷ s)
of_one b s seven = same _ _ (in_segments (b ∷ s)) (rw (no_segments s seven) (go (has_top_bit b)))
  where
    go : (t : Bool) → One (messages (segments_events (cond t ((b ∷ lead s) ∷ []) [])))
    go true = of_last (b ∷ lead s)
    go false = (None, refl)

of_two : (h b : ℕ) (x y : List ℕ) → SevenByRecursion x → SevenByRecursion y
    → (verdict (h ∷ x) ≡ None) ⊎ (verdict (b ∷ y) ≡ None) → SaysOne (h ∷ (x ++ b ∷ y))
of_two h b x y first last none =
    let whole : lead (x ++ b ∷ y) ≡ x ++ cond (has_top_bit b) [] (b ∷ y)
    = search (rules, seven_lead, all_lead) in
    let parts : segments (x ++ b ∷ y) ≡ cond (has_top_bit b) ((b ∷ y) ∷ []) []
    = search (rules, seven_segments, all_lead, no_segments) in
    same _ _ (in_segments (h ∷ (x ++ b ∷ y)))
    (rw (whole, parts) (go (has_top_bit h) (has_top_bit b)))
  where
    go : (t u : Bool) → let gs = cond u ((b ∷ y) ∷ []) [] in
        One (messages (segments_events (cond t ((h ∷ (x ++ cond u [] (b ∷ y))) ∷ gs) gs)))
    go true true = rw (append-nil x) (of_both (h ∷ x) (b ∷ y) none)
    go true false = of_last (h ∷ (x ++ b ∷ y))
    go false true = of_last (b ∷ y)
    go false false = (None, refl)

-- ---- a message with a fault

seven_take : (n : ℕ) (s : List ℕ) → SevenByRecursion s → SevenByRecursion (take n s)
seven_take (suc n) (b ∷ s) (small, seven) = (small, seven_take n s seven)
seven_take _ _ seven = record {}

seven_drop : (n : ℕ) (s : List ℕ) → SevenByRecursion s → SevenByRecursion (drop n s)
seven_drop (suc n) (b ∷ s) (small, seven) = seven_drop n s seven
seven_drop _ _ seven = seven

seven_append : (s more : List ℕ) → SevenByRecursion s → SevenByRecursion more
    → SevenByRecursion (s ++ more)
seven_append [] more first last = last
seven_append (b ∷ s) more (small, first) last = (small, seven_append s more first last)

take_is_short : (n : ℕ) (s : List ℕ) → length (take n s) ≤ n
take_is_short n s = grind (arith, common_steps)

nothing_left : (n : ℕ) (s : List ℕ) → length s ≤ n → drop n s ≡ []
nothing_left n s few = grind (arith, common_steps)

alone_waits : (b : ℕ) → verdict (b ∷ []) ≡ None
alone_waits b = search (rules, verdict-short)

-- a part of a message is unfinished
part_waits : (h p : ℕ) (t : List ℕ) → announced_total (h ∷ t) ≡ suc (length t) → p < length t
    → verdict (h ∷ take p t) ≡ None
part_waits h zero t e within = verdict-short (h ∷ []) (search rules)
part_waits h (suc zero) (x ∷ t) e within = verdict-short (h ∷ x ∷ []) (search rules)
part_waits h (suc (suc p)) (x ∷ y ∷ t) e within =
    verdict-waits (h ∷ x ∷ y ∷ take p t) (omega (arith, e, within, take_is_short p t))
part_waits h _ _ e within = absurd (omega (arith, within))

module _ (h : ℕ) (t : List ℕ) (seven : SevenByRecursion t)
    (e : announced_total (h ∷ t) ≡ suc (length t)) where
  rest : (p lost : ℕ) → drop (suc p + lost) (h ∷ t) ≡ drop (p + lost) t
  rest p lost = let next : suc p + lost ≡ suc (p + lost) = omega arith in rw next refl

  shape : (p lost : ℕ) (put : List ℕ)
      → with_fault (h ∷ t) (suc p) lost put ≡ h ∷ (take p t ++ (put ++ drop (p + lost) t))
  shape p lost put = search (rules, rest, append_assoc)

  lost_one : (place lost : ℕ) → lost ≤ 1 → SaysOne (with_fault (h ∷ t) place lost [])
  lost_one zero zero few = of_one h t seven
  lost_one zero (suc zero) few = of_seven t seven
  lost_one zero (suc (suc n)) few = absurd (omega (arith, few))
  lost_one (suc p) lost few =
      rw (shape p lost []) (of_one h _ (seven_append (take p t) _ (seven_take p t seven)
      (seven_drop (p + lost) t seven)))

  put_one : (place lost b : ℕ) → lost ≤ 1 → SaysOne (with_fault (h ∷ t) place lost (b ∷ []))
  put_one zero zero b few = of_two b h [] t (record {}) seven (inl (alone_waits b))
  put_one zero (suc zero) b few = of_one b t seven
  put_one zero (suc (suc n)) b few = absurd (omega (arith, few))
  put_one (suc p) lost b few =
      let y : List ℕ = drop (p + lost) t in
      rw (shape p lost (b ∷ []))
      (of_two h b (take p t) y (seven_take p t seven) (seven_drop (p + lost) t seven)
      (elim (cases_lt p (length t)) [
        | inl within ↦ inl (part_waits h p t e within)
        | inr over ↦ inr (rw (nothing_left (p + lost) t (omega (arith, over))) (alone_waits b))
      ]))

  faulty : (place lost : ℕ) (put : List ℕ) → lost ≤ 1 → length put ≤ 1
      → SaysOne (with_fault (h ∷ t) place lost put)
  faulty place lost [] few short = lost_one place lost few
  faulty place lost (b ∷ []) few short = put_one place lost b few
  faulty place lost (b ∷ c ∷ more) few short = absurd (omega (arith, short))

of_encoded : (said : Content) (bytes : List ℕ) → Encodes said bytes
    → (place lost : ℕ) (put : List ℕ) → lost ≤ 1 → length put ≤ 1
    → SaysOne (with_fault bytes place lost put)
of_encoded said [] is place lost put few short = absurd (omega (arith, is.header.long_enough))
of_encoded said (h ∷ t) is place lost put few short =
    faulty h t (by_recursion t is.header.seven_bit) is.header.total_is place lost put few short

pub one_byte : ((said : Content) → IsMessage said → Encodes said (encoding said))
    → OneByteIsAStretch
one_byte encodes said place lost put is few short =
    of_encoded said (encoding said) (encodes said is) place lost put few short
