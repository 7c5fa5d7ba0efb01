-- The lines of events with names, of all bytes that were read.
use Rattle.std.proofs.Common.{◌≡◌, ◌⊎◌, ◌+◌, ℕ, List, [], ◌∷◌, ◌++◌, Option, Some, None, Result, ◌∙◌, ap, append_assoc, append-nil, IsErrAnd, Ok, Err, inl, inr, length, refl, sym, take, rules}
use Rattle.{std.specs.Prelude.{codes}, dgt_message.specs.{Code.{known_with}, Content.Content.{times, ack, carried}, declared.known.KnownCode.{KnownCode}}, dgt_decode.specs.Feeding.{FirstEvent}}
use Rattle.{dgt_decode.specs.{Feeding.{at_place_if_any}, Grammar.{Event, Message, Placed, at_place, events, unfinished_message}, Laws.{UnfinishedAppend, ChunksAdd}}, dgt_names.specs.Names.{IsBattery}}
use Rattle.{dgt_names.{specs.Names.{IsSignal, IsText}, proofs.SaidOrNot.{Decided, battery_or_none, signal_or_none, text_or_none}}, dgt_lines.specs.Lines.{event_text, events_after, offset_text}}
use Rattle.dgt_lines.specs.{NamedLines.{AreMonitored, AreNamedLines, HasCarriedName, IsNamed, IsOwnText, IsTextOf, battery_text, name_text, named_line, signal_text, times_name}, Printing.{GathersOne}}
use Rattle.dgt_lines.specs.{Printing.{HasNamedLines, HasPrintedNames, IsNameText, IsNamedLine, IsPrinted}, Writing.{Gathered, Gathers, Stopped}, declared.faults.RunFault.{RunFault}}
use Rattle.dgt_lines.{specs.declared.{streams.Sink.{Ghosts as Sink}, faults.RunFault.TheVariants.{WriteFailed}}, proofs.{EventLemmas.{events_found}, GatherLemmas.{gathers_first}}}
use Rattle.dgt_lines.proofs.{GatherLemmas.{gathers_stopped, gathers_then}}

-- ---- each event has a name or none

text_of_decided : {A : Type 0} (IsSaid : A → Type 0) (text : A → List ℕ) → Decided IsSaid
    → (name : Option (List ℕ)) × IsTextOf IsSaid text name
text_of_decided IsSaid text (inl said) = (Some (text said.0), (said.0, said.1, refl))
text_of_decided IsSaid text (inr none) = (None, none)

own_text : (bytes : List ℕ) → IsText bytes ⊎ ¬ (IsText bytes)
    → (name : Option (List ℕ)) × IsOwnText bytes name
own_text bytes (inl is) = (Some bytes, (is, refl))
own_text bytes (inr none) = (None, none)

carried_name : (code : Option KnownCode) (body : List ℕ)
    → (name : Option (List ℕ)) × HasCarriedName code body name
carried_name (Some KnownCode.Serial) body = own_text body (text_or_none body)
carried_name (Some KnownCode.LongSerial) body = own_text body (text_or_none body)
carried_name (Some KnownCode.Trademark) body = own_text body (text_or_none body)
carried_name (Some KnownCode.Battery) body =
    text_of_decided (IsBattery body) battery_text (battery_or_none body)
carried_name _ body = (None, refl)

pub name_of : (event : Event) → (name : Option (List ℕ)) × IsNamed event name
name_of (Message (times t)) = (Some (times_name t), refl)
name_of (Message (ack answer)) =
    text_of_decided (IsSignal answer.ack) signal_text (signal_or_none answer.ack)
name_of (Message (carried code body)) = carried_name (known_with code) body
name_of (Message said) = (None, refl)
name_of _ = (None, refl)

-- ---- one line

named_parts : (offset : ℕ) (event : Event) (name : Option (List ℕ)) (suffix : List ℕ)
    → suffix ≡ name_text name → named_line (at_place offset event) name
    ≡ (offset_text offset ++ 32 ∷ event_text event) ++ (suffix ++ codes "\n")
named_parts offset event name suffix e = rw e (simp append_assoc refl)

module _ {S : Type 0} (W : Sink S) (offset : ℕ) (event : Event) (h : List ℕ) (a b : S) where
  -- its text was refused
  pub text_refused : {A : Type 0} (j : List ℕ) (r : Result A RunFault) (e : RunFault)
      → IsErrAnd r (λ y. y ≡ e)
      → (e ≡ WriteFailed) × Stopped W a b (h ++ (offset_text offset ++ 32 ∷ event_text event))
      → GathersOne W (h, j) a b r (IsNamedLine offset event)
  text_refused j r e k q =
      let name = name_of event in
      record {
        text = named_line (at_place offset event) name.0;
        is = (name.0, name.1, refl);
        gathers = search (rules, gathers_first, named_parts);
      }

  module _ (i : List ℕ) (text : Gathered W h i a b (offset_text offset ++ 32 ∷ event_text event))
      (c : S) where
    -- its name was refused
    pub name_refused : {A : Type 0} (j : List ℕ) (r : Result A RunFault) (e : RunFault)
        → IsErrAnd r (λ y. y ≡ e)
        → GathersOne {A = Unit {0}} W (i, j) b c (Err e) (IsNameText event)
        → GathersOne W (h, j) a c r (IsNamedLine offset event)
    name_refused j r e k p = record {
      text = named_line (at_place offset event) p.is.0;
      is = (p.is.0, p.is.1, refl);
      gathers = gathers_stopped W h i j a b c _ p.text (codes "\n") _ r e text
          (named_parts offset event p.is.0 p.text p.is.2) k p.gathers;
    }

    -- and then comes its end
    pub gathers_named : (j k : List ℕ) (d : S) (r : Result (Unit {0}) RunFault)
        → GathersOne {A = Unit {0}} W (i, j) b c (Ok tt) (IsNameText event)
        → Gathers W (j, k) c d r (codes "\n") → GathersOne W (h, k) a d r (IsNamedLine offset event)
    gathers_named j k d r p q = record {
      text = named_line (at_place offset event) p.is.0;
      is = (p.is.0, p.is.1, refl);
      gathers = rw (named_parts offset event p.is.0 p.text p.is.2)
          (gathers_then W h i k a b d _ _ r text
          (gathers_then W i j k b c d p.text (codes "\n") r p.gathers q));
    }

-- ---- lines in a row

pub named-append : (xs ys : List Placed) (s t : List ℕ) → AreNamedLines xs s → AreNamedLines ys t
    → AreNamedLines (xs ++ ys) (s ++ t)
named-append [] ys s t p q = rw p q
named-append (x ∷ xs) ys s t p q = search (rules, append_assoc, named-append xs ys p.1 t p.4 q)

pub each_is_named : (xs : List Placed) → (text : List ℕ) × AreNamedLines xs text
each_is_named [] = ([], refl)
each_is_named (x ∷ xs) =
    let first = name_of x.event in
    let more = each_is_named xs in
    (named_line x first.0 ++ more.0, (first.0, more.0, first.1, refl, more.1))

one_line : (x : Placed) (text : List ℕ) → IsNamedLine x.place x.event text
    → AreNamedLines (x ∷ []) text
one_line x text h = (h.0, [], h.1, h.2 ∙ sym (append-nil _), refl)

-- ---- the lines of bytes

pub named_none : (kept : List ℕ) → kept ≡ [] → HasPrintedNames kept [] []
unfolding events
named_none kept e = record { said = refl; held = ap unfinished_message e }

module _ {kept bytes text : List ℕ} (h : HasPrintedNames kept bytes text) (chunks : ChunksAdd) where
  -- all events of a chunk that comes after them have these lines
  named_behind : (chunk more : List ℕ)
      → AreNamedLines (events_after (unfinished_message bytes) (length bytes) chunk) more
      → AreNamedLines (events (bytes ++ chunk)) (text ++ more)
  named_behind chunk more p = search (rules, named-append)

  module _ (still : UnfinishedAppend) (chunk : List ℕ) (n offset : ℕ)
      (counted : offset ≡ length bytes) (kept' : List ℕ)
      (held : unfinished_message kept'
      ≡ unfinished_message (unfinished_message kept ++ take n chunk)) where
    -- after a call of `advance`
    named_more : (event : Option Event) (more : List ℕ)
        → FirstEvent (unfinished_message kept) chunk n event
        → AreNamedLines (at_place_if_any (offset + n) event) more
        → HasPrintedNames kept' (bytes ++ take n chunk) (text ++ more)
    named_more event more found p = search (rules, events_found, named_behind)

    -- one that found an event
    pub named_event : (event : Event) (more : List ℕ)
        → FirstEvent (unfinished_message kept) chunk n (Some event)
        → IsNamedLine (offset + n) event more
        → HasPrintedNames kept' (bytes ++ take n chunk) (text ++ more)
    named_event event more found p =
        named_more (Some event) more found (one_line (at_place (offset + n) event) more p)

    -- one that found none
    pub named_part : FirstEvent (unfinished_message kept) chunk n None
        → HasPrintedNames kept' (bytes ++ take n chunk) (text ++ [])
    named_part found = named_more None [] found refl

  -- whatever comes after
  pub named_on : (more : List ℕ)
      → (others : List ℕ) × (last : List ℕ) × HasNamedLines (bytes ++ more) (text ++ others) last
  named_on more =
      let others = each_is_named (events_after (unfinished_message bytes) (length bytes) more) in
      (others.0, _, (named_behind more others.0 others.1, refl))

pub monitored_names : {A : Type 0} (r : Result A RunFault) (bytes out : List ℕ)
    → IsPrinted HasNamedLines r bytes out → AreMonitored r bytes out
monitored_names r bytes out p = search rules
