-- The derived `==` of lists, of clocks and of messages.
use Rattle.std.{proofs.{Common.{◌≡◌, ℕ, refl, sym, ap, rules, arith, [], ◌∷◌, Bool, map}, lemmas.{Grind.{common_steps}, Slice.Eq.{slice_eq-Decides}}}}
use Rattle.{dgt_values.specs.{Bytes.{number}, Equality.{EqualIsSameRead}}, dgt_message.specs.{Code.{HasCase}, Content.{clock_seen, code_of, content, absence_seen, code_number, times_seen}}}
use Rattle.dgt_message.specs.declared.{other.OtherCode.{OtherCode}, message.Message.TheVariants.{Dump, Other}}
use lib.Pointwise.{pointwise}
use Rattle.dgt_values.specs.contracts.pieces.PiecePartialEq.TheImpl as piece
use Rattle.dgt_message.specs.contracts.clock.NoClockPartialEq.TheImpl as absence
use Rattle.dgt_message.specs.contracts.clock.TimesPartialEq.TheImpl as times
use Rattle.dgt_message.specs.contracts.clock.ClockPartialEq.TheImpl as clock
use Rattle.dgt_message.specs.contracts.message.MessagePartialEq.TheImpl as message

-- lists are equal exactly if a clause sees the same in both, if that is true of their elements
pub equal_lists : {T Read : Type 0} → (read : T → Read) (eq : T → T → Bool)
    → EqualIsSameRead read eq → EqualIsSameRead (map read) (pointwise eq)
equal_lists read eq same [] [] = (λ _. refl, λ _. refl)
equal_lists read eq same [] (y ∷ ys) = (λ t. cc, λ e. cc)
equal_lists read eq same (x ∷ xs) [] = (λ t. cc, λ e. cc)
equal_lists read eq same (x ∷ xs) (y ∷ ys) = search (rules, equal_lists read eq same xs ys)

-- the times of two clocks are equal exactly if they are the same
pub equal_times : EqualIsSameRead times_seen (times.eq-value).it
equal_times a b = grind (arith, common_steps)

-- boards without a clock are equal exactly if they report the same bytes and status
pub equal_absences : EqualIsSameRead absence_seen (absence.eq-value).it
equal_absences a b = search (rules, equal_lists)

-- two clocks are equal exactly if they report the same
pub equal_clocks : EqualIsSameRead clock_seen (clock.eq-value).it
equal_clocks = search (rules, equal_times, equal_absences)

-- another code is not one with a variant of its own
not_known : (other : OtherCode) (number : ℕ) → code_number other ≡ number → HasCase number → ⊥
not_known other number e has = other.unread (rw e has)

-- two messages are equal exactly if they mean the same
pub equal_messages : EqualIsSameRead content (message.eq-value).it
equal_messages (Dump a) (Dump b) =
    let same = slice_eq-Decides {E = (piece.eq-value).it} (search rules) a.pieces b.pieces _ refl in
    (λ t. let pieces = same.0 t in cc, λ e. same.1 cc)
equal_messages (Other code a) (Other codes b) = search rules
equal_messages (Other code a) b = (λ t. cc, λ e. absurd (not_known code _ (ap code_of e) refl))
equal_messages a (Other code b) =
    (λ t. cc, λ e. absurd (not_known code _ (sym (ap code_of e)) refl))
equal_messages a b = search (rules, equal_lists)
