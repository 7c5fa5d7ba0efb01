-- What is seen of a board, as arguments of C describe it, and what is reported of a game.
use Rattle.std.{proofs.Common.{rules, ◌≡◌, ◌∙◌, ℕ, List, ap, arith, refl, subst, sym}, specs.Prelude.{Bool, IsTrue, MatchOption, None, Option, Some, false, option_map, true}}
use Rattle.dgt_chess.specs.declared.pieces.Colour.{Colour}
use Rattle.dgt_chess.specs.declared.state.State.{State}
use Rattle.dgt_game.specs.declared.{event.Event.{Event}, node.Step.{Step}, recogniser.Recogniser.{Recogniser}}
use Rattle.dgt_game.specs.Timing.{IsIdle}
use Rattle.dgt_c.specs.{Chess.{SaysState}, Games.{game_event_reported}, Recognisers.{HasSeen, Writes}}
use Rattle.dgt_c.specs.declared.header.{DgtChessState.{DgtChessState}, DgtGameEvent.{DgtGameEvent}}
use Rattle.{dgt_chess.proofs.Same.{same_position}, dgt_game.specs.declared.observation.{Observation.{Observation}, Sight.{Sight}}, dgt_c.specs.Games.{SaysObservation, SaysSight, side_number}}
use Rattle.dgt_c.{specs.GamesOnce.{OneObservation, OneSight}, proofs.{ChessLemmas.{OnePiece, colour_once}, OnceLemmas.{pieces_once}}}

-- what is taken, as the arguments describe it
pub saw : (now : ℕ) (codes : List ℕ) (n : ℕ) (confirmed : Bool) (running : ℕ)
    (sight : Sight) (side : Option Colour) (old new : Recogniser) → SaysSight codes n sight
    → running ≡ side_number side
    → HasSeen old (record {
      at = now;
      sight = sight;
      is_confirmed = confirmed;
      running = side;
    }) new
    → (seen : Observation) × SaysObservation now codes n confirmed running seen
    × HasSeen old seen new
saw now codes n confirmed running sight side old new shown runs has = (
  record { at = now; sight = sight; is_confirmed = confirmed; running = side },
  record { at_said = refl; sight_said = shown; confirmed_said = refl; running_said = runs },
  has,
)

-- what isn't taken, since something is due
pub still_due : (now : ℕ) (codes : List ℕ) (n : ℕ) (confirmed : Bool) (running : ℕ)
    (sight : Sight) (side : Option Colour) (old : Recogniser) → SaysSight codes n sight
    → running ≡ side_number side → ¬ (IsIdle now old)
    → (seen : Observation) × SaysObservation now codes n confirmed running seen
    × ¬ (IsIdle now old)
still_due now codes n confirmed running sight side old shown runs due = (
  record { at = now; sight = sight; is_confirmed = confirmed; running = side },
  record { at_said = refl; sight_said = shown; confirmed_said = refl; running_said = runs },
  due,
)

-- ---- the state after the events

abbrev state_in : State → Option State → State
state_in other None = other
state_in other (Some state) = state

pub known_last : (last : Option Step) (known : State) (old said : DgtChessState)
    → Some known ≡ option_map (λ step. step.state) last → SaysState said known
    → MatchOption last ((true ≡ false) × (said ≡ old))
    (λ step. IsTrue true × SaysState said step.state)
known_last None known old said e says = absurd cc
known_last (Some step) known old said e says =
    (refl, subst (λ (state : State). SaysState said state) (ap (state_in known) e) says)

pub none_last : (last : Option Step) (old : DgtChessState)
    → None ≡ option_map (λ step. step.state) last
    → MatchOption last ((false ≡ false) × (old ≡ old))
    (λ step. IsTrue false × SaysState old step.state)
none_last None old e = (refl, refl)
none_last (Some step) old e = absurd cc

-- ---- events

pub what_is_written : (told : Option Event) (result : Bool) (old new : DgtGameEvent)
    → Writes told result old new
    → (IsTrue result
    → (event : Event) × (told ≡ Some event) × (new ≡ game_event_reported event))
    × (result ≡ false → (told ≡ None) × (new ≡ old))
what_is_written None result old new h =
    ((λ yes. let e = sym h.0 ∙ yes in absurd cc), (λ no. (refl, h.1)))
what_is_written (Some event) result old new h =
    ((λ yes. (event, refl, h.1)), (λ no. let e = sym h.0 ∙ no in absurd cc))

-- ---- one observation

pub one_sight : OnePiece → OneSight
one_sight one codes n (Sight.Sure a) (Sight.Sure b) x y =
    ap Sight.Sure (same_position a b (pieces_once one a.pieces b.pieces (x.1 ∙ sym y.1)))
one_sight one codes n (Sight.Doubted a) (Sight.Doubted b) x y =
    ap Sight.Doubted (same_position a b (pieces_once one a.pieces b.pieces (x.1 ∙ sym y.1)))
one_sight one codes n Sight.Away Sight.Away x y = refl
one_sight one codes n _ _ x y = absurd (omega (arith, x, y))

side_once : (a b : Option Colour) → side_number a ≡ side_number b → a ≡ b
side_once a b e = search (rules, colour_once)

pub one_observation : OnePiece → OneObservation
one_observation one now codes n confirmed running a b x y = search (rules, one_sight, side_once)
