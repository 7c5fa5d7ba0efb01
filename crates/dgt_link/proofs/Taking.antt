-- How a command that the board takes changes the kinds owed and whether the clock is followed.
use Rattle.std.proofs.{Common.{◌≡◌, refl, ap, ◌∙◌, ℕ, List, [], ◌∷◌, ◌++◌, Option, None, append_assoc, rules}, lemmas.{List.{Elements.{filter_map-append}}}}
use Rattle.{std.specs.{List.{cons_option}, Prelude.{filter_map}}, dgt_command.specs.{Content.{ClockContent, CommandContent, EventContent}, Words.{IsNoise, IsNoiseList}}}
use Rattle.{dgt_board.specs.State.{BoardState, effect, effects}, dgt_link.{specs.Sound.{kind_of_event, kind_of_reply}}}

-- the kinds owed and then asked for stay the same when a command is taken
pub effect-kinds : (board : BoardState) (event : EventContent) (down : List EventContent)
    → filter_map kind_of_reply (effect board event).owed ++ filter_map kind_of_event down
    ≡ filter_map kind_of_reply board.owed ++ filter_map kind_of_event (event ∷ down)
effect-kinds board event down = search (rules, filter_map-append, append_assoc)

-- a command doesn't change squares and clock, or what was reported of them
pub record Leaves (before after : BoardState) : Type 0 where
  pub squares : after.squares ≡ before.squares
  pub clock : after.clock ≡ before.clock
  pub reported_squares : after.reported_squares ≡ before.reported_squares
  pub reported_clock : after.reported_clock ≡ before.reported_clock

pub effect_leaves : (board : BoardState) (event : EventContent) → Leaves board (effect board event)
effect_leaves board event = search rules

-- the same squares, and the same clock
pub record HasSameGame (before after : BoardState) : Type 0 where
  pub squares : after.squares ≡ before.squares
  pub clock : after.clock ≡ before.clock

pub same_game : (board : BoardState) → HasSameGame board board
same_game board = record { squares = refl; clock = refl }

pub effects_same_game : (board : BoardState) (events : List EventContent)
    → HasSameGame board (effects board events)
effects_same_game board [] = same_game board
effects_same_game board (event ∷ events) =
    search (rules, effect_leaves, effects_same_game (effect board event) events)

-- ---- noise

-- anything that doesn't read clock messages, LED frames and faults doesn't read noise
pub nothing_of_noise : {X : Type 0} (read : EventContent → Option X) → ((message : ClockContent)
    → read (EventContent.Read (CommandContent.ClockMessage message)) ≡ None)
    → ((leds : List ℕ) → read (EventContent.Read (CommandContent.Leds leds)) ≡ None)
    → (read EventContent.BadSize ≡ None) × (read EventContent.BadStart ≡ None)
    × (read EventContent.BadEnd ≡ None) → ((byte : ℕ) → read (EventContent.Stray byte) ≡ None)
    → (noise : List EventContent) → IsNoiseList noise → filter_map read noise ≡ []
nothing_of_noise {X = X} read message leds faults stray noise is_noise = of noise is_noise
  where
    one : (event : EventContent) → IsNoise event → read event ≡ None
    one (EventContent.Read (CommandContent.ClockMessage said)) h = message said
    one (EventContent.Read (CommandContent.Leds lit)) h = leds lit
    one (EventContent.Read _) h = absurd h
    one EventContent.BadSize h = faults.0
    one EventContent.BadStart h = faults.1
    one EventContent.BadEnd h = faults.2
    one (EventContent.Stray byte) h = stray byte

    of : (noise : List EventContent) → IsNoiseList noise → filter_map read noise ≡ []
    of [] h = refl
    of (event ∷ rest) h =
        ap (λ (found : Option X). cons_option found (filter_map read rest)) (one event h.0)
        ∙ of rest h.1
