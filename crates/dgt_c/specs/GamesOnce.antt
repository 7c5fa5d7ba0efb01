-- Arguments describe one observation of a board.
use Rattle.std.specs.Prelude.{◌≡◌, ℕ, Bool, List}
use Rattle.dgt_game.specs.declared.observation.Observation.{Observation}
use Rattle.dgt_game.specs.declared.observation.Sight.{Sight}
use Rattle.dgt_c.specs.Games.{SaysObservation, SaysSight}

abbrev pub OneSight : Type 0
OneSight =
    (codes : List ℕ) (said : ℕ) (first second : Sight) → SaysSight codes said first
    → SaysSight codes said second → first ≡ second

abbrev pub OneObservation : Type 0
OneObservation =
    (now : ℕ) (codes : List ℕ) (sight : ℕ) (confirmed : Bool) (running : ℕ)
    (first second : Observation) → SaysObservation now codes sight confirmed running first
    → SaysObservation now codes sight confirmed running second → first ≡ second
