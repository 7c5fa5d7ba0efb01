-- What a picture is read as.
use Rattle.std.{proofs.Common.{rules, ◌≡◌, ◌∙◌, ◌<◌, ◌≤◌, ◌⊎◌, inl, inr, arith, sym, refl, ℕ, zero, suc, Bool, true, false, ◌∷◌, List, length, Option, Some, None, slice_index_or}, specs.Prelude.{◌≢◌}}
use Rattle.std.{specs.Prelude.{[], slice_get}, proofs.{lemmas.{Option.{slice_get_read, slice_get_within}, List.{get_or-reverse, length-map}}, Math.Logic.{∥∥₁_elim}}}
use Rattle.{dgt_values.specs.{declared.pieces.Piece.{Piece}, Board.{pieces_of}}, dgt_chess.specs.declared.{state.{Move.{Move}, State.{State}}, pieces.{Colour.{Colour}, Man.{Man}}}}
use Rattle.{dgt_chess.specs.{Attacks.{piece_at, piece_of}, Possible.{HasKings, HasOneKing}, Rules.{board}}, dgt_game.specs.declared.{memory.Memory.{Memory}, node.{Node.{Node}, Place.{Place}}}}
use Rattle.dgt_game.specs.{declared.{node.{Returned.{Returned}, Step.{Step}}, reading.Reading.{Reading}, recogniser.{Over.{Over}, Recogniser.{Recogniser}}, view.View.{View}}, Lines.{LeadsTo, NoLine}}
use Rattle.dgt_game.specs.{Lines.{IsLine}, Told.{as_shown}, Memory.{steps}}
use Rattle.dgt_game.specs.Reading.{HasLine, HasLineFrom, IsExplained, IsLive, IsNear, IsRepeated, RepeatsInPlace, RepetitionIsRead, TakesFewBack, ReadsView, ShowsAt, SomeLine, EarlierAreKnown}
use Rattle.dgt_game.{specs.{Reading.{ElseStartIsKnown, FollowsSeen, IsKnown, IsRead, MovesAreKnown, ShowsEarlier, StartIsKnown, TwoAreKnown}, Waiting.{last_of}}, proofs.Chains.{get_step, same_some}}
use Rattle.dgt_game.proofs.Links.{turned_back}
use Rattle.std.proofs.Common.{subst}
use Rattle.dgt_game.specs.Reading.{LiveForTen, MayGoOn, SeenIsFollowed, TwoToFourAreSome}
use Rattle.{std.proofs.{Common.{ap}, lemmas.{Bool.{cases_eq}, List.{get_or-set_other}}}}
use Rattle.dgt_game.specs.{Missing.{GoneFrom, IsOneGone}, Reading.{GoneIsKnown}, Results.{IsKing}, Told.{LacksOne}}

pub read_at : (nodes : List Node) (k : ℕ) (node : Node) → k < length nodes
    → node ≡ slice_index_or nodes k node → slice_get nodes k ≡ Some node
read_at nodes k node small is = slice_get_read nodes (length nodes) k node refl small is

-- a node that was read twice
pub shown_at : (first second node : Node) (shown : List Piece) → first ≡ node → second ≡ node
    → board first.step.state ≡ as_shown second.step.is_turned shown
    → board node.step.state ≡ as_shown node.step.is_turned shown
shown_at first second node shown one two same = search rules

pub shown_back : (first second node : Node) (shown : List Piece) → node ≡ first → node ≡ second
    → board node.step.state ≡ as_shown node.step.is_turned shown
    → board first.step.state ≡ as_shown second.step.is_turned shown
shown_back first second node shown one two same = search rules

-- the node of a place has the pieces that are shown
pub shows_line : (self : Memory) (view : View) (k : ℕ) (node : Node)
    → slice_get self.line.items k ≡ Some node
    → board node.step.state ≡ as_shown node.step.is_turned (pieces_of view.shown)
    → ShowsAt self view (Place.Line k)
shows_line self view k node at same = search (rules, get_step, turned_back)

pub shows_seen : (self : Memory) (view : View) (k : ℕ) (node : Node)
    → slice_get self.seen.items k ≡ Some node
    → board node.step.state ≡ as_shown node.step.is_turned (pieces_of view.shown)
    → ShowsAt self view (Place.Seen k)
shows_seen self view k node at same = search (rules, get_step, turned_back)

pub reads_at : (self : Memory) (view : View) (place : Place) → ShowsAt self view place
    → ReadsView self view (Reading.At place)
reads_at self view (Place.Line k) at = at
reads_at self view (Place.Seen k) at = at
reads_at self view Place.Nowhere at = tt

pub near_read : (reading : Reading) → IsNear reading → IsRead reading
near_read reading near = search rules

pub no_line : (count : ℕ) (state : State) (pieces shown : List Piece) → NoLine count state pieces
    → pieces ≡ shown → ¬ (SomeLine count state shown)
unfolding NoLine
no_line count state pieces shown none same (moves, long, leads) = none moves long (rw same leads)

-- the step at a place is known
pub from_here : (here : Option Step) (from : Step) (count : ℕ) (picture : List Piece)
    → here ≡ Some from → ((step : Step) × (here ≡ Some step) × HasLineFrom count step picture)
    → HasLineFrom count from picture
from_here here from count picture is (step, at, line) =
    let same : step ≡ from = cc in rw same at line

pub none_here : (here : Option Step) (count : ℕ) (picture : List Piece) → here ≡ None
    → ¬ ((step : Step) × (here ≡ Some step) × HasLineFrom count step picture)
none_here here count picture none (step, at, line) = cc

-- a test sees each king of the colour
abbrev pub Sees : List Piece → Colour → Bool → Type 0
Sees picture colour found =
    (square : ℕ) → square < 64 → piece_at picture square ≡ piece_of colour Man.King → found ≡ true

-- a king of a state is on the board, from whichever side that is seen
king_shown : (pieces picture : List Piece) (turned : Bool) (colour : Colour) (found : Bool)
    → length picture ≡ 64 → pieces ≡ as_shown turned picture → HasOneKing pieces colour
    → Sees picture colour found → found ≡ true
unfolding HasOneKing
king_shown pieces picture turned colour found len same h sees = search (rules, get_or-reverse)

one_king : (pieces : List Piece) (colour : Colour) → HasKings pieces → HasOneKing pieces colour
one_king pieces colour kings = search rules

-- so both kings are on its picture
pub king_seen : (state : State) (turned : Bool) (picture : List Piece) (colour : Colour)
    (found : Bool) → length picture ≡ 64 → board state ≡ as_shown turned picture
    → Sees picture colour found → found ≡ true
king_seen state turned picture colour true len same sees = refl
king_seen state turned picture colour false len same sees =
    absurd (∥∥₁_elim state.possible (λ x y. absurd x) (λ possible.
    let wrong : false ≡ true = king_shown (board state) picture turned colour false len same
    (one_king (board state) colour possible.kings) sees in
    cc))

king_at : (picture : List Piece) (turned : Bool) (colour : Colour) (found : Bool) (square : ℕ)
    → square < 64 → length picture ≡ 64
    → piece_at (as_shown turned picture) square ≡ piece_of colour Man.King
    → Sees picture colour found → found ≡ true
king_at picture turned colour found square small len king sees = search (rules, get_or-reverse)

king_of : (pieces : List Piece) (colour : Colour) → HasOneKing pieces colour
    → (square : ℕ) × (square < 64) × (piece_at pieces square ≡ piece_of colour Man.King)
unfolding HasOneKing
king_of pieces colour h = search rules

is_king : (colour : Colour) (piece : Piece) → piece ≡ piece_of colour Man.King → IsKing piece
is_king Colour.White piece e = inl e
is_king Colour.Black piece e = inr e

-- a king isn't the piece that is gone
king_stays : (state : State) (pieces : List Piece) (gone : ℕ) (colour : Colour)
    → LacksOne pieces state gone → HasOneKing (board state) colour
    → (square : ℕ) × (square < 64) × (piece_at pieces square ≡ piece_of colour Man.King)
king_stays state pieces gone colour lacks one =
    let (square, small, king) = king_of (board state) colour one in (
      square,
      small,
      elim (cases_eq square gone) [
        | inl same ↦ absurd (lacks.2 (is_king colour _ (ap (piece_at (board state)) (sym same)
            ∙ king)))
        | inr differs ↦ ap (λ (p : List Piece). piece_at p square) lacks.3
            ∙ get_or-set_other (board state) gone square Piece.Empty Piece.Empty differs ∙ king
      ],
    )

pub king_left : (state : State) (turned : Bool) (picture : List Piece) (gone : ℕ)
    (colour : Colour) (found : Bool) → length picture ≡ 64
    → LacksOne (as_shown turned picture) state gone → Sees picture colour found → found ≡ true
king_left state turned picture gone colour true len lacks sees = refl
king_left state turned picture gone colour false len lacks sees =
    absurd (∥∥₁_elim state.possible (λ x y. absurd x) (λ possible.
    let (square, small, king) = king_stays state (as_shown turned picture) gone colour lacks
    (one_king (board state) colour possible.kings) in
    let wrong : false ≡ true = king_at picture turned colour false square small len king sees in
    cc))

-- the state that is shown but for one piece
abbrev pub SomeWithout : List Piece → Type 0
SomeWithout picture =
    (state : State) × ((turned : Bool)
    × ((gone : ℕ) × LacksOne (as_shown turned picture) state gone))

without_from : (step : Step) (picture : List Piece)
    → IsOneGone step.state (as_shown step.is_turned picture) → SomeWithout picture
without_from step picture (square, (one, (new, (move, lacks, same))), only) =
    (new, (step.is_turned, (square, lacks)))

-- the state that is shown
abbrev pub SomeState : List Piece → Type 0
SomeState picture = (state : State) × (turned : Bool) × (board state ≡ as_shown turned picture)

turned_to : (turned : Bool) (pieces shown : List Piece) → as_shown turned pieces ≡ shown
    → pieces ≡ as_shown turned shown
turned_to turned pieces shown same = sym (turned_back turned shown pieces (sym same))

led_from : (count : ℕ) (step : Step) (picture : List Piece) → HasLineFrom count step picture
    → SomeState picture
unfolding LeadsTo
led_from count step picture (moves, long, (new, line, same)) = (new, step.is_turned, same)

pub led_to : (count : ℕ) (self : Memory) (place : Place) (picture : List Piece)
    → HasLine count self place picture → SomeState picture
led_to count self place picture (step, at, line) = led_from count step picture line

pub seen_state : (self : Memory) (picture : List Piece) → FollowsSeen self picture
    → SomeState picture
seen_state self picture (k, node, is, known, line) = led_from 1 node.step picture line

shown_state : (self : Memory) (view : View) (place : Place) → ShowsAt self view place
    → SomeState (pieces_of view.shown)
shown_state self view place (step, at, same) = search (rules, turned_to)

pub state_of : (self : Recogniser) (view : View) → IsKnown self view
    → SomeState (pieces_of view.shown) ⊎ SomeWithout (pieces_of view.shown)
state_of self view known = elim known [
  | inl start ↦ inl (start.0, start.1, start.3)
  | inr more ↦ elim more [
    | inl earlier ↦ inl (
        search (rules, turned_to)
        )
    | inr more ↦ elim more [
      | inl one ↦ inl (led_to 1 self.memory (Place.Line 0) (pieces_of view.shown) one.1)
      | inr more ↦ elim more [
        | inl two ↦ inl (led_to 2 self.memory (Place.Line 0) (pieces_of view.shown) two.2)
        | inr more ↦ elim more [
          | inl last ↦ inl (shown_state self.memory view (Place.Line 0) last.1)
          | inr (live, behind, set, (step, at, gone)) ↦
              inr (without_from step (pieces_of view.shown) gone)
        ]
      ]
    ]
  ]
]

-- the same is known if the line stays
abbrev pub over_of : Recogniser → Over
over_of self = self.over

abbrev pub since_of : Recogniser → ℕ
since_of self = self.since

abbrev pub returned_of : Recogniser → Returned
returned_of self = self.returned

pub live_same : (old new : Recogniser) → new.memory.line ≡ old.memory.line
    → over_of new ≡ over_of old → since_of new ≡ since_of old → IsLive old → IsLive new
live_same old new line over since (some, may) = search rules

line_same : (old new : Memory) (count : ℕ) (picture : List Piece) → new.line ≡ old.line
    → HasLine count old (Place.Line 0) picture → HasLine count new (Place.Line 0) picture
line_same old new count picture same (step, at, line) =
    (step, let got : slice_get (steps new.line.items) 0 ≡ Some step = cc in got, line)

earlier_same : (old new : Memory) (view : View) → new.line ≡ old.line → ShowsEarlier old view
    → ShowsEarlier new view
earlier_same old new view same (k, some, few, (step, at, shows)) = (
  k,
  some,
  few,
  (step, let got : slice_get (steps new.line.items) k ≡ Some step = cc in got, shows),
)

gone_same : (old new : Memory) (picture : List Piece) → new.line ≡ old.line
    → GoneFrom old (Place.Line 0) picture → GoneFrom new (Place.Line 0) picture
gone_same old new picture same (step, at, gone) =
    (step, let got : slice_get (steps new.line.items) 0 ≡ Some step = cc in got, gone)

last_same : (old new : Memory) (view : View) → new.line ≡ old.line
    → ShowsAt old view (Place.Line 0) → ShowsAt new view (Place.Line 0)
last_same old new view same (step, at, shows) =
    (step, let got : slice_get (steps new.line.items) 0 ≡ Some step = cc in got, shows)

pub known_same : (old new : Recogniser) (view : View) → new.memory.line ≡ old.memory.line
    → over_of new ≡ over_of old → since_of new ≡ since_of old → returned_of new ≡ returned_of old
    → (old.is_behind ≡ false → new.is_behind ≡ false)
    → (old.is_set_up ≡ false → new.is_set_up ≡ false)
    → IsKnown old view → IsKnown new view
known_same old new view line over since returned behind set_up known = elim known [
  | inl start ↦ inl start
  | inr more ↦ inr (elim more [
    | inl earlier ↦ inl (
        search (rules, live_same, earlier_same)
        )
    | inr more ↦ inr (elim more [
      | inl one ↦ inl (
          search (rules, live_same, line_same)
          )
      | inr more ↦ inr (elim more [
        | inl two ↦ inl (
            search (rules, live_same, line_same)
            )
        | inr more ↦ inr (elim more [
          | inl last ↦ inl (over ∙ last.0, last_same old.memory new.memory view line last.1)
          | inr (live, doubt, set, gone) ↦ inr (
            live_same old new line over since live,
            behind doubt,
            set_up set,
            gone_same old.memory new.memory (pieces_of view.shown) line gone,
          )
        ])
      ])
    ])
  ])
]

-- if the line stays, and the picture has a place once it was looked at
pub explains : (old new : Recogniser) (view : View) → new.view ≡ Some view
    → new.memory.line ≡ old.memory.line → over_of new ≡ over_of old → since_of new ≡ since_of old
    → (new.here ≢ Place.Nowhere) ⊎ ((returned_of new ≡ returned_of old)
    × (new.is_behind ≡ old.is_behind) × (new.is_set_up ≡ false → old.is_set_up ≡ false))
    → (IsKnown old view → new.here ≢ Place.Nowhere) → IsExplained new
explains old new view is line over since placed stands = rw is (λ known. elim placed [
  | inl here ↦ here
  | inr (returned, behind, set_up) ↦ stands (known_same new old view (sym line) (sym over)
      (sym since) (sym returned) (λ e. sym behind ∙ e) set_up known)
])

line_at : (old new : Memory) (k : ℕ) (step : Step) → new.line ≡ old.line
    → slice_get (steps old.line.items) k ≡ Some step
    → slice_get (steps new.line.items) k ≡ Some step
line_at old new k step same at = cc

-- the same is repeated if the line stays
repeated_same : (old new : Memory) (view : View) → new.line ≡ old.line → IsRepeated old view
    → IsRepeated new view
repeated_same old new view same ((k, two, (step, at, shows)), other, (before, was, line)) = (
  (k, two, (step, line_at old new k step same at, shows)),
  λ (step, at, shows). other (step, line_at new old 1 step (sym same) at, shows),
  (before, line_at old new 1 before same was, line),
)

pub few_same : (old new : Memory) (reading : Reading) → new.line ≡ old.line
    → TakesFewBack old reading → TakesFewBack new reading
few_same old new reading same few k three is =
    let (j, less, quick) = few k three is in (j, less, rw same quick)

-- if the line stays, and few half-moves are taken back once the picture was looked at
pub repeats : (old new : Recogniser) (view : View) → new.view ≡ Some view
    → new.memory.line ≡ old.memory.line → over_of new ≡ over_of old → since_of new ≡ since_of old
    → (IsLive old → IsRepeated old.memory view
    → TakesFewBack old.memory (Reading.At new.here)) → RepeatsInPlace new
repeats old new view is line over since few = rw is (λ live repeated.
    few_same old.memory new.memory (Reading.At new.here) line
    (few (live_same new old (sym line) (sym over) (sym since) live)
    (repeated_same new.memory old.memory view (sym line) repeated)))

-- it is read as no state of the line
pub few_back : (self : Memory) (reading : Reading)
    → ((k : ℕ) → reading ≢ Reading.At (Place.Line k)) → TakesFewBack self reading
few_back self reading none k three is = absurd (none k is)

pub at_line : (place : Place) (k : ℕ) → Reading.At place ≡ Reading.At (Place.Line k)
    → place ≡ Place.Line k
at_line place k same = cc

pub read_or_not : (reading : Reading) → IsRead reading ⊎ (reading ≡ Reading.At Place.Nowhere)
read_or_not reading = search rules

-- nothing before a place shows the picture, and it isn't there either
pub not_shown : (self : Memory) (view : View) (k : ℕ) (node : Node)
    → slice_get self.line.items k ≡ Some node
    → ¬ (board node.step.state ≡ as_shown node.step.is_turned (pieces_of view.shown))
    → ¬ (ShowsAt self view (Place.Line k))
not_shown self view k node at differs (step, is, same) = search (rules, get_step, turned_to)

pub at_least : (P : ℕ → Type 0) (k j : ℕ) → ((i : ℕ) → 1 ≤ i → i < k → ¬ (P i)) → 1 ≤ j → P j
    → k ≤ j
at_least P k j none some here = search rules

pub shown_within : (self : Memory) (view : View) (k : ℕ) → ShowsAt self view (Place.Line k)
    → k < length self.line.items
shown_within self view k (step, at, same) = search (rules, slice_get_within, length-map)

-- ---- Laws

leads : (state : State) (moves : List Move) (new : State) (pieces : List Piece)
    → IsLine state moves new → board new ≡ pieces → LeadsTo state moves pieces
unfolding LeadsTo
leads state moves new pieces line same = (new, line, same)

has_last : (self : Recogniser) (step : Step) → last_of self.memory ≡ Some step
    → self.memory.line.items ≢ []
has_last self step last none = search rules

open_line : (self : Recogniser) → self.over ≡ Over.No → self.memory.line.items ≢ [] → IsLive self
open_line self over some = (some, rw over tt)

pub moves_known : MovesAreKnown
moves_known self view step one new over last move same = inr (inr (inl (
  open_line self over (has_last self step last),
  (
    step,
    last,
    (
      one ∷ [],
      refl,
      search (rules, leads, turned_to),
    ),
  ),
)))

pub two_known : TwoAreKnown
two_known self view step one answer mid new over none last move move' same = inr (inr (inr (inl (
  open_line self over (has_last self step last),
  none,
  (
    step,
    last,
    (
      one ∷ answer ∷ [],
      refl,
      search (rules, leads, turned_to),
    ),
  ),
))))

pub earlier_known : EarlierAreKnown
earlier_known self view step zero over some few at same =
    inr (inr (inr (inr (inl (over, (step, at, same))))))
earlier_known self view step (suc k) over some few at same =
    inr (inl (open_line self over some, (suc k, omega arith, few, (step, at, same))))

pub gone_known : GoneIsKnown
gone_known self view step one new square over doubt set last move lacks same only =
    inr (inr (inr (inr (inr (
      open_line self over (has_last self step last),
      doubt,
      set,
      (step, last, (square, (one, (new, (move, lacks, same))), only)),
    )))))

pub start_known : StartIsKnown
start_known self view state is_turned start same = inl (
    search (rules, turned_to)
    )

pub else_start : ElseStartIsKnown
else_start self view ended known = elim known [
  | inl start ↦ search (rules, turned_back)
  | inr more ↦ search rules
]

pub live_for_ten : LiveForTen
live_for_ten self at some over small = (
  λ live. let may = subst (λ (o : Over). MayGoOn o self.since) over live.1 in search rules,
  λ less. (some, rw over (search rules)),
)

pub seen_is_followed : SeenIsFollowed
seen_is_followed self k node one new picture is known move same =
    let line : IsLine node.step.state (one ∷ []) new = (new, move, refl) in
    (k, node, is, known, (one ∷ [], refl, leads node.step.state (one ∷ []) new _ line same))

pub repetition_is_read : RepetitionIsRead
repetition_is_read self view before step k one new at move same differs two there shows =
    let line : IsLine before.state (one ∷ []) new = (new, move, refl) in (
      (k, two, (step, there, shows)),
      λ (other, is, shown). differs (rw (same_some _ before other at is) shown),
      (
        before,
        at,
        (
          one ∷ [],
          refl,
          leads before.state (one ∷ []) new _ line (turned_to before.is_turned (board new)
              (pieces_of view.shown) same),
        ),
      ),
    )

pub two_to_four : TwoToFourAreSome
two_to_four self step moves new picture last line same long =
    let leads' = leads step.state moves new _ line same in
    (length moves, search rules, search rules, (step, last, (moves, refl, leads')))
