-- Over whole runs.
use Rattle.{std.{proofs.Common.{rules, ◌≡◌, ◌++◌, inl, refl, subst, List, [], ◌∷◌, Some, None}, specs.Prelude.{IfSome, slice_get}}, dgt_values.specs.{declared.pieces.Piece.{Piece}, Board.{pieces_of}}}
use Rattle.{dgt_chess.specs.Rules.{board}, dgt_game.specs.{declared.{node.Step.{Step}, observation.Sight.{Sight}, recogniser.Recogniser.{Recogniser}}, Memory.{IsKept, told_of}, Planning.{IsPlanned}}}
use Rattle.dgt_game.specs.Recogniser.{Knows, new_recogniser, shown_after}
use Rattle.dgt_game.specs.Runs.{Call, CallsAreRuns, IsLegalAndShown, LastWasShown, NothingWasSure, ReportedInOrder, Runs, ShownMayEnd, StaysSound, SureIsCounted}
use Rattle.dgt_game.specs.{Runs.{SureIsSeen, SureWasShown, events_of, shown_in, sure_in}, Standing.{Stands}, Sure.{EndsSure, KnowsSure, WasSure, sure_after}, Told.{IsLegalTold, Told, WasShown}}
use Rattle.dgt_game.{specs.Told.{as_shown, told_pieces}, proofs.{Known.{Within, knows_more, knows_nothing, within_cons, within_first}, Sure.{kings_sure, knows_none, knows_sure_more, shown_sure}}}
use Rattle.dgt_game.proofs.Settling.{reported_is_shown}

runs_append : (old mid new : Recogniser) (calls more : List Call) → Runs old calls mid
    → Runs mid more new → Runs old (calls ++ more) new
runs_append old mid new [] more first next = rw first at next
runs_append old mid new (call ∷ calls) more first next =
    (first.0, first.1, runs_append first.0 mid new calls more first.2 next)

pub calls_are_runs : CallsAreRuns
calls_are_runs old new = search (rules, runs_append)

-- what is so between calls
record IsSound (shown sure : List (List Piece)) (line : List Told) (self : Recogniser) : Type 0
  where
    pub known : Knows shown line self
    pub planned : IsPlanned self
    pub stands : Stands self
    pub seen : KnowsSure sure self

-- where a run leads to
abbrev Leads_on : List (List Piece) → List (List Piece) → List Told → List Call → Recogniser
    → Type 0
Leads_on shown sure line calls ended =
    (after : List Told) × IsLegalTold line (events_of calls) after
    × IsSound (shown_in shown calls) (sure_in sure calls) after ended

stays_sound : (shown sure more : List (List Piece)) (line next : List Told) (old new : Recogniser)
    → IsSound shown sure line old → StaysSound old new → Knows more next new
    → KnowsSure sure new → IsSound more sure next new
stays_sound shown sure more line next old new h sound known now =
    let after = sound shown line h.known h.planned h.stands in
    record { known = known; planned = after.0; stands = after.1; seen = now }

over_calls : (calls : List Call) (shown sure : List (List Piece)) (line : List Told)
    (old ended : Recogniser) → IsSound shown sure line old → Runs old calls ended
    → Leads_on shown sure line calls ended
over_calls [] shown sure line old ended h runs = (line, refl, rw runs h)
over_calls (Call.See sight ∷ calls) shown sure line old ended h
    (next, (sees, sound, seen, same), runs) =
    let after = sound shown line h.known h.planned h.stands in
    over_calls calls (shown_after sight shown) (sure_after sight sure) line next ended (record {
      known = sees shown line h.known;
      planned = after.0;
      stands = after.1;
      seen = seen sure h.seen;
    }) runs
over_calls (Call.Due None ∷ calls) shown sure line old ended h
    (next, (reports, sound, seen, marks), runs) =
    over_calls calls shown sure line next ended (search (rules, stays_sound)) runs
over_calls (Call.Due (Some event) ∷ calls) shown sure line old ended h
    (next, (reports, sound, seen, marks), runs) =
    let (told, leads, known) = reports shown line h.known in
    let (after, legal, last) = over_calls calls shown sure told next ended (stays_sound shown sure
    shown line told old next h sound known
    (seen shown line h.known h.planned h.stands sure h.seen)) runs in
    (after, (told, leads, legal), last)
over_calls (Call.GoOn state is_turned ∷ calls) shown sure line old ended h
    (next, (goes, planned, stands, seen, same), runs) =
    let told : Told = record { state = state; halves = 0; is_turned = is_turned } in
    let pieces = told_pieces told in
    let known : Knows (pieces ∷ shown) (told ∷ []) next =
    knows_more (pieces ∷ []) (pieces ∷ shown) (told ∷ []) next (within_first shown pieces) goes in
    let (after, legal, last) = over_calls calls (pieces ∷ shown) (pieces ∷ sure) (told ∷ []) next
    ended (search (rules, knows_sure_more, within_first)) runs in
    (after, (told ∷ [], refl, legal), last)

-- the last state of the line is the one that is kept
ends : (sure : List (List Piece)) (items : List Step) (line : List Told) → IsKept items line
    → IfSome (slice_get items 0) (λ step. WasSure sure (told_of step)) → EndsSure sure line
ends sure items [] kept h = tt
ends sure [] (told ∷ line) kept h = let none : told ∷ line ≡ [] = kept.1 refl in absurd (cc)
ends sure (step ∷ items) (told ∷ line) kept h = subst (WasSure sure) kept.0.0 h

pub legal_and_shown : IsLegalAndShown
legal_and_shown calls ended runs =
    let (line, legal, sound) = over_calls calls [] [] [] new_recogniser ended (record {
      known = knows_nothing;
      planned = inl refl;
      stands = search rules;
      seen = knows_none;
    }) runs in search (rules, ends)

pub reported_in_order : ReportedInOrder
reported_in_order calls self new view event now runs reports shown stands there seen =
    let (line, legal, were, last) = legal_and_shown calls self runs in
    let is = reported_is_shown self new view event now reports shown stands there seen in
    ((line, legal, last reports.1.0), is.0, is.1)

-- ---- What was shown for sure

pub sure_is_seen : SureIsSeen
sure_is_seen h sure = search rules

pub sure_is_counted : SureIsCounted
sure_is_counted [] sure = (λ all. refl, λ all. refl)
sure_is_counted (Sight.Sure position ∷ sights) sure =
    search (rules, sure_is_counted sights (pieces_of position ∷ sure))
sure_is_counted (Sight.Doubted position ∷ sights) sure = search (rules, sure_is_counted sights sure)
sure_is_counted (Sight.Away ∷ sights) sure = search (rules, sure_is_counted sights sure)

within_both : (shown more : List (List Piece)) (first : List Piece) → Within shown more
    → Within (first ∷ shown) (first ∷ more)
within_both shown more first within picture h = search (rules, within_cons)

within_run : (calls : List Call) (sure shown : List (List Piece)) → Within sure shown
    → Within (sure_in sure calls) (shown_in shown calls)
within_run [] sure shown within = within
within_run (Call.See (Sight.Sure position) ∷ calls) sure shown within =
    within_run calls (pieces_of position ∷ sure) (pieces_of position ∷ shown)
    (within_both sure shown (pieces_of position) within)
within_run (Call.See (Sight.Doubted position) ∷ calls) sure shown within =
    within_run calls sure (pieces_of position ∷ shown) (search (rules, within_cons))
within_run (Call.See Sight.Away ∷ calls) sure shown within = within_run calls sure shown within
within_run (Call.Due report ∷ calls) sure shown within = within_run calls sure shown within
within_run (Call.GoOn state is_turned ∷ calls) sure shown within =
    let pieces = as_shown is_turned (board state) in
    within_run calls (pieces ∷ sure) (pieces ∷ shown) (within_both sure shown pieces within)

pub sure_was_shown : SureWasShown
sure_was_shown calls picture h = within_run calls [] [] (λ picture h. h) picture h

pub last_was_shown : LastWasShown
unfolding WasSure
last_was_shown sure told line h none = search rules

pub nothing_was_sure : NothingWasSure
unfolding WasSure WasShown
nothing_was_sure told line h = search rules

pub shown_may_end : ShownMayEnd
shown_may_end sure told line = search (rules, shown_sure, kings_sure)
