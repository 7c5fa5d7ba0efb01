-- After faults: once the board has sent a dump, what the host shows was reported, in this order.
use Rattle.std.{proofs.{Common.{◌≡◌, refl, sym, ap, subst, ◌∙◌, ℕ, List, [], ◌∷◌, ◌++◌, Some, append_assoc, false, rules}, lemmas.{List.{append-nil}, Option.{same_Some}}}, specs.List.{AllByRecursion}}
use Rattle.{std.specs.Prelude.{IsSome}, dgt_values.specs.declared.pieces.Piece.{Piece}, dgt_message.specs.Content.{Content}, dgt_board.specs.{Sending.{next_message}, State.{BoardState}}}
use Rattle.dgt_link.specs.{Act.{ActContent}, Faults.{is_break}, Healing.{IsInStep, StandsBehind, StandsWith}, History.{IsInOrderOf, RunsThrough, shown, shown_in, stood_in}, Machine.{MachineState}}
use Rattle.dgt_link.specs.{Machine.{Move, after_moves}, Readers.{Grammars}, Sound.{coming_picture}, Stands.{AreMovesOfStep}, Step.{Runs, Step}, View.{WorldView}, declared.acts.Outcome.{Outcome}}
use Rattle.dgt_link.proofs.{ActRuns.{run_keeps}, Behind.{ActsBehind, Sends, after_sent, sent_behind}, Counting.{forgotten, forgotten_stands, nothing_said}, History.{Goes, along, goes_all}}
use Rattle.dgt_link.proofs.{History.{later_shown, now, step_goes}, Hopes.{led}, KnownPictures.{comes_by_all, known_behind, seen_by_all, step_is_plain}, Lists.{not_empty, right_empty}}

-- no act is a break
abbrev Unbroken : List ActContent → Type 0
Unbroken = AllByRecursion (λ act. is_break act ≡ false)

abbrev PictureComes : MachineState → Type 0
PictureComes x = IsSome (coming_picture x)

abbrev dump_of : WorldView → Content
dump_of world = Content.dump world.board.state.squares

step_comes : (act : ActContent) (answer : Outcome) (x : MachineState) (moves : List Move)
    → is_break act ≡ false → AreMovesOfStep act answer moves → PictureComes x
    → PictureComes (after_moves x moves)
step_comes act answer x moves other are =
    comes_by_all x moves (step_is_plain act answer moves other are)

-- nothing is under way to the host
nothing_comes : (garbage : List ℕ) (world : WorldView) (x : MachineState)
    → StandsBehind garbage world x → world.host.unread ≡ [] → world.up.bytes ≡ [] → x.up ≡ []
nothing_comes garbage world x stands unread up = search (rules, nothing_said, right_empty)

all_heard : (world : WorldView) → StandsWith PictureComes world → world.host.unread ≡ []
    → world.up.bytes ≡ [] → world.host.picture ≡ Some world.board.state.reported_squares
all_heard world is unread up = search (rules, nothing_comes)

first_is : (acts : List ActContent) (world : WorldView) (answers : List Outcome) (first : WorldView)
    (later : List WorldView) → RunsThrough acts world answers (first ∷ later) → first ≡ world
first_is [] world [] first later only = cc
first_is (act ∷ acts) world (answer ∷ answers) first later (between, others, step, runs, is) = cc
first_is _ world _ first later never = absurd never

module _ (behind : ActsBehind) where
  module _ (square : ℕ) where
    -- the state knows the picture, and so does the host
    known_goes : (seen before : List Piece) (acts : List ActContent) (garbage : List ℕ)
        (world : WorldView) (x : MachineState) (answers : List Outcome) (worlds : List WorldView)
        → Unbroken acts → StandsBehind garbage world x → IsSome x.picture
        → Goes square seen before x → RunsThrough acts world answers worlds
        → IsInOrderOf (seen ++ shown_in square worlds) (before ++ stood_in square worlds)
    known_goes seen before [] garbage world x [] worlds all stands some goes only = rw (
      only,
      (known_behind garbage world x stands some).0,
      stands.board,
      append-nil (shown square x.picture),
    )
        (goes_all square seen before x [] goes)
    known_goes seen before (act ∷ acts) garbage world x (answer ∷ answers) worlds all stands some
        goes
        (between, later, step, runs, is) =
        let reached = behind act garbage world answer between x all.0 stands step in
        let rest = known_goes (seen ++ shown square x.picture) (before ++ now square x ∷ []) acts
        reached.0 between (after_moves x reached.1) answers later all.1 reached.3
        (seen_by_all x reached.1 (step_is_plain act answer reached.1 all.0 reached.2) some)
        (step_goes square seen before x act answer reached.1 reached.2 goes) runs in
        search (rules, append_assoc)
    known_goes seen before _ garbage world x _ worlds all stands some goes never = absurd never

    -- a picture is to come, and is known once nothing is under way
    comes_goes : (before : List Piece) (acts : List ActContent) (garbage : List ℕ)
        (world : WorldView) (x : MachineState) (answers : List Outcome) (earlier : List WorldView)
        (first : WorldView) (later : List WorldView) → Unbroken acts → StandsBehind garbage world x
        → PictureComes x → Goes square [] before x
        → RunsThrough acts world answers (earlier ++ first ∷ later) → first.host.unread ≡ []
        → first.up.bytes ≡ []
        → IsInOrderOf (shown_in square (first ∷ later))
        (before ++ stood_in square (earlier ++ first ∷ later))
    comes_goes before acts garbage world x answers [] first later all stands comes goes runs unread
        up =
        let same = first_is acts world answers first later runs in
        let silent = nothing_comes garbage world x stands (rw same at unread) (rw same at up) in
        known_goes [] before acts garbage world x answers (first ∷ later) all stands
        (rw silent at comes) goes runs
    comes_goes before [] garbage world x [] (other ∷ earlier) first later all stands comes goes only
        unread up = absurd (not_empty earlier first later cc)
    comes_goes before (act ∷ acts) garbage world x (answer ∷ answers) (other ∷ earlier) first later
        all stands comes
        goes (between, others, step, runs, is) unread up =
        let reached = behind act garbage world answer between x all.0 stands step in
        let y : MachineState = after_moves x reached.1 in
        let rest_is : others ≡ earlier ++ first ∷ later = cc in
        let rest = comes_goes (before ++ now square x ∷ []) acts reached.0 between
        (after_moves x reached.1) answers earlier first later all.1 reached.3
        (step_comes act answer x reached.1 all.0 reached.2 comes)
        (later_shown (shown square x.picture) (along square y.picture y.up)
        ((before ++ now square x ∷ []) ++ now square y ∷ [])
        (step_goes square [] before x act answer reached.1 reached.2 goes)) (rw rest_is at runs)
        unread up in
        search (rules, append_assoc)
    comes_goes before _ garbage world x _ (other ∷ earlier) first later all stands comes goes never
        unread up = absurd never

  module _ (laws : Grammars) (world : WorldView) (is : IsInStep world)
      (dump : next_message world.board.state ≡ Some (dump_of world)) where
    abbrev start : MachineState
    start = forgotten is.state

    abbrev started : MachineState
    started = after_sent (forgotten is.state) (Content.dump is.state.board.squares)

    -- everything under way before the dump counts as garbage
    sent_stands : (between : WorldView) → Step ActContent.BoardSend world Outcome.Done between
        → StandsBehind (world.host.unread ++ world.up.bytes) between started
    sent_stands between step =
        let same : step.leaves.0 ≡ Content.dump is.state.board.squares
        = same_Some _ _ (sym step.leaves.1 ∙ dump)
        ∙ ap (λ (board : BoardState). Content.dump board.squares) is.stands.board in
        sent_behind laws (world.host.unread ++ world.up.bytes) world between start
        (Content.dump is.state.board.squares)
        (forgotten_stands is.garbage world world.up is.state is.stands)
        (subst (λ (said : Content). Sends said world between) same
        (step.leaves.1, step.leaves.2, step.leaves.3))

    pub picture_after_dump : (acts : List ActContent) (after : WorldView) (answers : List Outcome)
        → Unbroken acts → Runs (ActContent.BoardSend ∷ acts) world (Outcome.Done ∷ answers) after
        → after.host.unread ≡ [] → after.up.bytes ≡ []
        → after.host.picture ≡ Some after.board.state.reported_squares
    picture_after_dump acts after answers all (between, step, runs) unread up = all_heard after
        (run_keeps Step (λ act. is_break act ≡ false) (StandsWith PictureComes)
        (search (rules, led, step_comes)) acts between after answers all
        (search (rules, sent_stands))
        runs) unread up

    pub order_after_dump : (square : ℕ) (acts : List ActContent) (answers : List Outcome)
        (earlier : List WorldView) (first : WorldView) (later : List WorldView) → Unbroken acts
        → RunsThrough (ActContent.BoardSend ∷ acts) world (Outcome.Done ∷ answers)
        (world ∷ (earlier ++ first ∷ later)) → first.host.unread ≡ [] → first.up.bytes ≡ []
        → IsInOrderOf (shown_in square (first ∷ later))
        (stood_in square (world ∷ (earlier ++ first ∷ later)))
    order_after_dump square acts answers earlier first later all (between, others, step, runs, same)
        unread up =
        let rest_is : others ≡ earlier ++ first ∷ later = cc in
        rw is.stands.board
        (comes_goes square (now square start ∷ []) acts (world.host.unread ++ world.up.bytes)
        between started answers earlier first later all (sent_stands between step) refl
        (search rules) (rw rest_is at runs) unread up)
