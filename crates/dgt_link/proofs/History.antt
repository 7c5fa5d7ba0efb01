-- The pieces that a host shows on a square were there, and it never returns to an earlier one.
use Rattle.std.proofs.Common.{◌≡◌, refl, sym, subst, ◌∙◌, ◌⊎◌, inl, inr, ℕ, zero, suc, List, [], ◌∷◌, ◌++◌, Bool, Option, Some, None, append_assoc, replicate, if◌then◌else◌, rules}
use Rattle.{std.{proofs.lemmas.List.{append-nil}, specs.Prelude.{slice_set}}, dgt_values.specs.declared.pieces.Piece.{Piece}, dgt_message.specs.{Content.{Content}}}
use Rattle.{dgt_message.specs.Picture.{picture_after, picture_after_all}, dgt_command.specs.Content.{EventContent}, dgt_board.specs.{Sending.{field_of, piece_on}, State.{BoardState}}}
use Rattle.{dgt_board.specs.declared.replies.Reply.{Reply}, dgt_link.specs.{Act.{ActContent}, History.{IsInOrderOf, RunsThrough, shown, shown_in, shown_on, stood_in, stood_on}}}
use Rattle.dgt_link.specs.{Machine.{MachineState, Move, after_hear, after_move, after_moves, after_reply, after_reported, after_take}, Stands.{AreMovesOfAct, AreMovesOfStep, IsWorld, StandsAfterStep}}
use Rattle.dgt_link.{specs.{Stands.{StandsFor}, Step.{Step}, View.{WorldView}, declared.acts.Outcome.{Outcome}}, proofs.{Counting.{nothing_said}}}

-- ---- lists in order

module _ {X : Type 0} where
  pub more_stood : (xs ys zs : List X) → IsInOrderOf xs ys → IsInOrderOf xs (ys ++ zs)
  more_stood [] ys zs is = tt
  more_stood (x ∷ xs) [] zs is = absurd is
  more_stood (x ∷ xs) (y ∷ ys) zs (inl (same, rest)) = inl (same, more_stood xs (y ∷ ys) zs rest)
  more_stood (x ∷ xs) (y ∷ ys) zs (inr rest) = inr (more_stood (x ∷ xs) ys zs rest)

  pub fewer_shown : (xs ys zs : List X) → IsInOrderOf (xs ++ ys) zs → IsInOrderOf xs zs
  fewer_shown [] ys zs is = tt
  fewer_shown (x ∷ xs) ys [] is = absurd is
  fewer_shown (x ∷ xs) ys (z ∷ zs) (inl (same, rest)) = inl (same, fewer_shown xs ys (z ∷ zs) rest)
  fewer_shown (x ∷ xs) ys (z ∷ zs) (inr rest) = inr (fewer_shown (x ∷ xs) ys zs rest)

  -- the last is shown, too
  pub last_shown : (xs ys : List X) (y : X) → IsInOrderOf xs (ys ++ y ∷ [])
      → IsInOrderOf (xs ++ y ∷ []) (ys ++ y ∷ [])
  last_shown [] [] y is = inl (refl, tt)
  last_shown [] (first ∷ ys) y is = inr (last_shown [] ys y tt)
  last_shown (x ∷ xs) [] y (inl (same, rest)) = inl (same, last_shown xs [] y rest)
  last_shown (x ∷ xs) [] y (inr none) = absurd none
  last_shown (x ∷ xs) (first ∷ ys) y (inl (same, rest)) =
      inl (same, last_shown xs (first ∷ ys) y rest)
  last_shown (x ∷ xs) (first ∷ ys) y (inr rest) = inr (last_shown (x ∷ xs) ys y rest)

  -- one is shown twice in a row
  pub shown_again : (xs ys zs : List X) (x : X) → IsInOrderOf (xs ++ x ∷ ys) zs
      → IsInOrderOf (xs ++ x ∷ x ∷ ys) zs
  shown_again [] ys [] x is = absurd is
  shown_again [] ys (z ∷ zs) x (inl (same, rest)) = inl (same, inl (same, rest))
  shown_again [] ys (z ∷ zs) x (inr rest) = inr (shown_again [] ys zs x rest)
  shown_again (first ∷ xs) ys [] x is = absurd is
  shown_again (first ∷ xs) ys (z ∷ zs) x (inl (same, rest)) =
      inl (same, shown_again xs ys (z ∷ zs) x rest)
  shown_again (first ∷ xs) ys (z ∷ zs) x (inr rest) = inr (shown_again (first ∷ xs) ys zs x rest)

  -- pieces at any other moment don't count
  pub stood_before : (xs ys : List X) (y : X) → IsInOrderOf xs ys → IsInOrderOf xs (y ∷ ys)
  stood_before [] ys y is = tt
  stood_before (x ∷ xs) ys y is = inr is

  pub later_shown : (xs ys zs : List X) → IsInOrderOf (xs ++ ys) zs → IsInOrderOf ys zs
  later_shown [] ys zs is = is
  later_shown (x ∷ xs) ys [] is = absurd is
  later_shown (x ∷ xs) ys (z ∷ zs) (inl (same, rest)) = later_shown xs ys (z ∷ zs) rest
  later_shown (x ∷ xs) ys (z ∷ zs) (inr rest) =
      stood_before ys zs z (later_shown (x ∷ xs) ys zs rest)

  pub some_not_shown : (xs ys zs ws : List X) → IsInOrderOf (xs ++ (ys ++ zs)) ws
      → IsInOrderOf (xs ++ zs) ws
  some_not_shown [] ys zs ws is = later_shown ys zs ws is
  some_not_shown (x ∷ xs) ys zs [] is = absurd is
  some_not_shown (x ∷ xs) ys zs (w ∷ ws) (inl (same, rest)) =
      inl (same, some_not_shown xs ys zs (w ∷ ws) rest)
  some_not_shown (x ∷ xs) ys zs (w ∷ ws) (inr rest) = inr (some_not_shown (x ∷ xs) ys zs ws rest)

  -- pieces that were there twice in a row may count once
  pub stood_once : (xs ys zs : List X) (y : X) → IsInOrderOf xs (ys ++ y ∷ y ∷ zs)
      → IsInOrderOf xs (ys ++ y ∷ zs)
  stood_once [] ys zs y is = tt
  stood_once (x ∷ xs) [] zs y (inl (same, rest)) = inl (same, stood_once xs [] zs y rest)
  stood_once (x ∷ xs) [] zs y (inr rest) = rest
  stood_once (x ∷ xs) (first ∷ ys) zs y (inl (same, rest)) =
      inl (same, stood_once xs (first ∷ ys) zs y rest)
  stood_once (x ∷ xs) (first ∷ ys) zs y (inr rest) = inr (stood_once (x ∷ xs) ys zs y rest)

-- ---- what is yet to be shown

module _ (square : ℕ) where
  -- what the host shows now and after each message under way
  abbrev pub along : Option (List Piece) → List Content → List Piece
  along picture [] = shown square picture
  along picture (message ∷ up) = shown square picture ++ along (picture_after picture message) up

  record Begins (picture : Option (List Piece)) (up : List Content) : Type 0 where
    pub rest : List Piece
    pub is : along picture up ≡ shown square picture ++ rest

  begins : (picture : Option (List Piece)) (up : List Content) → Begins picture up
  begins picture [] = record { rest = []; is = sym (append-nil (shown square picture)) }
  begins picture (message ∷ up) =
      record { rest = along (picture_after picture message) up; is = refl }

  record Ends (picture : Option (List Piece)) (up : List Content) : Type 0 where
    pub before : List Piece
    pub is : along picture up ≡ before ++ shown square (picture_after_all picture up)

  ends : (picture : Option (List Piece)) (up : List Content) → Ends picture up
  ends picture [] = record { before = []; is = refl }
  ends picture (message ∷ up) =
      let rest = ends (picture_after picture message) up in
      record {
        before = shown square picture ++ rest.before;
        is = search rules;
      }

  along_more : (picture : Option (List Piece)) (up : List Content) (message : Content)
      → along picture (up ++ message ∷ [])
      ≡ along picture up ++ shown square (picture_after (picture_after_all picture up) message)
  along_more picture [] message = refl
  along_more picture (first ∷ up) message =
      search (rules, append_assoc, along_more (picture_after picture first) up message)

  -- the piece shown now is shown again
  again : (seen stood : List Piece) (picture : Option (List Piece)) (up : List Content)
      → IsInOrderOf (seen ++ along picture up) stood
      → IsInOrderOf ((seen ++ shown square picture) ++ along picture up) stood
  again seen stood None up is = rw (append-nil seen) is
  again seen stood (Some pieces) up is =
      let b = begins (Some pieces) up in
      search (rules, append_assoc, shown_again)

  -- ---- the effect of a board's message

  abbrev pub ShowsNow : BoardState → Content → Type 0
  ShowsNow board message = (picture : Option (List Piece))
      → (shown square (picture_after picture message) ≡ shown square picture)
      ⊎ (shown square (picture_after picture message) ≡ piece_on board.squares square ∷ [])

  set_at : (pieces : List Piece) (other at : ℕ) (piece : Piece)
      → (piece_on (slice_set pieces other piece) at ≡ piece_on pieces at)
      ⊎ ((other ≡ at) × (piece_on (slice_set pieces other piece) at ≡ piece))
  set_at [] other at piece = inl refl
  set_at (first ∷ pieces) zero at piece = search rules
  set_at (first ∷ pieces) (suc other) zero piece = inl refl
  set_at (first ∷ pieces) (suc other) (suc at) piece = search (rules, set_at pieces other)

  field_shows : (board : BoardState) (other : ℕ) → ShowsNow board (field_of board other)
  field_shows board other picture = search (rules, set_at)

  -- ---- moves

  abbrev pub now : MachineState → Piece
  now x = piece_on x.board.squares square

  -- the pieces that were shown, are shown and will be shown by messages under way were there in
  -- this order
  abbrev pub Goes : List Piece → List Piece → MachineState → Type 0
  Goes seen before x = IsInOrderOf (seen ++ along x.picture x.up) (before ++ now x ∷ [])

  abbrev GoesOn : List Piece → List Piece → MachineState → MachineState → Type 0
  GoesOn seen before x y = Goes (seen ++ shown square x.picture) (before ++ now x ∷ []) y

  -- a move that sends and hears nothing
  still : (seen before : List Piece) (x y : MachineState) → y.picture ≡ x.picture → y.up ≡ x.up
      → Goes seen before x → GoesOn seen before x y
  still seen before x y picture up goes = search (rules, more_stood, again)

  -- everything under way is lost
  lost : (seen before : List Piece) (x y : MachineState) → y.picture ≡ None → y.up ≡ []
      → Goes seen before x → GoesOn seen before x y
  lost seen before x y picture up goes =
      let b = begins x.picture x.up in
      search (rules, append_assoc, more_stood, fewer_shown)

  -- one more message is under way
  one_more : (seen before : List Piece) (x : MachineState) (message : Content)
      → ShowsNow x.board message → Goes seen before x
      → IsInOrderOf (seen ++ along x.picture (x.up ++ message ∷ [])) (before ++ now x ∷ [])
  one_more seen before x message shows goes = rw (
    along_more x.picture x.up message,
    ← append_assoc seen (along x.picture x.up)
        (shown square (picture_after (picture_after_all x.picture x.up) message)),
  )
      (go (shows (picture_after_all x.picture x.up)))
    where
      last : Option (List Piece)
      last = picture_after_all x.picture x.up

      same : (picture : Option (List Piece)) → picture ≡ last
          → IsInOrderOf ((seen ++ along x.picture x.up) ++ shown square picture)
          (before ++ now x ∷ [])
      same None e = rw (append-nil (seen ++ along x.picture x.up)) goes
      same (Some pieces) e =
          let end = ends x.picture x.up in
          let v : Piece = piece_on pieces square in
          let is : along x.picture x.up ≡ end.before ++ v ∷ [] = search rules in
          rw (
            is,
            append_assoc seen (end.before ++ v ∷ []) (v ∷ []),
            append_assoc end.before (v ∷ []) (v ∷ []),
            ← append_assoc seen end.before (v ∷ v ∷ []),
          )
          (search (rules, shown_again, append_assoc))

      go : (shown square (picture_after last message) ≡ shown square last)
          ⊎ (shown square (picture_after last message) ≡ now x ∷ [])
          → IsInOrderOf
          ((seen ++ along x.picture x.up) ++ shown square (picture_after last message))
          (before ++ now x ∷ [])
      go (inl e) = rw e (same last refl)
      go (inr e) = rw e (last_shown (seen ++ along x.picture x.up) before (now x) goes)

  pub sends : (seen before : List Piece) (x y : MachineState) (message : Content)
      → ShowsNow x.board message → y.picture ≡ x.picture → y.up ≡ x.up ++ message ∷ []
      → Goes seen before x → GoesOn seen before x y
  sends seen before x y message shows picture up goes = search (rules, more_stood, again, one_more)

  sends_if : (seen before : List Piece) (x : MachineState) (asked : Bool) (message : Content)
      → ShowsNow x.board message → Goes seen before x
      → GoesOn seen before x (if asked then after_reported x message else x)
  sends_if seen before x asked message shows goes = search (rules, sends, still)

  replies : (seen before : List Piece) (x : MachineState) (owed : List Reply) → Goes seen before x
      → GoesOn seen before x (after_reply x owed)
  replies seen before x owed goes = search (rules, still, sends)

  takes : (seen before : List Piece) (x : MachineState) (down : List EventContent)
      → Goes seen before x → GoesOn seen before x (after_take x down)
  takes seen before x down goes = search (rules, still)

  hears : (seen before : List Piece) (x : MachineState) (up : List Content) → x.up ≡ up
      → Goes seen before x → GoesOn seen before x (after_hear x up)
  hears seen before x up e goes = search (rules, still, append_assoc, more_stood)

  pub goes_on : (seen before : List Piece) (x : MachineState) (move : Move) → Goes seen before x
      → GoesOn seen before x (after_move x move)
  goes_on seen before x (Move.Change other piece) goes =
      still seen before x (after_move x (Move.Change other piece)) refl refl goes
  goes_on seen before x (Move.HandClock clock) goes =
      still seen before x (after_move x (Move.HandClock clock)) refl refl goes
  goes_on seen before x (Move.Ask command) goes =
      still seen before x (after_move x (Move.Ask command)) refl refl goes
  goes_on seen before x Move.Take goes = takes seen before x x.down goes
  goes_on seen before x Move.Reply goes = replies seen before x x.board.owed goes
  goes_on seen before x (Move.Report other) goes = search (rules, sends_if, field_shows)
  goes_on seen before x Move.ReportClock goes = search (rules, sends_if)
  goes_on seen before x Move.Hear goes = hears seen before x x.up refl goes
  goes_on seen before x Move.Break goes =
      lost seen before x (after_move x Move.Break) refl refl goes
  goes_on seen before x (Move.HostBreak noise is_noise) goes =
      lost seen before x (after_move x (Move.HostBreak noise is_noise)) refl refl goes

  pub goes_all : (seen before : List Piece) (x : MachineState) (moves : List Move)
      → Goes seen before x
      → IsInOrderOf (seen ++ shown_on square x moves) (before ++ stood_on square x moves)
  goes_all seen before x [] goes =
      let b = begins x.picture x.up in
      search (rules, fewer_shown, append_assoc)
  goes_all seen before x (move ∷ moves) goes = rw (
    ← append_assoc seen (shown square x.picture) (shown_on square (after_move x move) moves),
    ← append_assoc before (now x ∷ []) (stood_on square (after_move x move) moves),
  )
      (goes_all (seen ++ shown square x.picture) (before ++ now x ∷ []) (after_move x move) moves
      (goes_on seen before x move goes))

  -- from a state of which nothing is known and with nothing under way to the host
  pub in_order : (x : MachineState) (moves : List Move) → x.picture ≡ None → x.up ≡ []
      → IsInOrderOf (shown_on square x moves) (stood_on square x moves)
  in_order x moves picture up = goes_all [] [] x moves (rw (picture, up) tt)

  -- ---- acts on worlds

  -- moves of one kind that leave the squares
  again_and_again : (move : Move) → ((x : MachineState) → now (after_move x move) ≡ now x)
      → (count : ℕ) (seen before : List Piece) (x : MachineState) → Goes seen before x
      → Goes seen before (after_moves x (replicate count move))
  again_and_again move same zero seen before x goes = goes
  again_and_again move same (suc count) seen before x goes =
      again_and_again move same count seen before y (rw (same x) fewer)
    where
      y : MachineState
      y = after_move x move

      on : GoesOn seen before x y
      on = goes_on seen before x move goes

      more : IsInOrderOf (seen ++ (shown square x.picture ++ along y.picture y.up))
          (before ++ now x ∷ now x ∷ [])
      more = subst
          (λ (piece : Piece). IsInOrderOf (seen ++ (shown square x.picture ++ along y.picture y.up))
          (before ++ now x ∷ piece ∷ [])) (same x)
          (rw (
            ← append_assoc seen (shown square x.picture) (along y.picture y.up),
            ← append_assoc before (now x ∷ []) (now y ∷ []),
          ) on)

      fewer : IsInOrderOf (seen ++ along y.picture y.up) (before ++ now x ∷ [])
      fewer = stood_once (seen ++ along y.picture y.up) before [] (now x)
          (some_not_shown seen (shown square x.picture) (along y.picture y.up)
          (before ++ now x ∷ now x ∷ []) more)

  act_goes : (seen before : List Piece) (x : MachineState) (act : ActContent) (moves : List Move)
      → AreMovesOfAct act moves → Goes seen before x
      → Goes (seen ++ shown square x.picture) (before ++ now x ∷ []) (after_moves x moves)
  act_goes seen before x (ActContent.Change other piece) moves are goes =
      rw are (goes_on seen before x (Move.Change other piece) goes)
  act_goes seen before x (ActContent.ClockRead clock) moves are goes =
      rw are (goes_on seen before x (Move.HandClock clock) goes)
  act_goes seen before x (ActContent.Host command) moves are goes =
      rw are (goes_on seen before x (Move.Ask command) goes)
  act_goes seen before x ActContent.BoardSend moves (move, is, are) goes =
      rw are (goes_on seen before x move goes)
  act_goes seen before x (ActContent.ToBoard _) moves (count, are) goes =
      search (rules, again_and_again, still)
  act_goes seen before x (ActContent.ToHost _) moves (count, are) goes =
      search (rules, again_and_again, still)
  act_goes seen before x ActContent.Break moves are goes =
      rw are (goes_on seen before x Move.Break goes)
  act_goes seen before x ActContent.HostBreak moves (noise, is_noise, are) goes =
      rw are (goes_on seen before x (Move.HostBreak noise is_noise) goes)

  pub step_goes : (seen before : List Piece) (x : MachineState) (act : ActContent)
      (answer : Outcome) (moves : List Move) → AreMovesOfStep act answer moves → Goes seen before x
      → Goes (seen ++ shown square x.picture) (before ++ now x ∷ []) (after_moves x moves)
  step_goes seen before x act answer moves are goes = search (rules, act_goes, still)

  module _ (one : (act : ActContent) (world after : WorldView) (answer : Outcome) (x : MachineState)
      → StandsFor world x → Step act world answer after → StandsAfterStep act answer x after) where
    run_goes : (seen before : List Piece) (acts : List ActContent) (world : WorldView)
        (x : MachineState) (answers : List Outcome) (worlds : List WorldView) → StandsFor world x
        → Goes seen before x → RunsThrough acts world answers worlds
        → IsInOrderOf (seen ++ shown_in square worlds) (before ++ stood_in square worlds)
    run_goes seen before [] world x [] worlds stands goes only =
        rw (only, stands.picture, stands.board, append-nil (shown square x.picture))
        (goes_all seen before x [] goes)
    run_goes seen before (act ∷ acts) world x (answer ∷ answers) worlds stands goes
        (between, later, step, runs, all) =
        let reached = one act world between answer x stands step in
        let rest = run_goes (seen ++ shown square x.picture) (before ++ now x ∷ []) acts between
        (after_moves x reached.0) answers later reached.2
        (step_goes seen before x act answer reached.0 reached.1 goes) runs in
        search (rules, append_assoc)
    run_goes seen before _ world x _ worlds stands goes never = absurd never

    pub worlds_in_order : (acts : List ActContent) (world : WorldView) (answers : List Outcome)
        (worlds : List WorldView) → IsWorld world → world.host.picture ≡ None
        → world.host.unread ≡ [] → world.up.bytes ≡ [] → RunsThrough acts world answers worlds
        → IsInOrderOf (shown_in square worlds) (stood_in square worlds)
    worlds_in_order acts world answers worlds is none unread up runs =
        let silent : is.state.up ≡ [] =
        nothing_said is.state.up (sym (rw (unread, up) at is.stands.up.in_a_row)) in
        let unknown : is.state.picture ≡ None = sym is.stands.picture ∙ none in
        run_goes [] [] acts world is.state answers worlds is.stands (rw (unknown, silent) tt) runs
