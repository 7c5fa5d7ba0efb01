-- A known picture is what the board had reported when it sent the last message that was heard.
use Rattle.std.proofs.{Common.{◌≡◌, ◌≢◌, refl, sym, ap, subst, ◌∙◌, ◌⊎◌, inl, inr, rules, ℕ, List, [], ◌∷◌, ◌++◌, false, Option, Some, append_assoc}, lemmas.List.{append-nil}}
use Rattle.{std.specs.{List.{AllByRecursion}, Prelude.{IsSome}}, dgt_values.specs.declared.pieces.Piece.{Piece}, dgt_message.specs.{Content.{Content}, Picture.{picture_after, picture_after_all}}}
use Rattle.{dgt_board.specs.declared.replies.Reply.{Reply}, dgt_link.specs.{Act.{ActContent}, Faults.{is_break}, Healing.{IsInStep, StandsBehind}, Machine.{IsHostBreak, IsSending, MachineState}}}
use Rattle.dgt_link.specs.{Machine.{Move, after_hear, after_move, after_moves, after_reply}, Reported.{IsReportedBy, ReportedBefore, WasReported, first_reply, sent_by, sent_by_all}, Sound.{IsSound}}
use Rattle.dgt_link.specs.{Sound.{IsUnknownOr, coming_picture}, Stands.{AreMovesOfRun, AreMovesOfStep}, Step.{Runs}, View.{WorldView}, declared.acts.Outcome.{Outcome}}
use Rattle.dgt_link.proofs.{AfterMoves.{moves_sound}, Asking.{step_is_other}, Behind.{ActsBehind}, Clocks.{step_is_no_break}, Counting.{forgotten, forgotten_stands}, History.{in_order}}
use Rattle.dgt_link.proofs.{Lists.{all_append, right_empty}, Promises.{picture_after_known, picture_stays_known}, Standing.{moves-append}}

-- ---- lists

-- of two lists in a row that end with this element, the second is empty or ends with it
last_of : {X : Type 0} (prefix back xs : List X) (x : X) → xs ++ x ∷ [] ≡ prefix ++ back
    → (back ≡ []) ⊎ ((rest : List X) × (back ≡ rest ++ x ∷ []) × (xs ≡ prefix ++ rest))
last_of [] back xs x e = inr (xs, sym e, refl)
last_of (first ∷ prefix) back [] x e = search (rules, right_empty)
last_of (first ∷ prefix) back (y ∷ xs) x e =
    let more : xs ++ x ∷ [] ≡ prefix ++ back = cc in
    search (rules, last_of prefix back xs x more)

-- ---- a move that isn't a break

abbrev pub IsPlain : Move → Type 0
IsPlain move = (move ≢ Move.Break) × (¬ (IsHostBreak move))

-- the effect of a move that hears nothing on what is under way, and on the picture
record Sends (x : MachineState) (move : Move) : Type 0 where
  pub up : (after_move x move).up ≡ x.up ++ sent_by x move
  pub picture : (after_move x move).picture ≡ x.picture

reply_sends : (x : MachineState) (owed : List Reply)
    → ((after_reply x owed).up ≡ x.up ++ first_reply x.board owed)
    × ((after_reply x owed).picture ≡ x.picture)
reply_sends x owed = search rules

take_sends : (x : MachineState)
    → ((after_move x Move.Take).up ≡ x.up) × ((after_move x Move.Take).picture ≡ x.picture)
take_sends x = search rules

move_sends : (x : MachineState) (move : Move) → IsPlain move → move ≢ Move.Hear → Sends x move
move_sends x (Move.Change square piece) plain other =
    record { up = sym (append-nil x.up); picture = refl }
move_sends x (Move.HandClock clock) plain other =
    record { up = sym (append-nil x.up); picture = refl }
move_sends x (Move.Ask command) plain other = record { up = sym (append-nil x.up); picture = refl }
move_sends x Move.Take plain other =
    record { up = (take_sends x).0 ∙ sym (append-nil x.up); picture = (take_sends x).1 }
move_sends x Move.Reply plain other =
    record { up = (reply_sends x x.board.owed).0; picture = (reply_sends x x.board.owed).1 }
move_sends x (Move.Report square) plain other = search rules
move_sends x Move.ReportClock plain other = search rules
move_sends x Move.Hear plain other = absurd (other refl)
move_sends x Move.Break plain other = absurd (plain.0 refl)
move_sends x (Move.HostBreak noise is_noise) plain other = absurd (plain.1 tt)

one_sends : (x : MachineState) (move : Move) → IsSending move
    → (after_move x move).up ≡ x.up ++ sent_by x move
one_sends x move sends = search rules

pub sending_sends : (x : MachineState) (moves : List Move) → AllByRecursion IsSending moves
    → (after_moves x moves).up ≡ x.up ++ sent_by_all x moves
sending_sends x [] all = sym (append-nil x.up)
sending_sends x (move ∷ moves) (one, all) =
    sending_sends (after_move x move) moves all
    ∙ ap (λ (up : List Content). up ++ sent_by_all (after_move x move) moves) (one_sends x move one)
    ∙ append_assoc x.up (sent_by x move) (sent_by_all (after_move x move) moves)

pub silent_moves : (x : MachineState) (move : Move) → ¬ (IsSending move) → sent_by x move ≡ []
silent_moves x move none = search rules

pub reported_at_once : (x : MachineState) → WasReported x []
    → (x.up ≡ []) × IsUnknownOr x.picture (Some x.board.reported_squares)
reported_at_once x report = go report.earlier report.later report.split report.sent report.picture
  where
    go : (earlier later : List Move) → [] ≡ earlier ++ later
        → sent_by_all (after_moves x earlier) later ≡ x.up
        → IsUnknownOr x.picture (Some (after_moves x earlier).board.reported_squares)
        → (x.up ≡ []) × IsUnknownOr x.picture (Some x.board.reported_squares)
    go [] [] split sent picture = (sym sent, picture)
    go [] (move ∷ later) split sent picture = cc
    go (move ∷ earlier) later split sent picture = cc

seen_stays : (x : MachineState) (move : Move) → IsPlain move → IsSome x.picture
    → IsSome (after_move x move).picture
seen_stays x move plain some = search rules

pub seen_by_all : (x : MachineState) (moves : List Move) → AllByRecursion IsPlain moves
    → IsSome x.picture → IsSome (after_moves x moves).picture
seen_by_all x [] all some = some
seen_by_all x (move ∷ moves) all some =
    seen_by_all (after_move x move) moves all.1 (seen_stays x move all.0 some)

-- a picture that is known once all messages under way are heard stays so
pub comes_by_all : (x : MachineState) (moves : List Move) → AllByRecursion IsPlain moves
    → IsSome (coming_picture x) → IsSome (coming_picture (after_moves x moves))
comes_by_all x [] all some = some
comes_by_all x (move ∷ moves) all some =
    comes_by_all (after_move x move) moves all.1 (picture_stays_known x move all.0.0 all.0.1 some)

-- at most one message is sent
abbrev IsOneAtMost : List Content → Type 0
IsOneAtMost sent = (sent ≡ []) ⊎ ((message : Content) × (sent ≡ message ∷ []))

one_at_most : (x : MachineState) (move : Move) → IsOneAtMost (sent_by x move)
one_at_most x move = search rules

-- ---- each prefix of what is under way

-- once the messages of this prefix are heard too, the picture is unknown or what was reported when
-- the last of them was sent
abbrev Since : MachineState → List Move → List Content → List Content → Type 0
Since x moves prefix back =
    ReportedBefore x moves (picture_after_all (after_moves x moves).picture prefix) back

abbrev SinceEach : MachineState → List Move → Type 0
SinceEach x moves = (prefix back : List Content) → (after_moves x moves).up ≡ prefix ++ back
    → Since x moves prefix back

sent-append : (x : MachineState) (moves : List Move) (move : Move)
    → sent_by_all x (moves ++ move ∷ []) ≡ sent_by_all x moves ++ sent_by (after_moves x moves) move
sent-append x [] move = append-nil (sent_by x move)
sent-append x (first ∷ moves) move =
    search (rules, append_assoc, sent-append (after_move x first) moves move)

-- everything under way is heard
since_now : (x : MachineState) (moves : List Move) (prefix : List Content) → IsSound x
    → (after_moves x moves).up ≡ prefix → Since x moves prefix []
since_now x moves prefix sound all = record {
  earlier = moves;
  later = [];
  split = sym (append-nil moves);
  sent = refl;
  picture = rw all at (moves_sound x moves sound).picture;
}

-- one more move, after the same moment
since_later : (x : MachineState) (moves : List Move) (move : Move)
    (prefix back before sent : List Content) → (since : Since x moves before back)
    → sent_by (after_moves x moves) move ≡ sent
    → picture_after_all (after_moves x (moves ++ move ∷ [])).picture prefix
    ≡ picture_after_all (after_moves x moves).picture before
    → Since x (moves ++ move ∷ []) prefix (back ++ sent)
since_later x moves move prefix back before sent since sends same =
    search (rules, append_assoc, sent-append, moves-append)

module _ (x : MachineState) (sound : IsSound x) (moves : List Move) (each : SinceEach x moves) where
  -- a move that hears nothing
  other_since : (move : Move) → IsPlain move → move ≢ Move.Hear → SinceEach x (moves ++ move ∷ [])
  other_since move plain other prefix back up = go (one_at_most (after_moves x moves) move)
    where
      y : MachineState
      y = after_moves x moves

      led : after_moves x (moves ++ move ∷ []) ≡ after_move (after_moves x moves) move
      led = moves-append x moves (move ∷ [])

      sends : Sends (after_moves x moves) move
      sends = move_sends (after_moves x moves) move plain other

      under_way : (after_moves x moves).up ++ sent_by (after_moves x moves) move ≡ prefix ++ back
      under_way = sym sends.up ∙ ap (λ (z : MachineState). z.up) (sym led) ∙ up

      same : (after_moves x (moves ++ move ∷ [])).picture ≡ (after_moves x moves).picture
      same = ap (λ (z : MachineState). z.picture) led ∙ sends.picture

      go : IsOneAtMost (sent_by (after_moves x moves) move)
          → Since x (moves ++ move ∷ []) prefix back
      go (inl none) = subst (λ (rest : List Content). Since x (moves ++ move ∷ []) prefix rest)
          (append-nil back) (since_later x moves move prefix back prefix []
          (each prefix back (sym (append-nil (after_moves x moves).up)
          ∙ ap (λ (sent : List Content). (after_moves x moves).up ++ sent) (sym none) ∙ under_way))
          none (ap (λ (picture : Option (List Piece)). picture_after_all picture prefix) same))
      go (inr (message, is)) = elim (last_of prefix back (after_moves x moves).up message
          (ap (λ (sent : List Content). (after_moves x moves).up ++ sent) (sym is) ∙ under_way)) [
            | inl none ↦ search (rules, since_now)
            | inr (rest, ends, before) ↦ rw ends
                (since_later x moves move prefix rest prefix (message ∷ [])
                (each prefix rest before) is
                (ap (λ (picture : Option (List Piece)). picture_after_all picture prefix) same))
          ]

  -- the host hears a message, if there is one
  hear_since : SinceEach x (moves ++ Move.Hear ∷ [])
  hear_since prefix back up = go (after_moves x moves).up refl
    where
      led : after_moves x (moves ++ Move.Hear ∷ [])
          ≡ after_hear (after_moves x moves) (after_moves x moves).up
      led = moves-append x moves (Move.Hear ∷ [])

      go : (said : List Content) → (after_moves x moves).up ≡ said
          → Since x (moves ++ Move.Hear ∷ []) prefix back
      go [] none =
          let still : after_moves x (moves ++ Move.Hear ∷ []) ≡ after_moves x moves
          = led ∙ ap (λ (said : List Content). after_hear (after_moves x moves) said) none in
          subst (λ (rest : List Content). Since x (moves ++ Move.Hear ∷ []) prefix rest)
          (append-nil back) (search (rules, since_later))
      go (message ∷ rest) is =
          let heard : after_moves x (moves ++ Move.Hear ∷ [])
          ≡ after_hear (after_moves x moves) (message ∷ rest)
          = led ∙ ap (λ (said : List Content). after_hear (after_moves x moves) said) is in
          let left : rest ≡ prefix ++ back = ap (λ (z : MachineState). z.up) (sym heard) ∙ up in
          subst (λ (rest : List Content). Since x (moves ++ Move.Hear ∷ []) prefix rest)
          (append-nil back) (since_later x moves Move.Hear prefix back (message ∷ prefix) []
          (each (message ∷ prefix) back (is ∙ ap (λ (more : List Content). message ∷ more) left))
          refl (ap (λ (z : MachineState). picture_after_all z.picture prefix) heard))

  move_since : (move : Move) → IsPlain move → SinceEach x (moves ++ move ∷ [])
  move_since Move.Hear plain = hear_since
  move_since (Move.Change square piece) plain =
      other_since (Move.Change square piece) plain (λ e. cc)
  move_since (Move.HandClock clock) plain = other_since (Move.HandClock clock) plain (λ e. cc)
  move_since (Move.Ask command) plain = other_since (Move.Ask command) plain (λ e. cc)
  move_since Move.Take plain = other_since Move.Take plain (λ e. cc)
  move_since Move.Reply plain = other_since Move.Reply plain (λ e. cc)
  move_since (Move.Report square) plain = other_since (Move.Report square) plain (λ e. cc)
  move_since Move.ReportClock plain = other_since Move.ReportClock plain (λ e. cc)
  move_since Move.Break plain = absurd (plain.0 refl)
  move_since (Move.HostBreak noise is_noise) plain = absurd (plain.1 tt)

moves_since : (x : MachineState) (past more : List Move) → IsSound x → AllByRecursion IsPlain more
    → SinceEach x past → SinceEach x (past ++ more)
moves_since x past [] sound all each = rw (append-nil past) each
moves_since x past (move ∷ more) sound all each =
    rw (append_assoc past (move ∷ []) more) at
    (moves_since x (past ++ move ∷ []) more sound all.1 (move_since x sound past each move all.0))

-- nothing is under way at first
nothing_since : (x : MachineState) → IsSound x → x.up ≡ [] → SinceEach x []
nothing_since x sound none prefix back up = search (rules, right_empty)

pub was_reported : (x : MachineState) (moves : List Move) → IsSound x → x.up ≡ []
    → AllByRecursion IsPlain moves → WasReported x moves
was_reported x moves sound none all =
    moves_since x [] moves sound all (nothing_since x sound none) [] (after_moves x moves).up refl

-- ---- worlds

both_all : {X : Type 0} (P Q : X → Type 0) (xs : List X) → AllByRecursion P xs → AllByRecursion Q xs
    → AllByRecursion (λ x. P x × Q x) xs
both_all P Q [] p q = tt
both_all P Q (x ∷ xs) p q = ((p.0, q.0), both_all P Q xs p.1 q.1)

pub step_is_plain : (act : ActContent) (answer : Outcome) (moves : List Move) → is_break act ≡ false
    → AreMovesOfStep act answer moves → AllByRecursion IsPlain moves
step_is_plain act answer moves other are = search (rules, both_all, step_is_no_break, step_is_other)

-- acts in a row, after garbage
record Reached (acts : List ActContent) (answers : List Outcome) (x : MachineState)
    (after : WorldView) : Type 0 where
  pub garbage : List ℕ
  pub moves : List Move
  pub are_moves : AreMovesOfRun acts answers moves
  pub plain : AllByRecursion IsPlain moves
  pub stands : StandsBehind garbage after (after_moves x moves)

module _ (behind : ActsBehind) where
  run_behind : (acts : List ActContent) (garbage : List ℕ) (world after : WorldView)
      (answers : List Outcome) (x : MachineState)
      → AllByRecursion (λ act. is_break act ≡ false) acts → StandsBehind garbage world x
      → Runs acts world answers after → Reached acts answers x after
  run_behind [] garbage world after [] x all stands same = record {
    garbage = garbage;
    moves = [];
    are_moves = refl;
    plain = tt;
    stands = rw same stands;
  }
  run_behind (act ∷ acts) garbage world after (answer ∷ answers) x all stands
      (between, step, runs) =
      let first = behind act garbage world answer between x all.0 stands step in
      let rest =
      run_behind acts first.0 between after answers (after_moves x first.1) all.1 first.3 runs in
      record {
        garbage = rest.garbage;
        moves = first.1 ++ rest.moves;
        are_moves = (first.1, rest.moves, first.2, rest.are_moves, refl);
        plain = search (rules, all_append, step_is_plain);
        stands = rw (moves-append x first.1 rest.moves) rest.stands;
      }
  run_behind _ garbage world after _ x all stands none = absurd none

  pub reported_by : (acts : List ActContent) (world after : WorldView) (answers : List Outcome)
      → AllByRecursion (λ act. is_break act ≡ false) acts → IsInStep world
      → Runs acts world answers after → IsReportedBy acts answers world after
  reported_by acts world after answers all is runs =
      let stands = forgotten_stands is.garbage world world.up is.state is.stands in
      let reached = run_behind acts (world.host.unread ++ world.up.bytes) world after answers
      (forgotten is.state) all stands runs in
      search (rules, was_reported, in_order)

-- ---- facts of the state

both_known : (known seen : Option (List Piece)) → IsSome known → IsUnknownOr known seen
    → seen ≡ known
both_known known seen some either = search rules

still_known : (picture : Option (List Piece)) (up : List Content) → IsSome picture
    → IsSome (picture_after_all picture up)
still_known picture [] some = some
still_known picture (message ∷ up) some =
    still_known (picture_after picture message) up (picture_after_known picture message some)

pub known_behind : (garbage : List ℕ) (world : WorldView) (x : MachineState)
    → StandsBehind garbage world x → IsSome x.picture
    → (world.host.picture ≡ x.picture)
    × (picture_after_all world.host.picture x.up ≡ Some world.board.state.reported_squares)
known_behind garbage world x stands some = search (rules, both_known, still_known)
