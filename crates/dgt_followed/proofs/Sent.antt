-- What a board has reported is the picture after the messages that it has sent.
use Rattle.std.{proofs.{Common.{◌≡◌, Bool, Some, refl, ap, List, [], ◌∷◌, if◌then◌else◌, rules, false, Option}, lemmas.List.{append-nil}}, specs.List.{AllByRecursion}}
use Rattle.{dgt_values.specs.declared.pieces.Piece.{Piece}, dgt_message.specs.{Content.{Content, clock_message}, Picture.{picture_after, picture_after_all}}}
use Rattle.{dgt_command.specs.Content.{EventContent}, dgt_board.specs.{Sending.{next_message, reported_squares_after}, State.{BoardState, effect, effects}, declared.replies.Reply.{Reply}}}
use Rattle.{dgt_host.proofs.ConfirmedLemmas.{pictures_append}, dgt_follow.specs.{declared.asking.{Asking.{Asking}, UpdateMode.{UpdateMode}}}, dgt_link.specs.Act.{ActContent}}
use Rattle.dgt_link.specs.{Faults.{FaultyBecomes, FaultyContent, FaultyStep}, Machine.{IsSending, Move, state_of_board}, Reported.{first_reply, sent_by as sent_by_move}}
use Rattle.dgt_link.{specs.{Step.{Becomes, IfDone, sending_outcome}, View.{WorldView}, declared.acts.Outcome.{Outcome}}, proofs.KnownPictures.{sending_sends}}
use Rattle.{dgt_link.proofs.{MessageReports.{clock_reports, reply_reports}, Sending.{next_is_sent}, Taking.{effect_leaves}}, dgt_followed.specs.Followed.{FollowedView, RunsDone}}
use Rattle.dgt_followed.specs.{Followed.{asking_acts}, Heard.{SentIsReported, sent_by, HeardStep, KeepsPower, TimedHappening, fitting, is_noticed}}

-- ---- the message that a board sends

-- a message updates what the board has reported
abbrev Reports : BoardState → Content → Type 0
Reports board message =
    picture_after (Some board.reported_squares) message
    ≡ Some (reported_squares_after board message)

one_of : (a b : Content) (P : Content → Type 0) → a ∷ [] ≡ b ∷ [] → P a → P b
one_of a b P e is = let same : a ≡ b = cc in rw (← same) is

reply_is : (board : BoardState) (owed : List Reply) (message : Content)
    → first_reply board owed ≡ message ∷ [] → Reports board message
reply_is board owed message e = search (rules, one_of, reply_reports)

asked_is : (board : BoardState) (asked : Bool) (one message : Content)
    → (if asked then one ∷ [] else []) ≡ message ∷ [] → Reports board one → Reports board message
asked_is board asked one message e is = search (rules, one_of)

move_is : (board : BoardState) (move : Move) (message : Content) → IsSending move
    → sent_by_move (state_of_board board) move ≡ message ∷ [] → Reports board message
move_is board Move.Reply message sending e = reply_is board board.owed message e
move_is board (Move.Report square) message sending e = search (rules, asked_is)
move_is board Move.ReportClock message sending e =
    asked_is board board.times_owed (clock_message board.clock) message e
    (clock_reports board).picture
move_is board _ message none e = absurd none

next_reports : (board : BoardState) (message : Content) → next_message board ≡ Some message
    → Reports board message
next_reports board message e =
    let x = state_of_board board in
    let by = next_is_sent x message e in
    let sent = sending_sends x (by.0 ∷ []) (by.1, tt) in
    search (rules, move_is, append-nil)

-- ---- acts that leave what was reported

taken : (board : BoardState) (events : List EventContent)
    → (effects board events).reported_squares ≡ board.reported_squares
taken board [] = refl
taken board (event ∷ events) = search (rules, effect_leaves, taken (effect board event) events)

abbrev reported : WorldView → List Piece
reported world = world.board.state.reported_squares

kept : (answer : Outcome) (act : FaultyContent) (world after : WorldView)
    → (FaultyBecomes act world after → reported after ≡ reported world)
    → IfDone answer (FaultyBecomes act world after) (after ≡ world)
    → reported after ≡ reported world
kept answer act world after keeps leaves = search rules

-- an act of the host
abbrev IsHosts : FaultyContent → Type 0
IsHosts act = (world after : WorldView) → FaultyStep act world Outcome.Done after
    → reported after ≡ reported world

all_hosts : (acts : List FaultyContent) (world after : WorldView) → AllByRecursion IsHosts acts
    → RunsDone acts world after → reported after ≡ reported world
all_hosts [] world after are same = ap reported same
all_hosts (act ∷ acts) world after are (between, step, later) =
    search (rules, all_hosts acts between)

asking_is : (mode : UpdateMode) (what : Asking) → AllByRecursion IsHosts (asking_acts mode what)
asking_is mode what = search rules

-- ---- every act

-- what the board has reported after these messages
abbrev Says : WorldView → List Content → WorldView → Type 0
Says world said after = Some (reported after) ≡ picture_after_all (Some (reported world)) said

sent_says : (next : Option Content) (answer : Outcome) (world after : WorldView)
    → next_message world.board.state ≡ next → answer ≡ sending_outcome next world.up
    → IfDone answer (Becomes ActContent.BoardSend world after) (after ≡ world)
    → Says world (fitting next world.up) after
sent_says next answer world after e is leaves = search (rules, next_reports)

act_says : (act : FaultyContent) (before after : FollowedView) (answer : Outcome)
    → KeepsPower (TimedHappening.Acts act) → is_noticed act ≡ false
    → FaultyStep act before.world answer after.world
    → Says before.world (sent_by (TimedHappening.Acts act) before) after.world
act_says act before after answer powered unseen step = search (rules, kept, taken, sent_says)

step_says : (happening : TimedHappening) (before after : FollowedView) → KeepsPower happening
    → HeardStep happening before after → Says before.world (sent_by happening before) after.world
step_says happening before after powered step = search (rules, all_hosts, asking_is, kept, act_says)

pub sent_is_reported : SentIsReported
sent_is_reported [] said bytes before after powered (silent, none, same) = rw (silent, same) refl
sent_is_reported (happening ∷ later) said bytes before after powered
    (between, more, rest, step, runs, sent, whole) =
    let first : Says before.world (sent_by happening before) between.world
    = step_says happening before between powered.0 step in
    let others = sent_is_reported later more rest between after powered.1 runs in
    search (rules, pictures_append)
