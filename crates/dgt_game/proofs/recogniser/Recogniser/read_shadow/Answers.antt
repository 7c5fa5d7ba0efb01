use Rattle.{std.{specs.Prelude.{⊤}, proofs.lemmas.Option.{MatchOption-at_some}}, dgt_values.specs.Board.{pieces_of}, dgt_game.{specs.{Reading.{IsRoomFor}, Memory.{Fits}}, proofs.Links.{reads}}}
use Rattle.dgt_game.proofs.recogniser.Recogniser.read_shadow.Goals as goal

pub returns-in-Some-best-clause-linked : goal.returns-in-Some-best-clause-linked
returns-in-Some-best-clause-linked c = λ shown seen.
    let memory = c.args.self.now.memory in
    let pieces = pieces_of c.args.view.now.shown in
    let node = c.in-Some-best.node in
    reads shown memory pieces node seen
    (MatchOption-at_some ⊤ (λ node. Fits memory pieces node) node c.in-Some-best.is
    c.loop-k.invariant.0)

pub returns-in-Some-best-clause-room : goal.returns-in-Some-best-clause-room
returns-in-Some-best-clause-room c =
    MatchOption-at_some ⊤ (IsRoomFor c.args.self.now.memory) c.in-Some-best.node c.in-Some-best.is
    c.loop-k.invariant.1
