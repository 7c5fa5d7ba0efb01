use Rattle.{dgt_values.specs.Board.{pieces_of}, dgt_game.proofs.{Links.{reads}, Pictures.{reads_at}}}
use Rattle.dgt_game.proofs.recogniser.Recogniser.read.Goals as goal

pub returns-in-Some-clause-at : goal.returns-in-Some-clause-at
returns-in-Some-clause-at c =
    reads_at c.args.self.now.memory c.args.view.now c.in-Some.place c.in-Some.ensures.at

pub returns-in-Some-read_half_move-clause-linked :
    goal.returns-in-Some-read_half_move-clause-linked
returns-in-Some-read_half_move-clause-linked c = λ shown line holds seen.
    c.in-Some-read_half_move.ensures.linked shown seen

pub returns-in-Some-read_start-clause-linked : goal.returns-in-Some-read_start-clause-linked
returns-in-Some-read_start-clause-linked c = λ shown line holds seen.
    c.in-Some-read_start.ensures.linked shown seen

pub returns-in-Some-read_held-clause-linked : goal.returns-in-Some-read_held-clause-linked
returns-in-Some-read_held-clause-linked c = λ shown line holds seen.
    c.in-Some-read_held.ensures.linked shown seen

pub returns-in-Some-read_without_one-clause-linked :
    goal.returns-in-Some-read_without_one-clause-linked
returns-in-Some-read_without_one-clause-linked c = λ shown line holds seen.
    c.in-Some-read_without_one.ensures.linked shown seen

pub returns-in-Some-read_replaced-clause-linked : goal.returns-in-Some-read_replaced-clause-linked
returns-in-Some-read_replaced-clause-linked c = λ shown line holds seen.
    reads shown c.args.self.now.memory (pieces_of c.args.view.now.shown)
    c.in-Some-read_replaced.node seen c.in-Some-read_replaced.ensures.linked

pub returns-in-Some-read_repeated-clause-linked : goal.returns-in-Some-read_repeated-clause-linked
returns-in-Some-read_repeated-clause-linked c = λ shown line holds seen.
    c.known.ensures.linked shown (pieces_of c.args.view.now.shown) seen
    c.in-Some-read_repeated.ensures.linked

pub returns-in-Some-read_repeated-clause-at : goal.returns-in-Some-read_repeated-clause-at
returns-in-Some-read_repeated-clause-at c =
    c.known.ensures.at c.args.view.now c.in-Some-read_repeated.ensures.linked.1

pub returns-clause-linked : goal.returns-clause-linked
returns-clause-linked c = λ shown line holds seen. c.read_shadow.ensures.linked shown seen
