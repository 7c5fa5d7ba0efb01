use Rattle.{std.proofs.Common.{◌≡◌, ◌∙◌, ap}, dgt_values.specs.Board.{pieces_of}, dgt_game.{specs.{declared.unseen.Found.{Found}, Unseen.{added}}, proofs.Explaining.{five}}}
use Rattle.dgt_game.proofs.unseen.explaining_over.Goals as goal

pub returns : goal.returns
returns c =
    let none = c.explaining_by-found.result in
    let queen = c.explaining_by.result in
    let rook = c.explaining_by-2.result in
    let bishop = c.explaining_by-3.result in
    let knight = c.explaining_by-4.result in
    let all : c.add-4.new.self ≡ added (added (added (added none queen) rook) bishop) knight =
    c.add-4.ensures ∙ ap (λ (f : Found). added f knight) (c.add-3.ensures
    ∙ ap (λ (f : Found). added f bishop) (c.add-2.ensures
    ∙ ap (λ (f : Found). added f rook) c.add.ensures)) in
    rw all (five (pieces_of c.args.picture.now) c.args.state.now c.args.from c.args.to none queen
    rook bishop knight c.explaining_by-found.ensures c.explaining_by.ensures
    c.explaining_by-2.ensures c.explaining_by-3.ensures c.explaining_by-4.ensures)
