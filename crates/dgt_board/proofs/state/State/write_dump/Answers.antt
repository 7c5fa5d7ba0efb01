use Rattle.{std.proofs.{Common.{rules, arith, ◌≡◌, ◌≤◌, ◌∙◌, length, map}, lemmas.List.{length-map}}, dgt_values.specs.Board.{piece_code, pieces_of}, dgt_message.specs.Content.{Content, IsMessage}}
use Rattle.dgt_board.proofs.DumpLemmas.{header_and_body}
use Rattle.dgt_board.proofs.state.State.write_dump.Goals as goal

pub returns-then-out-lt-MAX_SENT : goal.returns-then-out-lt-MAX_SENT
returns-then-out-lt-MAX_SENT c =
    let pieces = pieces_of c.args.self.now.squares in
    let dump : IsMessage (Content.dump pieces) = c.args.self.now.squares.all in
    let size : length (map piece_code pieces) ≡ 64 =
    length-map pieces piece_code ∙ c.args.self.now.squares.all in
    record {
      written = rw size (search rules);
      encodes = c.encoding_encodes.ensures (Content.dump pieces) dump;
      short = rw size (omega arith);
    }

pub returns : goal.returns
returns c =
    let pieces = pieces_of c.args.self.now.squares in
    let dump : IsMessage (Content.dump pieces) = c.args.self.now.squares.all in
    let size : length (map piece_code pieces) ≡ 64 =
    length-map pieces piece_code ∙ c.args.self.now.squares.all in
    let fits : 67 ≤ length c.args.out.now = omega arith in
    let bytes = header_and_body c.args.out.now (map piece_code pieces) size fits in
    record {
      written = rw size (search (rules, bytes));
      encodes = c.encoding_encodes.ensures (Content.dump pieces) dump;
      short = rw size (omega arith);
    }
