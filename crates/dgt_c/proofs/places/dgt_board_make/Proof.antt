-- `dgt_board_make` makes the handle and its value.
use Rattle.dgt_c.{specs.{PlainBoard.{plain_board}, contracts.places.{BoardPlace.{struct}, dgt_board_make.Key.{name}}}, proofs.{EachHandle.{board}, HandleMaking.{makes}}}
use Rattle.dgt_c.proofs.{places.dgt_board_make.Statement.{statement}, plain_board.board_of_program.{Met.{met}, Symbol.{name as new}}}
use Rattle.dgt_c.proofs.places.dgt_board_make.Code as code

pub dgt_board_make_spec : {M : Type 1} → statement M
dgt_board_make_spec 𝓤 𝓛 𝓜 𝓡 wired =
    makes board struct.name new plain_board 𝓤 𝓛 𝓜 𝓡 name (code.unfolded 𝓤 𝓛.H 𝓜 𝓡 wired)
    (met 𝓤 𝓛 𝓜 𝓡 (code.calls-dgt_c::plain_board::board_of_program 𝓡.env wired))
