-- `dgt_recogniser_make` makes the handle and its value.
use Rattle.{dgt_game.{specs.Recogniser.{new_recogniser}, proofs.recogniser.Recogniser.new.{Met.{met}, Symbol.{name as new}}}, dgt_c.specs.contracts.places.RecogniserPlace.{struct}}
use Rattle.dgt_c.{specs.contracts.places.dgt_recogniser_make.Key.{name}, proofs.{EachHandle.{recogniser}, HandleMaking.{makes}, places.dgt_recogniser_make.Statement.{statement}}}
use Rattle.dgt_c.proofs.places.dgt_recogniser_make.Code as code

pub dgt_recogniser_make_spec : {M : Type 1} → statement M
dgt_recogniser_make_spec 𝓤 𝓛 𝓜 𝓡 wired =
    makes recogniser struct.name new new_recogniser 𝓤 𝓛 𝓜 𝓡 name (code.unfolded 𝓤 𝓛.H 𝓜 𝓡 wired)
    (met 𝓤 𝓛 𝓜 𝓡 (code.calls-dgt_game::recogniser::Recogniser::new 𝓡.env wired))
