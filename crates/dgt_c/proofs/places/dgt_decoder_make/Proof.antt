-- `dgt_decoder_make` makes the handle and its value.
use Rattle.{std.proofs.Common.{[]}, dgt_decode.proofs.decoder.Decoder.new.{Met.{met}, Symbol.{name as new}}, dgt_c.specs.contracts.places.{DecoderPlace.{struct}, dgt_decoder_make.Key.{name}}}
use Rattle.dgt_c.proofs.{EachHandle.{decoder}, HandleMaking.{makes}, places.dgt_decoder_make.Statement.{statement}}
use Rattle.dgt_c.proofs.places.dgt_decoder_make.Code as code

pub dgt_decoder_make_spec : {M : Type 1} → statement M
dgt_decoder_make_spec 𝓤 𝓛 𝓜 𝓡 wired =
    makes decoder struct.name new [] 𝓤 𝓛 𝓜 𝓡 name (code.unfolded 𝓤 𝓛.H 𝓜 𝓡 wired)
    (met 𝓤 𝓛 𝓜 𝓡 (code.calls-dgt_decode::decoder::Decoder::new 𝓡.env wired))
