use Rattle.dgt_message.proofs.EncodingEncodes.{fits_if_encoded}
use Rattle.dgt_message.proofs.laws.fits_if_encoded.Goals as goal

pub returns : goal.returns
returns c = fits_if_encoded
