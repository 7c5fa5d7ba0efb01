-- The parts of each handle.
use Rattle.{std.proofs.Common.{refl}, dgt_board.{specs.contracts.boards.Board.{the_row as board_row}, proofs.boards.Board.TheLaws.{the_row_laws as board_laws}}}
use Rattle.dgt_command.{specs.contracts.decoder.CommandDecoder.{the_row as command_decoder_row}, proofs.decoder.CommandDecoder.TheLaws.{the_row_laws as command_decoder_laws}}
use Rattle.dgt_decode.{specs.contracts.decoder.Decoder.{the_row as decoder_row}, proofs.decoder.Decoder.TheLaws.{the_row_laws as decoder_laws}}
use Rattle.dgt_follow.{specs.contracts.follower.Follower.{the_row as follower_row}, proofs.follower.Follower.TheLaws.{the_row_laws as follower_laws}}
use Rattle.dgt_game.{specs.contracts.recogniser.Recogniser.{the_row as recogniser_row}, proofs.recogniser.Recogniser.TheLaws.{the_row_laws as recogniser_laws}}
use Rattle.{dgt_host.{specs.contracts.host.Host.{the_row as host_row}, proofs.host.Host.TheLaws.{the_row_laws as host_laws}}, dgt_c.proofs.HandleRow.{Handle, handle}}
use Rattle.dgt_c.specs.contracts.handles.DgtBoard as Board
use Rattle.dgt_c.specs.contracts.handles.DgtCommandDecoder as CommandDecoder
use Rattle.dgt_c.specs.contracts.handles.DgtDecoder as Decoder
use Rattle.dgt_c.specs.contracts.handles.DgtFollower as Follower
use Rattle.dgt_c.specs.contracts.handles.DgtHost as Host
use Rattle.dgt_c.specs.contracts.handles.DgtRecogniser as Recogniser

abbrev pub host : Handle
host =
    handle host_row host_laws Host.struct Host.the_codes (λ d. d.at) (λ d. d.inside)
    (λ p x. record { at = p; inside = x }) (λ d. refl) (λ p x. refl) (λ p x. refl)

abbrev pub follower : Handle
follower =
    handle follower_row follower_laws Follower.struct Follower.the_codes (λ d. d.at) (λ d. d.inside)
    (λ p x. record { at = p; inside = x }) (λ d. refl) (λ p x. refl) (λ p x. refl)

abbrev pub decoder : Handle
decoder =
    handle decoder_row decoder_laws Decoder.struct Decoder.the_codes (λ d. d.at) (λ d. d.inside)
    (λ p x. record { at = p; inside = x }) (λ d. refl) (λ p x. refl) (λ p x. refl)

abbrev pub command_decoder : Handle
command_decoder =
    handle command_decoder_row command_decoder_laws CommandDecoder.struct CommandDecoder.the_codes
    (λ d. d.at)
    (λ d. d.inside) (λ p x. record { at = p; inside = x }) (λ d. refl) (λ p x. refl) (λ p x. refl)

abbrev pub board : Handle
board =
    handle board_row board_laws Board.struct Board.the_codes (λ d. d.at) (λ d. d.inside)
    (λ p x. record { at = p; inside = x }) (λ d. refl) (λ p x. refl) (λ p x. refl)

abbrev pub recogniser : Handle
recogniser =
    handle recogniser_row recogniser_laws Recogniser.struct Recogniser.the_codes (λ d. d.at)
    (λ d. d.inside) (λ p x. record { at = p; inside = x }) (λ d. refl) (λ p x. refl) (λ p x. refl)
