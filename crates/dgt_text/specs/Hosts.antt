-- The picture and the clock that are printed are those of a host that hears the same bytes.
use Rattle.std.specs.Prelude.{◌≡◌, Bool, true, ℕ, List, None, option_map}
use Rattle.std.specs.List.{last_or}
use Rattle.dgt_decode.specs.Grammar.{events}
use Rattle.dgt_host.specs.Host.{host_after, new_host}
use Rattle.dgt_lines.specs.Clocks.{clock_text}
use Rattle.dgt_lines.specs.Pictures.{picture_reported}
use Rattle.dgt_lines.specs.Reports.{clocks_shown, new_state, reports}

abbrev pub PictureIsTheHosts : Type 0
PictureIsTheHosts = (bytes : List ℕ) → (host_after new_host bytes).picture ≡ picture_reported bytes

-- The last line of the clock has the text of the host's clock. If that is unknown, there is no such
-- line.
abbrev pub LastClockIsTheHosts : Type 0
LastClockIsTheHosts =
    (doubts : Bool) (bytes : List ℕ)
    → last_or None (clocks_shown (reports (new_state doubts true) (events bytes)))
    ≡ option_map clock_text (host_after new_host bytes).clock
