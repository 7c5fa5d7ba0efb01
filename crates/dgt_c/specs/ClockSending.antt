-- C calls that send messages to the clock.
use Rattle.std.specs.Prelude.{◌⊎◌, ℕ, List, None}
use Rattle.dgt_command.specs.Content.{ClockContent, CommandContent, clock_content}
use Rattle.dgt_command.specs.Display.{HasNoSegments, Shows}
use Rattle.dgt_command.specs.declared.clock.ClockCommand.{ClockCommand}
use Rattle.dgt_host.specs.Host.{HostView}
use Rattle.dgt_c.specs.Sent.{RefusesCommand, SendsReported}
use Rattle.dgt_c.specs.declared.header.DgtSent.{DgtSent}

-- this clock message is sent by the bytes that the sender writes for it: the host before and after,
-- the slice before and after
abbrev pub SendsClock : (CommandContent → List ℕ) → ClockContent → HostView → HostView
    → List ℕ → List ℕ → DgtSent → Type 0
SendsClock written message =
    SendsReported (record { kind = None; bytes = written (CommandContent.ClockMessage message) })

abbrev pub SendsMessage : (CommandContent → List ℕ) → ClockCommand → HostView → HostView
    → List ℕ → List ℕ → DgtSent → Type 0
SendsMessage written message = SendsClock written (clock_content message)

-- the six characters are shown, or one of them has no segments and nothing is sent
abbrev pub SendsDisplay : (CommandContent → List ℕ) → List ℕ → ℕ → ℕ → HostView → HostView
    → List ℕ → List ℕ → DgtSent → Type 0
SendsDisplay written text dots beep before after old new reported =
    ((message : ClockContent) × Shows text dots beep message
    × SendsClock written message before after old new reported)
    ⊎ (HasNoSegments text × RefusesCommand before after old new reported)
