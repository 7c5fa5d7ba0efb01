-- What C calls report of a sending.
use Rattle.std.specs.Prelude.{◌≡◌, ℕ, List, Result, Ok, Err}
use Rattle.dgt_host.specs.declared.sending.SendFault.{SendFault}
use Rattle.dgt_host.specs.declared.sending.SendFault.TheVariants.{TooMany, NoRoom}
use Rattle.dgt_host.specs.Host.{HostView, Request, Sends}
use Rattle.dgt_c.specs.declared.header.DgtSent.{DgtSent}
use Rattle.dgt_c.specs.declared.header.TheConstants.{DONE, NO_ROOM, NO_SUCH_COMMAND, TOO_MANY_AWAITED}

abbrev pub sent_reported : Result ℕ SendFault → DgtSent
sent_reported (Ok bytes) = record { status = DONE; bytes = bytes }
sent_reported (Err TooMany) = record { status = TOO_MANY_AWAITED; bytes = 0 }
sent_reported (Err (NoRoom need)) = record { status = NO_ROOM; bytes = need }

-- the struct contains the result of sending: the host before and after, the slice before and after
abbrev pub SendsReported : Request → HostView → HostView → List ℕ → List ℕ → DgtSent → Type 0
SendsReported request before after old new reported =
    (outcome : Result ℕ SendFault) × Sends request before after old new outcome
    × (reported ≡ sent_reported outcome)

-- there is no such command, and nothing changes
abbrev pub RefusesCommand : HostView → HostView → List ℕ → List ℕ → DgtSent → Type 0
RefusesCommand before after old new reported =
    (reported ≡ NO_SUCH_COMMAND) × (after ≡ before) × (new ≡ old)
