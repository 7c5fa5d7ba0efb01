-- Sending has one outcome.
use Rattle.{std.proofs.{Common.{rules, ◌≡◌, ℕ, List, arith, Result}, lemmas.Bool.{false≢true}}, dgt_host.specs.{Host.{HostView, Request, Sends}, declared.sending.SendFault.{SendFault}}}

pub one_sending : (sent : Request) (before after other : HostView) (old new also : List ℕ)
    (result found : Result ℕ SendFault) → Sends sent before after old new result
    → Sends sent before other old also found → (result ≡ found) × (after ≡ other) × (new ≡ also)
one_sending sent before after other old new also result found first second =
    search (rules, arith, false≢true)
