use Rattle.{std.proofs.Common.{refl}, dgt_command.{specs.{Content.{payload_bytes}, declared.ids.KnownId.{KnownId}}, proofs.ClockLemmas.{own_places}}}
use Rattle.dgt_command.proofs.viewing.clock_command.Goals as goal

pub returns-in-Some-Display-clause-carried : goal.returns-in-Some-Display-clause-carried
returns-in-Some-Display-clause-carried c =
    rw c.bytes-bytes.ensures.bytes
    (own_places KnownId.Display c.args.id (payload_bytes c.args.carried) (cc)
    (c.new.ensures.refused.0 (rw c.in_default.is refl)))

pub returns-in-Some-SetAndRun-clause-carried : goal.returns-in-Some-SetAndRun-clause-carried
returns-in-Some-SetAndRun-clause-carried c =
    rw c.bytes-bytes.ensures.bytes
    (own_places KnownId.SetAndRun c.args.id (payload_bytes c.args.carried) (cc)
    (c.new.ensures.refused.0 (rw c.in_default.is refl)))

pub returns-in-Some-Text-clause-carried : goal.returns-in-Some-Text-clause-carried
returns-in-Some-Text-clause-carried c =
    rw c.bytes-bytes.ensures.bytes
    (own_places KnownId.Text c.args.id (payload_bytes c.args.carried) (cc)
    (c.new.ensures.refused.0 (rw c.in_default.is refl)))
