-- `dgt_host_make` makes the handle and its value.
use Rattle.{dgt_host.{specs.Host.{new_host}, proofs.host.Host.new.{Met.{met}, Symbol.{name as new}}}, dgt_c.specs.contracts.places.{HostPlace.{struct}, dgt_host_make.Key.{name}}}
use Rattle.dgt_c.proofs.{EachHandle.{host}, HandleMaking.{makes}, places.dgt_host_make.Statement.{statement}}
use Rattle.dgt_c.proofs.places.dgt_host_make.Code as code

pub dgt_host_make_spec : {M : Type 1} → statement M
dgt_host_make_spec 𝓤 𝓛 𝓜 𝓡 wired =
    makes host struct.name new new_host 𝓤 𝓛 𝓜 𝓡 name (code.unfolded 𝓤 𝓛.H 𝓜 𝓡 wired)
    (met 𝓤 𝓛 𝓜 𝓡 (code.calls-dgt_host::host::Host::new 𝓡.env wired))
