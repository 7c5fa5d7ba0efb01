-- `dgt_follower_make` makes the handle and its value.
use Rattle.dgt_c.{specs.{PlainFollower.{plain_follower}, contracts.places.{FollowerPlace.{struct}, dgt_follower_make.Key.{name}}}, proofs.{EachHandle.{follower}, HandleMaking.{makes}}}
use Rattle.dgt_c.proofs.{places.dgt_follower_make.Statement.{statement}, plain_follower.default_follower.{Met.{met}, Symbol.{name as new}}}
use Rattle.dgt_c.proofs.places.dgt_follower_make.Code as code

pub dgt_follower_make_spec : {M : Type 1} → statement M
dgt_follower_make_spec 𝓤 𝓛 𝓜 𝓡 wired =
    makes follower struct.name new plain_follower 𝓤 𝓛 𝓜 𝓡 name (code.unfolded 𝓤 𝓛.H 𝓜 𝓡 wired)
    (met 𝓤 𝓛 𝓜 𝓡 (code.calls-dgt_c::plain_follower::default_follower 𝓡.env wired))
