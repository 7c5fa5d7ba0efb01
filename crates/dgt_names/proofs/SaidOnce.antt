-- The bytes of an acknowledgement have one meaning only.
use Rattle.{std.proofs.Common.{◌≡◌, ℕ, rules, sym}, dgt_command.specs.declared.ids.KnownId.{KnownId}, dgt_names.specs.{Names.{ArePressed, IsNoButton, Says}, declared.clock.Button.{Button}}}
use Rattle.dgt_names.specs.declared.clock.Signal.{Signal}

once : (one other : Signal) (down pressed : ℕ) → ArePressed one down pressed
    → ArePressed other down pressed → one ≡ other
once one other down pressed p q = search rules

pub none_pressed : (signal : Signal) (down pressed : ℕ) → IsNoButton pressed
    → ArePressed signal down pressed → ⊥
none_pressed (Signal.Pressed button) down pressed none p = none button (sym p.0)
none_pressed Signal.Off down pressed none p = none Button.Ok (sym p.0)
none_pressed _ down pressed none p = absurd p

-- an unasked acknowledgement of buttons without a button has no meaning
pub none_said : (signal : Signal) (down pressed : ℕ) → IsNoButton pressed
    → Says signal 0x88 down pressed → ⊥
none_said (Signal.Pressed button) s t none p = none_pressed (Signal.Pressed button) s t none p.1
none_said Signal.Off s t none p = none_pressed Signal.Off s t none p.1
none_said signal s t none p = search rules

button_said : (signal : Signal) (kind s t : ℕ) → Says (Signal.Done KnownId.Button) kind s t
    → ArePressed signal s t → ⊥
button_said signal kind s t p q = none_pressed signal s t p.1 q

pub said : (one other : Signal) (kind second third : ℕ) → Says one kind second third
    → Says other kind second third → one ≡ other
said (Signal.Pressed button) (Signal.Done KnownId.Button) k s t p q =
    absurd (button_said (Signal.Pressed button) k s t q p.1)
said Signal.Off (Signal.Done KnownId.Button) k s t p q = absurd (button_said Signal.Off k s t q p.1)
said (Signal.Done KnownId.Button) (Signal.Pressed own) k s t p q =
    absurd (button_said (Signal.Pressed own) k s t p q.1)
said (Signal.Done KnownId.Button) Signal.Off k s t p q = absurd (button_said Signal.Off k s t p q.1)
said one other k s t p q = search rules
