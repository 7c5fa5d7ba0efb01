-- Commands after others.
use Rattle.{std.proofs.{Common.{rules, ℕ, List, [], ◌∷◌, ◌++◌, append_assoc, map}}, dgt_command.specs.{Content.{CommandContent, EventContent}, Encoding.{EncodesCommand}}}
use Rattle.{dgt_command.specs.{Encoding.{command_encoding}, Laws.{DivisionsAppend}, Words.{Divides, IsPartial}}, dgt_host.specs.Host.{follow_bytes}, dgt_link.specs.Machine.{commands_anew}}

module _ (nothing : IsPartial []) where
  -- one more command in a line after bytes with no rest
  pub divides_command : DivisionsAppend
      → (held bytes : List ℕ) (events : List EventContent) (command : CommandContent)
      → Divides (held ++ bytes) events [] → EncodesCommand command (command_encoding command)
      → Divides (held ++ (bytes ++ command_encoding command))
      (events ++ EventContent.Read command ∷ []) []
  divides_command append held bytes events command divides encodes = search (rules, append_assoc)

  -- the bytes of a host that starts over are its requests
  pub anew_divides : Divides follow_bytes (map EventContent.Read commands_anew) []
  anew_divides = search rules
