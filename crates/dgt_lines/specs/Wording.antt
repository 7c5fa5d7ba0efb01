-- Texts that end with the bytes that a message carries.
use Rattle.std.specs.Prelude.{ℕ, List, ◌++◌, Option, Some, None}
use Rattle.dgt_values.specs.declared.bodies.Body.{Body}
use Rattle.dgt_values.specs.Bytes.{body_bytes}
use Rattle.dgt_lines.specs.Lines.{bytes_text}

-- a text, and then the carried bytes, if there are some
abbrev pub text_with : List ℕ → Option Body → List ℕ
text_with text None = text
text_with text (Some body) = text ++ bytes_text (body_bytes body)
