-- Lines in parts.
use Rattle.{std.proofs.Common.{◌≡◌, ℕ, Bool, List, [], ◌∷◌, ◌++◌, Result, ◌∙◌, ap, ◌<◌, append_assoc, length, length-append, sym, rules}, dgt_lines.specs.Lines.{line, offset_text}}
use Rattle.dgt_lines.specs.{Lines.{unfinished_line, unfinished_text}, Marks.{Waits}, Writing.{Gathered, Gathers}, declared.{faults.RunFault.{RunFault}, streams.Sink.{Ghosts as Sink}}}
use Rattle.dgt_lines.proofs.GatherLemmas.{gathers_via}

-- after what is held come an offset, a text up to the bytes that are carried, and these bytes
text-parts : (offset : ℕ) (held start said text bytes : List ℕ)
    → start ≡ held ++ (offset_text offset ++ 32 ∷ []) → text ++ bytes ≡ start ++ said
    → text ++ bytes ≡ held ++ (offset_text offset ++ 32 ∷ said)
text-parts offset held start said text bytes s e = search (rules, append_assoc)

-- room was made for a line, it was added up to the bytes that are carried, and then a call gathers
-- these bytes
pub gathers_text : {S A : Type 0} (W : Sink S) (offset : ℕ)
    (held left start said text bytes after : List ℕ) (a b c : S) (r : Result A RunFault)
    → Gathered W held left a b [] → start ≡ left ++ (offset_text offset ++ 32 ∷ [])
    → text ++ bytes ≡ start ++ said → Gathers W (text, after) b c r bytes
    → Gathers W (held, after) a c r (offset_text offset ++ 32 ∷ said)
gathers_text W offset held left start said text bytes after a b c r room began pushed rest =
    search (rules, gathers_via, text-parts)

-- what ends with a line waits for a flush
pub line_waits : (held : List ℕ) (offset : ℕ) (said all : List ℕ) (flushed : Bool)
    → all ≡ held ++ line offset said → Waits all flushed
line_waits held offset said all flushed e none =
    let whole = ap length (sym none ∙ e) in
    search (rules, length-append)

pub unfinished_line-none : (held : List ℕ) (offset : ℕ) → 0 ≡ length held
    → unfinished_line offset held ≡ []
unfinished_line-none held offset e = search rules

-- the line of a message that is unfinished
pub unfinished_line-some : (held : List ℕ) (offset have : ℕ) → 0 < length held → have ≡ length held
    → unfinished_line offset held ≡ line offset (unfinished_text have)
unfinished_line-some held offset have h e = search rules
