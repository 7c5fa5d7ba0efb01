-- The message of a code and a body, computed: any message that fits them is this one.
use Rattle.std.{proofs.{Common.{◌≡◌, ℕ, ◌<◌, ◌-◌, refl, ap, List, [], ◌∷◌, ◌++◌, length, map, take, drop, arith, rules}, lemmas.Grind.{common_steps}}, specs.Prelude.{slice_index}}
use Rattle.{dgt_values.specs.{Board.{piece_code}, declared.pieces.Piece.{Piece}}, dgt_message.specs.{Clock.{IsAbsence, absence_of}, Content.{Content, code_of, IsMessage}, Encoding.{BodyEncodes}}}
use Rattle.dgt_message.specs.{Encoding.{Fits, Encodes}, Layout.{Layout, clock_layout, layout_of}, Reading.{piece_with_code, said_in}, Content.Content.{dump, field, times, no_clock, ack, carried}}

-- a piece is the one with its code
pub piece_with_code-piece_code : (piece : Piece) → piece_with_code (piece_code piece) ≡ piece
piece_with_code-piece_code piece = search rules

-- a code below 16 is that of its piece
pub piece_code-piece_with_code : (n : ℕ) → n < 16 → piece_code (piece_with_code n) ≡ n
piece_code-piece_with_code n h = search rules

-- pieces are those with their codes
pub map-piece_with_code : (pieces : List Piece)
    → map piece_with_code (map piece_code pieces) ≡ pieces
map-piece_with_code [] = refl
map-piece_with_code (piece ∷ pieces) =
    rw (piece_with_code-piece_code piece, map-piece_with_code pieces) refl

-- the bytes of a board without a clock have that layout
absence_laid_out : (raw : List ℕ) (status : ℕ) → IsAbsence (absence_of raw status)
    → clock_layout (raw ++ status ∷ []) ≡ Layout.no_clock
absence_laid_out raw status h = grind (arith, common_steps)

-- the layout of a message
abbrev pub said_layout : Content → Layout
said_layout (dump pieces) = Layout.dump
said_layout (field square piece) = Layout.field
said_layout (times readings) = Layout.times
said_layout (no_clock absence) = Layout.no_clock
said_layout (ack answer) = Layout.ack
said_layout (carried own body) = Layout.carried

-- a body with a meaning has the layout of this message
pub laid_out : (said : Content) (body : List ℕ) → IsMessage said → BodyEncodes said body
    → layout_of (code_of said) body ≡ said_layout said
laid_out said body h s = search (rules, absence_laid_out)

-- six bytes and a status are restored
absence_back : (raw : List ℕ) (status : ℕ) → length raw ≡ 6
    → absence_of (take 6 (raw ++ status ∷ [])) (slice_index (raw ++ status ∷ []) 6)
    ≡ absence_of raw status
absence_back (a ∷ b ∷ c ∷ d ∷ e ∷ f ∷ []) status h = refl
absence_back _ status h = absurd (omega arith)

-- a message is restored from its body by its layout
said_back : (said : Content) (body : List ℕ) → IsMessage said → BodyEncodes said body
    → said_in (said_layout said) (code_of said) body ≡ said
said_back (dump pieces) body h s = rw s (ap dump (map-piece_with_code pieces))
said_back (field square piece) body h s = search rules
said_back (times readings) body h s = search rules
said_back (no_clock absence) body h s = search (rules, absence_back)
said_back (ack answer) body h s = rw (← s.2, ← s.3) refl
said_back (carried own bytes) body h s = ap (carried own) s

-- the message in the body under a code
abbrev pub message_in : ℕ → List ℕ → Content
message_in code body = said_in (layout_of code body) code body

-- a message that fits is the one in the body
pub message_in-fits : (said : Content) (code : ℕ) (body : List ℕ) → Fits said code body
    → message_in code body ≡ said
message_in-fits said code body h = search (rules, laid_out, said_back)

-- the whole encodes the meaning of its code and its body
pub message_in-encodes : (said : Content) (bytes : List ℕ) → Encodes said bytes
    → message_in (slice_index bytes 0 - 128) (drop 3 bytes) ≡ said
message_in-encodes said bytes h = search (rules, message_in-fits)
