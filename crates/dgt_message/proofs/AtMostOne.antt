-- For a code and a body, at most one message fits or one fault does, and never both.
use Rattle.{std.proofs.{Common.{◌≡◌, ℕ, ◌<◌, sym, ap, ◌∙◌, List, [], ◌∷◌, length, map, arith, length-append, rules}, lemmas.List.{length-map, get_or-map}}, dgt_message.specs.Content.{Content}}
use Rattle.dgt_message.specs.{Content.{IsMessage, Content.{dump, field, times}}, Encoding.{BodyEncodes, Fits, times_bytes}, Layout.{Layout, column_of}, Reading.{Allows, IsFaultOf}}
use Rattle.dgt_message.{specs.declared.viewing.BodyFault.{BodyFault}, proofs.{Codes.{piece_code-below}, MessageIn.{laid_out, said_layout, message_in-fits}, Sizes.{AllowsBefore}}}
use Rattle.{std.specs.Prelude.{slice_index}, dgt_values.specs.{Board.{piece_code}, declared.pieces.Piece.{Piece, TheVariants.{Empty}}}, dgt_message.specs.Clock.{Times as BothTimes, AreTimes}}

-- both are the message in the body
pub one_message : (code : ℕ) (body : List ℕ) (first second : Content) → Fits first code body
    → Fits second code body → first ≡ second
one_message code body first second h k =
    sym (message_in-fits first code body h) ∙ message_in-fits second code body k

-- a body has at most one fault
pub one_fault : (code : ℕ) (body : List ℕ) (f g : BodyFault) → IsFaultOf code body f
    → IsFaultOf code body g → f ≡ g
one_fault code body f g h k = search rules

-- each byte of encoded times is valid in its place
times_allowed : (t : BothTimes) → AreTimes t → (at : ℕ) → at < 7
    → Allows (column_of Layout.times at) (slice_index (times_bytes t) at)
times_allowed t h at l = search rules

-- each code of a piece is below 16
codes_allowed : (pieces : List Piece) (at : ℕ) → at < length (map piece_code pieces)
    → slice_index (map piece_code pieces) at < 16
codes_allowed pieces at l =
    let within : at < length pieces = omega (arith, length-map pieces piece_code) in
    rw (get_or-map piece_code pieces at Empty 0 within) (piece_code-below _)

-- the two bytes of a field update are valid in their places
field_allowed : (s : ℕ) (p : Piece) (at : ℕ) → s < 64 → at < 2
    → Allows (column_of Layout.field at) (slice_index (s ∷ piece_code p ∷ []) at)
field_allowed s p at h l = search rules

-- each byte of a body with a meaning is valid in its place
said_allowed : (said : Content) (body : List ℕ) → IsMessage said → BodyEncodes said body
    → AllowsBefore (said_layout said) body (length body)
said_allowed (dump pieces) body h s at l = rw s (codes_allowed pieces at (rw (← s) l))
said_allowed (field where_ what) body h s at l =
    rw s (field_allowed where_ what at h (omega (arith, ap length s)))
said_allowed (times readings) body h s at l =
    rw s (times_allowed readings h at (omega (arith, ap length s)))
said_allowed _ body h s at l = tt

-- if a message fits, the size is right and each byte is valid in its place: there is no fault
pub not_both : (code : ℕ) (body : List ℕ) (said : Content) (fault : BodyFault) → Fits said code body
    → IsFaultOf code body fault → ⊥
not_both code body said fault h k =
    search (rules, laid_out, said_allowed, length-map, length-append)
