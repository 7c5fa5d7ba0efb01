-- The messages that are dumps: 67 bytes, of which the last 64 are pieces.
use Rattle.std.proofs.{Common.{rules, ◌≡◌, ℕ, ◌-◌, ◌<◌, List, ◌∷◌, Ok, ap, arith, drop, get_or, length, map, slice_index}, lemmas.List.{get_or-map, length-map, Elements.{All-drop}}}
use Rattle.{dgt_values.specs.{Board.{piece_code}, Bytes.{AreSevenBit}, declared.pieces.Piece.{Piece, TheVariants.{Empty}}}, dgt_message.specs.{Content.{IsCarried}, Encoding.{Fits}, Reading.{reading}}}
use Rattle.{dgt_message.{specs.Content.Content.{dump}, proofs.Codes.{piece_code-below}}, dgt_decode.specs.{Feeding.{IsWholeMessage}, Grammar.{Message, message_event, reading_event}}}
use Rattle.dgt_decode.proofs.FieldLemmas.{IsRead, read_of}

-- the reading of a body of 64 codes of pieces
dump_read : IsRead → (body : List ℕ) (pieces : List Piece) → AreSevenBit body → length body ≡ 64
    → body ≡ map piece_code pieces → reading 6 body ≡ Ok (dump pieces)
dump_read exact body pieces seven long are =
    (exact 6 body (dump pieces) (omega arith) (omega (arith, long), seven)).1
    search (rules, length-map)

pub dump_reported : IsRead → (bytes : List ℕ) (pieces : List Piece) → IsWholeMessage bytes
    → length bytes ≡ 67 → slice_index bytes 0 ≡ 134 → drop 3 bytes ≡ map piece_code pieces
    → message_event bytes ≡ Message (dump pieces)
dump_reported exact (a ∷ b ∷ c ∷ body) pieces w long code are =
    let seven : AreSevenBit body = All-drop (λ byte. byte < 128) 2 (b ∷ c ∷ body) w.later in
    rw code (ap (reading_event 6) (dump_read exact body pieces seven (omega (arith, long)) are))
dump_reported exact _ pieces w long code are = absurd (omega (arith, long))

-- A message with the pieces of all squares has 67 bytes. The first is 134, and each of its codes is
-- below 16.
pub only_dump : IsRead → (bytes : List ℕ) (pieces : List Piece) → slice_index bytes 0 < 256
    → IsWholeMessage bytes → message_event bytes ≡ Message (dump pieces)
    → (slice_index bytes 0 ≡ 134) × (length bytes ≡ 67)
    × ((k : ℕ) → k < 64 → get_or (drop 3 bytes) k 0 < 16)
only_dump exact (a ∷ b ∷ c ∷ body) pieces byte w e =
    let seven : AreSevenBit body = All-drop (λ byte. byte < 128) 2 (b ∷ c ∷ body) w.later in
    let carried : IsCarried body =
    (omega (arith, w.whole, w.later 0 0 (omega arith), w.later 1 0 (omega arith)), seven) in
    let fits : Fits (dump pieces) (a - 128) body =
    (exact (a - 128) body (dump pieces) (omega arith) carried).0 (read_of _ _ _ e) in
    let long = length-map pieces piece_code in (
      omega (arith, fits.code_is, w.first),
      omega (arith, ap length fits.encoded, long, fits.is_message),
      λ k h.
          rw (
            fits.encoded,
            get_or-map piece_code pieces k Empty 0 (omega (arith, fits.is_message, h)),
          )
          (piece_code-below (get_or pieces k Empty)),
    )
only_dump exact _ pieces byte w e = absurd (omega (arith, w.long))
