-- The output of `encode` for a message encodes it.
use Rattle.std.proofs.{Common.{◌≡◌, ℕ, ◌<◌, ◌+◌, ◌*◌, ◌%◌, true, List, [], ◌∷◌, length, map, get_or, arith, eq-eqb, length-append, rules}, lemmas.List.{length-map}}
use Rattle.{std.{proofs.lemmas.List.Elements.{All-map, All-push}, specs.{Int.{bit_at}, Prelude.{◌↔◌, All}}}, dgt_values.specs.{Board.{piece_code}, Bytes.{AreSevenBit}}}
use Rattle.{dgt_values.specs.declared.pieces.Piece.{Piece}, dgt_message.specs.{Clock.{Answer, Times as BothTimes, AreTimes, is_mark, IsAck}, Content.{Content, IsCarried, IsMessage}}}
use Rattle.dgt_message.specs.{Encoding.{ack_in, mark_with, ack_encoding, BodyEncodes, Fits, Encodes, times_bytes, message_bytes, encoding, body_encoding}, Content.Content.{dump, field}}
use Rattle.dgt_message.{specs.Content.Content.{times, no_clock, ack, carried}}

-- codes of pieces are seven-bit
codes_small : (pieces : List Piece) → AreSevenBit (map piece_code pieces)
codes_small pieces = All-map (λ byte. byte < 128) piece_code pieces (search rules)

-- the bytes of times are seven-bit
times_small : (t : BothTimes) → AreTimes t → AreSevenBit (times_bytes t)
times_small t h = search rules

-- the encoded bytes of an acknowledgement are seven-bit
ack_small : (answer : Answer) → IsAck answer → AreSevenBit (ack_encoding answer)
ack_small answer h = search rules

-- D4 of the mark restores the top bit of the first byte
first_bit : (a b : ℕ) → a < 256 → a ≡ a % 128 + 128 * bit_at (mark_with a b) 4
first_bit a b h = omega arith

-- D5 of the mark restores the top bit of the second byte
second_bit : (a b : ℕ) → a < 256 → b < 256 → b ≡ b % 128 + 128 * bit_at (mark_with a b) 5
second_bit a b h k = omega arith

-- the mark with the two bits is a mark
marked : (a b : ℕ) → is_mark (mark_with a b) ≡ true
marked a b = eq-eqb _ _ (omega arith)

-- the four bytes are restored from the encoded bytes
acks_same : (xs : List ℕ) (status : ℕ) → length xs ≡ 4 → All (λ byte. byte < 256) xs
    → xs ≡ ack_in (ack_encoding (record { ack = xs; status = status }))
acks_same (a ∷ b ∷ c ∷ d ∷ []) status h k =
    let at : (i : ℕ) → i < 4 → get_or (a ∷ b ∷ c ∷ d ∷ []) i 0 < 256 = λ i less. k i 0 less in
    cc (
      first_bit a b (at 0 (omega arith)),
      second_bit a b (at 0 (omega arith)) (at 1 (omega arith)),
      first_bit c d (at 2 (omega arith)),
      second_bit c d (at 2 (omega arith)) (at 3 (omega arith)),
    )
acks_same _ status h k = absurd (omega arith)

-- the output of `encode` for an acknowledgement encodes it
pub ack_encoding_encodes : (answer : Answer) → IsAck answer
    → BodyEncodes (ack answer) (ack_encoding answer)
ack_encoding_encodes answer h = search (rules, marked, acks_same)

-- an encoded body is seven-bit
small_body : (said : Content) → IsMessage said → AreSevenBit (body_encoding said)
small_body (dump pieces) h = codes_small pieces
small_body (field square piece) h = search rules
small_body (times readings) h = times_small readings h
small_body (no_clock absence) h = All-push (λ byte. byte < 128) absence.raw absence.status h.1 h.3
small_body (ack answer) h = ack_small answer h
small_body (carried own body) h = h.3.1

-- an encoded body encodes the message
encoded : (said : Content) → IsMessage said → BodyEncodes said (body_encoding said)
encoded said h = search (rules, ack_encoding_encodes)

-- the output of `encode` for a message encodes it
pub encoding_encodes : (said : Content) → IsMessage said → Encodes said (encoding said)
encoding_encodes said h = search (rules, small_body, encoded, length-map, length-append)

-- a message that fits is encoded by its whole, and conversely
pub fits_if_encoded : (code : ℕ) (body : List ℕ) (said : Content) → code < 128 → IsCarried body
    → Fits said code body ↔ Encodes said (message_bytes code body)
fits_if_encoded code body said small fits = search rules
