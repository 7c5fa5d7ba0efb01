use Prim.Native.Char.{code as ascii}
use Rattle.std.proofs.{Common.{arith, ◌≡◌, ◌<◌, ◌≤◌, ◌+◌, ◌++◌, ℕ, length, List, replicate, ◌-◌, ◌*◌, get_or, take, refl, ap, ◌∙◌}, lemmas.{List.{length-replicate}, Slice.{take-put_mid}}}
use Rattle.dgt_values.{specs.{Placement.{MeansSquares}, declared.pieces.Piece.{Piece}}, proofs.Reading.{all_filled, length_mid, leaves_start, leaves_slash, leaves_squares, first_bad, no_step}}
use Rattle.dgt_values.proofs.Reading.{whole_placement, short_placement}
use Rattle.dgt_values.proofs.positions.Position.parse_placement.Goals as goal

pub loop-at-init : goal.loop-at-init
loop-at-init c =
    record { file_in = omega arith; rank_in = omega arith; so_many = refl; read = leaves_start }

pub loop-at-preserved-then-more_ranks : goal.loop-at-preserved-then-more_ranks
loop-at-preserved-then-more_ranks c = record {
  file_in = omega arith;
  rank_in = omega arith;
  so_many = c.loop-at.invariant.so_many;
  read = leaves_slash _ c.loop-at.pieces c.loop-at.at c.loop-at.rank c.loop-at.file (omega arith)
      (omega arith) (omega arith) c.if-byte-eq47.true c.loop-at.invariant.read;
}

-- a byte that means no squares, or too many
pub returns-in_default : goal.returns-in_default
returns-in_default c =
    let bytes = c.as_bytes-byte-items.result.now in
    let no_slash : get_or bytes c.loop-at.at 0 ≡ ascii "/" → c.loop-at.file ≡ 8 → c.loop-at.rank < 7
    → ⊥ =
    λ slash full less. grind (arith, c.else-byte-eq47.either) in
    let no_room = rw c.in_default.is at c.squares_of.ensures in
    let too_many : (squares : List Piece) → MeansSquares (get_or bytes c.loop-at.at 0) squares
    → 8 < c.loop-at.file + length squares = λ squares means. let long = no_room squares means in
    omega arith in
    rw (← c.as_bytes-byte-items.ensures.value)
    (first_bad bytes _ c.loop-at.at _ _ (omega arith) (omega arith) c.loop-at.invariant.read
    (no_step (get_or bytes c.loop-at.at 0) c.loop-at.rank c.loop-at.file (omega arith) no_slash
    too_many))

pub loop-at-preserved : goal.loop-at-preserved
loop-at-preserved c =
    let next : ℕ = 8 * c.loop-at.rank + c.loop-at.file in
    let squares = replicate c.in-Some.count c.in-Some.piece in
    let room : next + c.in-Some.count ≤ length c.loop-at.pieces =
    omega (arith, c.loop-at.invariant.so_many) in
    let new = all_filled c.loop-at.pieces c.fill.new.self c.in-Some.piece next c.in-Some.count room
    (c.fill.ensures.after (λ y e. e)) in
    let many : length c.fill.new.self ≡ c.in-Some.count =
    ap length new ∙ length-replicate c.in-Some.count c.in-Some.piece in
    let written = take-put_mid next (next + c.in-Some.count - next) c.loop-at.pieces c.fill.new.self
    (8 * c.loop-at.rank + (c.loop-at.file + c.in-Some.count)) (omega (arith, many)) (omega arith)
    ∙ ap (λ l. take next c.loop-at.pieces ++ l) new in
    record {
      file_in = omega arith;
      rank_in = c.loop-at.invariant.rank_in;
      so_many = length_mid next (next + c.in-Some.count - next) c.loop-at.pieces c.fill.new.self
          (omega (arith, c.loop-at.invariant.so_many)) (omega (arith, many))
          ∙ c.loop-at.invariant.so_many;
      read = leaves_squares c.as_bytes-byte-items.result.now c.loop-at.pieces _ squares c.loop-at.at
          c.loop-at.rank c.loop-at.file c.in-Some.count (omega arith) (omega arith)
          c.in-Some.ensures.0 (length-replicate c.in-Some.count c.in-Some.piece) written
          c.loop-at.invariant.read;
    }

pub returns-then-squares_read-eq64 : goal.returns-then-squares_read-eq64
returns-then-squares_read-eq64 c = rw (← c.as_bytes-byte-items.ensures.value, c.from_pieces.ensures)
    (whole_placement c.as_bytes-byte-items.result.now c.loop-at.pieces c.loop-at.at c.loop-at.rank
    c.loop-at.file (omega arith) (omega arith) (omega arith)
    c.loop-at.invariant.so_many c.loop-at.invariant.read)

pub returns-else-squares_read-eq64 : goal.returns-else-squares_read-eq64
returns-else-squares_read-eq64 c = rw (← c.as_bytes-byte-items.ensures.value)
    (short_placement c.as_bytes-byte-items.result.now c.loop-at.pieces c.loop-at.at c.loop-at.rank
    c.loop-at.file (omega arith) (omega arith) (omega arith)
    (λ seven eight. omega arith) c.loop-at.invariant.read)
