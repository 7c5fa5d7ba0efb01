use Rattle.std.proofs.{Common.{◌≡◌, ◌≤◌, ◌++◌, List, length, min, take, ℕ, refl, ◌∙◌, arith, rules}, lemmas.{List.{take-append-le, take-take, take_min, length-take-le}, Simd.{put_chunk_is}}}
use Rattle.dgt_values.proofs.kept.Kept.set_prefix.Goals.{then-len-le-FEW+then-bytes-ge-FEW+then-this-ge-FEW, else-len-le-FEW}
use Rattle.dgt_values.proofs.kept.Kept.set_prefix.Goals as goal

-- of m bytes that were copied, at least n
prefix : (n m : ℕ) (bytes others : List ℕ) → n ≤ m → m ≤ length bytes
    → take n (take m bytes ++ others) ≡ take n bytes
prefix n m bytes others few enough =
    take-append-le n (take m bytes) others (omega (arith, length-take-le m bytes enough, few))
    ∙ take-take n m bytes few

pub returns : goal.returns
returns g c =
    let bytes = c.args.bytes.now in
    let len = c.min-len.result in
    let all : take len bytes ≡ take (min c.args.len g.row.ROOM) bytes =
    rw (c.min-len.ensures, take_min c.min.result bytes, c.min.ensures) refl in
    elim c.if-len-le-FEW.branch [
      | then-len-le-FEW+then-bytes-ge-FEW+then-this-ge-FEW w ↦
          (let eight : length (take 8 bytes) ≡ 8 = length-take-le 8 bytes w.if-bytes-ge-FEW.true in
          rw (
            w.self-inside-is,
            put_chunk_is 0 c.self.inside.bytes (take 8 bytes) (omega (arith, eight, c.self.told)),
          )
          (prefix len 8 bytes _ w.if-len-le-FEW.true w.if-bytes-ge-FEW.true ∙ all))
      | else-len-le-FEW w ↦ search (rules, prefix)
    ]
