use Rattle.std.proofs.{Common.{rules, ◌≡◌, ◌+◌, ◌-◌, ◌++◌, ◌≤◌, drop, length, take, not, sym, ap, ◌∙◌, append_assoc, arith}, Math.{Nat.{min_comm}, Seq.{take-add}}, lemmas.List.{length-append}}
use Rattle.{std.{proofs.lemmas.List.{length-take, length-take-le, take-take, take_min, take_rest, Sums.{prefix_len-le-length}}, specs.List.{position_or_len}}, dgt_decode.specs.Grammar.{has_top_bit}}
use Rattle.dgt_decode.proofs.{BodyRuns.{search-after}, SevenBit.{by_recursion}}
use Rattle.dgt_decode.proofs.framer.append_run.Goals as goal

-- the bytes that may be taken
taken : (c : goal.After-append)
    → take c.min.result c.args.chunk.now ≡ take c.args.missing c.args.chunk.now
taken c = search (rules, min_comm, take_min)

-- those before the first with a set top bit
count : (c : goal.After-append) → c.append_blocks-blocks.result + c.first_top-run.result
    ≡ position_or_len has_top_bit (take c.min.result c.args.chunk.now)
count c = search (rules, take_rest, search-after, by_recursion)

pub returns-clause-count : goal.returns-clause-count
returns-clause-count c = search (rules, count, taken)

pub returns-clause-appended : goal.returns-clause-appended
returns-clause-appended c =
    let chunk = c.args.chunk.now in
    let wanted = take c.min.result chunk in
    let n = c.append_blocks-blocks.result in
    let run = c.first_top-run.result in
    let blocks = take n wanted in
    let others = take (length wanted - n) (drop n wanted) in
    let within : n + run ≤ length wanted =
    omega (arith, count c, prefix_len-le-length (λ x. not (has_top_bit x)) wanted) in
    let least : length wanted ≤ c.min.result = omega (arith, length-take c.min.result chunk) in
    let long : length c.append_blocks-blocks.new.self ≡ length c.args.kept.now + n =
    rw c.append_blocks-blocks.ensures.kept
    (omega (
      arith,
      length-append c.args.kept.now blocks,
      length-take-le n wanted c.append_blocks-blocks.ensures.within,
    )) in
    let room : length c.append_blocks-blocks.new.self + length (take run others) ≤ 16383 =
    omega (arith, long, length-take run others, within, least, c.min.ensures, c.requires) in
    let joined : blocks ++ take run others ≡ take (n + run) chunk =
    ap (λ xs. blocks ++ take run xs) (take_rest wanted n) ∙ sym (take-add n run wanted)
    ∙ take-take (n + run) c.min.result chunk (omega (arith, within, least)) in
    let kept = c.append.ensures.kept room in
    search (rules, append_assoc)
