use Rattle.{std.proofs.Common.{◌≡◌, ◌+◌, min, arith}, dgt_decode.proofs.Beginnings.{beginning, frames-beginning}}
use Rattle.dgt_decode.proofs.framer.Framer.take_beginning.Goals as goal

pub overflow_add-used : goal.overflow_add-used
overflow_add-used c =
    let run = beginning _ _ _ _ _ c.requires.begins c.min.ensures c.min-end.ensures
    c.first_top-used.ensures in
    omega (arith, run.fits, run.short)

pub overflow_sub-total : goal.overflow_sub-total
overflow_sub-total c =
    (beginning _ _ _ _ _ c.requires.begins c.min.ensures c.min-end.ensures
    c.first_top-used.ensures).fits

pub invariant_of-self : goal.invariant_of-self
invariant_of-self c =
    let run = beginning _ _ _ _ _ c.requires.begins c.min.ensures c.min-end.ensures
    c.first_top-used.ensures in
    let fits : min (3 + c.first_top-used.result) 16383 ≡ 3 + c.first_top-used.result =
    omega (arith, run.fits, run.short) in
    rw (c.after_byte-state.ensures, c.set_prefix.ensures, fits)
    (frames-beginning c.args.self.now c.args.rest.now c.args.total _ c.requires.closed
    c.requires.begins run).1

pub returns : goal.returns
returns c = let run = beginning _ _ _ _ _ c.requires.begins c.min.ensures c.min-end.ensures
    c.first_top-used.ensures in
    let fits : min (3 + c.first_top-used.result) 16383 ≡ 3 + c.first_top-used.result =
    omega (arith, run.fits, run.short) in
    rw (c.after_byte-state.ensures, c.set_prefix.ensures, fits)
    (frames-beginning c.args.self.now c.args.rest.now c.args.total _ c.requires.closed
    c.requires.begins run).0
