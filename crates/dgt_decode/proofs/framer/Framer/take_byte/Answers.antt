use Rattle.{std.{proofs.Common.{◌≡◌, inl, inr, refl, arith}, specs.Prelude.{slice_index}}, dgt_decode.proofs.Framing.{closed, kept_room, frames-stray, frames-short, frames-bad, frames-head}}
use Rattle.dgt_decode.proofs.Framing.{frames-body}
use Rattle.dgt_decode.proofs.framer.Framer.take_byte.Goals as goal

pub returns-in-Hunting : goal.returns-in-Hunting
returns-in-Hunting c = rw (← c.self.view_is, c.reset.ensures)
    (frames-stray c.self.inside.kept c.args.byte (closed _ _ c.self.invariant c.in-Hunting.is)
    c.if-byte-ge-TOP_BIT.false)

pub invariant_of-self : goal.invariant_of-self
invariant_of-self c =
    let pushed = c.push.ensures.kept (kept_room _ _ c.self.invariant (inl c.in-Head.is)) in
    rw (c.in-Head.is, pushed)
    (frames-short _ _ c.args.byte c.self.invariant c.in-Head.is (omega arith)
    c.if-byte-ge-TOP_BIT.false).1

pub returns-in-Head : goal.returns-in-Head
returns-in-Head c =
    let pushed = c.push.ensures.kept (kept_room _ _ c.self.invariant (inl c.in-Head.is)) in
    rw (← c.self.view_is, pushed)
    (frames-short _ _ c.args.byte c.self.invariant c.in-Head.is (omega arith)
    c.if-byte-ge-TOP_BIT.false).0

pub returns-then-total-lt-HEADER : goal.returns-then-total-lt-HEADER
returns-then-total-lt-HEADER c =
    let second : c.from.result ≡ slice_index c.self.inside.kept 1 =
    rw (c.from.ensures, c.as_slice.ensures) refl in
    rw (← c.self.view_is, c.reset-then-total-lt-HEADER.ensures)
    (frames-bad _ _ c.args.byte c.self.invariant c.in-Head-2.is (omega arith)
    c.if-byte-ge-TOP_BIT.false (omega (arith, second, c.from-in-Head-2.ensures)))

pub invariant_of-self-in-Head-2 : goal.invariant_of-self-in-Head-2
invariant_of-self-in-Head-2 c =
    let pushed =
    c.push-in-Head-2.ensures.kept (kept_room _ _ c.self.invariant (inl c.in-Head-2.is)) in
    rw (c.after_byte-state.ensures, pushed)
    (frames-head _ _ c.args.byte c.from.result _ c.self.invariant c.in-Head-2.is (omega arith)
    c.if-byte-ge-TOP_BIT.false (rw (c.from.ensures, c.as_slice.ensures) refl)
    c.from-in-Head-2.ensures (omega arith)).1

pub returns-else-total-lt-HEADER : goal.returns-else-total-lt-HEADER
returns-else-total-lt-HEADER c =
    let pushed =
    c.push-in-Head-2.ensures.kept (kept_room _ _ c.self.invariant (inl c.in-Head-2.is)) in
    rw (← c.self.view_is, c.after_byte-state.ensures, pushed)
    (frames-head _ _ c.args.byte c.from.result _ c.self.invariant c.in-Head-2.is (omega arith)
    c.if-byte-ge-TOP_BIT.false (rw (c.from.ensures, c.as_slice.ensures) refl)
    c.from-in-Head-2.ensures (omega arith)).0

pub invariant_of-self-in-Body : goal.invariant_of-self-in-Body
invariant_of-self-in-Body c =
    let pushed = c.push-in-Body.ensures.kept
    (kept_room _ _ c.self.invariant (inr (c.in-Body.left, c.in-Body.is))) in
    rw (c.after_byte-state-in-Body.ensures, pushed)
    (frames-body _ _ c.args.byte c.in-Body.left c.self.invariant c.in-Body.is
    c.if-byte-ge-TOP_BIT.false).1

pub returns-in-Body : goal.returns-in-Body
returns-in-Body c =
    let pushed = c.push-in-Body.ensures.kept
    (kept_room _ _ c.self.invariant (inr (c.in-Body.left, c.in-Body.is))) in
    rw (← c.self.view_is, c.after_byte-state-in-Body.ensures, pushed)
    (frames-body _ _ c.args.byte c.in-Body.left c.self.invariant c.in-Body.is
    c.if-byte-ge-TOP_BIT.false).0
