use Rattle.{std.{proofs.Common.{◌≡◌, ◌∙◌, ℕ, List, arith, subst, sym}, specs.Prelude.{IsTrue, false}}, dgt_chess.{specs.{Attacks.{piece_at, piece_of}, San.{IsSan}}, proofs.SanLaws.{one_text}}}
use Rattle.dgt_chess.proofs.SanParsing.{san_own}
use Rattle.dgt_chess.proofs.state.State.is_written.Goals as goal

pub returns-then-not-is_on : goal.returns-then-not-is_on
returns-then-not-is_on c = (
  λ (yes : IsTrue false). let no : ⊥ = cc in absurd no,
  λ san.
      let own = san_own c.args.self.now c.args.text.now c.args.r c.args.a c.args.r.b
      c.args.r.promotion c.requires.read (omega arith) (omega arith) san in
      let on : piece_at c.pieces.result.now c.args.a ≡ piece_of c.turn.result c.args.r.man = cc in
      let holds = c.is_on.ensures.1 on in
      cc,
)

pub returns-in-Some : goal.returns-in-Some
returns-in-Some c =
    let bytes : c.as_bytes.result.now ≡ c.in-Some.written.bytes = c.as_bytes.ensures.value
    ∙ c.deref.ensures.0 in (
      λ yes. subst (λ (t : List ℕ). IsSan c.args.self.now c.args.a c.args.r.b c.args.r.promotion t)
          (sym bytes ∙ c.is_same.ensures.0 yes) c.in-Some.ensures,
      λ san. c.is_same.ensures.1
          (bytes ∙ one_text c.args.self.now c.args.a c.args.r.b c.args.r.promotion
          c.in-Some.written.bytes c.args.text.now (omega arith)
          (omega arith) c.in-Some.ensures san),
    )

pub returns-in-None : goal.returns-in-None
unfolding IsSan
returns-in-None c = (
  λ (yes : IsTrue false). let no : ⊥ = cc in absurd no,
  λ san. absurd (c.in-None.ensures (san.0, san.1)),
)
