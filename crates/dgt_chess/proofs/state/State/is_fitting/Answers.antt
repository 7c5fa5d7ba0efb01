use Rattle.{std.{proofs.Common.{◌≡◌, ◌∙◌, List, ap, arith, sym}, specs.Prelude.{IsTrue, false}}, dgt_values.specs.{declared.pieces.Piece.{Piece}, Board.{pieces_of}}}
use Rattle.dgt_chess.{specs.{Attacks.{piece_at, piece_of}, San.{Fits, move_text}}, proofs.SanParsing.{fits_as, fits_own}}
use Rattle.dgt_chess.proofs.state.State.is_fitting.Goals as goal

pub returns-then-not-is_on : goal.returns-then-not-is_on
returns-then-not-is_on c = (
  λ (yes : IsTrue false). let no : ⊥ = cc in absurd no,
  λ fits.
      let own = fits_own c.args.self.now c.args.text.now c.args.r c.args.a c.args.r.b
      c.args.r.promotion c.requires.read (omega arith) (omega arith) fits in
      let on : piece_at c.pieces-pieces.result.now c.args.a ≡ piece_of c.turn.result c.args.r.man =
      cc in
      let holds = c.is_on.ensures.1 on in
      cc,
)

pub returns-then-not-is_same : goal.returns-then-not-is_same
returns-then-not-is_same c = (
  λ (yes : IsTrue false). let no : ⊥ = cc in absurd no,
  λ fits.
      let r = c.args.r in
      let same = fits_as c.args.self.now c.args.text.now r c.args.a r.b r.promotion c.requires.read
      (omega arith) (omega arith) fits in
      let holds = c.is_same.ensures.1 (c.as_bytes.ensures.value ∙ c.deref.ensures.0
      ∙ c.move_text-written.ensures
      ∙ ap (λ (q : List Piece). move_text r.style r.man q c.args.a r.b r.promotion)
      (c.pieces-pieces.ensures.pieces ∙ ap pieces_of c.position.ensures) ∙ same.written) in
      cc,
)

pub returns : goal.returns
unfolding Fits
returns c = let r = c.args.r in (
  λ yes. (
    r.man,
    c.is_legal_by.ensures.0 yes,
    (
      r.style,
      sym (c.is_same.ensures.0 c.if-not-is_same.false)
          ∙ c.as_bytes.ensures.value ∙ c.deref.ensures.0 ∙ c.move_text-written.ensures
          ∙ ap (λ (q : List Piece). move_text r.style r.man q c.args.a r.b r.promotion)
          (c.pieces-pieces.ensures.pieces ∙ ap pieces_of c.position.ensures),
    ),
  ),
  λ fits. c.is_legal_by.ensures.1
      (fits_as c.args.self.now c.args.text.now r c.args.a r.b r.promotion c.requires.read
      (omega arith) (omega arith) fits).legal,
)
