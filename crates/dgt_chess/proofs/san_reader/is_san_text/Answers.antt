use Rattle.{std.{proofs.Common.{◌∙◌, false, inl, inr, sym}, specs.Prelude.{IsTrue}}, dgt_chess.proofs.SanParsing.{again_at}}
use Rattle.dgt_chess.proofs.san_reader.is_san_text.Goals as goal

pub returns-then-r : goal.returns-then-r
returns-then-r c = (
  λ yes. inr (
    c.read-r.result.style,
    c.read-r.result.b,
    sym (c.is_same.ensures.0 yes)
        ∙ c.as_bytes.ensures.value ∙ c.deref.ensures.0 ∙ c.castling_text.ensures,
  ),
  λ san. elim (again_at c.args.turn c.args.text.now c.read-r.result c.read-r.ensures.value san) [
    | inl h ↦ c.is_same.ensures.1 (c.as_bytes.ensures.value ∙ c.deref.ensures.0
        ∙ c.castling_text.ensures ∙ h.1)
    | inr h ↦ absurd (let e = h.0 in let no : ⊥ = cc in no)
  ],
)

pub returns-then-not-is_promotion : goal.returns-then-not-is_promotion
returns-then-not-is_promotion c = (
  λ (yes : IsTrue false). let no : ⊥ = cc in absurd no,
  λ san. elim (again_at c.args.turn c.args.text.now c.read-r.result c.read-r.ensures.value san) [
    | inl h ↦ absurd (let e = h.0 in let no : ⊥ = cc in no)
    | inr h ↦ absurd (let holds = c.is_promotion.ensures.1 h.1 in let no : ⊥ = cc in no)
  ],
)

pub returns : goal.returns
returns c = let r = c.read-r.result in (
  λ yes.
      let good = c.is_promotion.ensures.0 c.if-not-is_promotion.false in
      inl (
        r.style,
        r.man,
        r.takes,
        r.a,
        r.b,
        r.promotion,
        c.read-r.ensures.origin,
        c.read-r.ensures.small,
        good.0,
        good.1,
        sym (c.is_same-2.ensures.0 yes) ∙ c.as_bytes-2.ensures.value ∙ c.deref-2.ensures.0
            ∙ c.ordinary_text-written.ensures,
      ),
  λ san. elim (again_at c.args.turn c.args.text.now r c.read-r.ensures.value san) [
    | inl h ↦ absurd (let e = h.0 in let no : ⊥ = cc in no)
    | inr h ↦ c.is_same-2.ensures.1 (c.as_bytes-2.ensures.value ∙ c.deref-2.ensures.0
        ∙ c.ordinary_text-written.ensures ∙ h.2)
  ],
)
