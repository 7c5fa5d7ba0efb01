use Rattle.{std.proofs.Common.{◌≡◌, ◌≤◌, ◌<◌, ℕ, ◌∙◌, sym, ap, arith, refl, subst, List, length, take}, dgt_chess.{specs.Fen.{rights_of, rights_text}, proofs.FieldBytes.{best_more, wrong_rights}}}
use Rattle.dgt_chess.proofs.fields.parse_rights.Goals as goal

pub loop-code-init : goal.loop-code-init
loop-code-init c = record {
  within = omega arith;
  rights = rights_of 0;
  best = refl;
  others = λ k lt _. absurd (omega arith);
}

pub loop-code-preserved : goal.loop-code-preserved
loop-code-preserved c =
    let right : List ℕ = c.as_bytes.result.now in
    let field : List ℕ = c.args.text.now in
    let is : right ≡ rights_text (rights_of c.loop-code.code) =
    c.as_bytes.ensures.value ∙ c.as_str-in-loop-code.ensures.value ∙ c.text-right.ensures
    ∙ ap rights_text c.of_code-rights.ensures in
    let same_field : c.as_bytes-in-loop-code.result.now ≡ field =
    c.as_bytes-in-loop-code.ensures.value in
    let Within : List ℕ → Type 0 = λ f. c.common-same.result ≤ length f in
    let Same : List ℕ → Type 0 =
    λ f. take c.common-same.result right ≡ take c.common-same.result f in
    let Most : List ℕ → Type 0 = λ f. (n : ℕ) → c.common-same.result < n → take n right ≡ take n f
    → right ≡ f in
    best_more field c.loop-code.code c.loop-code.most c.larger-most.result c.common-same.result
    right
    c.loop-code.invariant is
    (λ e. let holds = c.if-is_equal.ensures.1
    (c.as_str.ensures.value ∙ sym c.as_str-in-loop-code.ensures.value
    ∙ sym c.as_bytes.ensures.value ∙ e) in let no : ⊥ = cc in no)
    (subst Within same_field c.common-same.ensures.second)
    (subst Same same_field c.common-same.ensures.same)
    (subst Most same_field c.common-same.ensures.most)
    c.larger-most.ensures.first c.larger-most.ensures.second c.larger-most.ensures.one

pub returns : goal.returns
returns c = wrong_rights c.args.text.now c.loop-code.code c.loop-code.most
    (omega arith) c.loop-code.invariant
