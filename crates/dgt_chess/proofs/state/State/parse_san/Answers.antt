use Rattle.{std.proofs.Common.{◌≡◌, ℕ, ◌<◌, List, arith, subst}, dgt_chess.{specs.{San.{IsRefusal, IsSan}, Scanning.{read}}, proofs.SanParsing.{none_written}}}
use Rattle.dgt_chess.proofs.state.State.parse_san.Goals as goal

pub returns : goal.returns
returns c =
    let r = c.read-r.result in
    let bytes = c.as_bytes-text.ensures.value in
    let same : r ≡ read c.args.self.now.turn c.args.text.now = cc in
    let NoneHas : List ℕ → Type 0 = λ text. (k : ℕ) → k < 64
    → ¬ (IsSan c.args.self.now k r.b r.promotion text) in (
      none_written c.args.self.now c.args.text.now r same
          (subst NoneHas bytes (λ k small. c.loop-a.invariant k (omega arith))),
      subst (λ (text : List ℕ). IsRefusal text c.refusal.result) bytes c.refusal.ensures,
    )
