use Rattle.{std.{proofs.Common.{◌≡◌, ℕ, List, subst}, specs.Prelude.{Option, Some, None}}, dgt_chess.specs.{San.{FitsFrom, IsRefusal}, Scanning.{read}}}
use Rattle.dgt_chess.proofs.SanParsing.{none_fits, only_fits, refused}
use Rattle.dgt_chess.proofs.state.State.parse_san_leniently.Goals as goal

pub returns-in-Ok-Some : goal.returns-in-Ok-Some
returns-in-Ok-Some c =
    let r = c.read-r.result in
    let s = c.args.self.now in
    let bytes = c.as_bytes-text.ensures.value in
    let same : r ≡ read c.args.self.now.turn c.args.text.now = cc in
    let P : List ℕ → Option ℕ → Type 0 = λ text found. FitsFrom s r.b r.promotion text 64 found in
    let found = subst (λ (f : Option ℕ). P c.as_bytes-text.result.now f) c.in-Ok-Some.field-0-is
    c.in-Ok-Some.ensures in
    let here = subst (λ (t : List ℕ). P t (Some c.in-Ok-Some.a)) bytes found in
    only_fits s c.args.text.now r c.in-Ok-Some.a _ _ same here
    (c.from_small.ensures.small here.0)
    (c.from_small-in-Ok-Some.ensures.small c.read-r.ensures.small)

pub returns-in-Ok-None : goal.returns-in-Ok-None
returns-in-Ok-None c =
    let r = c.read-r.result in
    let s = c.args.self.now in
    let bytes = c.as_bytes-text.ensures.value in
    let same : r ≡ read c.args.self.now.turn c.args.text.now = cc in
    let P : List ℕ → Option ℕ → Type 0 = λ text found. FitsFrom s r.b r.promotion text 64 found in
    let found = subst (λ (f : Option ℕ). P c.as_bytes-text.result.now f) c.in-Ok-None.field-0-is
    c.in-Ok-None.ensures in
    let here = subst (λ (t : List ℕ). P t None) bytes found in
    refused s c.args.text.now c.refusal.result (none_fits s c.args.text.now r same here)
    (subst (λ (t : List ℕ). IsRefusal t c.refusal.result) bytes c.refusal.ensures)
