use Rattle.{std.proofs.Common.{◌≡◌, inr, refl, ap, None}, dgt_game.{specs.declared.recogniser.{Lost.{Lost}, Recogniser.{Recogniser}}, proofs.{Known.{goes_on}, Sure.{goes_on_sure}}}}
use Rattle.dgt_game.proofs.recogniser.Recogniser.go_on.Goals as goal

pub returns-clause-on : goal.returns-clause-on
returns-clause-on c =
    goes_on c.args.state c.args.is_turned c.new.result _ c.root.result c.new.ensures
    c.root.ensures.step c.push.ensures.items refl refl refl refl refl

pub returns-clause-right : goal.returns-clause-right
returns-clause-right c =
    let none : c.new.result.ended ≡ None = ap (λ (r : Recogniser). r.ended) c.new.ensures in
    let never : c.new.result.lost ≡ Lost.No = ap (λ (r : Recogniser). r.lost) c.new.ensures in
    (rw none tt, rw never tt, inr (rw never refl))

pub returns-clause-sure : goal.returns-clause-sure
returns-clause-sure c =
    goes_on_sure c.args.state c.args.is_turned c.new.result (record c.new.result {
      memory = record c.new.result.memory { line = c.push.new.self };
    }) c.root.result c.new.ensures c.root.ensures.step c.push.ensures.items refl refl refl refl refl
    refl
