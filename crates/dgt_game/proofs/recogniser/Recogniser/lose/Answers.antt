use Rattle.{std.{proofs.{Common.{rules, ◌≡◌, length, Some, refl, sym, ap}, lemmas.Option.{slice_get_read}}, specs.Prelude.{slice_get}}, dgt_game.specs.declared.recogniser.Lost.{Lost}}
use Rattle.dgt_game.{specs.Waiting.{Differs, is_lost}, proofs.Chains.{get_step}}
use Rattle.dgt_game.proofs.recogniser.Recogniser.lose.Goals as goal

pub returns-clause-keeps : goal.returns-clause-keeps
unfolding Differs
returns-clause-keeps c =
    let self = c.args.self.now in
    let none : self.lost ≡ Lost.No = search rules in
    let look = c.in-Some.ensures.lookup in
    let line = c.deref.result.now in
    let last = c.in-Some.last.now in
    let squares = c.differ-squares.result in
    let at : slice_get self.memory.line.items 0 ≡ Some last =
    rw c.deref.ensures.0 at (slice_get_read line (length line) 0 last refl look.3.0 look.1) in
    let from_last = rw c.position.ensures at c.differ-squares.ensures in
    let differs = rw c.from.ensures at from_last in (
      refl,
      refl,
      refl,
      ap (λ (l : Lost). is_lost l) (sym none),
      λ waits. (
        last.step,
        get_step self.memory.line.items 0 last at,
        (c.args.view.now, c.requires, differs),
      ),
      refl,
      refl,
      refl,
      refl,
      refl,
    )
