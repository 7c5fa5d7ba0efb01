-- What follows from the relations of laws, and what is enough for them.
use Rattle.std.{proofs.{Common.{rules, ◌≡◌, inr, refl, ap, ◌∙◌, ℕ, ◌<◌, List, [], ◌∷◌, ◌++◌, length, arith, None, Option}, lemmas.Grind.{common_steps}}, specs.List.{AllByRecursion}}
use Rattle.{std.specs.Prelude.{IsSome, replicate}, dgt_message.specs.Content.{Content}, dgt_board.specs.{Sending.{next_message}, declared.modes.Mode.{Mode}}, dgt_link.specs.Act.{ActContent}}
use Rattle.dgt_link.specs.{Act.{act_content}, Headline.{squares_after}, Healing.{IsRestedWorld}, History.{RunsThrough}, Machine.{IsSending, MachineState, Move, after_moves}, Promise.{IsPromised}}
use Rattle.dgt_link.specs.{Promise.{IsRestarted, coming_mode}, Settling.{IsNext, IsSettlingMove}, Stands.{AreMovesOfAct}, Step.{Runs}, View.{WorldView}, declared.acts.{Act.{Act}, Outcome.{Outcome}}}
use Rattle.dgt_link.proofs.{Lists.{all_replicate}, Promises.{anew-mode}, SettlingMoves.{settling_squares}}

-- ---- the worlds of a run

pub passed : (acts : List ActContent) (world after : WorldView) (answers : List Outcome)
    → Runs acts world answers after
    → (earlier : List WorldView) × RunsThrough acts world answers (earlier ++ after ∷ [])
passed [] world after [] same = ([], rw same refl)
passed (act ∷ acts) world after (answer ∷ answers) (between, step, runs) =
    let rest = passed acts between after answers runs in
    (world ∷ rest.0, (between, rest.0 ++ after ∷ [], step, rest.1, refl))
passed _ world after _ none = absurd none

pub passing_runs : (acts : List ActContent) (world : WorldView) (answers : List Outcome)
    (worlds : List WorldView) → RunsThrough acts world answers worlds
    → (earlier : List WorldView) × (after : WorldView) × (worlds ≡ earlier ++ after ∷ [])
    × Runs acts world answers after
passing_runs [] world [] worlds same = ([], world, same, refl)
passing_runs (act ∷ acts) world (answer ∷ answers) worlds (between, later, step, goes, all) =
    let rest = passing_runs acts between answers later goes in (
      world ∷ rest.0,
      rest.1,
      all ∙ ap (λ (others : List WorldView). world ∷ others) rest.2,
      (between, step, rest.3),
    )
passing_runs _ world _ worlds none = absurd none

-- ---- the next step

pub one_is_next : (world : WorldView) (act other : ActContent) → IsNext world act
    → IsNext world other → act ≡ other
one_is_next world act other x y = search rules

is_empty : (bytes : List ℕ) → (0 < length bytes → ⊥) → bytes ≡ []
is_empty bytes none = grind (arith, common_steps)

no_message : (message : Option Content) → (IsSome message → ⊥) → message ≡ None
no_message message none = search rules

pub rests_without_next : (world : WorldView) → ((act : ActContent) → IsNext world act → ⊥)
    → IsRestedWorld world
rests_without_next world none =
    let up = is_empty world.up.bytes
    (λ some. none (ActContent.ToHost (length world.up.bytes)) (some, refl)) in
    let sent =
    no_message (next_message world.board.state) (λ some. none ActContent.BoardSend (up, some)) in
    let down = is_empty world.down.bytes
    (λ some. none (ActContent.ToBoard (length world.down.bytes)) (up, sent, some, refl)) in
    (up, down, sent)

pub next_until_rest : (world : WorldView) (act : ActContent) → IsNext world act
    → IsRestedWorld world → ⊥
next_until_rest world act x rested = search rules

-- ---- a restart

restarted-mode : (x : MachineState) → IsRestarted x → coming_mode x ≡ Mode.UpdateBoard
restarted-mode x anew = search (rules, anew-mode)

pub restarted_is_promised : (x : MachineState) → IsRestarted x → IsPromised x
restarted_is_promised x anew = record {
  coming = inr (grind (arith, common_steps));
  mode = rw (restarted-mode x anew) refl;
}

-- ---- the moves of acts

takes_settle : (count : ℕ) → AllByRecursion IsSettlingMove (replicate count Move.Take)
takes_settle count = all_replicate IsSettlingMove count Move.Take tt

hears_settle : (count : ℕ) → AllByRecursion IsSettlingMove (replicate count Move.Hear)
hears_settle count = all_replicate IsSettlingMove count Move.Hear tt

pub moves-squares : (one : Act) (moves : List Move) (x : MachineState)
    → AreMovesOfAct (act_content one) moves
    → (after_moves x moves).board.squares ≡ squares_after x.board.squares (one ∷ [])
moves-squares one moves x same = search (rules, settling_squares, takes_settle, hears_settle)
