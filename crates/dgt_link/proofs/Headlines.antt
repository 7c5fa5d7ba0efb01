-- Acts that were all done: their effect on the board, and their requests.
use Rattle.std.proofs.{lemmas.{Grind.{common_steps}, Bool.{false≢true}}, Common.{◌≡◌, ◌≢◌, ◌⊎◌, refl, sym, ◌∙◌, ◌≤◌, List, [], ◌∷◌, ◌++◌, length, map, true, arith, false, rules}}
use Rattle.{std.{proofs.lemmas.List.Elements.{filter_map-append, Contains-append_left, Contains-push}, specs.Prelude.{◌↔◌, Contains, IsTrue, filter_map}}, dgt_link.proofs.Lists.{nothing_contained}}
use Rattle.dgt_link.{proofs.{Promises.{last_mode-append}, Taking.{effects_same_game}}, specs.{Act.{act_content}, Faults.{AreCalm, FaultyContent, sends, stops}, Headline.{AskForPicture, Asking}}}
use Rattle.dgt_link.specs.{Headline.{asking_after, asking_with, nothing_asked, squares_after}, Promise.{IsAskedBy, commands_after, last_mode, run_requests}, Step.{Becomes, Runs, done_count}}
use Rattle.{dgt_link.specs.{View.{WorldView}, declared.acts.{Act.{Act}, Outcome.{Outcome}}}, dgt_values.specs.declared.pieces.Piece.{Piece}, dgt_command.specs.Content.{CommandContent}}
use Rattle.{dgt_command.specs.{Content.{command_content}, declared.command.Command.{Command}}, dgt_board.specs.{State.{command_mode, updates}, declared.modes.Mode.{Mode}}}
use Rattle.dgt_command.specs.declared.command.Command.TheVariants as command
use Rattle.dgt_link.specs.declared.acts.Act.TheVariants as act

-- each act was done
abbrev pub all_done : List Act → List Outcome
all_done [] = []
all_done (act ∷ acts) = Outcome.Done ∷ all_done acts

-- ---- what is on the board

one_act : (one : Act) (world after : WorldView) → Becomes (act_content one) world after
    → after.board.state.squares ≡ squares_after world.board.state.squares (one ∷ [])
one_act one world after delivers = search (rules, effects_same_game)

few_done : (acts : List Act) (world after : WorldView) (answers : List Outcome)
    → Runs (map act_content acts) world answers after → done_count answers ≤ length acts
few_done [] world after [] same = omega arith
few_done (one ∷ acts) world after (Outcome.Done ∷ answers) (between, step, runs) =
    omega (arith, few_done acts between after answers runs)
few_done (one ∷ acts) world after (_ ∷ answers) (between, step, runs) =
    omega (arith, few_done acts between after answers runs)
few_done _ world after _ none = absurd none

-- acts that were all done
pub record RanAll (acts : List Act) (world after : WorldView) (answers : List Outcome) : Type
    0 where
  pub all : answers ≡ all_done acts
  pub squares : after.board.state.squares ≡ squares_after world.board.state.squares acts

pub ran_all : (acts : List Act) (world after : WorldView) (answers : List Outcome)
    → Runs (map act_content acts) world answers after → done_count answers ≡ length acts
    → RanAll acts world after answers
ran_all [] world after [] same count = rw same (record { all = refl; squares = refl })
ran_all (one ∷ acts) world after (Outcome.Done ∷ answers) (between, step, runs) count =
    let rest = ran_all acts between after answers runs (omega (arith, count)) in
    search (rules, one_act)
ran_all (one ∷ acts) world after (_ ∷ answers) (between, step, runs) count =
    absurd (omega (arith, few_done acts between after answers runs, count))
ran_all _ world after _ none count = absurd none

-- ---- their requests

-- these commands request this
record IsAskedFor (commands : List CommandContent) (asking : Asking) : Type 0 where
  dump : IsTrue asking.dump → Contains commands CommandContent.Dump
  mode : updates (last_mode Mode.Idle (filter_map command_mode commands)) ≡ asking.updates

last-push : (commands : List CommandContent) (said : CommandContent)
    → last_mode Mode.Idle (filter_map command_mode (commands ++ said ∷ [])) ≡ last_mode
    (last_mode Mode.Idle (filter_map command_mode commands)) (filter_map command_mode (said ∷ []))
last-push commands said = search (rules, filter_map-append, last_mode-append)

dump_more : (commands : List CommandContent) (asking : Asking) (one : Command)
    → IsAskedFor commands asking → IsTrue (asking_with asking one).dump
    → Contains (commands ++ command_content one ∷ []) CommandContent.Dump
dump_more commands asking command.Dump is h = Contains-push commands CommandContent.Dump
dump_more commands asking one is h =
    Contains-append_left commands (command_content one ∷ []) CommandContent.Dump (is.dump h)

mode_more : (commands : List CommandContent) (asking : Asking) (one : Command)
    → IsAskedFor commands asking
    → updates
    (last_mode (last_mode Mode.Idle (filter_map command_mode commands))
    (filter_map command_mode (command_content one ∷ []))) ≡ (asking_with asking one).updates
mode_more commands asking one is = search rules

command_more : (commands : List CommandContent) (asking : Asking) (one : Command)
    → IsAskedFor commands asking
    → IsAskedFor (commands ++ command_content one ∷ []) (asking_with asking one)
command_more commands asking one is = search (rules, dump_more, last-push, mode_more)

none_asked_for : IsAskedFor [] nothing_asked
none_asked_for = record { dump = λ h. absurd (false≢true h); mode = refl }

-- starting over requests both
anew_more : (commands : List CommandContent)
    → IsAskedFor ((commands ++ CommandContent.UpdateBoard ∷ []) ++ CommandContent.Dump ∷ [])
    (record { dump = true; updates = true })
anew_more commands = record {
  dump = λ h. Contains-push (commands ++ CommandContent.UpdateBoard ∷ []) CommandContent.Dump;
  mode = search (rules, last-push);
}

acts_more : (commands : List CommandContent) (asking : Asking) (acts : List Act)
    → IsAskedFor commands asking
    → IsAskedFor (commands_after commands (run_requests (map act_content acts) (all_done acts)))
    (asking_after asking acts)
acts_more commands asking [] is = is
acts_more commands asking (act.Host said ∷ acts) is =
    acts_more (commands ++ command_content said ∷ []) (asking_with asking said) acts
    (command_more commands asking said is)
acts_more commands asking (act.Break ∷ acts) is = acts_more [] nothing_asked acts none_asked_for
acts_more commands asking (act.HostBreak ∷ acts) is =
    acts_more ((commands ++ CommandContent.UpdateBoard ∷ []) ++ CommandContent.Dump ∷ [])
    (record { dump = true; updates = true }) acts (anew_more commands)
acts_more commands asking (_ ∷ acts) is = acts_more commands asking acts is

-- acts that request the picture do so once all are done
pub asked_if_done : (acts : List Act) → AskForPicture acts
    → IsAskedBy (map act_content acts) (all_done acts)
asked_if_done acts ask =
    let is = acts_more [] nothing_asked acts none_asked_for in
    record { dump = is.dump ask.0; mode = is.mode ∙ ask.1 }

-- ---- and only such

earlier_dump : (commands : List CommandContent) (said : CommandContent) → said ≢ CommandContent.Dump
    → Contains (commands ++ said ∷ []) CommandContent.Dump → Contains commands CommandContent.Dump
earlier_dump commands said other has = grind (arith, common_steps)

dump_back : (commands : List CommandContent) (asking : Asking) (one : Command)
    → (Contains commands CommandContent.Dump → IsTrue asking.dump)
    → Contains (commands ++ command_content one ∷ []) CommandContent.Dump
    → IsTrue (asking_with asking one).dump
dump_back commands asking command.Dump back has = refl
dump_back commands asking command.Reset back has =
    back (earlier_dump commands CommandContent.Reset (λ e. cc) has)
dump_back commands asking command.Clock back has =
    back (earlier_dump commands CommandContent.Clock (λ e. cc) has)
dump_back commands asking command.Update back has =
    back (earlier_dump commands CommandContent.Update (λ e. cc) has)
dump_back commands asking command.UpdateBoard back has =
    back (earlier_dump commands CommandContent.UpdateBoard (λ e. cc) has)
dump_back commands asking command.UpdateNice back has =
    back (earlier_dump commands CommandContent.UpdateNice (λ e. cc) has)
dump_back commands asking command.Serial back has =
    back (earlier_dump commands CommandContent.Serial (λ e. cc) has)
dump_back commands asking command.Trademark back has =
    back (earlier_dump commands CommandContent.Trademark (λ e. cc) has)
dump_back commands asking command.Battery back has =
    back (earlier_dump commands CommandContent.Battery (λ e. cc) has)
dump_back commands asking command.Version back has =
    back (earlier_dump commands CommandContent.Version (λ e. cc) has)
dump_back commands asking command.LongSerial back has =
    back (earlier_dump commands CommandContent.LongSerial (λ e. cc) has)
dump_back commands asking (command.ClockMessage message) back has =
    back (earlier_dump commands (command_content (command.ClockMessage message)) (λ e. cc) has)
dump_back commands asking (command.Leds leds) back has =
    back (earlier_dump commands (command_content (command.Leds leds)) (λ e. cc) has)

acts_back : (commands : List CommandContent) (asking : Asking) (acts : List Act)
    → (Contains commands CommandContent.Dump → IsTrue asking.dump)
    → Contains (commands_after commands (run_requests (map act_content acts) (all_done acts)))
    CommandContent.Dump → IsTrue (asking_after asking acts).dump
acts_back commands asking [] back has = back has
acts_back commands asking (act.Host said ∷ acts) back has =
    acts_back (commands ++ command_content said ∷ []) (asking_with asking said) acts
    (dump_back commands asking said back) has
acts_back commands asking (act.Break ∷ acts) back has =
    acts_back [] nothing_asked acts (λ h. absurd (nothing_contained CommandContent.Dump h)) has
acts_back commands asking (act.HostBreak ∷ acts) back has =
    acts_back ((commands ++ CommandContent.UpdateBoard ∷ []) ++ CommandContent.Dump ∷ [])
    (record { dump = true; updates = true }) acts (λ h. refl) has
acts_back commands asking (_ ∷ acts) back has = acts_back commands asking acts back has

asked_back : (acts : List Act) → IsAskedBy (map act_content acts) (all_done acts)
    → AskForPicture acts
asked_back acts asked = (
  acts_back [] nothing_asked acts (λ h. absurd (nothing_contained CommandContent.Dump h))
      asked.dump,
  sym (acts_more [] nothing_asked acts none_asked_for).mode ∙ asked.mode,
)

pub asking_is_asked : (acts : List Act)
    → AskForPicture acts ↔ IsAskedBy (map act_content acts) (map (λ one. Outcome.Done) acts)
asking_is_asked acts = search (rules, asked_if_done, asked_back)

-- ---- acts that request the picture, and calm ones after them

abbrev plain_of : Act → FaultyContent
plain_of one = FaultyContent.Plain (act_content one)

abbrev AsksForBoth : Asking → Type 0
AsksForBoth asking = IsTrue asking.dump × IsTrue asking.updates

both_with : (asking : Asking) (one : Command) → stops (sends (command_content one)) ≡ false
    → AsksForBoth asking → AsksForBoth (asking_with asking one)
both_with asking one calm both = search rules

still_both : (asking : Asking) (acts : List Act) → AreCalm (map plain_of acts) → AsksForBoth asking
    → AsksForBoth (asking_after asking acts)
still_both asking [] calm both = both
still_both asking (act.Host said ∷ acts) calm both =
    still_both (asking_with asking said) acts calm.1 (both_with asking said calm.0.1 both)
still_both asking (act.Break ∷ acts) calm both = absurd (false≢true (sym calm.0.1))
still_both asking (act.HostBreak ∷ acts) calm both =
    still_both (record { dump = true; updates = true }) acts calm.1 (refl, refl)
still_both asking (_ ∷ acts) calm both = still_both asking acts calm.1 both

both_after_any : (more : List Act) → ((asking : Asking) → AsksForBoth (asking_after asking more))
    → (asking : Asking) → (acts : List Act) → AsksForBoth (asking_after asking (acts ++ more))
both_after_any more always asking [] = always asking
both_after_any more always asking (act.Host said ∷ acts) =
    both_after_any more always (asking_with asking said) acts
both_after_any more always asking (act.Break ∷ acts) = both_after_any more always nothing_asked acts
both_after_any more always asking (act.HostBreak ∷ acts) =
    both_after_any more always (record { dump = true; updates = true }) acts
both_after_any more always asking (_ ∷ acts) = both_after_any more always asking acts

pub asks_for_picture : (acts later : List Act) (mode : Command)
    → (mode ≡ command.Update) ⊎ ((mode ≡ command.UpdateBoard) ⊎ (mode ≡ command.UpdateNice))
    → AreCalm (map plain_of later)
    → AskForPicture (acts ++ act.Host mode ∷ act.Host command.Dump ∷ later)
asks_for_picture acts later mode asks calm = search (rules, both_after_any, still_both)
