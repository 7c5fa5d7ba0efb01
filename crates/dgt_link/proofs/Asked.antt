-- The requests of acts, which continue to count.
use Rattle.std.proofs.{Common.{◌≡◌, refl, sym, List, [], ◌∷◌, ◌++◌, false, length, map, arith, rules}, lemmas.{Bool.{false≢true}, List.Elements.{Contains-append_left, Contains-push}}}
use Rattle.{std.specs.Prelude.{Contains, IsTrue, filter_map, unwrap_or}, dgt_command.specs.Content.{CommandContent}, dgt_board.specs.{State.{command_mode, updates}, declared.modes.Mode.{Mode}}}
use Rattle.dgt_link.specs.{Act.{ActContent}, Faults.{AreCalm, FaultyContent, stops}, Promise.{IsAsked, IsAskedBy, act_requests, commands_after, last_mode, run_requests}}
use Rattle.dgt_link.{specs.declared.acts.Outcome.{Outcome}, proofs.{AfterMoves.{commands_after-append}, Counts.{still_asked}, Promises.{asked-mode}}}

act_still_asked : (commands : List CommandContent) (act : ActContent) (answer : Outcome)
    → stops (FaultyContent.Plain act) ≡ false → IsAsked commands
    → IsAsked (commands_after commands (act_requests answer act))
act_still_asked commands (ActContent.Host command) Outcome.Done calm is =
    still_asked commands command calm is
act_still_asked commands ActContent.Break answer calm is = absurd (false≢true (sym calm))
act_still_asked commands act Outcome.Done calm is = search (rules, still_asked)
act_still_asked commands _ _ calm is = is

acts_still_asked : (commands : List CommandContent) (acts : List ActContent)
    (answers : List Outcome) → AreCalm (map FaultyContent.Plain acts) → IsAsked commands
    → IsAsked (commands_after commands (run_requests acts answers))
acts_still_asked commands [] answers calm is = is
acts_still_asked commands (act ∷ acts) [] calm is = is
acts_still_asked commands (act ∷ acts) (answer ∷ answers) calm is =
    rw (commands_after-append commands (act_requests answer act) (run_requests acts answers))
    (acts_still_asked (commands_after commands (act_requests answer act)) acts answers calm.1
    (act_still_asked commands act answer calm.0.1 is))

-- the requests of later acts, whatever the first ones requested
after_any : (more : List ActContent) (others : List Outcome) → ((commands : List CommandContent)
    → IsAsked (commands_after commands (run_requests more others)))
    → (commands : List CommandContent) (acts : List ActContent) (answers : List Outcome)
    → length answers ≡ length acts
    → IsAsked (commands_after commands (run_requests (acts ++ more) (answers ++ others)))
after_any more others always commands [] [] same = always commands
after_any more others always commands (act ∷ acts) (answer ∷ answers) same =
    rw (commands_after-append commands (act_requests answer act)
    (run_requests (acts ++ more) (answers ++ others)))
    (after_any more others always (commands_after commands (act_requests answer act)) acts answers
    (omega (arith, same)))
after_any more others always commands [] (answer ∷ answers) same = absurd (omega (arith, same))
after_any more others always commands (act ∷ acts) [] same = absurd (omega (arith, same))

abbrev IsUpdating : CommandContent → Type 0
IsUpdating =
    Contains (CommandContent.Update ∷ CommandContent.UpdateBoard ∷ CommandContent.UpdateNice ∷ [])

sets_updates : (before : Mode) (mode : CommandContent) → IsUpdating mode
    → IsTrue (updates (unwrap_or (command_mode mode) before))
sets_updates before mode = search rules

mode_then_dump : (commands : List CommandContent) (mode : CommandContent) → IsUpdating mode
    → IsAsked ((commands ++ mode ∷ []) ++ CommandContent.Dump ∷ [])
mode_then_dump commands mode asks =
    let before : Mode = last_mode Mode.Idle (filter_map command_mode commands) in
    record {
      dump = Contains-push (commands ++ mode ∷ []) CommandContent.Dump;
      mode =
          rw (← asked-mode (commands ++ mode ∷ []) CommandContent.Dump Mode.Idle
          (unwrap_or (command_mode mode) before) (asked-mode commands mode Mode.Idle before refl))
          (sets_updates before mode asks);
    }

dump_then_mode : (commands : List CommandContent) (mode : CommandContent) → IsUpdating mode
    → IsAsked ((commands ++ CommandContent.Dump ∷ []) ++ mode ∷ [])
dump_then_mode commands mode asks =
    let before : Mode =
    last_mode Mode.Idle (filter_map command_mode (commands ++ CommandContent.Dump ∷ [])) in
    record {
      dump = Contains-append_left (commands ++ CommandContent.Dump ∷ []) (mode ∷ [])
          CommandContent.Dump (Contains-push commands CommandContent.Dump);
      mode = rw (← asked-mode (commands ++ CommandContent.Dump ∷ []) mode Mode.Idle before refl)
          (sets_updates before mode asks);
    }

module _ (acts later : List ActContent) (mode : CommandContent) (answers others : List Outcome)
    (same : length answers ≡ length acts) (asks : IsUpdating mode)
    (calm : AreCalm (map FaultyContent.Plain later)) where
  pub asked_mode_first : IsAskedBy
      (acts ++ ActContent.Host mode ∷ ActContent.Host CommandContent.Dump ∷ later)
      (answers ++ Outcome.Done ∷ Outcome.Done ∷ others)
  asked_mode_first = after_any (ActContent.Host mode ∷ ActContent.Host CommandContent.Dump ∷ later)
      (Outcome.Done ∷ Outcome.Done ∷ others)
      (λ commands.
      acts_still_asked ((commands ++ mode ∷ []) ++ CommandContent.Dump ∷ []) later others calm
      (mode_then_dump commands mode asks)) [] acts answers same

  pub asked_dump_first : IsAskedBy
      (acts ++ ActContent.Host CommandContent.Dump ∷ ActContent.Host mode ∷ later)
      (answers ++ Outcome.Done ∷ Outcome.Done ∷ others)
  asked_dump_first = after_any (ActContent.Host CommandContent.Dump ∷ ActContent.Host mode ∷ later)
      (Outcome.Done ∷ Outcome.Done ∷ others)
      (λ commands.
      acts_still_asked ((commands ++ CommandContent.Dump ∷ []) ++ mode ∷ []) later others calm
      (dump_then_mode commands mode asks)) [] acts answers same
