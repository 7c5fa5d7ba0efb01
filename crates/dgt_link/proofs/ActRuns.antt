-- How far a run of acts has come.
use Rattle.std.{proofs.{Common.{rules, ◌≡◌, refl, sym, ap, ◌∙◌, ℕ, ◌+◌, ◌<◌, List, [], ◌∷◌, ◌++◌, length, take, get_or, map, arith}, lemmas.List.{map-append, take_more}}, specs.List.{AllByRecursion}}
use Rattle.dgt_link.specs.{Step.{RunsBy, done_count}, View.{WorldView}, declared.acts.Outcome.{Outcome}}

done_count-push : (outcomes : List Outcome) (outcome : Outcome)
    → done_count (outcomes ++ outcome ∷ []) ≡ done_count outcomes + done_count (outcome ∷ [])
done_count-push [] outcome = omega arith
done_count-push (Outcome.Done ∷ outcomes) outcome = omega (arith, done_count-push outcomes outcome)
done_count-push (_ ∷ outcomes) outcome = done_count-push outcomes outcome

module _ {A : Type 0} (Does : A → WorldView → Outcome → WorldView → Type 0) where
  pub run-push : (acts : List A) (outcomes : List Outcome) (act : A) (outcome : Outcome)
      (world between after : WorldView)
      → RunsBy Does acts world outcomes between → Does act between outcome after
      → RunsBy Does (acts ++ act ∷ []) world (outcomes ++ outcome ∷ []) after
  run-push [] [] act outcome world between after same step = (after, rw same at step, refl)
  run-push (first ∷ acts) (came ∷ outcomes) act outcome world between after (next, step, rest)
      last = (next, step, run-push acts outcomes act outcome next between after rest last)
  run-push _ _ act outcome world between after none step = absurd none

  -- a property that each of these acts keeps is kept by all of them
  pub run_keeps : (P : A → Type 0) (Q : WorldView → Type 0)
      → ((act : A) (world after : WorldView) (answer : Outcome) → P act → Q world
      → Does act world answer after → Q after)
      → (acts : List A) (world after : WorldView) (answers : List Outcome) → AllByRecursion P acts
      → Q world → RunsBy Does acts world answers after → Q after
  run_keeps P Q kept [] world after [] all q same = rw same q
  run_keeps P Q kept (act ∷ acts) world after (answer ∷ answers) all q (between, step, runs) =
      run_keeps P Q kept acts between after answers all.1
      (kept act world between answer all.0 q step) runs
  run_keeps P Q kept _ world after _ all q none = absurd none

  module _ {B : Type 0} (content : B → A) where
    -- these acts were run, and this many of them were done
    abbrev pub HasRun : WorldView → WorldView → List B → ℕ → Type 0
    HasRun old new acts done =
        (outcomes : List Outcome) × (done ≡ done_count outcomes)
        × RunsBy Does (map content acts) old outcomes new

    one_act_more : (acts : List B) (index : ℕ) (act : B) → index < length acts
        → act ≡ get_or acts index act → take (index + 1) acts ≡ take index acts ++ act ∷ []
    one_act_more acts index act within e =
        take_more acts index act within ∙ ap (λ (last : B). take index acts ++ last ∷ []) (sym e)

    pub has_run_more : (old now new : WorldView) (acts : List B) (done more index : ℕ) (act : B)
        (outcome : Outcome) → index < length acts → act ≡ get_or acts index act
        → HasRun old now (take index acts) done → Does (content act) now outcome new
        → more ≡ done_count (outcome ∷ []) → HasRun old new (take (index + 1) acts) (done + more)
    has_run_more old now new acts done more index act outcome within e (outcomes, counted, runs)
        step one = (
          outcomes ++ outcome ∷ [],
          omega (arith, done_count-push outcomes outcome, counted, one),
          rw (one_act_more acts index act within e, map-append content (take index acts) (act ∷ []))
              (search (rules, run-push)),
        )
