-- An act has one outcome and leads to one world, and a world stands for one state.
use Rattle.std.proofs.{Common.{◌≡◌, refl, sym, ap, ◌∙◌, ◌⊎◌, inl, inr, ℕ, ◌<◌, List, [], ◌∷◌, ◌++◌, length, take, IsTrue, arith, rules}, lemmas.{List.{append-nil}}}
use Rattle.{std.{specs.List.{AllByRecursion, flat_map}}, dgt_message.specs.{Content.{Content, IsMessage}, Encoding.{Encodes, encoding}}}
use Rattle.{dgt_command.specs.Laws.{EachDividesOnce}, dgt_board.specs.View.{BoardView, HasTaken}, dgt_link.specs.{Act.{ActContent}, Faults.{FaultyContent, FaultyStep}, Machine.{MachineState}}}
use Rattle.dgt_link.{specs.{Stands.{StandsFor}, Step.{Delivers, IfDone, is_full, Becomes, Runs, Step}, View.{WorldView}, declared.acts.Outcome.{Outcome}}, proofs.Lists.{prefixes}}

order : (a b : ℕ) → (a < b) ⊎ ((b < a) ⊎ (a ≡ b))
order a b = search rules

-- ---- one outcome and one world

-- a board has taken bytes in one way
module _
    (one_taking : (before after other : BoardView) (bytes : List ℕ) → HasTaken before bytes after
    → HasTaken before bytes other → after ≡ other) where
  -- a board that is full after some bytes took no more of them
  no_further : (count : ℕ) (world one other : WorldView) (first : Delivers count world one)
      (second : Delivers count world other) → first.moved < second.moved → ⊥
  no_further count world one other first second less = go first.ended
    where
      go : (first.moved ≡ count)
          ⊎ ((first.moved ≡ length world.down.bytes) ⊎ IsTrue (is_full first.board.state)) → ⊥
      go (inl all) = omega (arith, all, less, second.within.0)
      go (inr (inl all)) = omega (arith, all, less, second.within.1)
      go (inr (inr full)) =
          let stop = second.earlier first.moved first.some less in
          let same : first.board ≡ stop.0 = search rules in search rules

  one_delivery : (count : ℕ) (world one other : WorldView) → Delivers count world one
      → Delivers count world other → one ≡ other
  one_delivery count world one other first second = go (order first.moved second.moved)
    where
      go : (first.moved < second.moved)
          ⊎ ((second.moved < first.moved) ⊎ (first.moved ≡ second.moved)) → one ≡ other
      go (inl less) = absurd (no_further count world one other first second less)
      go (inr (inl less)) = absurd (no_further count world other one second first less)
      go (inr (inr same)) =
          let board : first.board ≡ second.board
          = one_taking world.board first.board second.board (take second.moved world.down.bytes)
          (rw same at first.taken)
          second.taken in
          first.leaves ∙ rw (board, same) (sym second.leaves)

  becomes_once : (act : ActContent) (world one other : WorldView) → Becomes act world one
      → Becomes act world other → one ≡ other
  becomes_once act world one other e f = search (rules, one_delivery)

  pub one_step : (act : ActContent) (world one other : WorldView) (answer also : Outcome)
      → Step act world answer one → Step act world also other → (answer ≡ also) × (one ≡ other)
  one_step act world one other answer also first second = search (rules, becomes_once)

  pub one_run : (acts : List ActContent) (world one other : WorldView)
      (answers others : List Outcome) → Runs acts world answers one → Runs acts world others other
      → (answers ≡ others) × (one ≡ other)
  one_run [] world one other [] [] e f = (refl, e ∙ sym f)
  one_run (act ∷ acts) world one other (answer ∷ answers) (also ∷ others) (between, step, runs)
      (middle, stepped, ran) =
      let first = one_step act world between middle answer also step stepped in
      search (rules, one_run acts middle one other answers others (rw first.1 at runs) ran)
  one_run [] world one other [] (also ∷ others) e none = absurd none
  one_run [] world one other (answer ∷ answers) others none f = absurd none
  one_run (act ∷ acts) world one other answers others none f = search rules

  -- ---- in a world in which the lines and the board's power may fail

  pub one_faulty_step : (act : FaultyContent) (world one other : WorldView) (answer also : Outcome)
      → FaultyStep act world answer one → FaultyStep act world also other
      → (answer ≡ also) × (one ≡ other)
  one_faulty_step act world one other answer also first second = search (rules, becomes_once)

-- ---- one state

-- the laws of the encodings of messages
pub record EncodedOnce : Type 0 where
  pub encodes : (said : Content) → IsMessage said → Encodes said (encoding said)
  pub one_message : (bytes : List ℕ) (first second : Content) → Encodes first bytes
      → Encodes second bytes → first ≡ second
  pub none_longer : (bytes more : List ℕ) (first second : Content) → Encodes first bytes
      → Encodes second (bytes ++ more) → more ≡ []

module _ (law : EncodedOnce) where
  -- the encoding of a message that begins another's is all of it
  first_same : (first second : Content) (more : List ℕ) → IsMessage first → IsMessage second
      → encoding first ≡ encoding second ++ more → (first ≡ second) × (more ≡ [])
  first_same first second more is also e =
      let none = law.none_longer (encoding second) more second first (law.encodes second also)
      (rw e at (law.encodes first is)) in
      let same : encoding first ≡ encoding second
      = e ∙ ap (λ (rest : List ℕ). encoding second ++ rest) none ∙ append-nil (encoding second) in (
        law.one_message (encoding first) first second (law.encodes first is)
            (rw same (law.encodes second also)),
        none,
      )

  -- messages in a row are encoded in one way
  messages_once : (xs ys : List Content) → AllByRecursion IsMessage xs → AllByRecursion IsMessage ys
      → flat_map encoding xs ≡ flat_map encoding ys → xs ≡ ys
  messages_once [] [] all also h = refl
  messages_once [] (second ∷ ys) all also h = cc
  messages_once (first ∷ xs) [] all also h = cc
  messages_once (first ∷ xs) (second ∷ ys) all also h =
      search (rules, prefixes, first_same, messages_once xs ys all.1 also.1)

pub one_state : EncodedOnce → EachDividesOnce → (world : WorldView) (x y : MachineState)
    → StandsFor world x → StandsFor world y → x ≡ y
one_state encoded divided world x y one two = search (rules, messages_once)
