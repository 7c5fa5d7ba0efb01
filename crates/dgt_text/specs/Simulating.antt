-- A script that is played in a world.
use Rattle.std.specs.Prelude.{◌≡◌, ◌≢◌, ◌+◌, ◌<◌, ◌≤◌, ◌↔◌, ◌⊎◌, ⊤, ℕ, Bool, true, false, List, [], ◌∷◌, ◌++◌, All, IfErr, IsTrue, MatchResult, Result, Ok, Err, codes, flat_map, length}
use Rattle.std.specs.Io.KnownBytes.{Appends}
use Rattle.std.proofs.Common.{inl, refl}
use Rattle.dgt_link.specs.declared.acts.Outcome.{Outcome}
use Rattle.dgt_link.specs.Faults.{FaultyStep}
use Rattle.dgt_link.specs.Healing.{IsPromisedWorld}
use Rattle.dgt_link.specs.Machine.{MachineState}
use Rattle.dgt_link.specs.Promise.{IsPromised}
use Rattle.dgt_link.specs.Stands.{StandsFor}
use Rattle.dgt_link.specs.Step.{Step}
use Rattle.dgt_link.specs.View.{IsQuietWorld, WorldView}
use Rattle.dgt_values.specs.Placement.{placement_text}
use Rattle.dgt_lines.specs.declared.streams.Sink.{Ghosts as Sink}
use Rattle.dgt_lines.specs.declared.faults.RunFault.{RunFault}
use Rattle.dgt_lines.specs.declared.faults.RunFault.TheVariants.{ReadFailed, WriteFailed, TooManyTurns, BadLine}
use Rattle.dgt_script.specs.declared.script_lines.LineBuffer.{LineBuffer}
use Rattle.dgt_text.specs.Closing.{closing_lines}
use Rattle.dgt_script.specs.Outcomes.{outcome_line}
use Rattle.dgt_lines.specs.Monitoring.{IsPrefix}
use Rattle.dgt_lines.specs.Turns.{Change, sink_mark_after}
use Rattle.dgt_script.specs.FaultyScript.{faulty_words}
use Rattle.dgt_script.specs.Script.{AsksFor, IsBadAt, Vocabulary, plain_words}
use Rattle.dgt_script.specs.ScriptLines.{HasNoFeed, IsCut, KeepsLine, ended}

-- ---- lines

-- the lines of a script that ends here: the rest without a line feed is a line if it isn't empty
abbrev pub all_lines : List (List ℕ) → List ℕ → List (List ℕ)
all_lines lines [] = lines
all_lines lines (byte ∷ rest) = lines ++ (byte ∷ rest) ∷ []

-- the script begins with these lines: each has its line feed, or the source has given the end and
-- they are all
abbrev pub BeginsWith : Bool → List ℕ → List (List ℕ) → Type 0
BeginsWith at_end bytes lines =
    ((rest : List ℕ) × (bytes ≡ flat_map ended lines ++ rest) × All HasNoFeed lines)
    ⊎ ((whole : List (List ℕ)) × (rest : List ℕ) × IsCut bytes whole rest
    × (lines ≡ all_lines whole rest) × IsTrue at_end)

-- ---- the rules of a script

-- the effects of the lines of a script
pub record Rules : Type 1 where
  -- the act of this line has this outcome in the first world and leaves the second
  pub does : List ℕ → WorldView → Outcome → WorldView → Type 0
  -- this line is wrong at this offset
  pub is_bad : List ℕ → ℕ → Type 0
  -- a line of more than 519 bytes is wrong at 519
  pub long_is_bad : (line : List ℕ) → 519 < length line → is_bad line 519

-- the rules of scripts with lines for these acts, which take these steps
abbrev pub rules_of : {V A : Type 0} → Vocabulary V A
    → (A → WorldView → Outcome → WorldView → Type 0) → Rules
rules_of {A = A} vocabulary steps = record {
  does = λ line world outcome after.
      (act : A) × AsksFor vocabulary line act × steps act world outcome after;
  is_bad = IsBadAt vocabulary;
  long_is_bad = λ line long. inl (long, refl);
}

-- the rules of a script for a world without faults
abbrev pub plain_rules : Rules
plain_rules = rules_of plain_words Step

-- the rules of a script for a world with faults
abbrev pub faulty_rules : Rules
faulty_rules = rules_of faulty_words FaultyStep

-- ---- playing

-- the acts of the lines, in order from this world, have this text of outcomes, and leave the last
-- world
abbrev pub Plays : Rules → WorldView → List (List ℕ) → List ℕ → WorldView → Type 0
Plays rules world [] text last = (text ≡ []) × (world ≡ last)
Plays rules world (line ∷ lines) text last =
    (outcome : Outcome) × (between : WorldView) × (rest : List ℕ)
    × rules.does line world outcome between × (text ≡ outcome_line outcome ++ rest)
    × Plays rules between lines rest last

-- the lines are played, but the outcome of the last one may be missing or torn
pub record PlaysTorn (rules : Rules) (world : WorldView) (lines : List (List ℕ)) (out : List ℕ)
    (last : WorldView) : Type 0 where
  pub earlier : List (List ℕ)
  pub final : List (List ℕ)
  pub split : lines ≡ earlier ++ final
  pub at_most_one : length final ≤ 1
  pub between : WorldView
  pub text : List ℕ
  pub torn : List ℕ
  pub prefix : List ℕ
  pub plays : Plays rules world earlier text between
  pub ends : Plays rules between final torn last
  pub is_prefix : IsPrefix prefix torn
  pub out_is : out ≡ text ++ prefix

-- a part of a script: the number of its first line, its bytes, and the world before and after it
pub record Part : Type 0 where
  pub number : ℕ
  pub bytes : List ℕ
  pub world : WorldView
  pub last : WorldView

abbrev pub part : ℕ → List ℕ → WorldView → WorldView → Part
part number bytes world last =
    record { number = number; bytes = bytes; world = world; last = last }

-- the part is played up to a refused write or a bad line
abbrev pub Stops : Rules → Bool → Part → RunFault → List ℕ → Type 0
Stops rules at_end p WriteFailed out =
    (lines : List (List ℕ)) × BeginsWith at_end p.bytes lines
    × PlaysTorn rules p.world lines out p.last
Stops rules at_end p (BadLine bad_number at) out =
    (lines : List (List ℕ)) × (bad : List ℕ) × BeginsWith at_end p.bytes (lines ++ bad ∷ [])
    × Plays rules p.world lines out p.last × rules.is_bad bad at
    × (bad_number ≡ p.number + length lines)
Stops rules at_end p ReadFailed out = ⊥
Stops rules at_end p TooManyTurns out = ⊥

-- the part's whole lines are played
abbrev pub PlaysWhole : Rules → Part → List ℕ → Type 0
PlaysWhole rules p out =
    (lines : List (List ℕ)) × (rest : List ℕ) × IsCut p.bytes lines rest
    × Plays rules p.world lines out p.last

-- what the sink contains for this part, and the world that is left, if the result is this and
-- `at_end` is true exactly if the source has given the end
abbrev pub IsSimulatedFrom : {A : Type 0} → Rules → Bool → Part → Result A RunFault → List ℕ
    → Type 0
-- all lines were played, and the closing lines are those of the world that is left
IsSimulatedFrom rules at_end p (Ok _) out =
    (lines : List (List ℕ)) × (rest : List ℕ) × (text : List ℕ) × (quiet : Bool)
    × IsCut p.bytes lines rest × Plays rules p.world (all_lines lines rest) text p.last
    × (IsTrue quiet ↔ IsQuietWorld p.last) × (out ≡ text ++ closing_lines p.last quiet)
IsSimulatedFrom rules at_end p (Err ReadFailed) out = PlaysWhole rules p out
IsSimulatedFrom rules at_end p (Err TooManyTurns) out = PlaysWhole rules p out
IsSimulatedFrom rules at_end p (Err (BadLine number at)) out =
    Stops rules at_end p (BadLine number at) out
-- an outcome was refused, or at the end a part of the closing lines
IsSimulatedFrom rules at_end p (Err WriteFailed) out =
    Stops rules at_end p WriteFailed out
    ⊎ ((lines : List (List ℕ)) × (rest : List ℕ) × (text : List ℕ) × (quiet : Bool)
    × (prefix : List ℕ) × IsCut p.bytes lines rest
    × Plays rules p.world (all_lines lines rest) text p.last × (IsTrue quiet ↔ IsQuietWorld p.last)
    × IsPrefix prefix (closing_lines p.last quiet) × (out ≡ text ++ prefix) × IsTrue at_end)

-- the first line of a script has number 1
abbrev pub IsSimulated : {A : Type 0} → Rules → Bool → Result A RunFault → WorldView → WorldView
    → List ℕ → List ℕ → Type 0
IsSimulated rules at_end r world last bytes out =
    IsSimulatedFrom rules at_end (part 1 bytes world last) r out

-- the text begins with the lines of board and host, and both have this placement
abbrev pub ShowsTwice : List ℕ → List ℕ → Type 0
ShowsTwice placement text =
    (rest : List ℕ)
    × (text ≡ codes "board " ++ placement ++ codes "\nhost " ++ placement ++ codes "\n" ++ rest)

-- the text ends with the closing lines of this quiet world; those of board and host have the same
-- placement
abbrev pub EndsAlike : WorldView → List ℕ → Type 0
EndsAlike world out =
    (text : List ℕ) × (out ≡ text ++ closing_lines world true)
    × ShowsTwice (placement_text world.board.state.squares) (closing_lines world true)

-- if updates and a dump were requested and the world is quiet, the text ends like this
abbrev pub ShowsPicture : WorldView → List ℕ → Type 0
ShowsPicture world out =
    (x : MachineState) → StandsFor world x → IsPromised x → IsQuietWorld world → EndsAlike world out

-- if the host is promised its picture and the world is quiet, the text ends like this
abbrev pub ShowsHealed : WorldView → List ℕ → Type 0
ShowsHealed world out = IsPromisedWorld world → IsQuietWorld world → EndsAlike world out

-- ---- the engine's parts

-- this stops a run at a line: it is bad, or a write was refused
abbrev pub IsOfLine : RunFault → Type 0
IsOfLine WriteFailed = ⊤
IsOfLine (BadLine _ _) = ⊤
IsOfLine ReadFailed = ⊥
IsOfLine TooManyTurns = ⊥

-- The result of a call that a line or the sink may stop, and the marks that it leaves. The sink is
-- not called after a refusal. All bytes are flushed if a line is refused.
pub record StopsAtLines {S A : Type 0} (W : Sink S) (sink : Change S) (r : Result A RunFault)
    : Type 0 where
  pub of_line : IfErr r IsOfLine
  pub failed : W.failed sink.new ≡ sink_mark_after r (W.failed sink.old)
  pub in_time : W.failed sink.old ≡ false → W.late sink.new ≡ W.late sink.old
  pub flushed : IfErr r (λ fault. fault ≢ WriteFailed → IsTrue (W.flushed sink.new))

-- nothing is flushed, unless a line is bad: what waited for a flush still does
abbrev pub NoFlush : {S A : Type 0} → Sink S → Change S → Result A RunFault → Type 0
NoFlush W sink r =
    let waits = W.flushed sink.old ≡ false → W.flushed sink.new ≡ false in
    MatchResult r (λ _. waits) (λ fault. fault ≡ WriteFailed → waits)

-- between two moments the sink took bytes, and P holds for them
abbrev pub Took : {S : Type 0} → Sink S → S → S → (List ℕ → Type 0) → Type 0
Took W old new P = (out : List ℕ) × Appends (W.written old) (W.written new) out × P out

-- the lines that end in this part were played, what is after them is kept, and the next line has
-- this number
pub record PlaysOn {S : Type 0} (rules : Rules) (W : Sink S) (p : Part) (old new : S)
    (line : LineBuffer) (next : ℕ) : Type 0 where
  pub lines : List (List ℕ)
  pub rest : List ℕ
  pub text : List ℕ
  pub cut : IsCut p.bytes lines rest
  pub kept : KeepsLine line rest
  pub counted : next ≡ p.number + length lines
  pub plays : Plays rules p.world lines text p.last
  pub wrote : Appends (W.written old) (W.written new) text
