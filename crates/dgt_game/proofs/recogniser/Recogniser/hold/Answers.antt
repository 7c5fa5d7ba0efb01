use Rattle.std.{proofs.Common.{false, refl}, specs.Prelude.{slice_get}}
use Rattle.dgt_game.{specs.{declared.node.Place.{Place}, Memory.{steps}, Standing.{ShowsBut, StandsAt, StandsOn}}, proofs.Standing.{but_moved}}
use Rattle.dgt_game.proofs.{Standing.{held_lacks, of_some, resting, some_view}, recogniser.Recogniser.hold.Goals.{in-Some, in-None}}
use Rattle.dgt_game.proofs.recogniser.Recogniser.hold.Goals as goal

pub returns-clause-stands : goal.returns-clause-stands
returns-clause-stands c = λ view ready seen held.
    let lacks : ShowsBut view c.args.node.step =
    (held_lacks _ c.args.node.step.state held.0, held.1) in
    elim c.match-same_node.branch [
      | in-Some w ↦
          let m = c.args.self.now.memory in
          let is_sure = c.args.self.now.is_sure in
          let k = w.in-Some.k in
          let found = w.in-Some.ensures in
          rw w.self-is (resting m ready.0 ready.1 (some_view view _ (StandsAt
          (Place.Seen k) m false is_sure) seen
          (of_some (slice_get (steps m.seen.items) k) found.0
          (StandsOn false is_sure view) found.1 (
            (λ e. absurd (cc)),
            λ sure next. but_moved view
                c.args.node.step found.0 found.2 found.3 lacks,
          ))))
      | in-None w ↦
          rw w.self-is ((w.add.ensures.stands view ready seen).1 refl lacks)
    ]

pub returns-clause-holds : goal.returns-clause-holds
returns-clause-holds c = λ shown line back unsaid reads h. elim c.match-same_node.branch [
  | in-Some w ↦ rw w.self-is h
  | in-None w ↦ rw w.self-is (w.add.ensures.holds shown line back unsaid reads h)
]
