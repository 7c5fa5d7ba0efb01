use Rattle.{std.{proofs.Common.{◌≡◌, ◌∙◌, ◌<◌, inl, inr, Bool, [], length, ap, false, refl, subst, sym, true}, specs.Prelude.{◌≢◌, Contains}}, dgt_values.specs.Board.{pieces_of}}
use Rattle.dgt_game.specs.{declared.{memory.Memory.{Memory}, node.Place.{Place}}, Memory.{Holds, Reads}, Reading.{IsRead}}
use Rattle.dgt_game.proofs.{Known.{memory_of, view_of}, Pictures.{SomeState, SomeWithout, king_left, king_seen}}
use Rattle.dgt_game.proofs.Pictures.{at_line, few_same, live_same, over_of, since_of, known_same, read_or_not, returned_of, seen_state, state_of}
use Rattle.dgt_game.proofs.recogniser.Recogniser.look.Goals.{then-has_white+then-has_black, After-take}
use Rattle.{std.{proofs.{Common.{rules, arith, ◌⊎◌}, lemmas.Bool.{false≢true}}}, dgt_game.{specs.Planning.{HasKing}, proofs.Planning.{either_side}}}
use Rattle.dgt_game.{specs.declared.recogniser.Recogniser.{Recogniser}, proofs.Waiting.{not_found}}
use Rattle.{dgt_game.proofs.{recogniser.Recogniser.look.Goals.{else-has_white}, Sure.{sure_of}}, dgt_chess.specs.declared.pieces.Colour.{Colour}}
use Rattle.dgt_game.proofs.recogniser.Recogniser.look.Goals as goal

-- only what is set up and searched for changes before the picture is read
kept : (c : After-take) → let old = c.args.self.now in let mid = c.if-has_white.self in
    (memory_of mid ≡ memory_of old) × (view_of mid ≡ view_of old) × (over_of mid ≡ over_of old)
    × (since_of mid ≡ since_of old) × (returned_of mid ≡ returned_of old)
    × (sure_of mid ≡ sure_of old)
kept c = elim c.if-has_white.branch [
  | then-has_white+then-has_black w ↦ rw w.self-is (refl, refl, refl, refl, refl, refl)
  | else-has_white w ↦ rw w.self-is (refl, refl, refl, refl, refl, refl)
]

same_behind : (c : After-take) → c.if-has_white.self.is_behind ≡ c.args.self.now.is_behind
same_behind c =
    let behind = λ (r : Recogniser). r.is_behind in
    elim c.if-has_white.branch [
      | then-has_white+then-has_black w ↦ ap behind w.self-is
      | else-has_white w ↦ ap behind w.self-is
    ]

was_set_up : (c : After-take) → c.if-has_white.self.is_set_up ≡ false
    → c.args.self.now.is_set_up ≡ false
was_set_up c e = elim c.if-has_white.branch [
  | then-has_white+then-has_black w ↦
      let is = sym (ap (λ (r : Recogniser). r.is_set_up) w.self-is) ∙ e in
      search (rules, is)
  | else-has_white w ↦
      let is = sym (ap (λ (r : Recogniser). r.is_set_up) w.self-is) ∙ e in
      search (rules, is)
]

pub returns-clause-holds : goal.returns-clause-holds
returns-clause-holds c = λ shown line back unsaid seen holds.
    let reading = c.read_by_kings-reading.result in
    let same = (kept c).0 in
    let reads = subst (λ (m : Memory). Holds shown line m
    → Contains shown (pieces_of c.args.view.now.shown) → Reads shown m reading) same
    (c.read_by_kings-reading.ensures.linked shown line) holds seen in
    subst (λ (m : Memory). m.back ≡ 0 → m.unsaid.items ≡ [] → Reads shown m reading
    → Holds shown line m → Holds shown line c.take.new.self.memory)
    (c.look_at_kings.ensures.same ∙ same) (c.take.ensures.holds shown line) back unsaid reads holds

-- a picture that shows a state but for one piece shows its kings
kings_left : (c : After-take) → SomeWithout (pieces_of c.args.view.now.shown)
    → (c.has_king-has_white.result ≡ true) × (c.has_king-has_black.result ≡ true)
kings_left c (state, (turned, (gone, lacks))) =
    let view = c.args.view.now in
    let king = λ (colour : Colour) (found : Bool).
    king_left state turned (pieces_of view.shown) gone colour found view.shown.all lacks in (
      king Colour.White c.has_king-has_white.result (λ square less e.
          c.has_king-has_white.ensures.1 (square, less, e)),
      king Colour.Black c.has_king-has_black.result (λ square less e.
          c.has_king-has_black.ensures.1 (square, less, e)),
    )

-- a picture that shows a state shows its kings
kings_seen : (c : After-take) → SomeState (pieces_of c.args.view.now.shown)
    → (c.has_king-has_white.result ≡ true) × (c.has_king-has_black.result ≡ true)
kings_seen c (state, turned, shown) =
    let view = c.args.view.now in
    let king = λ (colour : Colour) (found : Bool).
    king_seen state turned (pieces_of view.shown) colour found view.shown.all shown in (
      king Colour.White c.has_king-has_white.result (λ square less e.
          c.has_king-has_white.ensures.1 (square, less, e)),
      king Colour.Black c.has_king-has_black.result (λ square less e.
          c.has_king-has_black.ensures.1 (square, less, e)),
    )

-- what is read is taken in
taken : (c : After-take) → length c.args.self.now.memory.seen.items < 23
    → IsRead c.read_by_kings-reading.result → c.take.new.self.here ≢ Place.Nowhere
taken c few read =
    let same = c.look_at_kings.ensures.same in
    c.take.ensures.here (rw (same, (kept c).0) few) read
    (rw same c.read_by_kings-reading.ensures.room)

pub returns-clause-reads : goal.returns-clause-reads
returns-clause-reads c = λ few known.
    let old = c.args.self.now in
    let view = c.args.view.now in
    let (memory, _, over, since, returned, _) = kept c in
    let kings : (c.has_king-has_white.result ≡ true) × (c.has_king-has_black.result ≡ true) =
    elim (state_of old view known) [
      | inl some ↦ kings_seen c some
      | inr some ↦ kings_left c some
    ] in
    let (white, black) = kings in
    let set_up : old.is_set_up ≡ false → c.if-has_white.self.is_set_up ≡ false =
    λ e. elim c.if-has_white.branch [
      | then-has_white+then-has_black w ↦ rw w.self-is (search (rules, e, white))
      | else-has_white w ↦ rw w.self-is (search (rules, e, white))
    ] in
    taken c few (c.read_by_kings-reading.ensures.reads (known_same old c.if-has_white.self view
    (ap (λ (m : Memory). m.line) memory) over since returned (λ e. same_behind c ∙ e) set_up known)
    white black)

pub returns-clause-repeated : goal.returns-clause-repeated
returns-clause-repeated c = λ live repeated k three here.
    let old = c.args.self.now in
    let mid = c.if-has_white.self in
    let reading = c.read_by_kings-reading.result in
    let (memory, _, over, since, returned, _) = kept c in
    let few = c.read_by_kings-reading.ensures.repeated (live_same old mid
    (ap (λ (m : Memory). m.line) memory) over since live) (rw memory repeated) in
    few_same mid.memory old.memory reading (ap (λ (m : Memory). m.line) (sym memory)) few k three
    (c.take.ensures.there k (omega (arith, three)) (at_line c.take.new.self.here k here))

pub returns-clause-unread : goal.returns-clause-unread
returns-clause-unread c = λ few. elim (read_or_not c.read_by_kings-reading.result) [
  | inl read ↦ inl (taken c few read)
  | inr none ↦ elim c.take.ensures.behind [
    | inl same ↦ inr (
      c.take.ensures.unread none ∙ c.look_at_kings.ensures.returned ∙ (kept c).4,
      same.0 ∙ c.look_at_kings.ensures.behind ∙ same_behind c,
      λ e. was_set_up c (sym (c.take.ensures.set_up none ∙ c.look_at_kings.ensures.set_up) ∙ e),
    )
    | inr (sure, last) ↦ inl (λ nowhere.
        let wrong : Place.Line 0 ≡ Place.Nowhere = sym last ∙ nowhere in
        cc)
  ]
]

pub returns-clause-seen : goal.returns-clause-seen
returns-clause-seen c = λ few seen.
    let picture = pieces_of c.args.view.now.shown in
    let (white, black) = kings_seen c (seen_state c.args.self.now.memory picture seen) in
    taken c few (c.read_by_kings-reading.ensures.seen (rw (kept c).0 seen) white black)

pub returns-clause-stands : goal.returns-clause-stands
returns-clause-stands c = λ ready seen.
    let kings = c.look_at_kings.ensures in
    c.take.ensures.stands c.args.view.now (rw (kings.same ∙ (kept c).0) ready)
    (kings.view ∙ (kept c).1 ∙ seen) (rw kings.same c.read_by_kings-reading.ensures.at)

pub returns-clause-answers : goal.returns-clause-answers
returns-clause-answers c = λ ready.
    c.take.ensures.answers (rw (c.look_at_kings.ensures.same ∙ (kept c).0) ready)

pub returns-clause-sure : goal.returns-clause-sure
returns-clause-sure c = λ sure told shown h.
    let (same, _, _, _, returned, is_sure) = kept c in
    let kings = c.look_at_kings.ensures in
    let memory = kings.same ∙ same in
    c.take.ensures.sure sure c.args.view.now (rw memory told)
    (λ e. shown (sym (kings.keeps.6 ∙ is_sure) ∙ e))
    (rw kings.same c.read_by_kings-reading.ensures.at) c.read_by_kings-reading.ensures.begins
    (rw (memory, kings.returned ∙ returned) h)

pub returns-clause-behind : goal.returns-clause-behind
returns-clause-behind c =
    let astray = λ (r : Recogniser). r.is_astray in
    let same : astray c.if-has_white.self ≡ astray c.args.self.now = elim c.if-has_white.branch [
      | then-has_white+then-has_black w ↦ ap astray w.self-is
      | else-has_white w ↦ ap astray w.self-is
    ] in
    let kings = c.look_at_kings.ensures in
    elim c.take.ensures.behind [
      | inl is ↦ inl (is.0 ∙ kings.behind ∙ same_behind c, is.1 ∙ kings.astray ∙ same)
      | inr last ↦ inr last
    ]

pub returns-clause-set_up : goal.returns-clause-set_up
returns-clause-set_up c = λ (none, last).
    let white = not_found c.has_king-has_white.result _ c.has_king-has_white.ensures.0
    (none Colour.White) in
    let black = not_found c.has_king-has_black.result _ c.has_king-has_black.ensures.0
    (none Colour.Black) in
    let new = c.sets_up-is_new.ensures.1 (white, black, last) in
    let set : c.if-has_white.self.is_set_up ≡ true = elim c.if-has_white.branch [
      | then-has_white+then-has_black w ↦ rw w.self-is (search (rules, new))
      | else-has_white w ↦ rw w.self-is (search (rules, new))
    ] in
    c.take.ensures.set_up (c.read_by_kings-reading.ensures.none white black)
    ∙ c.look_at_kings.ensures.set_up ∙ set

pub returns-clause-kept_up : goal.returns-clause-kept_up
returns-clause-kept_up c = λ is.
    let mid = sym c.look_at_kings.ensures.set_up ∙ c.take.ensures.kept_up is in
    let either : (c.args.self.now.is_set_up ≡ true) ⊎ (c.sets_up-is_new.result ≡ true) =
    elim c.if-has_white.branch [
      | then-has_white+then-has_black w ↦ let now = rw w.self-is at mid in search (rules, now)
      | else-has_white w ↦ let now = rw w.self-is at mid in search (rules, now)
    ] in
    elim either [
      | inl was ↦ inl was
      | inr new ↦
          let (white, black, last) = c.sets_up-is_new.ensures.0 new in
          inr (
            either_side (λ colour. ¬ (HasKing (pieces_of c.args.view.now.shown) colour))
                (λ has. false≢true (sym white ∙ c.has_king-has_white.ensures.1 has))
                (λ has. false≢true (sym black ∙ c.has_king-has_black.ensures.1 has)),
            last,
          )
    ]
