use Rattle.std.proofs.Common.{inr}
use Rattle.dgt_game.specs.declared.recogniser.Recogniser.{Recogniser}
use Rattle.{std.proofs.Common.{rules, ◌≡◌, ◌∙◌, inl, None, false, sym, ap, true}, dgt_values.specs.Board.{pieces_of}, dgt_game.specs.{declared.memory.Memory.{Memory}, Recogniser.{Knows, shown_after}}}
use Rattle.dgt_game.specs.{declared.recogniser.Lost.{Lost}, Memory.{IsTold}, Recogniser.{pictured}, Waiting.{Waits}}
use Rattle.dgt_game.{proofs.{Known.{holds_more, knows_more, knows_same, memory_of, same_side, view_of, within_after}, Waiting.{ended_of, lost_of}}}
use Rattle.dgt_game.{specs.Waiting.{has_notice, is_sure_sight}, proofs.recogniser.Recogniser.see.Goals.{then-not-is_same_picture, then-not-self, else-not-self}}
use Rattle.dgt_game.{proofs.{recogniser.Recogniser.see.Goals.{else-not-is_same_picture+else-is_sure-self, in-Sure, in_default}, Pictures.{returned_of}}, specs.Sure.{KnowsSure, sure_after}}
use Rattle.{std.proofs.Common.{Option, subst}, dgt_chess.specs.declared.pieces.Colour.{Colour}, dgt_game.specs.Planning.{CannotBegin}}
use Rattle.dgt_game.proofs.{Standing.{match_more}, Sure.{not_sure, were_more, within_sure}}
use Rattle.dgt_game.proofs.recogniser.Recogniser.see.Goals as goal

pub returns-clause-seen : goal.returns-clause-seen
returns-clause-seen c = λ done shown line knows.
    let (back, unsaid) = (c.is_due.ensures.0 c.if-is_due.false).0.0 in
    let sight = c.args.observation.now.sight in
    let more = within_after sight shown in
    let new : Knows (shown_after sight shown) line c.if-not-is_same_picture.self = elim
    c.if-not-is_same_picture.branch [
      | then-not-is_same_picture w ↦
          let same : memory_of w.if-not-self.self ≡ w.leave.new.self.memory =
          elim w.if-not-self.branch [
            | then-not-self w' ↦ ap memory_of w'.self-is
            | else-not-self w' ↦ ap memory_of w'.self-is
          ] in
          rw w.self-is (w.show.ensures.knows (shown_after sight shown) line
          (ap (λ (m : Memory). m.back) same ∙ w.leave.ensures.back ∙ back)
          (ap (λ (m : Memory). m.unsaid.items) same ∙ w.leave.ensures.unsaid ∙ unsaid)
          (c.of-view.ensures.seen shown)
          (rw same (holds_more shown (shown_after sight shown) line w.leave.new.self.memory more
          (w.leave.ensures.holds shown line back unsaid knows.seen knows.held))))
      | else-not-is_same_picture+else-is_sure-self w ↦
          knows_same (shown_after sight shown) line c.args.self.now c.if-not-is_same_picture.self
          (ap memory_of w.self-is) (ap view_of w.self-is)
          (knows_more shown (shown_after sight shown) line c.args.self.now more knows)
    ] in
    record { held = new.held; seen = new.seen }

pub returns-clause-right : goal.returns-clause-right
returns-clause-right c = λ waits.
    let quiet = (c.is_due.ensures.0 c.if-is_due.false).0 in
    let new : Waits c.if-not-is_same_picture.self = elim c.if-not-is_same_picture.branch [
      | then-not-is_same_picture w ↦
          let same_lost : lost_of w.if-not-self.self ≡ w.leave.new.self.lost =
          elim w.if-not-self.branch [
            | then-not-self w' ↦ ap lost_of w'.self-is
            | else-not-self w' ↦ ap lost_of w'.self-is
          ] in
          let same_ended : ended_of w.if-not-self.self ≡ w.leave.new.self.ended =
          elim w.if-not-self.branch [
            | then-not-self w' ↦ ap ended_of w'.self-is
            | else-not-self w' ↦ ap ended_of w'.self-is
          ] in
          let silent : has_notice w.if-not-self.self.lost ≡ false =
          ap (λ (l : Lost). has_notice l) (same_lost ∙ w.leave.ensures.lost) ∙ quiet.1 in
          let none : w.show.new.self.ended ≡ None =
          w.show.ensures.ended ∙ same_ended ∙ w.leave.ensures.keeps.2 ∙ quiet.2 in
          let same : memory_of w.if-not-self.self ≡ w.leave.new.self.memory =
          elim w.if-not-self.branch [
            | then-not-self w' ↦ ap memory_of w'.self-is
            | else-not-self w' ↦ ap memory_of w'.self-is
          ] in
          let told : IsTold w.if-not-self.self.memory = rw same
          (w.leave.ensures.back ∙ quiet.0.0, w.leave.ensures.unsaid ∙ quiet.0.1) in
          rw w.self-is (
            rw none tt,
            w.show.ensures.lost silent,
            elim (w.show.ensures.loss told) [
              | inl told ↦ inl (told, none)
              | inr found ↦ inr found
            ],
          )
      | else-not-is_same_picture+else-is_sure-self w ↦ rw w.self-is waits
    ] in
    (new.0, new.1, new.2)

pub returns-clause-reads : goal.returns-clause-reads
returns-clause-reads c = λ few explained.
    elim c.if-not-is_same_picture.branch [
      | then-not-is_same_picture w ↦
          let same : memory_of w.if-not-self.self ≡ w.leave.new.self.memory =
          elim w.if-not-self.branch [
            | then-not-self w' ↦ ap memory_of w'.self-is
            | else-not-self w' ↦ ap memory_of w'.self-is
          ] in
          rw w.self-is (w.show.ensures.reads (rw same (w.leave.ensures.few few)))
      | else-not-is_same_picture+else-is_sure-self w ↦ rw w.self-is explained
    ]

pub returns-clause-repeated : goal.returns-clause-repeated
returns-clause-repeated c = λ repeats.
    elim c.if-not-is_same_picture.branch [
      | then-not-is_same_picture w ↦ rw w.self-is w.show.ensures.repeated
      | else-not-is_same_picture+else-is_sure-self w ↦ rw w.self-is repeats
    ]

pub returns-clause-set_up : goal.returns-clause-set_up
returns-clause-set_up c = λ is.
    let set_up = λ (r : Recogniser). r.is_set_up in
    elim c.if-not-is_same_picture.branch [
      | then-not-is_same_picture w ↦
          let same : set_up w.if-not-self.self ≡ set_up w.leave.new.self =
          elim w.if-not-self.branch [
            | then-not-self w' ↦ ap set_up w'.self-is
            | else-not-self w' ↦ ap set_up w'.self-is
          ] in
          rw w.self-is (elim (w.show.ensures.kept_up (sym (ap set_up w.self-is) ∙ is)) [
            | inl was ↦ inl (sym w.leave.ensures.set_up ∙ sym same ∙ was)
            | inr sets ↦ inr (rw w.show.ensures.shown sets)
          ])
      | else-not-is_same_picture+else-is_sure-self w ↦ inl (sym (ap set_up w.self-is) ∙ is)
    ]

pub returns-clause-sets_up : goal.returns-clause-sets_up
returns-clause-sets_up c = λ done changed.
    elim c.if-not-is_same_picture.branch [
      | then-not-is_same_picture w ↦
          rw w.self-is (rw w.show.ensures.shown w.show.ensures.set_up)
      | else-not-is_same_picture+else-is_sure-self w ↦ absurd (changed (ap view_of w.self-is))
    ]

pub returns-clause-stands : goal.returns-clause-stands
returns-clause-stands c = λ shown line knows stands.
    let (back, unsaid) = (c.is_due.ensures.0 c.if-is_due.false).0.0 in
    elim c.if-not-is_same_picture.branch [
      | then-not-is_same_picture w ↦
          let same : memory_of w.if-not-self.self ≡ w.leave.new.self.memory =
          elim w.if-not-self.branch [
            | then-not-self w' ↦ ap memory_of w'.self-is
            | else-not-self w' ↦ ap memory_of w'.self-is
          ] in
          let held = w.leave.ensures.holds shown line back unsaid knows.seen knows.held in
          rw w.self-is (w.show.ensures.stands (rw same (
            (w.leave.ensures.back ∙ back, w.leave.ensures.unsaid ∙ unsaid),
            w.leave.ensures.answer ∙ stands.1 (back, unsaid),
            held.rooted,
          )))
      | else-not-is_same_picture+else-is_sure-self w ↦ rw w.self-is stands
    ]

pub returns-clause-hopeless : goal.returns-clause-hopeless
returns-clause-hopeless c = λ h.
    let clock = c.with_clock-self.ensures in
    elim c.if-not-is_same_picture.branch [
      | then-not-is_same_picture w ↦ rw w.self-is (λ view is nowhere.
          let either = w.show.ensures.search in
          let (hopeless, refused) = w.show.ensures.hopeless view is nowhere in (
            λ e. hopeless (search (rules, clock, either, e)),
            λ e. absurd (search (rules, clock, either, e)),
          ))
      | else-not-is_same_picture+else-is_sure-self w ↦ rw w.self-is (λ view is nowhere.
          let (hopeless, refused) = h view is nowhere in (
            λ e. hopeless (search (rules, clock, e)),
            λ e. subst (λ (running : Option Colour). CannotBegin running view) (same_side
                c.args.observation.now.running c.args.self.now.running c.eq-is_same_clock.result
                c.eq-is_same_clock.ensures (λ is. clock.other is e))
                (refused (search (rules, clock, e))),
          ))
    ]

pub returns-clause-since_seen : goal.returns-clause-since_seen
returns-clause-since_seen c = λ few view is changed seen.
    elim c.if-not-is_same_picture.branch [
      | then-not-is_same_picture w ↦
          let same : memory_of w.if-not-self.self ≡ w.leave.new.self.memory =
          elim w.if-not-self.branch [
            | then-not-self w' ↦ ap memory_of w'.self-is
            | else-not-self w' ↦ ap memory_of w'.self-is
          ] in
          let shown = sym w.show.ensures.shown ∙ sym (ap view_of w.self-is) ∙ is in
          let stands = w.show.ensures.seen view shown (rw same (w.leave.ensures.few few))
          (rw same (w.leave.ensures.kept few (pieces_of view.shown) seen)) in
          rw w.self-is stands
      | else-not-is_same_picture+else-is_sure-self w ↦ absurd (changed (ap view_of w.self-is))
    ]

pub returns-clause-answers : goal.returns-clause-answers
returns-clause-answers c = λ done shown line knows stands.
    let (back, unsaid) = (c.is_due.ensures.0 c.if-is_due.false).0.0 in
    elim c.if-not-is_same_picture.branch [
      | then-not-is_same_picture w ↦
          let same : memory_of w.if-not-self.self ≡ w.leave.new.self.memory =
          elim w.if-not-self.branch [
            | then-not-self w' ↦ ap memory_of w'.self-is
            | else-not-self w' ↦ ap memory_of w'.self-is
          ] in
          let held = w.leave.ensures.holds shown line back unsaid knows.seen knows.held in
          rw (ap memory_of w.self-is) (w.show.ensures.answers (rw same (
            (w.leave.ensures.back ∙ back, w.leave.ensures.unsaid ∙ unsaid),
            w.leave.ensures.answer ∙ stands.1 (back, unsaid),
            held.rooted,
          )))
      | else-not-is_same_picture+else-is_sure-self w ↦
          rw (ap memory_of w.self-is) (inl (back, unsaid))
    ]

pub returns-clause-found : goal.returns-clause-found
returns-clause-found c = λ h.
    elim c.if-not-is_same_picture.branch [
      | then-not-is_same_picture w ↦ rw w.self-is (λ view is nowhere done live
          fits lines.
          absurd (search (rules, c.with_clock-self.ensures, w.show.ensures.search, done)))
      | else-not-is_same_picture+else-is_sure-self w ↦ rw w.self-is (λ view is nowhere done.
          h view is nowhere (search (rules, c.with_clock-self.ensures, done)))
    ]

pub returns-clause-sight : goal.returns-clause-sight
returns-clause-sight c = λ done sure knows.
    let told = (c.is_due.ensures.0 c.if-is_due.false).0.0 in
    let sight = c.args.observation.now.sight in
    let more = within_sure sight sure in
    let is : c.match-matches.matches ≡ is_sure_sight sight = elim c.match-matches.branch [
      | in-Sure w ↦ rw w.in-Sure.is w.matches-is
      | in_default w ↦ w.matches-is ∙ sym (not_sure sight w.in_default.not-Sure)
    ] in
    let new : KnowsSure (sure_after sight sure) c.if-not-is_same_picture.self = elim
    c.if-not-is_same_picture.branch [
      | then-not-is_same_picture w ↦
          let same : (memory_of w.if-not-self.self ≡ w.leave.new.self.memory)
          × (returned_of w.if-not-self.self ≡ w.leave.new.self.returned) =
          elim w.if-not-self.branch [
            | then-not-self w' ↦ (ap memory_of w'.self-is, ap returned_of w'.self-is)
            | else-not-self w' ↦ (ap memory_of w'.self-is, ap returned_of w'.self-is)
          ] in
          let show = w.show.ensures in
          let old = were_more sure (sure_after sight sure) w.leave.new.self.returned
          w.leave.new.self.memory more (w.leave.ensures.sure sure knows.0 knows.1) in
          let seen = λ (e : c.match-matches.matches ≡ true).
          c.of-view.ensures.sure sure (sym is ∙ e) in
          rw w.self-is (
            (λ e. rw show.shown (seen (sym show.sure ∙ e))),
            show.were (sure_after sight sure)
                (rw same.0 (w.leave.ensures.back ∙ told.0, w.leave.ensures.unsaid ∙ told.1)) seen
                (rw (same.0, same.1) old),
          )
      | else-not-is_same_picture+else-is_sure-self w ↦
          rw w.self-is (
            (λ e. match_more c.args.self.now.view _ _ (knows.0 e)
                (λ view seen. more (pieces_of view.shown) seen)),
            were_more sure (sure_after sight sure) c.args.self.now.returned
                c.args.self.now.memory more knows.1,
          )
    ] in
    (new.0, new.1)

pub returns-clause-sure_since : goal.returns-clause-sure_since
returns-clause-sure_since c = λ sure.
    let since = λ (r : Recogniser). r.sure_since in
    elim c.if-not-is_same_picture.branch [
      | then-not-is_same_picture w ↦
          let same : since w.if-not-self.self ≡ since w.leave.new.self =
          elim w.if-not-self.branch [
            | then-not-self w' ↦ (let wrong : ⊥ = search rules in absurd wrong)
            | else-not-self w' ↦ ap since w'.self-is
          ] in
          rw w.self-is (w.show.ensures.sure_since ∙ same ∙ w.leave.ensures.keeps.7)
      | else-not-is_same_picture+else-is_sure-self w ↦ ap since w.self-is
    ]

pub returns-clause-behind : goal.returns-clause-behind
returns-clause-behind c = λ done doubt.
    elim c.if-not-is_same_picture.branch [
      | then-not-is_same_picture w ↦ rw w.self-is (elim w.show.ensures.behind [
        | inl same ↦ inl (same.0 ∙ search rules)
        | inr last ↦ inr last
      ])
      | else-not-is_same_picture+else-is_sure-self w ↦ rw w.self-is (search rules)
    ]

pub returns-clause-astray : goal.returns-clause-astray
returns-clause-astray c = λ done either.
    let astray = λ (r : Recogniser). r.is_astray in
    elim c.if-not-is_same_picture.branch [
      | then-not-is_same_picture w ↦
          let same : astray w.if-not-self.self ≡ astray w.leave.new.self =
          elim w.if-not-self.branch [
            | then-not-self w' ↦ ap astray w'.self-is
            | else-not-self w' ↦ ap astray w'.self-is
          ] in
          let is : w.leave.new.self.is_astray ≡ true = w.leave.ensures.astray.1 (elim either [
            | inl old ↦ inl old
            | inr new ↦ inr new.1
          ]) in
          rw w.self-is (elim w.show.ensures.behind [
            | inl kept ↦ inl (kept.1 ∙ same ∙ is)
            | inr last ↦ inr last
          ])
      | else-not-is_same_picture+else-is_sure-self w ↦ elim either [
        | inl old ↦ inl (rw w.self-is old)
        | inr new ↦ absurd (new.0 (ap (λ (r : Recogniser). pictured r.view) w.self-is))
      ]
    ]
