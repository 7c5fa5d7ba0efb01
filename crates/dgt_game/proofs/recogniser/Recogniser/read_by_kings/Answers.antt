use Rattle.{std.proofs.Common.{inl, inr}, dgt_game.proofs.Pictures.{near_read}}
use Rattle.dgt_game.proofs.recogniser.Recogniser.read_by_kings.Goals as goal

pub returns-then-has_black-2-clause-linked : goal.returns-then-has_black-2-clause-linked
returns-then-has_black-2-clause-linked c = λ shown line holds seen.
    c.read_king_in_hand.ensures.linked shown seen

pub returns-then-has_black-clause-reads : goal.returns-then-has_black-clause-reads
returns-then-has_black-clause-reads c = λ known white black.
    let read = c.read.ensures in
    elim known [
      | inl start ↦ read.start start
      | inr more ↦ elim more [
        | inl earlier ↦ read.earlier earlier.0 earlier.1
        | inr more ↦ elim more [
          | inl one ↦ near_read c.read.result (read.reads one.0 one.1)
          | inr more ↦ elim more [
            | inl two ↦ read.jumps two.0 two.1 two.2
            | inr more ↦ elim more [
              | inl last ↦ rw (read.last last.0 last.1) tt
              | inr gone ↦ read.gone gone.0 gone.1 gone.2 gone.3
            ]
          ]
        ]
      ]
    ]
