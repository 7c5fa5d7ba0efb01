use Rattle.dgt_followed.proofs.{Beginning.{beginning_restates}, SoundRuns.{runs_are_calm}, SoundWorlds.{act_restates, acts_restate, delivery_is_no_doubt, nothing_to_restate}}
use Rattle.dgt_followed.proofs.sound_worlds_raise_no_doubt.Goals as goal

pub returns-clause-begun : goal.returns-clause-begun
returns-clause-begun c = nothing_to_restate

pub returns-clause-kept : goal.returns-clause-kept
returns-clause-kept c =
    acts_restate c.acts_are_moves.ensures.one c.picture_after_moves.ensures.exact
    c.moves_keep.ensures.sound

pub returns-clause-heard : goal.returns-clause-heard
returns-clause-heard c =
    delivery_is_no_doubt c.answers_in_order.ensures.first c.moves_keep.ensures.exact
    (record {
      append = c.events_append.ensures;
      unfinished_append = c.unfinished_append.ensures;
      quiet_held = c.quiet_held.ensures;
      encoding = c.encoding_is_read.ensures;
      places = c.places_do_not_matter.ensures;
    })

pub returns-clause-always : goal.returns-clause-always
returns-clause-always c = runs_are_calm
    (act_restates c.acts_are_moves.ensures.one c.picture_after_moves.ensures.exact
    c.moves_keep.ensures.sound)
    (beginning_restates c.divisions_append.ensures c.zeros_settle_the_reader.ensures
    c.parts_of_words.ensures.nothing) (returns-clause-heard c)
