use Rattle.{std.proofs.Common.{arith, refl}, dgt_link.{specs.{Healing.{IsPromisedWorld}, View.{IsQuietWorld}}, proofs.{RestAfterFaults.{settled_clock, settled_squares}, Settling.{most_work}}}}
use Rattle.dgt_link.proofs.Settling.{settled_kept, settled_more}
use Rattle.dgt_link.proofs.faulty.FaultyWorld.settle.Goals as goal

pub overflow_add-done : goal.overflow_add-done
overflow_add-done c =
    let fits = c.work.ensures.fits in
    omega (arith, fits, c.loop-done.invariant.most)

pub loop-done-preserved : goal.loop-done-preserved
loop-done-preserved c =
    let more = c.loop-done-test.ensures.moved refl in
    record {
      run = settled_more c.args.self.now c.loop-done.self c.settle_once.new.self c.loop-done.done
          c.loop-done.invariant.run more;
      most = omega (arith, more.3, c.loop-done.invariant.most);
    }

pub returns : goal.returns
returns c =
    let old = c.args.self.now in
    let new = c.loop-done.self in
    let count = c.loop-done.done in
    let settled = c.loop-done.invariant.run in
    let rests = c.loop-done-test.ensures.rests refl in
    let few = c.work.ensures.few in
    let most = most_work old in
    let kept = settled_kept count old new settled in
    let still = c.promised_worlds_heal.ensures.kept count old new settled in
    let clock_still = c.clocks_heal.ensures.settled count old new settled in
    let turn_still = c.awaited_replies_come.ensures.settled count old new settled in
    let unfinished_is = c.holds_unfinished.ensures in
    let quiet : IsPromisedWorld old → IsQuietWorld new
    = λ is. c.promised_worlds_heal.ensures.quiet new (still is) rests.0
    (rw rests.1 at unfinished_is) in
    record {
      rested = rw rests.1 rests.0;
      run = rw rests.1 settled;
      bound = omega (arith, c.loop-done.invariant.most, most);
      at_most = omega (arith, c.loop-done.invariant.most, most, few);
      keeps_squares = rw rests.1 kept.squares;
      keeps_clock = rw rests.1 kept.clock;
      promised = rw rests.1 still;
      quiet = rw rests.1 quiet;
      picture = rw rests.1
          (λ is. settled_squares count old new settled
          (c.promised_worlds_heal.ensures.picture new (still is) (quiet is)));
      clock_kept = rw rests.1 clock_still;
      clock = rw rests.1
          (λ clock. settled_clock count old new settled
          (c.clocks_heal.ensures.rested new (clock_still clock) rests.0
          (rw rests.1 at unfinished_is)));
      in_turn = rw rests.1 turn_still;
      awaited = rw rests.1
          (λ turn. c.awaited_replies_come.ensures.rested new (turn_still turn) rests.0
          (rw rests.1 at unfinished_is));
    }
