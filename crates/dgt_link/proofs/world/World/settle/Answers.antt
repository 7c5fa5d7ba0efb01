use Rattle.dgt_link.{specs.{Settling.{SettlesIn}, Stands.{IsExactWorld, IsWorld}, View.{IsQuietWorld}}, proofs.{PromisedActs.{Leads}, RestAfterFaults.{settled_clock as settled_same_clock}}}
use Rattle.dgt_link.proofs.Settling.{rests, run_is_world, settled_awaited, settled_clock, settled_known, settled_mode, settled_picture, settled_reported, settling_no_host_break}
use Rattle.dgt_link.proofs.world.World.settle.Goals as goal

pub invariant_of-self : goal.invariant_of-self
invariant_of-self c =
    run_is_world c.acts_keep.ensures.sound c.settle-done.result _ _ c.settle-done.ensures.run
    c.self.invariant

pub returns : goal.returns
returns c =
    let old = c.args.self.now in
    let new = c.settle-done.new.self in
    let count = c.settle-done.result in
    let settled : SettlesIn count old new = rw c.self.view_is at c.settle-done.ensures.run in
    let leads : Leads = record {
      moves = c.acts_are_moves.ensures.one;
      mode = c.promise_by_acts.ensures.mode;
      kept = c.promise_by_acts.ensures.kept;
    } in
    let once = c.grammars.ensures.once in
    let is_world : IsWorld new
    = run_is_world c.acts_keep.ensures.sound count old new settled
    (rw c.self.view_is at c.self.invariant) in
    let quiet : IsQuietWorld new
    = rests c.grammars.ensures.reads once new is_world c.settle-done.ensures.rested
    c.holds_unfinished.ensures in
    let exact : IsExactWorld old → IsExactWorld new
    = λ is. c.acts_keep.ensures.exact_after_all settled.acts _ _ _
    (settling_no_host_break settled.acts settled.settling) is settled.run in
    record {
      quiet = quiet;
      run = settled;
      bound = rw c.self.view_is at c.settle-done.ensures.bound;
      at_most = rw c.self.view_is at c.settle-done.ensures.at_most;
      keeps_squares = rw c.self.view_is at c.settle-done.ensures.keeps_squares;
      keeps_clock = rw c.self.view_is at c.settle-done.ensures.keeps_clock;
      mode = settled_mode leads once count old new settled quiet;
      picture = settled_picture leads once count old new settled quiet;
      reported = settled_reported leads once count old new settled quiet c.stands.ensures.0
          c.stands.ensures.1;
      clock = λ is. settled_clock once count old new settled (exact is) quiet;
      clock_reported = settled_known leads once count old new settled quiet c.stands.ensures.0
          c.stands.ensures.1;
      clock_promised = λ promised. settled_same_clock count old new settled
          (c.clocks_heal.ensures.clock new
          (c.clocks_heal.ensures.settled count old new settled promised) quiet);
      awaited = settled_awaited leads once count old new settled quiet c.stands.ensures.0
          c.stands.ensures.1;
      stays_exact = exact;
    }
