use Rattle.{std.proofs.Common.{refl, sym}, dgt_c.proofs.GameLemmas.{saw, still_due}}
use Rattle.dgt_c.proofs.recogniser_calls.dgt_recogniser_see.Goals as goal

pub returns-in-Ok-see-clause-seen : goal.returns-in-Ok-see-clause-seen
returns-in-Ok-see-clause-seen c = λ _.
    let h = c.in-Ok-see.ensures in
    rw (sym c.get.ensures.value) (saw _ _ _ _ _ _ _ _ _ c.in-Ok.ensures c.in-Some.ensures
    (record {
      idle = h.idle.0 refl;
      shown = (h.shown refl).0;
      sure = h.sure refl;
      confirmed = (h.shown refl).1;
      running = h.running refl;
      since = h.since;
      changed = h.changed refl;
      sure_since = h.sure_since;
      behind = h.behind refl;
      astray = h.astray refl;
      line = h.seen refl;
      sure_line = h.sight refl;
      right = h.right;
      follows = h.follows;
      doubt = h.doubt refl;
      staying = h.staying;
      answers = h.answers refl;
      stands = h.stands;
      plans = h.plans refl;
      found = h.found;
      lost = h.lost;
      hopeless = h.hopeless;
      reads = h.reads;
      since_seen = h.since_seen;
    }))

pub returns-in-Err-see-clause-still_due : goal.returns-in-Err-see-clause-still_due
returns-in-Err-see-clause-still_due c = λ _.
    rw (sym c.get.ensures.value) (still_due c.args.now _ _ _ _ _ _ c.get.result.now
    c.in-Ok.ensures c.in-Some.ensures (λ idle. let e = c.in-Err-see.ensures.idle.1 idle in cc))
