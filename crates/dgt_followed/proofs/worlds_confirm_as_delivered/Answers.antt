use Rattle.{std.proofs.Common.{refl}, dgt_followed.proofs.{HeardRuns.{are_calls, are_followed, confirmed_as_delivered, confirmed_is_reported, one_stretch_in_worlds}, Sent.{sent_is_reported}}}
use Rattle.dgt_followed.proofs.worlds_confirm_as_delivered.Goals as goal

pub returns-clause-followed : goal.returns-clause-followed
returns-clause-followed c = are_followed

pub returns-clause-calls : goal.returns-clause-calls
returns-clause-calls c = are_calls

pub returns-clause-confirmed : goal.returns-clause-confirmed
returns-clause-confirmed c = confirmed_as_delivered c.confirmed_as_heard.ensures.called

pub returns-clause-one_stretch : goal.returns-clause-one_stretch
returns-clause-one_stretch c = one_stretch_in_worlds c.one_stretch_is_seen.ensures

pub returns-clause-sent : goal.returns-clause-sent
returns-clause-sent c = sent_is_reported

pub returns-clause-reported : goal.returns-clause-reported
returns-clause-reported c = confirmed_is_reported c.one_stretch_is_seen.ensures sent_is_reported

pub returns-clause-stretch : goal.returns-clause-stretch
returns-clause-stretch c =
    λ reported before first last bytes meant heard first_are last_are says whole unconfirmed right.
    record {
      first = first;
      last = last;
      stretch = bytes;
      meant = meant;
      heard = heard;
      first_are = first_are;
      last_are = last_are;
      said_is = refl;
      bytes_are = refl;
      says = says;
      whole = whole;
      unconfirmed = unconfirmed;
      right = right;
    }
