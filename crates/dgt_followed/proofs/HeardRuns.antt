-- The happenings to a follower that records only what it hears are calls of it.
use Rattle.std.proofs.Common.{◌≡◌, ◌⊎◌, inl, inr, true, false, Option, Some, refl, sym, ap, ◌∙◌, ℕ, List, [], ◌∷◌, ◌++◌, append_assoc, append-nil, map, rules}
use Rattle.{dgt_values.specs.declared.kinds.Kind.{Kind}, dgt_message.specs.{Content.{Content}, Picture.{picture_after_all}}, dgt_host.specs.{Host.{HostView}}}
use Rattle.{dgt_host.specs.Host.{host_awaiting}, dgt_follow.specs.{Calls.{Call, ConfirmedOverCalls, OneStretchIsSeen, bytes_heard, follower_after_call, follower_after_calls}, Follower.{FollowerView}}}
use Rattle.{dgt_follow.specs.{Follower.{host_after_asking}, declared.asking.{Asking.{Asking}, UpdateMode.{UpdateMode}}}, dgt_link.specs.Faults.{FaultyContent}}
use Rattle.{dgt_link.specs.{Faults.{FaultyStep}, View.{WorldView}, declared.acts.Outcome.{Outcome}}, dgt_followed.specs.Followed.{FollowedRuns, FollowedView, RunsDone, asking_acts}}
use Rattle.dgt_followed.specs.{Followed.{follower_of}, Heard.{ConfirmedAsDelivered, ConfirmedIsReportedInWorlds, HappeningsAreCalls, HeardRuns, HeardStep, OneStretchIsSeenInWorlds, SentIsReported}}
use Rattle.dgt_followed.specs.Heard.{TimedHappening, bytes_by, happening_of, is_noticed}

-- ---- calls in a row

bytes_append : (calls more : List Call)
    → bytes_heard (calls ++ more) ≡ bytes_heard calls ++ bytes_heard more
bytes_append [] more = refl
bytes_append (Call.Hears now bytes ∷ calls) more =
    search (rules, append_assoc, bytes_append calls more)
bytes_append (call ∷ calls) more = bytes_append calls more

calls_append : (f : FollowerView) (calls more : List Call)
    → follower_after_calls f (calls ++ more)
    ≡ follower_after_calls (follower_after_calls f calls) more
calls_append f [] more = refl
calls_append f (call ∷ calls) more = calls_append (follower_after_call f call) calls more

-- calls that hear these bytes lead from one follower to the other
abbrev Leads : FollowerView → List ℕ → FollowerView → Type 0
Leads before bytes after =
    (calls : List Call) × (bytes_heard calls ≡ bytes) × (after ≡ follower_after_calls before calls)

in_a_row : (a b c : FollowerView) (bytes more : List ℕ) → Leads a bytes b → Leads b more c
    → Leads a (bytes ++ more) c
in_a_row a b c bytes more (calls, heard, e) (others, later, f) =
    (calls ++ others, search (rules, bytes_append), search (rules, calls_append))

-- ---- the host after its request

asked_host : (mode : UpdateMode) (what : Asking) (world after : WorldView)
    → RunsDone (asking_acts mode what) world after → after.host ≡ host_after_asking what world.host
asked_host mode what world after same = search (rules, append-nil)

-- ---- the host after any other act

-- an act that leaves the host as it is, or a command that it sends
abbrev IsLike : HostView → HostView → Type 0
IsLike before after =
    (after ≡ before) ⊎ ((kind : Option Kind) × (after ≡ host_awaiting before kind))

act_like : (act : FaultyContent) (world after : WorldView) (answer : Outcome)
    → is_noticed act ≡ false → FaultyStep act world answer after → IsLike world.host after.host
act_like act world after answer unseen step = search rules

act_leads : (before after : FollowedView) → IsLike before.world.host after.world.host
    → after.pace ≡ before.pace → Leads (follower_of before) [] (follower_of after)
act_leads before after (inl same) pace = ([], refl, rw (same, pace) refl)
act_leads before after (inr (kind, sent)) pace = (Call.Sends kind ∷ [], refl, rw (sent, pace) refl)

-- ---- all happenings

step_leads : (happening : TimedHappening) (before after : FollowedView)
    → HeardStep happening before after
    → Leads (follower_of before) (bytes_by happening before) (follower_of after)
step_leads (TimedHappening.Asks now) before after ((runs, pace, since, clock_since), notes) =
    (Call.Asks now ∷ [], refl, search (rules, asked_host))
step_leads (TimedHappening.Hears now count) before after (step, heard) =
    (Call.Hears now _ ∷ [], append-nil _, heard)
step_leads (TimedHappening.Sets call) before after (step, (sets, set)) =
    (call ∷ [], search rules, set)
step_leads (TimedHappening.Acts act) before after
    ((answer, step, keeps, since, clock_since), (unseen, pace)) =
    search (rules, act_leads, act_like)

pub are_calls : HappeningsAreCalls
are_calls [] said bytes before after (silent, none, same) = rw (none, same) ([], refl, refl)
are_calls (happening ∷ later) said bytes before after
    (between, more, rest, step, runs, sent, whole) =
    rw whole (in_a_row _ _ _ _ _ (step_leads happening before between step)
    (are_calls later more rest between after runs))

pub are_followed : (happenings : List TimedHappening) (said : List Content) (bytes : List ℕ)
    (before after : FollowedView) → HeardRuns happenings said bytes before after
    → FollowedRuns (map happening_of happenings) before after
are_followed [] said bytes before after (silent, none, same) = same
are_followed (happening ∷ later) said bytes before after
    (between, more, rest, step, runs, sent, whole) =
    (between, step.0, are_followed later more rest between after runs)

pub confirmed_as_delivered : ConfirmedOverCalls → ConfirmedAsDelivered
confirmed_as_delivered called happenings said bytes before after held runs =
    search (rules, are_calls)

pub one_stretch_in_worlds : OneStretchIsSeen → OneStretchIsSeenInWorlds
one_stretch_in_worlds stretch happenings sent said bytes before after reported is runs restated
    confirmed =
    let (calls, all, e) = are_calls happenings sent bytes before after runs in
    let sure : (follower_after_calls (follower_of before) calls).pace.confirmed ≡ true =
    rw (← e) confirmed in
    let again = rw is.said_is at restated in
    ap (λ (f : FollowerView). f.host.picture) e
    ∙ stretch (follower_of before) calls reported is.first is.last is.stretch is.meant is.heard
    is.first_are is.last_are is.whole is.unconfirmed is.right is.says (all ∙ is.bytes_are) again
    sure
    ∙ ap (λ (m : List Content). picture_after_all (Some reported) m) (sym is.said_is)

pub confirmed_is_reported : OneStretchIsSeen → SentIsReported → ConfirmedIsReportedInWorlds
confirmed_is_reported stretch reports happenings said bytes before after is powered runs restated
    confirmed =
    one_stretch_in_worlds stretch happenings said said bytes before after _ is runs restated
    confirmed ∙ sym (reports happenings said bytes before after powered runs)
