-- One stretch of faulty bytes among whole messages.
use Rattle.{std.proofs.Common.{◌≡◌, ◌≤◌, ◌+◌, Option, refl, ℕ, List, [], ◌∷◌, ◌++◌, map, option_to_list, arith, rules}, dgt_message.specs.Content.{Content}}
use Rattle.{dgt_decode.specs.Grammar.{unfinished_message}, dgt_host.specs.Confirmed.{ConfirmedIsReported, Passage, Whole, Faulty, StretchIsOne}}
use Rattle.{dgt_host.specs.Confirmed.{faults_after, faults_after_all, heard, sent}, dgt_follow.specs.Calls.{ConfirmedOverCalls, OneStretchIsSeen}}

abbrev one_line : List Content → Option Content → Option Content → List Content → List Passage
one_line [] meant heard after = Faulty meant heard ∷ map Whole after
one_line (m ∷ before) meant heard after = Whole m ∷ one_line before meant heard after

all_whole : (said : List Content) → (sent (map Whole said) ≡ said) × (heard (map Whole said) ≡ said)
all_whole [] = (refl, refl)
all_whole (m ∷ said) = search (rules, all_whole said)

line_is : (before after : List Content) (a b : Option Content)
    → (sent (one_line before a b after) ≡ before ++ option_to_list a ++ after)
    × (heard (one_line before a b after) ≡ before ++ option_to_list b ++ after)
line_is [] after a b = search (rules, all_whole after)
line_is (m ∷ before) after a b = search (rules, line_is before after a b)

whole_faults : (faults : ℕ) (said : List Content) → faults ≤ 1
    → faults_after_all faults (map Whole said) ≤ 1
whole_faults faults [] few = few
whole_faults faults (m ∷ said) few =
    whole_faults (faults_after faults (Whole m)) said (search rules)

line_faults : (faults : ℕ) (before after : List Content) (a b : Option Content) → faults ≤ 0
    → faults_after_all faults (one_line before a b after) ≤ 1
line_faults faults [] after a b none = whole_faults (faults + 1) after (omega (arith, none))
line_faults faults (m ∷ before) after a b none =
    line_faults (faults_after faults (Whole m)) before after a b (grind arith)

nothing_held : (unread : List ℕ) → unread ≡ [] → unfinished_message unread ≡ unread
unfolding unfinished_message
nothing_held unread none = rw none refl

pub one_stretch : StretchIsOne → ConfirmedIsReported → ConfirmedOverCalls → OneStretchIsSeen
one_stretch stretch is called follower calls reported before after bytes meant there are_before
    are_after whole
    unconfirmed right says stream restated confirmed =
    let line : List Passage = one_line before meant there after in
    let (all_sent, all_heard) = line_is before after meant there in
    let told = called follower calls (nothing_held follower.host.unread whole) in
    let few = line_faults 0 before after meant there (omega arith) in
    let same = is reported follower.host.picture line right few in
    search rules
