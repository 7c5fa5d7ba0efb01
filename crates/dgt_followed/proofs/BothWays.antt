-- What a host notices, and what is at rest.
use Rattle.std.{proofs.{Common.{rules, ◌≡◌, ◌≢◌, ◌⊎◌, inr, refl, ℕ, List, [], ◌∷◌, true, false, arith}}, specs.Prelude.{◌↔◌, Contains}}
use Rattle.{dgt_values.specs.declared.kinds.Kind.{Kind}, dgt_board.specs.{State.{BoardState}, declared.replies.Reply.{Reply}}, dgt_link.specs.{Act.{ActContent}, Faults.{FaultyContent}}}
use Rattle.{dgt_link.specs.{Machine.{MachineState, Move}, View.{WorldView}}, dgt_followed.specs.{Followed.{FollowedStep, FollowedView, Happening}, Heard.{is_noticed}}}
use Rattle.dgt_followed.specs.Restated.{ActsAtRest, IsAtRest, SendsAtRest}

-- the acts that a host notices, besides deliveries
abbrev these : List FaultyContent
these = FaultyContent.Plain ActContent.Break ∷ FaultyContent.Plain ActContent.HostBreak
    ∷ FaultyContent.Restart ∷ FaultyContent.GiveUp ∷ []

a_notice : (act : FaultyContent) → is_noticed act ≡ true
    → ((count : ℕ) × (act ≡ FaultyContent.Plain (ActContent.ToHost count))) ⊎ Contains these act
a_notice (FaultyContent.Plain (ActContent.ToHost count)) is = search rules
a_notice (FaultyContent.Plain ActContent.Break) is = inr (0, omega arith, refl)
a_notice (FaultyContent.Plain ActContent.HostBreak) is = inr (1, omega arith, refl)
a_notice FaultyContent.Restart is = inr (2, omega arith, refl)
a_notice FaultyContent.GiveUp is = inr (3, omega arith, refl)
a_notice _ is = cc

pub noticed_is : (act : FaultyContent) → (is_noticed act ≡ true)
    ↔ (((count : ℕ) × (act ≡ FaultyContent.Plain (ActContent.ToHost count))) ⊎ Contains these act)
noticed_is act = (a_notice act, search rules)

-- the host knows and holds the same
abbrev HearsNothing : WorldView → WorldView → Type 0
HearsNothing before after =
    (after.host.picture ≡ before.host.picture) × (after.host.clock ≡ before.host.clock)
    × (after.host.unread ≡ before.host.unread)

pub unheard : (act : FaultyContent) (before after : FollowedView) → is_noticed act ≡ false
    → FollowedStep (Happening.Other act) before after → HearsNothing before.world after.world
unheard act before after none step = search rules

-- ---- at rest

pub acts_rest : (act : ActContent) (world : WorldView) → act ≢ ActContent.BoardSend
    → ActsAtRest act world
acts_rest act world other = search rules

pub moves_rest : (x : MachineState) (move : Move) → move ≢ Move.Reply → SendsAtRest x move
moves_rest x move other = search rules

pub reported_rests : (board : BoardState) (owed : List Reply)
    → board.squares ≡ board.reported_squares → IsAtRest board owed
reported_rests board owed same = search rules

pub others_rest : (board : BoardState) (reply : Reply) (later : List Reply)
    → reply ≢ Reply.Of Kind.Dump → IsAtRest board (reply ∷ later)
others_rest board reply later other = search rules
