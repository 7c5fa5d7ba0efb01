-- Facts of a world by the state that it stands for.
use Rattle.{std.{specs.Prelude.{slice_get}, proofs.Common.{◌≡◌, refl, ◌∙◌, List, [], ◌∷◌, ◌++◌, Some, None, All, IsTrue, rules}}, dgt_values.specs.declared.kinds.Kind.{Kind}}
use Rattle.{dgt_message.specs.{Content.{Content, answered_kind}, Picture.{picture_after_all}}, dgt_command.specs.Laws.{EachDividesOnce}, dgt_board.specs.Sending.{pending_messages}}
use Rattle.{dgt_board.specs.State.{follows_clock, updates}, dgt_decode.specs.Grammar.{Event}, dgt_host.specs.Host.{IsUnasked}, dgt_link.specs.{Machine.{MachineState}, Promise.{IsPromised, IsQuiet}}}
use Rattle.dgt_link.{specs.{Sound.{IsExact, IsUnknownOr}, Stands.{AreEncoded, StandsFor}, View.{IsQuietWorld, WorldView}}, proofs.{Answering.{first_answer, never_unasked}, Quiet.{promised_picture}}}
use Rattle.dgt_link.proofs.Quiet.{quiet_awaited, quiet_clock, quiet_clock_reported, quiet_picture}

-- the picture to come, by the messages under way
pub world_fold : (world : WorldView) (x : MachineState) → StandsFor world x
    → IsUnknownOr (picture_after_all world.host.picture x.up)
    (Some world.board.state.reported_squares)
world_fold world x stands = rw (stands.picture, stands.board) stands.sound.picture

-- the replies arrive in the order of the awaited kinds
pub world_first_answer : (world : WorldView) (x : MachineState) (before later : List Content)
    (message : Content) (kind : Kind) → StandsFor world x → IsExact x
    → x.up ≡ before ++ message ∷ later → All (λ said. answered_kind said ≡ None) before
    → answered_kind message ≡ Some kind
    → (others : List Kind) × (world.host.awaited ≡ kind ∷ others)
world_first_answer world x before later message kind stands exact e none is =
    search (rules, first_answer)

pub world_never_unasked : (world : WorldView) (x : MachineState) (later : List Content)
    (message : Content) → StandsFor world x → IsExact x → x.up ≡ message ∷ later
    → ¬ (IsUnasked world.host.awaited (Some (Event.Message message)))
world_never_unasked world x later message stands exact e =
    rw stands.awaited (never_unasked x later message exact e)

nothing_encoded : (messages : List Content) → AreEncoded messages [] → messages ≡ []
nothing_encoded [] h = refl
nothing_encoded (message ∷ messages) h = cc

pub nothing_first : (messages : List Content) → slice_get messages 0 ≡ None → messages ≡ []
nothing_first [] h = refl
nothing_first (message ∷ rest) h = cc

-- a quiet world stands for a quiet state
pub quiet_state : EachDividesOnce → (world : WorldView) (x : MachineState) → StandsFor world x
    → IsQuietWorld world → IsQuiet x
quiet_state law world x stands quiet = record {
  up = nothing_encoded x.up (rw (quiet.unread, quiet.up) at stands.up);
  down = (law.1 [] x.down [] [] [] (rw (quiet.partial, quiet.down) at stands.down)
      (refl, rw quiet.partial at stands.partial)).0;
  pending = nothing_first (pending_messages x.board) (rw stands.board at quiet.pending);
}

module _ (law : EachDividesOnce) (world : WorldView) (x : MachineState) (stands : StandsFor world x)
    (quiet : IsQuietWorld world) where
  pub world_awaits_nothing : world.host.awaited ≡ []
  world_awaits_nothing =
      stands.awaited ∙ quiet_awaited x stands.sound (quiet_state law world x stands quiet)

  pub world_picture_reported : IsTrue (updates world.board.state.mode)
      → IsUnknownOr world.host.picture (Some world.board.state.squares)
  world_picture_reported asks = search (rules, quiet_picture, quiet_state)

  pub world_clock_reported : IsExact x → IsTrue (follows_clock world.board.state.mode)
      → world.host.clock ≡ Some world.board.state.clock
  world_clock_reported exact follows = search (rules, quiet_clock, quiet_state)

  pub world_clock_known : IsTrue (follows_clock world.board.state.mode)
      → IsUnknownOr world.host.clock (Some world.board.state.clock)
  world_clock_known follows = search (rules, quiet_clock_reported, quiet_state)

  pub world_picture : IsPromised x → world.host.picture ≡ Some world.board.state.squares
  world_picture promised = search (rules, promised_picture, quiet_state)
