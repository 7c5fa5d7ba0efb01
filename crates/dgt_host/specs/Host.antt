-- How contracts see a host, how heard bytes change it, and what it sends.
use Rattle.std.specs.Prelude.{◌≡◌, ◌≢◌, ℕ, ◌<◌, ◌≤◌, nat_le, List, [], ◌∷◌, ◌++◌, length, drop, replicate, Option, Some, None, is_some, option_map, option_to_list, Result, Ok, Err, Bool, true, false, ◌&&◌, IsTrue, if◌then◌else◌, slice_get}
use Rattle.dgt_values.specs.declared.kinds.Kind.{Kind}
use Rattle.dgt_values.specs.declared.pieces.Piece.{Piece}
use Rattle.dgt_values.specs.declared.positions.Position.{Position}
use Rattle.dgt_values.specs.Board.{pieces_of}
use Rattle.dgt_message.specs.declared.clock.Clock.{Clock}
use Rattle.dgt_message.specs.Content.{Content, clock_seen, answered_kind}
use Rattle.dgt_message.specs.Clock.{ClockState}
use Rattle.dgt_message.specs.Picture.{clock_after, picture_after}
use Rattle.dgt_command.specs.Content.CommandContent.{Dump, UpdateBoard}
use Rattle.dgt_command.specs.Encoding.{command_encoding}
use Rattle.dgt_decode.specs.Grammar.{Event, Message, Placed, events, unfinished_message}
use Rattle.dgt_host.specs.declared.host.TheConstants.{MAX_AWAITED}
use Rattle.dgt_host.specs.declared.sending.SendFault.{SendFault}
use Rattle.dgt_host.specs.declared.sending.SendFault.TheVariants.{TooMany, NoRoom}

pub record HostView : Type 0 where
  pub picture : Option (List Piece)  -- the pieces of the board, once they are known
  pub clock : Option ClockState  -- the last report of the board's clock
  pub awaited : List Kind  -- the kinds of the awaited replies, the next one first
  pub unread : List ℕ  -- the bytes of an unfinished message

abbrev pub host_seen : Option Position → Option Clock → List Kind → List ℕ → HostView
host_seen picture clock awaited unread =
    record {
      picture = option_map pieces_of picture;
      clock = option_map clock_seen clock;
      awaited = awaited;
      unread = unread;
    }

-- a new host
abbrev pub new_host : HostView
new_host = record { picture = None; clock = None; awaited = []; unread = [] }

-- ---- hearing

abbrev pub is_same_kind : Kind → Kind → Bool
is_same_kind Kind.Dump Kind.Dump = true
is_same_kind Kind.Serial Kind.Serial = true
is_same_kind Kind.Trademark Kind.Trademark = true
is_same_kind Kind.Version Kind.Version = true
is_same_kind Kind.Battery Kind.Battery = true
is_same_kind Kind.LongSerial Kind.LongSerial = true
is_same_kind _ _ = false

-- the awaited replies after a message of this kind: the kind is removed if it is the first
abbrev pub awaited_after : List Kind → Option Kind → List Kind
awaited_after awaited None = awaited
awaited_after [] (Some kind) = []
awaited_after (first ∷ more) (Some kind) = if is_same_kind first kind then more else first ∷ more

-- a message of a kind that isn't the first awaited
abbrev pub IsUnasked : List Kind → Option Event → Type 0
IsUnasked awaited (Some (Message said)) =
    (kind : Kind) × (answered_kind said ≡ Some kind) × (slice_get awaited 0 ≢ Some kind)
IsUnasked awaited _ = ⊥

abbrev pub host_after_message : HostView → Content → HostView
host_after_message host said =
    record host {
      picture = picture_after host.picture said;
      clock = clock_after host.clock said;
      awaited = awaited_after host.awaited (answered_kind said);
    }

-- the host after an event: only a message changes it
abbrev pub host_after_event : HostView → Event → HostView
host_after_event host (Message said) = host_after_message host said
host_after_event host _ = host

abbrev pub host_after_events : HostView → List Placed → HostView
host_after_events host [] = host
host_after_events host (x ∷ more) = host_after_events (host_after_event host x.event) more

-- the host after it has heard these bytes
abbrev pub host_after : HostView → List ℕ → HostView
host_after host bytes =
    record (host_after_events host (events (host.unread ++ bytes))) {
      unread = unfinished_message (host.unread ++ bytes);
    }

-- hearing bytes in two chunks is the same as hearing them in one
abbrev pub HeardInChunks : Type 0
HeardInChunks =
    (host : HostView) (bytes more : List ℕ) →
    host_after (host_after host bytes) more ≡ host_after host (bytes ++ more)

-- ---- sending

-- a reply of this kind is to be awaited, and the list of awaited replies is full
abbrev pub awaits_too_many : HostView → Option Kind → Bool
awaits_too_many host kind = is_some kind && nat_le MAX_AWAITED (length host.awaited)

-- the host that awaits one more reply, if there is a kind
abbrev pub host_awaiting : HostView → Option Kind → HostView
host_awaiting host kind = record host { awaited = host.awaited ++ option_to_list kind }

-- the host that awaits nothing more
abbrev pub without_awaited : HostView → HostView
without_awaited host = record host { awaited = [] }

-- the bytes by which a host follows the board: the commands for updates and for a dump
abbrev pub follow_bytes : List ℕ
follow_bytes = command_encoding UpdateBoard ++ command_encoding Dump

-- the bytes of a restart: zeros, which complete any part of a command, and then the same
abbrev pub restart_bytes : List ℕ
restart_bytes = replicate 255 0 ++ follow_bytes

-- bytes that a host sends, and the kind of the reply that it then awaits
pub record Request : Type 0 where
  pub kind : Option Kind
  pub bytes : List ℕ

-- The bytes are written at the beginning of the slice, the rest of it is unchanged, and the kind is
-- awaited last. Or the list is full, or else the slice is too short for them; then nothing changes.
abbrev pub Sends : Request → HostView → HostView → List ℕ → List ℕ → Result ℕ SendFault → Type 0
Sends sent before after old new (Ok written) =
    (awaits_too_many before sent.kind ≡ false) × (written ≡ length sent.bytes)
    × (written ≤ length old) × (new ≡ sent.bytes ++ drop written old)
    × (after ≡ host_awaiting before sent.kind)
Sends sent before after old new (Err TooMany) =
    IsTrue (awaits_too_many before sent.kind) × (new ≡ old) × (after ≡ before)
Sends sent before after old new (Err (NoRoom need)) =
    (awaits_too_many before sent.kind ≡ false) × (need ≡ length sent.bytes) × (length old < need)
    × (new ≡ old) × (after ≡ before)
