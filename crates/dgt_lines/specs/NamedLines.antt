-- The lines of a board's messages with names: the text of an event, a colon, a space and the
-- meaning of the bytes that the message carries, as known from other programs.
use Rattle.std.specs.Prelude.{◌≡◌, ℕ, if◌then◌else◌, Option, Some, None, List, [], ◌∷◌, ◌++◌, codes, decimal, get_or, length, Result}
use Rattle.dgt_message.specs.declared.known.KnownCode.{KnownCode}
use Rattle.dgt_message.specs.Clock.{Times}
use Rattle.dgt_message.specs.Code.{known_with}
use Rattle.dgt_message.specs.Content.{Content}
use Rattle.dgt_message.specs.Content.Content.{times, ack, carried}
use Rattle.dgt_decode.specs.Grammar.{Event, Message, Placed, events, unfinished_message}
use Rattle.dgt_command.specs.declared.ids.KnownId.{KnownId}
use Rattle.dgt_names.specs.declared.battery.BatteryState.{BatteryState}
use Rattle.dgt_names.specs.declared.clock.Button.{Button}
use Rattle.dgt_names.specs.declared.clock.Signal.{Signal}
use Rattle.dgt_names.specs.Names.{IsBattery, IsSignal, IsText}
use Rattle.dgt_lines.specs.declared.faults.RunFault.{RunFault}
use Rattle.dgt_lines.specs.Clocks.{flags_text, has_bit, text_if}
use Rattle.dgt_lines.specs.CommandWords.{known_words}
use Rattle.dgt_lines.specs.Lines.{event_text, line, padded_decimal, unfinished_line}
use Rattle.dgt_lines.specs.Monitoring.{IsInSink}

-- ---- Texts

abbrev pub button_word : Button → List ℕ
button_word Button.Back = codes "back"
button_word Button.Plus = codes "plus"
button_word Button.Run = codes "run"
button_word Button.Minus = codes "minus"
button_word Button.Ok = codes "ok"

-- the word of `dgt ask` for a clock message
abbrev pub id_word : KnownId → List ℕ
id_word id = get_or (known_words id []) 0 []

unfoldable pub signal_text : Signal → List ℕ
signal_text (Signal.Done id) = id_word id ++ codes " done"
signal_text (Signal.Version main sub) =
    codes "version " ++ decimal main ++ codes "." ++ decimal sub
signal_text (Signal.Pressed button) = button_word button ++ codes " pressed"
signal_text Signal.Off = codes "switched off"
signal_text Signal.Ready = codes "ready"

-- if D1 is set, the lever is down on the left
abbrev pub lever_text : ℕ → List ℕ
lever_text status =
    if has_bit status 1 then codes "lever left down" else codes "lever right down"

unfoldable pub times_name : Times → List ℕ
times_name t =
    lever_text t.status
    ++ flags_text (codes ", first ") (codes "per move") (codes "flag fallen") t.first.flags
    ++ flags_text (codes ", second ") (codes "per move") (codes "flag fallen") t.second.flags

-- hours and minutes
abbrev pub span_text : (hours minutes : ℕ) → List ℕ
span_text hours minutes = decimal hours ++ codes ":" ++ padded_decimal 2 minutes

abbrev pub percent_text : Option ℕ → List ℕ
percent_text None = []
percent_text (Some percent) = decimal percent ++ codes " percent, "

abbrev pub left_text : (hours minutes : Option ℕ) → List ℕ
left_text (Some hours) (Some minutes) = span_text hours minutes ++ codes " left, "
left_text _ _ = []

-- unknown parts are omitted
unfoldable pub battery_text : BatteryState → List ℕ
battery_text state =
    percent_text state.percent ++ left_text state.hours_left state.minutes_left
    ++ codes "on " ++ span_text state.hours_on state.minutes_on
    ++ codes ", rested " ++ decimal state.days_resting ++ codes " days "
    ++ span_text state.hours_resting state.minutes_resting
    ++ text_if state.charging (codes ", ") (codes "charging")
    ++ text_if state.discharging (codes ", ") (codes "discharging")

-- ---- Names

-- the name is the text of the value for which `IsSaid` holds; there is none if it holds for none
abbrev pub IsTextOf : {A : Type 0} → (A → Type 0) → (A → List ℕ) → Option (List ℕ) → Type 0
IsTextOf {A} IsSaid text (Some name) = (said : A) × IsSaid said × (name ≡ text said)
IsTextOf {A} IsSaid text None = (said : A) → ¬ (IsSaid said)

-- the bytes, if they are a text
abbrev pub IsOwnText : List ℕ → Option (List ℕ) → Type 0
IsOwnText bytes (Some name) = IsText bytes × (name ≡ bytes)
IsOwnText bytes None = ¬ (IsText bytes)

abbrev pub HasCarriedName : Option KnownCode → List ℕ → Option (List ℕ) → Type 0
HasCarriedName (Some KnownCode.Serial) body name = IsOwnText body name
HasCarriedName (Some KnownCode.LongSerial) body name = IsOwnText body name
HasCarriedName (Some KnownCode.Trademark) body name = IsOwnText body name
HasCarriedName (Some KnownCode.Battery) body name = IsTextOf (IsBattery body) battery_text name
HasCarriedName _ body name = name ≡ None

abbrev pub HasName : Content → Option (List ℕ) → Type 0
HasName (times t) name = name ≡ Some (times_name t)
HasName (ack answer) name = IsTextOf (IsSignal answer.ack) signal_text name
HasName (carried code body) name = HasCarriedName (known_with code) body name
HasName _ name = name ≡ None

-- only messages have names
abbrev pub IsNamed : Event → Option (List ℕ) → Type 0
IsNamed (Message said) name = HasName said name
IsNamed _ name = name ≡ None

-- ---- Lines

abbrev pub name_text : Option (List ℕ) → List ℕ
name_text None = []
name_text (Some name) = codes ": " ++ name

abbrev pub named_line : Placed → Option (List ℕ) → List ℕ
named_line x name = line x.place (event_text x.event ++ name_text name)

-- a line for each event, with its name
abbrev pub AreNamedLines : List Placed → List ℕ → Type 0
AreNamedLines [] text = text ≡ []
AreNamedLines (x ∷ more) text =
    (name : Option (List ℕ)) × (rest : List ℕ) × IsNamed x.event name
    × (text ≡ named_line x name ++ rest) × AreNamedLines more rest

-- an acknowledgement with these four bytes, for laws
abbrev pub acknowledged : List ℕ → Event
acknowledged bytes = Message (ack (record { ack = bytes; status = 7 }))

-- what the sink contains if `monitor_names` read these bytes and returned this result: their lines,
-- and a last line for an unfinished message at the end
pub record AreMonitored {A : Type 0} (r : Result A RunFault) (bytes out : List ℕ) : Type 0 where
  pub text : List ℕ
  pub are : AreNamedLines (events bytes) text
  pub stands : IsInSink r text
      (text ++ unfinished_line (length bytes) (unfinished_message bytes)) out
