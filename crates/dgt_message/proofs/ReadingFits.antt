-- The reading of a code and a body is the message that fits them, or the fault of the body.
use Rattle.std.proofs.{Common.{◌≡◌, ℕ, ◌<◌, ◌-◌, ◌⊎◌, inl, inr, refl, List, [], ◌∷◌, length, drop, Option, Some, None, Result, Ok, Err, rules}}
use Rattle.std.{proofs.lemmas.List.Elements.{All-drop}, specs.{Option.{option_map_or}, Prelude.{◌↔◌, All, MatchOption, MatchResult, slice_index}, Result.{result_map_both}}}
use Rattle.dgt_message.specs.{Code.{HasSize, known_with}, Content.{Content, content, IsCarried}, Encoding.{Fits, Encodes}, Layout.{column_at, layout_of}, Reading.{IsFaultOf, IsFirstBad, Views}}
use Rattle.dgt_message.{specs.{Reading.{fault_of, reading, said_in}, declared.{message.Message.{Message}, viewing.BodyFault.{BodyFault}}}, proofs.AtMostOne.{one_message}}
use Rattle.dgt_message.proofs.{AtMostOne.{not_both}, BodyFits.{body_fits}, FirstBad.{first_bad_place-reports, place_fault}, Sizes.{AllowsBefore}}

-- the result is true of the code and the body
abbrev Says : ℕ → List ℕ → Result Content BodyFault → Type 0
Says code body r = MatchResult r (λ said. Fits said code body) (IsFaultOf code body)

-- the fault at the first bad place, or the message if there is none
abbrev message_or_fault : ℕ → List ℕ → Option ℕ → Result Content BodyFault
message_or_fault code body found =
    option_map_or (λ at. Err (fault_of (column_at code body at) at)) found
    (Ok (said_in (layout_of code body) code body))

-- the same is true of the fault at the first bad place, or of the message if there is none
by_place : (code : ℕ) (body : List ℕ) → code < 128 → IsCarried body → HasSize code body
    → (found : Option ℕ)
    → MatchOption found (AllowsBefore (layout_of code body) body (length body))
    (IsFirstBad code body) → Says code body (message_or_fault code body found)
by_place code body small carried size None h =
    body_fits (known_with code) code body small carried refl size h
by_place code body small carried size (Some at) h = place_fault code body at h

-- and of the reading
reading_says : (code : ℕ) (body : List ℕ) → code < 128 → IsCarried body
    → Says code body (reading code body)
unfolding reading
reading_says code body small carried = search (rules, by_place, first_bad_place-reports)

-- a message that fits is the reading
said_is : (code : ℕ) (body : List ℕ) (r : Result Content BodyFault) (said : Content)
    → Says code body r → Fits said code body → r ≡ Ok said
said_is code body r said h fits = search (rules, one_message, not_both)

-- the fault of a body is the reading
fault_is : (code : ℕ) (body : List ℕ) (r : Result Content BodyFault) (why : BodyFault)
    → Says code body r → IsFaultOf code body why → r ≡ Err why
fault_is code body r why h bad = search (rules, not_both)

-- the reading is a message exactly if it fits
pub reading-Ok : (code : ℕ) (body : List ℕ) (said : Content) → code < 128 → IsCarried body
    → (reading code body ≡ Ok said) ↔ Fits said code body
reading-Ok code body said small carried =
    let says = reading_says code body small carried in
    (λ e. rw e at says, said_is code body (reading code body) said says)

-- the reading is a fault exactly if it is one of the body
pub reading-Err : (code : ℕ) (body : List ℕ) (why : BodyFault) → code < 128 → IsCarried body
    → (reading code body ≡ Err why) ↔ IsFaultOf code body why
reading-Err code body why small carried =
    let says = reading_says code body small carried in
    (λ e. rw e at says, fault_is code body (reading code body) why says)

-- the reading is a message or a fault
pub some_reading : (code : ℕ) (body : List ℕ) → code < 128 → IsCarried body
    → ((said : Content) × Fits said code body) ⊎ ((why : BodyFault) × IsFaultOf code body why)
some_reading code body small carried =
    some (reading code body) (reading_says code body small carried)
  where
    some : (r : Result Content BodyFault) → Says code body r
        → ((said : Content) × Fits said code body) ⊎ ((why : BodyFault) × IsFaultOf code body why)
    some (Ok said) h = inl (said, h)
    some (Err why) h = inr (why, h)

-- a view is the reading
pub view_reads : (code : ℕ) (body : List ℕ) (r : Result Message BodyFault) → code < 128
    → IsCarried body → Views code body r
    → reading code body ≡ result_map_both content (λ why. why) r
view_reads code body (Ok message) small carried h =
    said_is code body (reading code body) (content message) (reading_says code body small carried) h
view_reads code body (Err why) small carried h =
    fault_is code body (reading code body) why (reading_says code body small carried) h

-- and the reading is a view
pub reads_view : (code : ℕ) (body : List ℕ) (r : Result Message BodyFault) → code < 128
    → IsCarried body → reading code body ≡ result_map_both content (λ why. why) r
    → Views code body r
reads_view code body (Ok message) small carried e =
    (reading-Ok code body (content message) small carried).0 e
reads_view code body (Err why) small carried e = (reading-Err code body why small carried).0 e

-- ---- Of whole encodings

-- bytes from the second on are seven-bit, so bytes from the fourth on are
third_on : (bytes : List ℕ) → All (λ byte. byte < 128) (drop 1 bytes)
    → All (λ byte. byte < 128) (drop 3 bytes)
third_on [] h = h
third_on (a ∷ bytes) h = All-drop (λ byte. byte < 128) 2 bytes h

-- a message is the reading of its encodings
pub encoded_is_read : (said : Content) (bytes : List ℕ) → Encodes said bytes
    → reading (slice_index bytes 0 - 128) (drop 3 bytes) ≡ Ok said
encoded_is_read said bytes h = search (rules, reading-Ok, third_on)
