-- A body is a list of items, in one way only.
use Rattle.std.proofs.{Common.{◌≡◌, ◌⊎◌, inl, inr, ◌+◌, ◌/◌, ◌%◌, ◌-◌, ◌<◌, ◌≤◌, ℕ, zero, suc, List, [], ◌∷◌, length, refl, sym, ap, arith, rules}, Math.Decide.{ℕ_discrete}}
use Rattle.{dgt_message.specs.Reading.{piece_with_code, time_in}, dgt_stored.specs.{Stored.{Begins, IsFirst, IsKnown, Says, StoredContent, mark_byte}, declared.stored.Mark.{Mark}}}

-- ---- the first bytes of known items

-- a piece
abbrev PieceBegins : List ℕ → Type 0
PieceBegins (byte ∷ square ∷ later) = (0x40 ≤ byte) × ((byte < 0x60) × (square < 64))
PieceBegins _ = ⊥

abbrev IsSixty : ℕ → Type 0
IsSixty byte = (byte / 16 ≤ 5) × (byte % 16 ≤ 9)

-- a time
abbrev TimeBegins : List ℕ → Type 0
TimeBegins (hours ∷ minutes ∷ seconds ∷ later) =
    (0x60 ≤ hours) × ((hours < 0x80) × ((hours % 16 ≤ 9) × (IsSixty minutes × IsSixty seconds)))
TimeBegins _ = ⊥

-- one of these marks
abbrev MarkBegins : List Mark → ℕ → Type 0
MarkBegins [] byte = ⊥
MarkBegins (mark ∷ more) byte = (mark_byte mark ≡ byte) ⊎ MarkBegins more byte

abbrev all_marks : List Mark
all_marks =
    Mark.Nothing ∷ Mark.PowerUp ∷ Mark.End ∷ Mark.FourRows ∷ Mark.EmptyBoard ∷ Mark.Downloaded
    ∷ Mark.Begin ∷ Mark.TurnedBegin ∷ Mark.Tag ∷ Mark.Watchdog ∷ Mark.Erased ∷ []

-- ---- whether bytes have such a beginning

marked : (marks : List Mark) (byte : ℕ) → MarkBegins marks byte
    → (mark : Mark) × (mark_byte mark ≡ byte)
marked [] byte h = absurd h
marked (mark ∷ more) byte (inl is) = (mark, is)
marked (mark ∷ more) byte (inr h) = marked more byte h

is_piece : (bytes : List ℕ) → Dec (PieceBegins bytes)
is_piece (byte ∷ square ∷ later) = search rules
is_piece _ = no (λ h. h)

is_sixty : (byte : ℕ) → Dec (IsSixty byte)
is_sixty byte = search rules

is_time : (bytes : List ℕ) → Dec (TimeBegins bytes)
is_time bytes = search (rules, is_sixty)

is_mark : (marks : List Mark) (byte : ℕ) → Dec (MarkBegins marks byte)
is_mark [] byte = no (λ h. h)
is_mark (mark ∷ more) byte = search (rules, ℕ_discrete, is_mark more byte)

-- ---- the first item

abbrev First : List ℕ → Type 0
First bytes = (stored : StoredContent) × (later : List ℕ) × IsFirst bytes stored later

known_first : (bytes : List ℕ) (stored : StoredContent) (later : List ℕ) → IsKnown stored
    → Begins bytes stored later → First bytes
known_first bytes stored later known begins =
    (stored, later, record { begins = begins; known_first = λ other others is at. known })

unknown_first : (byte : ℕ) (later : List ℕ) → (PieceBegins (byte ∷ later) → ⊥)
    → (TimeBegins (byte ∷ later) → ⊥) → (MarkBegins all_marks byte → ⊥) → First (byte ∷ later)
unknown_first byte later no_piece no_time no_mark = (
  StoredContent.unknown byte,
  later,
  record { begins = record { in_range = tt; begins = refl }; known_first = unknown },
)
  where
    unknown : (other : StoredContent) (others : List ℕ) → IsKnown other
        → Begins (byte ∷ later) other others → ⊥
    unknown (StoredContent.unknown other) others known at = known
    unknown _ others known at = search rules

by_mark : (byte : ℕ) (later : List ℕ) → (PieceBegins (byte ∷ later) → ⊥)
    → (TimeBegins (byte ∷ later) → ⊥) → Dec (MarkBegins all_marks byte) → First (byte ∷ later)
by_mark byte later no_piece no_time (no no_mark) = unknown_first byte later no_piece no_time no_mark
by_mark byte later no_piece no_time (yes h) =
    let mark = marked all_marks byte h in
    known_first _ (StoredContent.mark mark.0) later tt
    (record { in_range = tt; begins = ap (λ first. first ∷ later) (sym mark.1) })

by_time : (byte : ℕ) (later : List ℕ) → (PieceBegins (byte ∷ later) → ⊥)
    → Dec (TimeBegins (byte ∷ later)) → First (byte ∷ later)
by_time byte later no_piece (no no_time) =
    by_mark byte later no_piece no_time (is_mark all_marks byte)
by_time byte (minutes ∷ seconds ∷ later) no_piece (yes h) =
    known_first _ (StoredContent.time (time_in byte minutes seconds)) later tt (search rules)
by_time byte _ no_piece (yes h) = absurd h

by_piece : (byte : ℕ) (later : List ℕ) → Dec (PieceBegins (byte ∷ later)) → First (byte ∷ later)
by_piece byte later (no no_piece) = by_time byte later no_piece (is_time (byte ∷ later))
by_piece byte [] (yes h) = absurd h
by_piece byte (square ∷ later) (yes h) =
    let said = StoredContent.piece square (piece_with_code (byte % 16)) ((byte - 0x40) / 16) in
    known_first _ said later tt (search rules)

-- ---- whole bodies

pub shorter : (bytes later : List ℕ) (stored : StoredContent) → IsFirst bytes stored later
    → length later + 1 ≤ length bytes
shorter bytes later stored first = search rules

pub read : (most : ℕ) (body : List ℕ) → length body ≤ most
    → (things : List StoredContent) × Says body things
read most [] short = ([], refl)
read zero (byte ∷ later) short = absurd (omega (arith, short))
read (suc most) (byte ∷ later) short =
    let first = by_piece byte later (is_piece (byte ∷ later)) in
    let rest = read most first.1 (omega (arith, short, shorter _ first.1 first.0 first.2)) in
    (first.0 ∷ rest.0, (first.1, first.2, rest.1))

module _
    (one : (bytes : List ℕ) (one other : StoredContent) (later others : List ℕ)
    → IsFirst bytes one later → IsFirst bytes other others → (one ≡ other) × (later ≡ others)) where
  pub one_list : (body : List ℕ) (things others : List StoredContent) → Says body things
      → Says body others → things ≡ others
  one_list body [] [] says also = refl
  one_list body (thing ∷ things) (other ∷ others) says also =
      let same = one body thing other says.0 also.0 says.1 also.1 in
      search (rules, one_list says.0 things others)
  one_list body _ _ says also = search rules
