-- A valid body of the right size means the message of its layout.
use Rattle.std.proofs.{Common.{◌≡◌, ℕ, suc, ◌<◌, ◌+◌, Bool, true, false, cond, refl, sym, ◌∙◌, List, [], ◌∷◌, length, map, arith, Option, Some, rules}, lemmas.Grind.{common_steps}}
use Rattle.{std.{proofs.lemmas.List.{length-map}, specs.Prelude.{All, slice_index}}, dgt_values.specs.Board.{piece_code}, dgt_message.specs.Clock.{IsMarked, SaysNoClock, is_marked, says_no_clock}}
use Rattle.dgt_message.specs.{Clock.{IsTime}, Code.{known_number, known_with}, Content.{IsCarried}, Encoding.{Fits}, Layout.{Layout, known_layout}, Reading.{Allows, piece_with_code, said_in, time_in}}
use Rattle.dgt_message.{specs.{Layout.Column.{hours, sixty}, declared.known.KnownCode.{KnownCode}}, proofs.{Absence.{absence_fits}, CodeLemmas.{found_number}, MessageIn.{piece_code-piece_with_code}}}
use Rattle.dgt_message.proofs.Sizes.{AllowsBefore, IsRightSize}

-- a body under this code means the message of this layout
abbrev FitsAs : KnownCode → Layout → List ℕ → Type 0
FitsAs code layout body = Fits (said_in layout (known_number code) body) (known_number code) body

-- codes below 16 are those of their pieces
codes_back : (body : List ℕ) → AllowsBefore Layout.dump body (length body)
    → body ≡ map piece_code (map piece_with_code body)
codes_back [] h = refl
codes_back (b ∷ body) h = rw (
  piece_code-piece_with_code b (h 0 (omega arith)),
  ← codes_back body (λ k l. h (suc k) (omega arith)),
) refl

-- 64 codes are a dump
dump_fits : (body : List ℕ) → length body + 3 ≡ 67 → AllowsBefore Layout.dump body (length body)
    → FitsAs KnownCode.Dump Layout.dump body
dump_fits body size h = search (rules, length-map, codes_back)

-- a square and a code are a field update
field_fits : (body : List ℕ) → length body + 3 ≡ 5 → AllowsBefore Layout.field body (length body)
    → FitsAs KnownCode.Field Layout.field body
field_fits body size h = grind (arith, common_steps)

-- three valid bytes are a time
time_is : (h m s : ℕ) → h < 128 → Allows hours h → Allows sixty m → Allows sixty s
    → IsTime (time_in h m s)
time_is h m s small a b c = (a, omega (arith, b.0, b.1), omega (arith, c.0, c.1), omega arith)

-- seven valid bytes, without a mark and with a clock, are times
times_fits : (body : List ℕ) → length body + 3 ≡ 10 → All (λ byte. byte < 128) body
    → says_no_clock (slice_index body 6) ≡ false
    → AllowsBefore Layout.times body (length body) → FitsAs KnownCode.Clock Layout.times body
times_fits (a ∷ b ∷ c ∷ d ∷ e ∷ f ∷ g ∷ []) size seven shown h =
    let at1 : Allows sixty b = h 1 (omega arith) in
    let at2 : Allows sixty c = h 2 (omega arith) in
    let at4 : Allows sixty e = h 4 (omega arith) in
    let at5 : Allows sixty f = h 5 (omega arith) in
    record {
      is_message = (
        time_is a b c (seven 0 0 (omega arith)) (h 0 (omega arith)) at1 at2,
        time_is d e f (seven 3 0 (omega arith)) (h 3 (omega arith)) at4 at5,
        seven 6 0 (omega arith),
        λ no. absurd (let k : true ≡ false = sym no ∙ shown in cc),
      );
      code_is = refl;
      encoded = grind arith;
    }
times_fits _ size seven shown h = absurd (omega arith)

-- seven bytes with a mark are an acknowledgement
ack_fits : (body : List ℕ) → length body + 3 ≡ 10 → All (λ byte. byte < 128) body
    → IsMarked body → FitsAs KnownCode.Clock Layout.ack body
ack_fits body size seven marked = search rules

-- seven bytes without a mark and without a clock are those of a board without one
none_fits : (body : List ℕ) → length body + 3 ≡ 10 → All (λ byte. byte < 128) body
    → is_marked body ≡ false → SaysNoClock (slice_index body 6)
    → FitsAs KnownCode.Clock Layout.no_clock body
none_fits body size seven unmarked set = search (rules, absence_fits)

-- seven valid bytes are a clock message, by their marks and then by their status
clock_fits : (body : List ℕ) → All (λ byte. byte < 128) body → (m : Bool) → is_marked body ≡ m
    → (s : Bool) → says_no_clock (slice_index body 6) ≡ s → length body + 3 ≡ 10
    → let layout : Layout = cond m Layout.ack (cond s Layout.no_clock Layout.times) in
    AllowsBefore layout body (length body) → FitsAs KnownCode.Clock layout body
clock_fits body seven m e s f size h = search (rules, ack_fits, none_fits, times_fits)

-- a valid body of the right size means the message of its layout
pub body_fits : (known : Option KnownCode) (code : ℕ) (body : List ℕ) → code < 128 → IsCarried body
    → known_with code ≡ known
    → IsRightSize known body → AllowsBefore (known_layout known body) body (length body)
    → Fits (said_in (known_layout known body) code body) code body
body_fits (Some KnownCode.Dump) code body small carried e size h =
    rw (found_number code KnownCode.Dump e) (dump_fits body size h)
body_fits (Some KnownCode.Clock) code body small carried e size h = search (rules, clock_fits)
body_fits (Some KnownCode.Field) code body small carried e size h = search (rules, field_fits)
body_fits _ code body small carried e size h = search rules
