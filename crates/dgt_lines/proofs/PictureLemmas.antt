-- Pictures that events set, one event after another.
use Rattle.std.proofs.{Common.{◌≡◌, ℕ, List, [], ◌∷◌, ◌++◌, Option, Some, None, refl, append_assoc, length, map, rules}, lemmas.{Grind.{flat_map-append, fold-append}}}
use Rattle.{std.specs.{List.{last_or}, Prelude.{fold}}, dgt_values.specs.declared.pieces.Piece.{Piece}, dgt_decode.specs.Grammar.{Event, Placed, events, unfinished_message}}
use Rattle.{dgt_decode.specs.Laws.{ChunksAdd}, dgt_lines.specs.{Lines.{events_after}, Pictures.{LastLineIsPicture, PlacedPicture, made_by, picture_after_event, picture_after_events}}}
use Rattle.dgt_lines.specs.Pictures.{picture_lines, picture_reported, pictures, pictures_text}

-- what more events make
pub made_by-append : {S A : Type 0} (after : S → Event → S) (made : ℕ → Event → S → List A)
    (before : S) (xs ys : List Placed)
    → made_by after made before (xs ++ ys) ≡ made_by after made before xs
    ++ made_by after made (fold (λ state x. after state x.event) before xs) ys
made_by-append after made before [] ys = refl
made_by-append after made before (x ∷ xs) ys =
    search (rules, append_assoc, made_by-append after made (after before x.event) xs ys)

-- the lines of more events
pub picture_lines-append : (before : Option (List Piece)) (xs ys : List Placed)
    → picture_lines before (xs ++ ys)
    ≡ picture_lines before xs ++ picture_lines (picture_after_events before xs) ys
picture_lines-append before xs ys = search (rules, made_by-append, flat_map-append)

-- ---- bytes, and a chunk after them

pub pictures_text-append : ChunksAdd → (bytes chunk : List ℕ)
    → pictures_text (bytes ++ chunk) ≡ pictures_text bytes ++ picture_lines (picture_reported bytes)
    (events_after (unfinished_message bytes) (length bytes) chunk)
pictures_text-append chunks bytes chunk = search (rules, picture_lines-append)

pub picture_reported-append : ChunksAdd → (bytes chunk : List ℕ)
    → picture_reported (bytes ++ chunk) ≡ picture_after_events (picture_reported bytes)
    (events_after (unfinished_message bytes) (length bytes) chunk)
picture_reported-append chunks bytes chunk = search (rules, fold-append)

-- ---- the last line

pub last_or-append : {A : Type 0} (o : Option A) (xs ys : List A)
    → last_or o (xs ++ ys) ≡ last_or (last_or o xs) ys
last_or-append o [] ys = refl
last_or-append o (x ∷ xs) ys = last_or-append (Some x) xs ys

abbrev pub pieces_set : List PlacedPicture → List (List Piece)
pieces_set xs = map (λ x. x.pieces) xs

pictures_last : (before : Option (List Piece)) (xs : List Placed)
    → last_or before (pieces_set (pictures before xs)) ≡ picture_after_events before xs
pictures_last before [] = refl
pictures_last before (x ∷ xs) =
    let after = picture_after_event before x.event in
    search (rules, pictures_last after xs)

pub last_line_is_picture : LastLineIsPicture
last_line_is_picture bytes = pictures_last None (events bytes)
