-- What is read of a move's text is the move.
use Rattle.std.{proofs.Common.{◌≡◌, ◌≢◌, ◌∙◌, ℕ, ◌%◌, ◌/◌, ◌<◌, Bool, true, false, not, nat_eq, if◌then◌else◌, List, [], ◌∷◌, ◌++◌, fold, refl, ap, rules}, specs.Prelude.{Option}}
use Rattle.{std.{specs.Prelude.{Some, None}, proofs.lemmas.{List.Sums.{fold-append}}}, dgt_values.specs.Board.{square_name}, dgt_chess.specs.declared.pieces.Man.{Man}}
use Rattle.dgt_chess.specs.{declared.{san.{Sign.{Sign}, Style.{Style}}, san_reader.Scan.{Scan}}, Attacks.{file}, San.{castling_letter, castling_text, file_letter, man_letter, ordinary_text}}
use Rattle.dgt_chess.specs.{San.{promotion_text, rank_digit, shown, sign_text}, Scanning.{scan, start, step, with_file, with_rank}}

then_part : (s t u : Scan) (xs ys : List ℕ) → fold step s xs ≡ t → fold step t ys ≡ u
    → fold step s (xs ++ ys) ≡ u
then_part s t u xs ys e f = fold-append step s xs ys ∙ ap (λ (v : Scan). fold step v ys) e ∙ f

-- the scans after each part of a text
abbrev after_man : Man → Scan
after_man man = record start { man = man }

abbrev after_file : Man → Bool → ℕ → Scan
after_file man by_file file =
    record start { man = man; has_file = by_file; file = if by_file then file else 0 }

abbrev after_rank : Man → Bool → ℕ → Bool → ℕ → Scan
after_rank man by_file file by_rank row = record start {
  man = man;
  has_file = by_file;
  file = if by_file then file else 0;
  has_rank = by_rank;
  row = if by_rank then row else 0;
}

abbrev after_takes : Man → Bool → ℕ → Bool → ℕ → Bool → Scan
after_takes man by_file file by_rank row takes = record start {
  man = man;
  has_file = by_file;
  file = if by_file then file else 0;
  has_rank = by_rank;
  row = if by_rank then row else 0;
  takes = takes;
}

abbrev after_goal : Man → Bool → ℕ → Bool → ℕ → Bool → ℕ → ℕ → Scan
after_goal man by_file from_file by_rank from_row takes file row = record start {
  man = man;
  has_file = true;
  by_file = by_file;
  from_file = if by_file then from_file else 0;
  file = file;
  has_rank = true;
  by_rank = by_rank;
  from_row = if by_rank then from_row else 0;
  row = row;
  takes = takes;
}

abbrev pub used_equals : Bool → Option Man → Bool
used_equals equals None = false
used_equals equals (Some new) = equals

scan_man : (m : Man) → fold step start (man_letter m) ≡ after_man m
scan_man m = search rules

scan_file : (m : Man) (b : Bool) (square : ℕ)
    → fold step (after_man m) (shown b (file_letter square)) ≡ after_file m b (square % 8)
scan_file m b square = search rules

scan_rank : (m : Man) (b : Bool) (file : ℕ) (c : Bool) (square : ℕ) → square < 64
    → fold step (after_file m b file) (shown c (rank_digit square))
    ≡ after_rank m b file c (square / 8)
scan_rank m b file c square small = search rules

scan_takes : (m : Man) (b : Bool) (file : ℕ) (c : Bool) (row : ℕ) (takes : Bool)
    → fold step (after_rank m b file c row) (shown takes 120) ≡ after_takes m b file c row takes
scan_takes m b file c row takes = search rules

scan_square : (s : Scan) (square : ℕ) → square < 64 → fold step s (square_name square)
    ≡ with_rank (with_file s (square % 8)) (square / 8)
scan_square s square small = search rules

scan_promotion : (s : Scan) (row : ℕ) (equals : Bool) (p : Option Man) → p ≢ Some Man.Pawn
    → s.equals ≡ false → s.promotion ≡ None → fold step (with_rank s row) (promotion_text equals p)
    ≡ record (with_rank s row) { equals = used_equals equals p; promotion = p }
scan_promotion s row equals p not_pawn e f = search rules

scan_sign : (s : Scan) (sign : Sign) → s.sign ≡ Sign.Neither → fold step s (sign_text sign)
    ≡ record s { sign = sign }
scan_sign s sign e = search rules

-- what is read of a text that is no castling's
abbrev pub ordinary_scan : Style → Man → Bool → ℕ → ℕ → Option Man → Scan
ordinary_scan style man takes from to promotion = record {
  man = man;
  has_file = true;
  by_file = style.by_file;
  from_file = if style.by_file then from % 8 else 0;
  file = to % 8;
  has_rank = true;
  by_rank = style.by_rank;
  from_row = if style.by_rank then from / 8 else 0;
  row = to / 8;
  takes = takes;
  equals = used_equals style.equals promotion;
  promotion = promotion;
  castles = false;
  zero = false;
  has_dash = false;
  is_long = false;
  sign = style.sign;
}

pub scan_ordinary : (style : Style) (man : Man) (takes : Bool) (from to : ℕ)
    (promotion : Option Man) → from < 64 → to < 64 → promotion ≢ Some Man.Pawn
    → scan (ordinary_text style man takes from to promotion ++ sign_text style.sign)
    ≡ ordinary_scan style man takes from to promotion
scan_ordinary style man takes from to promotion small small' not_pawn =
    let b = style.by_file in
    let c = style.by_rank in
    let M = man_letter man in
    let F = shown b (file_letter from) in
    let R = shown c (rank_digit from) in
    let X = shown takes 120 in
    let N = square_name to in
    let P = promotion_text style.equals promotion in
    let s1 = after_man man in
    let s2 = after_file man b (from % 8) in
    let s3 = after_rank man b (from % 8) c (from / 8) in
    let s4 = after_takes man b (from % 8) c (from / 8) takes in
    let s5 = after_goal man b (from % 8) c (from / 8) takes (to % 8) (to / 8) in
    let s6 : Scan = record s5 {
      equals = used_equals style.equals promotion;
      promotion = promotion;
    } in
    let s7 : Scan = record s6 { sign = style.sign } in
    let e2 : fold step start (M ++ F) ≡ s2 =
    then_part start s1 s2 M F (scan_man man) (scan_file man b from) in
    let e3 : fold step start ((M ++ F) ++ R) ≡ s3 =
    then_part start s2 s3 (M ++ F) R e2 (scan_rank man b (from % 8) c from small) in
    let e4 : fold step start (((M ++ F) ++ R) ++ X) ≡ s4 =
    then_part start s3 s4 ((M ++ F) ++ R) X e3 (scan_takes man b (from % 8) c (from / 8) takes) in
    let e5 : fold step start ((((M ++ F) ++ R) ++ X) ++ N) ≡ s5 =
    then_part start s4 s5 (((M ++ F) ++ R) ++ X) N e4 (scan_square s4 to small') in
    let e6 : fold step start (((((M ++ F) ++ R) ++ X) ++ N) ++ P) ≡ s6 =
    then_part start s5 s6 ((((M ++ F) ++ R) ++ X) ++ N) P e5
    (scan_promotion (with_file s4 (to % 8)) (to / 8) style.equals promotion not_pawn refl refl)
    in
    then_part start s6 s7 (((((M ++ F) ++ R) ++ X) ++ N) ++ P) (sign_text style.sign) e6
    (scan_sign s6 style.sign refl)

-- what is read of a castling's text
abbrev pub castling_scan : Bool → Bool → Sign → Scan
castling_scan zero is_short sign = record start {
  castles = true;
  zero = zero;
  has_dash = true;
  is_long = not is_short;
  sign = sign;
}

abbrev castling_by : ℕ → Bool → List ℕ
castling_by letter is_short = letter ∷ 45 ∷ letter ∷ (if is_short then [] else 45 ∷ letter ∷ [])

castles : (zero is_short : Bool) (sign : Sign)
    → fold step start (castling_by (castling_letter zero) is_short ++ sign_text sign)
    ≡ castling_scan zero is_short sign
castles zero is_short sign = search rules

pub scan_castling : (zero : Bool) (to : ℕ) (sign : Sign)
    → scan (castling_text (castling_letter zero) to ++ sign_text sign)
    ≡ castling_scan zero (nat_eq (file to) 6) sign
scan_castling zero to sign = castles zero (nat_eq (file to) 6) sign
