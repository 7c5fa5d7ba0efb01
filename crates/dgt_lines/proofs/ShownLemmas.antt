-- Characters and the segments that show them.
use Rattle.{std.proofs.{Common.{◌≡◌, ℕ, ◌+◌, ◌⊎◌, Some, arith, slice_get, zero, suc, rules}}, dgt_values.specs.Segment.{IsShownBy, digit_segments}}
use Rattle.dgt_lines.specs.{CommandLaws.{EachCharacterIsShown, OthersAreQuestionMarks}, CommandWords.{shown_character}}

digit_is_shown : (i segments : ℕ) → slice_get digit_segments i ≡ Some segments
    → shown_character segments ≡ 48 + i
digit_is_shown zero segments e = grind arith
digit_is_shown (suc zero) segments e = grind arith
digit_is_shown (suc (suc zero)) segments e = grind arith
digit_is_shown (suc (suc (suc zero))) segments e = grind arith
digit_is_shown (suc (suc (suc (suc zero)))) segments e = grind arith
digit_is_shown (suc (suc (suc (suc (suc zero))))) segments e = grind arith
digit_is_shown (suc (suc (suc (suc (suc (suc zero)))))) segments e = grind arith
digit_is_shown (suc (suc (suc (suc (suc (suc (suc zero))))))) segments e = grind arith
digit_is_shown (suc (suc (suc (suc (suc (suc (suc (suc zero)))))))) segments e = grind arith
digit_is_shown (suc (suc (suc (suc (suc (suc (suc (suc (suc zero))))))))) segments e = grind arith
digit_is_shown (suc (suc (suc (suc (suc (suc (suc (suc (suc (suc i)))))))))) segments e =
    grind arith

pub each_character_is_shown : EachCharacterIsShown
each_character_is_shown = search (rules, digit_is_shown)

-- segments show the character that is printed for them, or a question mark is printed for them
shown_or_other : (segments : ℕ)
    → IsShownBy (shown_character segments) segments ⊎ (shown_character segments ≡ 63)
shown_or_other segments = grind arith

pub others_are_question_marks : OthersAreQuestionMarks
others_are_question_marks segments none = search (rules, shown_or_other)
