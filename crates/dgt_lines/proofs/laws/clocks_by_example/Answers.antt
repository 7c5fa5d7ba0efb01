use Rattle.{std.proofs.{Common.{arith, refl}, lemmas.Fmt.{decimal_digit}}, dgt_lines.specs.{Clocks.{clock_text, shown_times}, Lines.{shown_time}}}
use Rattle.dgt_lines.proofs.laws.clocks_by_example.Goals as goal

pub returns-clause-none : goal.returns-clause-none
unfolding clock_text shown_times shown_time
returns-clause-none c =
    rw (decimal_digit 0 (omega arith), decimal_digit 1 (omega arith), decimal_digit 2 (omega arith))
    refl

pub returns-clause-flags : goal.returns-clause-flags
unfolding clock_text shown_times shown_time
returns-clause-flags c =
    rw (decimal_digit 0 (omega arith), decimal_digit 1 (omega arith), decimal_digit 2 (omega arith))
    refl

pub returns-clause-none_is_connected : goal.returns-clause-none_is_connected
unfolding clock_text
returns-clause-none_is_connected c = λ absence. refl
