use Rattle.{std.{proofs.Common.{◌≡◌, ◌≢◌, ◌++◌, List, ℕ, [], arith, inl, inr, length, refl, suc, rules}, specs.{Fmt.{digits as decimal_digits}, Prelude.{codes, Ok}}}, hex.specs.Hex.{decode_of}}
use Rattle.{hex.specs.Hex.{decode_pairs}, dgt_ask.{specs.Asks.{HasBytes}, proofs.AskLemmas.{full}}}
use Rattle.dgt_ask.specs.declared.details.Detail.TheVariants as detail
use Rattle.dgt_ask.proofs.laws.details_ask.Goals as goal

-- the text of at least one byte is not a hyphen
no_hyphen : (digits bytes : List ℕ) → decode_of digits ≡ Ok bytes → digits ≢ codes "-"
no_hyphen digits bytes read e = grind (arith, read, e)

some_digits : (digits bytes : List ℕ) (n : ℕ) → decode_of digits ≡ Ok bytes → length bytes ≡ suc n
    → digits ≢ []
unfolding decode_pairs
some_digits digits bytes n read many e = grind (arith, read, many, e)

pub returns-clause-beep : goal.returns-clause-beep
unfolding decimal_digits
returns-clause-beep c = inr (detail.Beep, codes "255", refl, (255, omega arith, refl, refl))

pub returns-clause-display : goal.returns-clause-display
returns-clause-display c letters message sized shows =
    inr
    (detail.Display, letters, refl, inr (omega (arith, sized), rw (full 6 letters sized) shows))

pub returns-clause-display_bytes : goal.returns-clause-display_bytes
returns-clause-display_bytes c digits bytes read =
    inr (detail.Display, digits, refl, inl (bytes, read, refl))

pub returns-clause-text : goal.returns-clause-text
returns-clause-text c letters sized ascii =
    inr
    (detail.Text, letters, refl, inr (omega (arith, sized), ascii, rw (full 8 letters sized) refl))

pub returns-clause-text_bytes : goal.returns-clause-text_bytes
returns-clause-text_bytes c digits bytes read =
    inr (detail.Text, digits, refl, inl (bytes, read, refl))

pub returns-clause-icons : goal.returns-clause-icons
returns-clause-icons c digits bytes read many =
    let has : HasBytes digits bytes =
    inr (no_hyphen digits bytes read, some_digits digits bytes 251 read many, read) in
    inr (detail.Icons, digits, refl, (bytes, has, omega (arith, many), refl))

pub returns-clause-set_and_run : goal.returns-clause-set_and_run
returns-clause-set_and_run c digits bytes read =
    inr (detail.SetAndRun, digits, refl, (bytes, read, refl))

pub returns-clause-clock_message : goal.returns-clause-clock_message
unfolding decode_pairs
returns-clause-clock_message c digits bytes read many = inr (
  detail.ClockMessage,
  codes "fF " ++ digits,
  refl,
  (search (rules, no_hyphen, some_digits)),
)

pub returns-clause-other_size : goal.returns-clause-other_size
unfolding decode_pairs
returns-clause-other_size c = inr (
  detail.ClockMessage,
  codes "0b -",
  refl,
  (48, 98, codes "-", refl, refl, inl (refl, refl), omega arith, refl),
)

pub returns-clause-leds : goal.returns-clause-leds
returns-clause-leds c digits bytes read many =
    let has : HasBytes digits bytes =
    inr (no_hyphen digits bytes read, some_digits digits bytes 254 read many, read) in
    inr (detail.Leds, digits, refl, (has, omega (arith, many)))

pub returns-clause-no_leds : goal.returns-clause-no_leds
returns-clause-no_leds c = inr (detail.Leds, codes "-", refl, (inl (refl, refl), omega arith))
