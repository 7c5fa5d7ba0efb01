-- The closing lines of a board and a host that agree.
use Rattle.{std.proofs.Common.{◌≡◌, ℕ, List, ◌++◌, ◌∙◌, ap, append_assoc, codes, rules}, dgt_values.specs.Placement.{placement_text}, dgt_lines.specs.Closing.{clock_text, closing_text, named_line}}
use Rattle.{dgt_lines.specs.Closing.{picture_text, quiet_text}, dgt_text.specs.Closing.{ClosingLinesAgree}}

-- a text that ends one line and the next
text-twice : (text : List ℕ)
    → (text ++ codes "\n") ++ named_line (codes "host") text
    ≡ text ++ codes "\nhost " ++ text ++ codes "\n"
text-twice text = search (rules, append_assoc, codes)

-- the first two lines if the picture is the position
pub closing_lines-agree : ClosingLinesAgree
unfolding closing_text
closing_lines-agree world quiet h =
    let placement = placement_text world.board.state.squares in
    let first = (placement ++ codes "\n") ++ named_line (codes "host") placement in
    let third = named_line (codes "hostclock") (clock_text world.host.clock) in
    let fourth = named_line (codes "quiet") (quiet_text quiet) in (
      third ++ fourth,
      ap
          (λ picture. named_line (codes "board") placement
          ++ named_line (codes "host") (picture_text picture) ++ third ++ fourth) h
          ∙ ap (λ l. codes "board " ++ l)
          (append_assoc first third fourth
          ∙ ap (λ l. l ++ (third ++ fourth)) (text-twice placement)),
    )
