use Rattle.{std.proofs.{Common.{◌≡◌, ◌<◌, ◌∙◌, ap, arith, get_or, length, map, rules, sym}, lemmas.{Grind.{same_number_lists}, List.{get_or-map, length-map}}}, dgt_values.specs.Bytes.{body_bytes}}
use Rattle.dgt_values.specs.{Bytes.{number}, declared.bytes.SevenBit.{SevenBit}}
use Rattle.dgt_message.proofs.viewing.seven_bits.Goals as goal

-- each byte is that of its place
pub returns : goal.returns
returns g c =
    let chunk = c.in-Ok.ensures.1 in
    let maps = c.map.ensures.items in
    let is : c.in-Ok.bytes.now ≡ body_bytes c.args.body = chunk.same ∙ c.bytes.ensures.bytes in
    let long : length c.map.result ≡ length (body_bytes c.args.body) =
    maps.long ∙ sym chunk.long ∙ ap length c.bytes.ensures.bytes in
    let zero_byte : SevenBit = record { value = 0; small = omega arith } in
    same_number_lists (map number c.map.result) (body_bytes c.args.body)
    (length-map c.map.result number ∙ long) (λ k less.
    let within : k < length c.map.result = omega (arith, length-map c.map.result number) in
    let small : get_or (body_bytes c.args.body) k 0 < 128 =
    c.args.body.seven_bit k 0 (omega (arith, long)) in
    let call = maps.at k 0 zero_byte (omega (arith, maps.long)) in
    let one : number (get_or c.map.result k zero_byte) ≡ get_or c.in-Ok.bytes.now k 0 =
    search rules in
    get_or-map number c.map.result k zero_byte 0 within ∙ rw is at one)
