use Rattle.std.proofs.{Common.{◌<◌}, lemmas.List.{take_rest, drop-drop, Elements.{All-drop}}}
use Rattle.dgt_decode.proofs.framer.whole_message.Goals as goal

pub from_seven_bit-requires-clause-seven_bit : goal.from_seven_bit-requires-clause-seven_bit
from_seven_bit-requires-clause-seven_bit c =
    rw (take_rest c.args.bytes.now 3, ← drop-drop 2 1 c.args.bytes.now)
    (All-drop (λ byte. byte < 128) 2 _ c.requires.later)
