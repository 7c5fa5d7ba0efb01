use Rattle.{std.proofs.Common.{rules}, hex.proofs.HexLemmas.{decode_of-ok}}
use Rattle.dgt_script.proofs.script_words.hex_bytes.Goals as goal

pub returns-in_err-bytes : goal.returns-in_err-bytes
returns-in_err-bytes c = search (rules, decode_of-ok)
