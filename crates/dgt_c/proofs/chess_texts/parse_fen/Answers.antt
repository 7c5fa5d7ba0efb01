use Rattle.{std.proofs.Common.{◌<◌, arith, length}, dgt_c.proofs.ChessTextLemmas.{refused_after, refused_in_prefix}}
use Rattle.dgt_c.proofs.chess_texts.parse_fen.Goals as goal

pub returns-in-Err-Text : goal.returns-in-Err-Text
returns-in-Err-Text c =
    let prefix = c.ascii_prefix-prefix.ensures in
    refused_in_prefix _ _ _ _ prefix.within prefix.prefix prefix.there
    (rw c.in-Err-Text.field-0-is at c.in-Err-Text.ensures)

pub returns-in-Err-Impossible : goal.returns-in-Err-Impossible
returns-in-Err-Impossible c =
    let prefix = c.ascii_prefix-prefix.ensures in
    let less : length c.ascii_prefix-prefix.result.now < length c.args.text.now =
    omega (arith, prefix.within, c.if-prefix-text.false) in
    let h = rw c.in-Err-Impossible.field-0-is at c.in-Err-Impossible.ensures in
    refused_after _ _ less prefix.prefix (prefix.there less) (h.0, h.1, h.2, h.3, h.4, h.5, h.6)

pub returns-in-Ok : goal.returns-in-Ok
returns-in-Ok c =
    let prefix = c.ascii_prefix-prefix.ensures in
    let less : length c.ascii_prefix-prefix.result.now < length c.args.text.now =
    omega (arith, prefix.within, c.if-prefix-text.false) in
    refused_after _ _ less prefix.prefix (prefix.there less) (_, _, _, _, _, _, c.in-Ok.ensures)
