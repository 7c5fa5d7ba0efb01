use Rattle.{std.proofs.{Common.{◌≡◌, ℕ, List, arith, take}, lemmas.List.{nil_from_length}}, dgt_values.specs.{Board.{square_number}, declared.{pieces.Piece.{Piece}, squares.Square.{Square}}}}
use Rattle.{dgt_message.specs.Content.Content.{field}, dgt_decode.specs.{Feeding.{IsWholeMessage}, Grammar.{Message, message_event}}, dgt_lines.proofs.EventLemmas.{first_whole, held_whole, some_of}}
use Rattle.dgt_lines.proofs.chunks.next_field.Goals as goal

-- the bytes are a field update that says this
abbrev IsField : List ℕ → Square × Piece → Type 0
IsField bytes reported =
    IsWholeMessage bytes
    × (message_event bytes ≡ Message (field (square_number reported.0) reported.1))

pub returns-clause-first : goal.returns-clause-first
returns-clause-first c = some_of _ (IsField (take 5 c.args.rest.now)) _ _
    (λ reported is. rw is.1 at (first_whole c.args.framer.now c.args.rest.now 5
    (nil_from_length _ (omega (arith, c.unfinished_len.ensures, c.if-unfinished_len-gt0.false)))
    (omega (arith, c.if-rest-lt-FIELD.false)) is.0)) c.field_update.ensures

pub returns-clause-held : goal.returns-clause-held
returns-clause-held c = some_of _ (IsField (take 5 c.args.rest.now)) _ _
    (λ reported is. held_whole c.args.framer.now c.args.rest.now 5
    (nil_from_length _ (omega (arith, c.unfinished_len.ensures, c.if-unfinished_len-gt0.false)))
    (omega (arith, c.if-rest-lt-FIELD.false)) is.0) c.field_update.ensures
