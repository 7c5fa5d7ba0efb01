-- What was written is read back.
use Rattle.{std.{proofs.Common.{ℕ, ◌<◌, ◌^◌, sym, subst, List, rules}, specs.Prelude.{Result}}, dgt_chess.specs.{declared.{fen.BadFen.{BadFen}, state.State.{State}}, Possible.{RefusedAreImpossible}}}
use Rattle.dgt_chess.{specs.{Rules.{board}, Fen.{ParsesFen, ReadsBack, SameBut, SameMoves, WritesFen}}, proofs.FenLaws.{Accepted, OnePlacement, one_fen, reads_back, written_fen}}
use Rattle.dgt_chess.proofs.SameMoves.{same_moves, same_parts, shown_from, shown_same, shown_to}

pub read_back : OnePlacement → Accepted → RefusedAreImpossible
    → (state : State) (text : List ℕ) (result : Result State BadFen)
    → state.half_moves < 2 ^ 16 → state.number < 2 ^ 16 → WritesFen state text
    → ParsesFen text result → ReadsBack state result
read_back law accepted refusal state text result few small (shown, is_shown, is) reads =
    let known = reads_back law accepted refusal state shown text result few small is_shown is reads
    in
    let new = known.0 in
    let same = known.2.same in
    let square = known.2.square in
    let P : Result State BadFen → Type 0 = λ r. ReadsBack state r in
    subst P (sym known.1) (
      same,
      same_moves state new (same_parts state new same)
          (λ can. sym (shown_to state new shown is_shown square can))
          (shown_from state new shown is_shown square),
      (shown, is_shown, sym square),
    )

pub written_once : OnePlacement → Accepted → (first second : State) (text : List ℕ)
    → first.half_moves < 2 ^ 16 → first.number < 2 ^ 16 → second.half_moves < 2 ^ 16
    → second.number < 2 ^ 16
    → WritesFen first text → WritesFen second text → SameBut first second × SameMoves first second
written_once law accepted a b text few small few' small' (s, is_shown, is) (s', is_shown', is') =
    let parts = one_fen law text (board a)
    (board b) a.turn b.turn a.rights b.rights s s' a.half_moves b.half_moves
    a.number b.number (written_fen accepted a s text few small is)
    (written_fen accepted b s' text few' small' is') in
    let same : SameBut a b = search rules in (
      same,
      same_moves a b (same_parts a b same) (shown_same a b s s' is_shown is_shown' parts.square)
          (shown_same b a s' s is_shown' is_shown (sym parts.square)),
    )
