-- The laws for auditors proved, each in a line or two: what is proved elsewhere is cited.
use Rattle.std.specs.Prelude.{◌≡◌, refl, ℕ, ◌+◌, ◌%◌}
use Rattle.std.proofs.Common.{sym, ap, ◌∙◌, arith, take_at}
use mathlib.Core.List.{[], ◌∷◌, ◌++◌, flatten}
use Rattle.answer.specs.Answer.{done, waiting}
use Rattle.rc4.specs.declared.Rc4.{Rc4}
use Rattle.rc4.specs.Cipher.{key_schedule, run, after}
use Rattle.rc4.proofs.Laws.{run_cut, after_cut, run_twice}
use Rattle.mppe_keys.specs.Keys.{key_length, changes}
use Rattle.mppe_keys.specs.Answers.{placed_changes, placed_cipher}
use Rattle.mppe_keys.proofs.Laws.{changes_none, changes_add, reduced_twice}
use Rattle.mppe.specs.Link.{counts, start_key_in, session_key_in, changes_over, next_key, key_for, box_for}
use Rattle.mppe.proofs.Laws.{places_back, changed_back, well_parts, kept_own, boxes_add, changed_fits, renewed_well, endings_are, none_over, changes_over_add, counts_add, seal_done, open_done, open_waits, open_count, waits_stateful}
use Rattle.audit.proofs.Reports.{opens_alike}
use Rattle.audit.specs.Laws.{changed, brought_by, with_count, moved, run_each, after_each, KeyChangesAdd, RecordChangesAdd, StatelessBrought, StatefulBrought, BroughtAdd, RecordMovesAdd, MovedWell, SealMoves, OpenMoves, WaitMoves, NoKeyChange, NoRecordChange, NoMove, ReducingTwice, KeyTwice, BoxTwice, CutResult, CutBox, PiecesResult, PiecesBox, ReportsAdd, ScheduleAlone, ChangesAlone}

pub key_changes_add : KeyChangesAdd
key_changes_add s start session m n = changes_add s start m n session

pub record_changes_add : RecordChangesAdd
unfolding changed changes
record_changes_add l m n places =
    let keyed : ℕ → Rc4 = λ i. key_schedule (changes l.strength (start_key_in l) i (changes l.strength (start_key_in l) m (session_key_in l))) in
    rw (changed_back l m places, boxes_add l.mode l.state keyed m n, changes_add l.strength (start_key_in l) m n (session_key_in l))

pub stateless_brought : StatelessBrought
unfolding changes_over
stateless_brought l d mode = rw mode

pub stateful_brought : StatefulBrought
unfolding changes_over
stateful_brought l d mode = rw mode (endings_are l.count d)

pub brought_add : BroughtAdd
unfolding moved changed
brought_add l d e = changes_over_add l.mode l.count d e

pub record_moves_add : RecordMovesAdd
unfolding moved changed
record_moves_add l d e places =
    let all = record_changes_add l (brought_by d l) (brought_by e (moved d l)) places ∙ ap (λ n. changed n l) (brought_add l d e) in
    ap (with_count (changed (brought_by e (moved d l)) (moved d l))) (counts_add l.count d e) ∙ ap (λ r. with_count r ((l.count + (d + e)) % counts)) all

pub moved_well : MovedWell
unfolding moved changed
moved_well l d well = renewed_well l (brought_by d l) ((l.count + d) % counts) _ l.waiting well (omega arith) (changed_fits l (brought_by d l) _ well)

pub seal_moves : SealMoves
unfolding moved changed next_key
seal_moves limit l plain out e = rw (seal_done limit l plain out e) (refl, refl)

pub open_moves : OpenMoves
unfolding moved changed key_for
open_moves limit far l packet out e = rw (open_done limit far l packet out e, open_count limit far l packet out done e refl) (refl, refl)

pub wait_moves : WaitMoves
unfolding moved changed key_for box_for
wait_moves limit far l packet out e =
    rw (open_waits limit far l packet out e, open_count limit far l packet out waiting e refl, waits_stateful limit far l packet out e) ((refl, refl), refl, refl)

pub no_key_change : NoKeyChange
no_key_change s start session = changes_none s start session

pub no_record_change : NoRecordChange
unfolding changed changes
no_record_change l well places = rw (places_back l.strength l.session places (well_parts l well).2, kept_own l)

pub no_move : NoMove
unfolding moved
no_move l well places =
    let same : (l.count + 0) % counts ≡ l.count = omega (arith, (well_parts l well).0) in
    rw (none_over l.mode l.count, same, no_record_change l well places)

pub reducing_twice : ReducingTwice
reducing_twice s key = reduced_twice s key

pub key_twice : KeyTwice
key_twice key text = run_twice (key_schedule key) text

pub box_twice : BoxTwice
box_twice box text = run_twice box text

pub cut_result : CutResult
cut_result box front rest = sym (run_cut box front rest)

pub cut_box : CutBox
cut_box box front rest = sym (after_cut box front rest)

pub pieces_result : PiecesResult
unfolding run_each flatten run
pieces_result box [] = refl
pieces_result box (piece ∷ pieces) = ap (λ rest. run box piece ++ rest) (pieces_result (after box piece) pieces) ∙ cut_result box piece (flatten pieces)

pub pieces_box : PiecesBox
unfolding after_each flatten after
pieces_box box [] = refl
pieces_box box (piece ∷ pieces) = pieces_box (after box piece) pieces ∙ cut_box box piece (flatten pieces)

pub reports_add : ReportsAdd
reports_add limit far l p q a b half places behind opened = opens_alike limit far half l places p q a b opened behind

pub schedule_alone : ScheduleAlone
unfolding placed_cipher
schedule_alone s session rest long = ap key_schedule (take_at session rest (key_length s) long)

pub changes_alone : ChangesAlone
unfolding placed_changes
changes_alone s start rest session rest' n long long' = rw (take_at start rest (key_length s) long, take_at session rest' (key_length s) long')
