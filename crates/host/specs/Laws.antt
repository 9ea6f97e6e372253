-- What follows from the definitions alone: calls on the octets of a record, and calls that are refused.
use Rattle.std.specs.Prelude.{◌≡◌, Bool, true, false, ◌≢◌, List, [], ◌++◌, eqb, length, take, replicate, Result as Answered, Ok, Err}
use Rattle.std.proofs.Math.Path.{refl}
use Rattle.std.proofs.Common.{sym, ap, ◌∙◌, append-nil, arith, drop_of_length-le, le-ltb}
use Prim.Native.Nat.{ℕ, zero, suc, ◌-◌, ◌≤◌}
use Rattle.answer.specs.declared.Refusal.{Refusal}
use Rattle.answer.specs.Answer.{number as number_of_refusal, done, shape, not_record, strength, waiting, pick, on_done}
use Rattle.answer.specs.Laws.{right}
use Rattle.octets.specs.Octets.{Octets}
use Rattle.mppe_keys.specs.declared.Strength.{Strength}
use Rattle.mppe_keys.specs.Keys.{by_mode, mode_if}
use Rattle.mppe.specs.declared.Link.{Link}
use Rattle.mppe.specs.Link.{Result, longest_plain, farthest, new_link, new_link_code, with_box, refusal, seal_code, seal_result, open_result, reset_code, reset_outcome}
use Rattle.mppe.proofs.Laws.{report_bound, open_answers, open_other}
use Rattle.mppe_record.specs.Record.{strength_of, no_strength, record_length, record_octets, record_read}
use Rattle.mppe_record.proofs.Laws.{Sized, record_octets_length, reads_back, writes_back, new_sized}
use Rattle.mppe_pieces.specs.declared.Walk.{Walk}
use Rattle.mppe_pieces.specs.declared.Step.{Step}
use Rattle.mppe_pieces.specs.Walk.{Fed, over, on_with, begin_step, closes, feed_result, end_step}
use Rattle.mppe_pieces.proofs.Laws.{calls}
use Rattle.mppe_walk.specs.Walk.{walk_length, walk_octets, front_read, walk_read}
use Rattle.mppe_walk.specs.Laws.{in_front_octets, front_kept, writes_back as walk-back, read_refused, over_octets}
use Rattle.tape.specs.Tape.{most_groups}
use Rattle.tape.specs.Replay.{held}
use Rattle.tape.proofs.ReplayLaws.{of_step}
use Rattle.host.specs.Host.{Given, Linked, given, new_link_given, linked_by, unchanged, on_read, linked, seal_linked, open_linked, reset_linked, walked_by, stepped, walked, feed_walked, end_walked, closed_octets, begin_walked, step_with, replay_linked}

-- a call on the octets of a record is the call on that record
pub linked_on : (call : Link → Result) (l : Link) (out : List ℕ) → Sized l → linked call (record_octets l) out ≡ linked_by (call l)
unfolding linked
linked_on call l out h = rw (reads_back l h)

-- a call that hands back the record given leaves its octets as they were
pub linked_kept : (call : Link → Result) (octets out : List ℕ) → Octets octets → ((l : Link) → record_read octets ≡ Ok l → (call l).outcome.link ≡ l)
    → (linked call octets out).octets ≡ octets
unfolding linked
linked_kept call octets out all same = go (record_read octets) refl
  where
    go : (read : Answered Link Refusal) → record_read octets ≡ read
        → (on_read (λ l. linked_by (call l)) (λ code. unchanged code octets out) read).octets ≡ octets
    go (Ok l) e = ap record_octets (same l e) ∙ writes_back octets all e
    go (Err refusal) e = refl

-- "Refusals 1 to 9 hand back the record given and change no lent octet", and so does 10; "No refusal but 11 changes a record": with the
-- numbers by which a call on records leaves all as it was ..
abbrev pub Refuses : (Stays : ℕ → Type 0) → (Link → Result) → List ℕ → Type 0
Refuses Stays call out = (l : Link) → Stays (call l).outcome.answer → call l ≡ refusal (call l).outcome.answer l out

-- .. the call on the record in lent octets does too
pub linked_refused : (Stays : ℕ → Type 0) (call : Link → Result) (octets out : List ℕ) → Refuses Stays call out → Octets octets
    → Stays (linked call octets out).code → linked call octets out ≡ unchanged (linked call octets out).code octets out
unfolding linked
linked_refused Stays call octets out refuses all = go (record_read octets) refl
  where
    made : Answered Link Refusal → Linked
    made read = on_read (λ l. linked_by (call l)) (λ code. unchanged code octets out) read

    go : (read : Answered Link Refusal) → record_read octets ≡ read → Stays (made read).code → made read ≡ unchanged (made read).code octets out
    go (Ok l) e stays = ap linked_by (refuses l stays) ∙ ap (λ o. unchanged (call l).outcome.answer o out) (writes_back octets all e)
    go (Err refusal) e stays = refl

-- seal and a Reset-Request are such calls with every number but 0 ..
abbrev NotDone : ℕ → Type 0
NotDone code = code ≢ done

pub seal_refused : (octets plain out : List ℕ) → Octets octets → (seal_linked octets plain out).code ≢ done
    → seal_linked octets plain out ≡ unchanged (seal_linked octets plain out).code octets out
unfolding seal_linked
seal_refused octets plain out = linked_refused NotDone (λ l. seal_result longest_plain l plain out) octets out each
  where
    each : Refuses NotDone (λ l. seal_result longest_plain l plain out) out
    each l = unfold seal_result in refuses (seal_code longest_plain l plain (length out)) _ refl
      where
        refuses : (code : ℕ) (r : Result) → r.outcome.answer ≡ done → NotDone (on_done code r (refusal code l out)).outcome.answer
            → on_done code r (refusal code l out) ≡ refusal (on_done code r (refusal code l out)).outcome.answer l out
        refuses zero r e stays = absurd (stays e)
        refuses (suc n) r e stays = refl

pub reset_refused : (octets request : List ℕ) → Octets octets → (reset_linked octets request).code ≢ done
    → reset_linked octets request ≡ unchanged (reset_linked octets request).code octets []
unfolding reset_linked
reset_refused octets request = linked_refused NotDone (λ l. record { outcome = reset_outcome l request; buffer = [] }) octets [] each
  where
    each : Refuses NotDone (λ l. record { outcome = reset_outcome l request; buffer = [] }) []
    each l = unfold reset_outcome in refuses (reset_code l request)
      where
        taken : ℕ → Result
        taken code =
            record {
              outcome = record { answer = code; changes = 0; link = on_done code (with_box l l.state (by_mode l.mode l.waiting true)) l };
              buffer = [];
            }

        refuses : (code : ℕ) → NotDone code → taken code ≡ refusal code l []
        refuses zero stays = absurd (stays refl)
        refuses (suc n) stays = refl

-- .. and open with every number but 0 and 11
abbrev NorWaiting : ℕ → Type 0
NorWaiting code = (code ≢ done) × (code ≢ waiting)

open_stays : (packet out : List ℕ) → Refuses NorWaiting (λ l. open_result longest_plain farthest l packet out) out
open_stays packet out l (not0, not11) =
    let answers = open_answers longest_plain farthest l packet out in
    open_other longest_plain farthest l packet out (λ z. not0 (answers ∙ z)) (λ z. not11 (answers ∙ z)) ∙ ap (λ code. refusal code l out) (sym answers)

pub open_refused : (octets packet out : List ℕ) → Octets octets → (open_linked octets packet out).code ≢ done → (open_linked octets packet out).code ≢ waiting
    → open_linked octets packet out ≡ unchanged (open_linked octets packet out).code octets out
unfolding open_linked
open_refused octets packet out all not0 not11 =
    linked_refused NorWaiting (λ l. open_result longest_plain farthest l packet out) octets out (open_stays packet out) all (not0, not11)

-- so is a step of a replay
pub replay_refused : (octets tape : List ℕ) (offset : ℕ) (out : List ℕ) → Octets octets → (replay_linked octets tape offset out).code ≢ done
    → (replay_linked octets tape offset out).code ≢ waiting
    → replay_linked octets tape offset out ≡ unchanged (replay_linked octets tape offset out).code octets out
unfolding replay_linked
replay_refused octets tape offset out all not0 not11 =
    linked_refused NorWaiting (λ l. (step_with l tape offset out).result) octets out each all (not0, not11)
  where
    each : Refuses NorWaiting (λ l. (step_with l tape offset out).result) out
    each l =
        of_step (λ r. NorWaiting r.outcome.answer → r ≡ refusal r.outcome.answer l out) most_groups longest_plain farthest (held l out) tape offset
        (λ code stays. refl) (λ packet. open_stays packet out l)

-- a refused call on a walk leaves it, or closes it by some of its numbers ..
abbrev pub Closes : (closing : ℕ → Bool) → (Walk → Fed) → List ℕ → Type 0
Closes closing call out =
    (w : Walk) → (call w).step.answer ≢ done
    → call w ≡ record { step = on_with (call w).step.answer (pick (closing (call w).step.answer) (over w.link) w); buffer = out }

-- .. and on the walk in lent octets it leaves them, or all but the record become 0; the buffer stays
pub walked_refused : (closing : ℕ → Bool) (call : Walk → Fed) (octets out : List ℕ) → closing not_record ≡ false → Closes closing call out → Octets octets
    → (walked call octets out).code ≢ done
    → walked call octets out ≡ unchanged (walked call octets out).code (pick (closing (walked call octets out).code) (closed_octets octets) octets) out
unfolding walked
walked_refused closing call octets out stays refuses all = go (walk_read octets) refl
  where
    made : Answered Walk Refusal → Linked
    made read = on_read (λ w. walked_by (call w)) (λ code. unchanged code octets out) read

    left : (held : Walk) → walk_read octets ≡ Ok held → (t : Bool) → walk_octets (pick t (over held.link) held) ≡ pick t (closed_octets octets) octets
    left held e true = over_octets held.link ∙ ap (λ f. f ++ replicate (walk_length - record_length) 0) (front_kept octets all e)
    left held e false = walk-back octets all e

    go : (read : Answered Walk Refusal) → walk_read octets ≡ read → (made read).code ≢ done
        → made read ≡ unchanged (made read).code (pick (closing (made read).code) (closed_octets octets) octets) out
    go (Ok held) e not0 =
        ap walked_by (refuses held not0)
        ∙ ap (λ o. unchanged (call held).step.answer o out) (left held e (closing (call held).step.answer))
    go (Err refusal) e not0 =
        let code : number_of_refusal refusal ≡ not_record = ap number_of_refusal (read_refused octets e) in
        ap (λ t. unchanged (number_of_refusal refusal) (pick t (closed_octets octets) octets) out) (sym (ap closing code ∙ stays))

-- a result of its parts
refused_is : (r : Fed) (w : Walk) (out : List ℕ) → r.step.changes ≡ 0 → r.step.walk ≡ w → r.buffer ≡ out
    → r ≡ record { step = on_with r.step.answer w; buffer = out }
refused_is r w out ec ew eo =
    ap (λ (n : ℕ). record { step = record { answer = r.step.answer; changes = n; walk = r.step.walk }; buffer = r.buffer }) ec
    ∙ ap (λ (v : Walk). record { step = on_with r.step.answer v; buffer = r.buffer }) ew
    ∙ ap (λ (o : List ℕ). record { step = on_with r.step.answer w; buffer = o }) eo

-- "A piece beyond the total is 3, .. these and a 4 close the walk"; 7 and 2 change nothing
pub feed_refused : (octets piece out : List ℕ) → Octets octets → (feed_walked octets piece out).code ≢ done
    → feed_walked octets piece out
    ≡ unchanged (feed_walked octets piece out).code (pick (closes (feed_walked octets piece out).code) (closed_octets octets) octets) out
unfolding feed_walked
feed_refused octets piece out = walked_refused closes (λ w. feed_result longest_plain farthest w piece out) octets out refl each
  where
    each : Closes closes (λ w. feed_result longest_plain farthest w piece out) out
    each w some =
        let (buffer-is, walk_is) = (calls longest_plain farthest).refused w piece out some in
        refused_is (feed_result longest_plain farthest w piece out) _ out ((calls longest_plain farthest).fed w piece out).1 walk_is buffer-is

-- "an end before it is 1", and closes the walk; 7 changes nothing
pub end_refused : (octets : List ℕ) → Octets octets → (end_walked octets).code ≢ done
    → end_walked octets ≡ unchanged (end_walked octets).code (pick (eqb (end_walked octets).code shape) (closed_octets octets) octets) []
unfolding end_walked
end_refused octets = walked_refused (λ (code : ℕ). eqb code shape) (λ w. stepped (end_step longest_plain farthest w)) octets [] refl each
  where
    each : Closes (λ (code : ℕ). eqb code shape) (λ w. stepped (end_step longest_plain farthest w)) []
    each w some =
        let (walk_is, none) = (calls longest_plain farthest).unended w some in
        refused_is (stepped (end_step longest_plain farthest w)) _ [] none walk_is refl

-- "a refused begin gives a closed walk", but for 11, which moves the record: on records ..
begin_closes : (l : Link) (four : List ℕ) (total lent : ℕ)
    → let s : Step = begin_step longest_plain farthest l four total lent in
    s.answer ≢ done → s.answer ≢ waiting → stepped s ≡ stepped (on_with s.answer (over l))
begin_closes l four total lent some other =
    let (link-is, none) = (calls longest_plain farthest).begun l four total lent other in
    let walk_is = (calls longest_plain farthest).closed l four total lent some ∙ ap over link-is in
    refused_is (stepped (begin_step longest_plain farthest l four total lent)) (over l) [] none walk_is refl

-- .. and on the record in front of lent octets, also where there is none
pub begin_refused : (octets four : List ℕ) (total lent : ℕ) → Octets octets → length octets ≡ walk_length
    → (begin_walked octets four total lent).code ≢ done → (begin_walked octets four total lent).code ≢ waiting
    → begin_walked octets four total lent ≡ unchanged (begin_walked octets four total lent).code (closed_octets octets) []
unfolding begin_walked
begin_refused octets four total lent all long = rw (right walk_length octets long) (go (front_read octets) refl)
  where
    begun : Link → Step
    begun l = begin_step longest_plain farthest l four total lent

    made : Answered Link Refusal → Linked
    made read = on_read (λ l. walked_by (stepped (begun l))) (λ code. unchanged code (closed_octets octets) []) read

    go : (read : Answered Link Refusal) → front_read octets ≡ read → (made read).code ≢ done → (made read).code ≢ waiting
        → made read ≡ unchanged (made read).code (closed_octets octets) []
    go (Ok l) e not0 not11 =
        let kept = writes_back (take record_length octets) (in_front_octets record_length octets all) e in
        ap walked_by (begin_closes l four total lent not0 not11)
        ∙ ap (λ o. unchanged (begun l).answer o []) (over_octets l ∙ ap (λ f. f ++ replicate (walk_length - record_length) 0) kept)
    go (Err refusal) e not0 not11 = refl

-- no report is above the farthest distance, whatever the record's octets and the packet or the tape are
linked_bound : (call : Link → Result) (octets out : List ℕ) → ((l : Link) → (call l).outcome.changes ≤ farthest) → (linked call octets out).changed ≤ farthest
unfolding linked
linked_bound call octets out bound = go (record_read octets)
  where
    go : (read : Answered Link Refusal) → (on_read (λ l. linked_by (call l)) (λ code. unchanged code octets out) read).changed ≤ farthest
    go (Ok l) = bound l
    go (Err refusal) = omega arith

pub open_report_bound : (octets packet out : List ℕ) → (open_linked octets packet out).changed ≤ farthest
unfolding open_linked
open_report_bound octets packet out = linked_bound _ octets out (λ l. report_bound longest_plain farthest l packet out)

pub replay_report_bound : (octets tape : List ℕ) (offset : ℕ) (out : List ℕ) → (replay_linked octets tape offset out).changed ≤ farthest
unfolding replay_linked
replay_report_bound octets tape offset out =
    linked_bound _ octets out λ l. of_step (λ r. r.outcome.changes ≤ farthest) most_groups longest_plain farthest (held l out) tape offset
    (λ code. omega arith) (λ packet. report_bound longest_plain farthest l packet out)

-- a result that fills the lent buffer
pub given_fits : (result out : List ℕ) → length result ≡ length out → given done result out ≡ record { code = done; buffer = result }
unfolding given
given_fits result out h =
    rw (le-ltb (length out) (length result) (omega arith), drop_of_length-le out {i = length result} (omega arith), append-nil)

pub given_whole : (code : ℕ) (result out : List ℕ) → length result ≡ length out → (given code result out).code ≡ done
    → (code ≡ done) × ((given code result out).buffer ≡ result)
unfolding given
given_whole zero result out h ok = (refl, ap (λ (g : Given). g.buffer) (given_fits result out h))
given_whole (suc n) result out h ok = absurd (omega arith)

-- a new link that answered 0 into 295 lent octets leaves the octets of its record there
pub new_whole : (bits : ℕ) (stateful : Bool) (start lent : List ℕ) → length lent ≡ record_length → (new_link_given bits stateful start lent).code ≡ done
    → ((new_link (strength_of bits) (mode_if stateful) start).answer ≡ done)
    × ((new_link_given bits stateful start lent).buffer ≡ record_octets (new_link (strength_of bits) (mode_if stateful) start).link)
unfolding new_link_given new_link
new_whole bits stateful start lent h ok =
    let s : Strength = strength_of bits in
    let l : Link = (new_link s (mode_if stateful) start).link in
    let all : length (record_octets l) ≡ length lent = record_octets_length l (new_sized s (mode_if stateful) start) ∙ sym h in
    let (code, whole) = given_whole (pick (no_strength bits) strength (new_link_code s start)) (record_octets l) lent all ok in
    (behind (no_strength bits) (new_link_code s start) code, whole)
  where
    behind : (t : Bool) (n : ℕ) → pick t strength n ≡ done → n ≡ done
    behind true n e = absurd (omega arith)
    behind false n e = e
