-- The ways out of a walk's functions, over plain lists and numbers.
use mathlib.Core.Path.{◌≡◌, refl, sym, ap, ◌∙◌}
use mathlib.Core.Bool.{Bool, true, false, not, ◌&&◌, ◌||◌, true≢false, false≢true}
use mathlib.Core.List.{List, [], ◌∷◌, ◌++◌, append-nil}
use Prim.Native.Nat.{ℕ, zero, suc, ◌+◌, ◌*◌, ◌-◌, ◌%◌, ◌<◌, ◌≤◌}
use native.Mathlib.Nat.{suc-ne-zero}
use native.Mathlib.Omega.{arith}
use Rattle.std.specs.Prelude.{Option, Some, None, IfSome}
use Rattle.std.specs.Option.{is_some}
use lib.Bits.{bit_xor}
use lib.Dec.{eqb, ltb}
use lib.ListN.{length, take, drop, get_or, drop_of_length-le, length-drop}
use lib.Seq.{take_all, drop-drop, length-take-le}
use borrow.Author.Tests.{lt-ltb, le-ltb, ne_eqb, ltb-false, eqb-true, not-true, not-false}
use borrow.Rule.Slice.PartMut.{put_mid}
use Rattle.answer.specs.Answer.{done, shape, room, size, not_record, waiting, pick, outside, wrong, first_of, on_done}
use Rattle.answer.specs.Laws.{both, clear, rows_pass, rows_stop, within}
use Rattle.octets.specs.Octets.{pair_at, written, written_at, longest_text}
use Rattle.rc4.specs.declared.Rc4.{Rc4}
use Rattle.std.specs.Prelude.{Ok, Result as Answered}
use Rattle.answer.specs.declared.Refusal.{Refusal}
use Rattle.answer.specs.Answer.{value_of}
use Rattle.rc4.specs.declared.Drawn.{Drawn}
use Rattle.rc4.specs.Cipher.{key_schedule, run, after}
use Rattle.rc4.specs.Answers.{draw_answer, run_answer, run_out}
use Rattle.rc4.proofs.Laws.{run_done}
use Rattle.mppe_keys.specs.Keys.{key_length, placed}
use Rattle.mppe_keys.specs.Answers.{placed_changes, placed_cipher}
use Rattle.mppe_keys.proofs.Laws.{key_most, changes_length}
use Rattle.mppe.specs.declared.Link.{Link}
use Rattle.mppe.specs.declared.Judged.{Judged}
use Rattle.mppe.specs.Link.{shortest_plain, longest_plain, front, farthest, well_formed, start_key_in, session_key_in, off_protocol, header_in, bit_a, lacks, changes_for, key_for, box_for, state_for, waited, judged_rows, judged}
use Rattle.mppe.proofs.Laws.{key_back}
use Rattle.mppe_pieces.specs.declared.Walk.{Walk}
use Rattle.mppe_pieces.specs.declared.Step.{Step}
use Rattle.mppe_pieces.specs.Walk.{over, over_with, on_with, begin_code, walk_of, begin_step, goes_on, opened, early, judged_off, feed_rows, feed_code, moved_on, walk_after, buffer_after, closes, feed_result, link_left, end_code, end_step}

-- what a walk that goes on has: a well-formed record, a total within its limits, and no more fed
pub goes_within : (limit far : ℕ) (w : Walk) → goes_on limit far w ≡ true
    → (well_formed w.link ≡ true) × (shortest_plain ≤ w.total) × (w.total ≤ limit) × (w.fed ≤ w.total)
unfolding goes_on
goes_within limit far w e =
    let rows : List (ℕ × Bool) = judged_rows limit far w.link w.header w.total in
    let (front, fed) = both (w.live && eqb (first_of rows) done) (not (ltb w.total w.fed)) e in
    let none : first_of rows ≡ done = eqb-true (first_of rows) done (both w.live (eqb (first_of rows) done) front).1 in
    let (low, high) = within shortest_plain limit w.total (clear shape rows refl none).0 in
    (not-false (well_formed w.link) (clear not_record rows refl none).0, low, high, ltb-false w.total w.fed (not-true (ltb w.total w.fed) fed))

-- whether a walk goes on: the key changes that it then has
pub record GoesOn (w : Walk) (r : Option ℕ) : Type 0 where
  pub is : r ≡ pick (goes_on longest_plain farthest w) (Some (changes_for w.link w.header)) None
  pub on : is_some r ≡ goes_on longest_plain farthest w
  pub fits : IfSome r (λ n. (shortest_plain ≤ w.total) × (w.total ≤ longest_plain) × (w.fed ≤ w.total))

all_hold : (w : Walk) → w.live ≡ true → first_of (judged_rows longest_plain farthest w.link w.header w.total) ≡ done → w.fed ≤ w.total
    → goes_on longest_plain farthest w ≡ true
unfolding goes_on
all_hold w live code fits = rw (live, code, le-ltb w.total w.fed fits)

pub goes_on_is : {j : Judged} (w : Walk) → j ≡ judged longest_plain farthest w.link w.header w.total → w.live ≡ true → j.answer ≡ done → w.fed ≤ w.total
    → GoesOn w (Some j.changes)
unfolding judged
goes_on_is {j = j} w ej live none fits =
    let rows : List (ℕ × Bool) = judged_rows longest_plain farthest w.link w.header w.total in
    let code : first_of rows ≡ done = sym (ap (λ (x : Judged). x.answer) ej) ∙ none in
    let on = all_hold w live code fits in
    let (well, low, high, _) = goes_within longest_plain farthest w on in
    let brought : j.changes ≡ changes_for w.link w.header = ap (λ (x : Judged). x.changes) ej ∙ rw well in
    record { is = rw (on, brought); on = sym on; fits = (low, high, fits) }

pub goes_off : {j : Judged} (w : Walk) → j ≡ judged longest_plain farthest w.link w.header w.total
    → (w.live && eqb j.answer done && not (ltb w.total w.fed)) ≡ false → GoesOn w None
unfolding judged
goes_off w ej off =
    let no : goes_on longest_plain farthest w ≡ false = unfold goes_on in rw ej at off in
    record { is = rw no; on = sym no; fits = tt }

-- the protocol number, judged by the piece that brings its second octet
pub judged_both : {e r : Bool} (w : Walk) (piece : List ℕ) → w.fed ≡ 0 → e ≡ early (w.fed + length piece) → e ≡ false
    → r ≡ off_protocol (run w.state piece) → r ≡ judged_off w piece
unfolding opened
judged_both w piece z e f off = rw (← e, f, z) off

pub judged_second : {e r : Bool} {d : Drawn} (w : Walk) (piece : List ℕ) → w.fed < 2 → (w.fed ≡ 0 → ⊥) → e ≡ early (w.fed + length piece) → e ≡ false
    → d ≡ draw_answer w.state → r ≡ outside 0x0021 0x00FA (w.first * 256 + bit_xor (get_or piece 0 0) d.octet) → r ≡ judged_off w piece
unfolding opened run
judged_second w [] h some e f ed off = absurd (omega (arith, ltb-false (w.fed + 0) 2 (sym e ∙ f)))
judged_second w (x ∷ xs) h some e f ed off =
    let one : w.fed ≡ 1 = omega arith in
    rw (← e, f, one) (off ∙ rw ed)

-- RC4 run over a text that fits, and the state that it leaves
pub run_fits : {r : Answered Rc4 Refusal} (s : Rc4) (text out : List ℕ) → r ≡ run_answer s text out → length text ≤ longest_text → length text ≤ length out
    → r ≡ Ok (after s text)
run_fits s text out e short fits = e ∙ (run_done s text out short fits).0

drawn_is : {r : Answered Rc4 Refusal} {x left : Rc4} → r ≡ Ok x → r ≡ Ok left → left ≡ x
drawn_is {x = x} e h = ap (value_of x) (sym h ∙ e)

-- the first two octets of a text decide
pub number_runs : {plain : List ℕ} {r : Bool} (s : Rc4) (text : List ℕ) → plain ≡ run_out s (take 2 text) (0 ∷ 0 ∷ [])
    → r ≡ outside 0x0021 0x00FA (get_or plain 0 0 * 256 + get_or plain 1 0) → 2 ≤ length text → r ≡ off_protocol (run s text)
unfolding run
number_runs s [] e er h = absurd (omega arith)
number_runs s (x ∷ []) e er h = absurd (omega arith)
number_runs s (x ∷ y ∷ text) e er h =
    er ∙ rw (e, (run_done s (x ∷ y ∷ []) (0 ∷ 0 ∷ []) (omega arith) (omega arith)).1)

-- what a feed that answers 0 had
pub feed_bounds : {code : ℕ} (w : Walk) (piece : List ℕ) (lent : ℕ) → code ≡ feed_code longest_plain farthest w piece lent → code ≡ done
    → (shortest_plain ≤ w.total) × (w.total ≤ longest_plain) × (w.total ≤ lent) × (w.fed + length piece ≤ w.total)
unfolding feed_code
feed_bounds w piece lent e z =
    let rows : List (ℕ × Bool) = feed_rows longest_plain farthest w piece lent in
    let zero = sym e ∙ z in
    let (well, low, high, fed) = goes_within longest_plain farthest w (not-false (goes_on longest_plain farthest w) (clear not_record rows refl zero).0) in
    (low, high, ltb-false lent w.total (clear room rows refl zero).0, ltb-false w.total (w.fed + length piece) (clear size rows refl zero).0)

-- a first octet that came alone
head_written : (s : Rc4) (piece : List ℕ) → get_or (written (run s piece) (0 ∷ [])) 0 0 ≡ get_or (run s piece) 0 0
unfolding run
head_written s [] = refl
head_written s (x ∷ xs) = refl

pub kept_is : {ran : Answered Rc4 Refusal} {left : Rc4} {plain : List ℕ} {first : ℕ} {r : Step} (w : Walk) (piece : List ℕ) → w.fed + length piece < 2
    → (ran ≡ run_answer w.state piece (0 ∷ [])) × (plain ≡ run_out w.state piece (0 ∷ [])) → ran ≡ Ok left
    → first ≡ pick (eqb w.fed 1) w.first (get_or plain 0 0)
    → r ≡ on_with done (moved_on w (w.fed + length piece) left first) → r ≡ on_with done (walk_after w piece)
unfolding opened
kept_is w piece few (er, ep) el ef e =
    let (state_is, out-is) = run_done w.state piece (0 ∷ []) (omega arith) (omega arith) in
    let left-is = drawn_is (er ∙ state_is) el in
    e ∙ rw (left-is, lt-ltb (w.fed + length piece) 2 few, ef, ep, out-is, head_written w.state piece, by (eqb w.fed 1))
  where
    by : (t : Bool) → pick t w.first (get_or (run w.state piece) 0 0) ≡ get_or (pick t (w.first ∷ []) [] ++ run w.state piece) 0 0
    by true = refl
    by false = refl

-- a refused feed leaves the buffer, and so does one that keeps what it opens
pub feed_refused : {r : Step} (code : ℕ) (w : Walk) (piece out : List ℕ) → code ≡ feed_code longest_plain farthest w piece (length out) → (code ≡ done → ⊥)
    → r ≡ on_with code (pick (closes code) (over w.link) w)
    → (r ≡ (feed_result longest_plain farthest w piece out).step) × (out ≡ (feed_result longest_plain farthest w piece out).buffer)
unfolding feed_result
feed_refused zero w piece out e some er = absurd (some refl)
feed_refused (suc n) w piece out e some er = rw (← e) (er, refl)

pub feed_kept : {code : ℕ} {e : Bool} {r : Step} (w : Walk) (piece out : List ℕ) → code ≡ feed_code longest_plain farthest w piece (length out) → code ≡ done
    → e ≡ early (w.fed + length piece) → e ≡ true → r ≡ on_with done (walk_after w piece)
    → (r ≡ (feed_result longest_plain farthest w piece out).step) × (out ≡ (feed_result longest_plain farthest w piece out).buffer)
unfolding feed_result
feed_kept w piece out c z e t er =
    let same : out ≡ buffer_after w piece out = rw (← e, t) in
    rw (← c, z) (er, same)

-- a first octet put in front, and the rest behind it
put_on : (fed first : ℕ) (text out : List ℕ)
    → written_at fed text (written (pick (eqb fed 1) (first ∷ []) []) out) ≡ written_at (pick (early fed) 0 fed) (pick (eqb fed 1) (first ∷ []) [] ++ text) out
put_on zero first text out = refl
put_on (suc zero) first text out = rw (drop-drop (length text) 1 out, one_more (length text))
  where
    one_more : (n : ℕ) → 1 + n ≡ suc n
    one_more n = omega arith
put_on (suc (suc n)) first text out =
    rw (ne_eqb (suc (suc n)) 1 (λ z. omega (arith, z)), le-ltb (suc (suc n)) 2 (omega arith))

-- what RC4 writes from a place on
run_behind : {ys : List ℕ} (s : Rc4) (fed : ℕ) (piece out₁ : List ℕ) → ys ≡ run_out s piece (take (length out₁ - fed) (drop fed out₁))
    → fed + length piece ≤ length out₁ → length piece ≤ longest_text → put_mid fed (length out₁ - fed) out₁ ys ≡ written_at fed (run s piece) out₁
run_behind s fed piece out₁ ey fits short =
    let long : length (drop fed out₁) ≡ length out₁ - fed = length-drop fed out₁ in
    let part : take (length out₁ - fed) (drop fed out₁) ≡ drop fed out₁ = take_all (length out₁ - fed) (drop fed out₁) (omega arith) in
    let rest : drop (length out₁ - fed) (drop fed out₁) ≡ [] = drop_of_length-le (drop fed out₁) {i = length out₁ - fed} (omega arith) in
    rw (ey, part, rest, (run_done s piece (drop fed out₁) short (omega arith)).1, append-nil)

-- the buffer with a first octet put is as long as before
pub first_long : {out₁ : List ℕ} (fed first : ℕ) (out : List ℕ) → out₁ ≡ written (pick (eqb fed 1) (first ∷ []) []) out → 1 ≤ length out → length out₁ ≡ length out
first_long fed first out e h = rw e (by (eqb fed 1) out h)
  where
    by : (t : Bool) (out : List ℕ) → 1 ≤ length out → length (written (pick t (first ∷ []) []) out) ≡ length out
    by true [] h = absurd (omega arith)
    by true (x ∷ out) h = refl
    by false out h = refl

-- a feed that writes: RC4 runs over its piece, which fits
pub feed_runs : {code : ℕ} {ran : Answered Rc4 Refusal} {out₁ : List ℕ} (w : Walk) (piece out : List ℕ)
    → code ≡ feed_code longest_plain farthest w piece (length out) → code ≡ done
    → out₁ ≡ written (pick (eqb w.fed 1) (w.first ∷ []) []) out
    → ran ≡ run_answer w.state piece (take (length out₁ - w.fed) (drop w.fed out₁)) → ran ≡ Ok (after w.state piece)
feed_runs {out₁ = out₁} w piece out c z eo er =
    let (low, high, roomy, fits) = feed_bounds w piece (length out) c z in
    let long = first_long w.fed w.first out eo (omega (arith, low, roomy)) in
    let part : List ℕ = take (length out₁ - w.fed) (drop w.fed out₁) in
    let part-long : length part ≡ length out₁ - w.fed =
    length-take-le (length out₁ - w.fed) (drop w.fed out₁) (omega (arith, length-drop w.fed out₁)) in
    run_fits w.state piece part er (omega (arith, high, fits)) (omega (arith, part-long, long, roomy, fits))

pub feed_written : {code : ℕ} {e : Bool} {r : Step} {ran : Answered Rc4 Refusal} {left : Rc4} {out₁ ys : List ℕ} (w : Walk) (piece out : List ℕ)
    → code ≡ feed_code longest_plain farthest w piece (length out) → code ≡ done → e ≡ early (w.fed + length piece) → e ≡ false
    → out₁ ≡ written (pick (eqb w.fed 1) (w.first ∷ []) []) out
    → (ran ≡ run_answer w.state piece (take (length out₁ - w.fed) (drop w.fed out₁)))
    × (ys ≡ run_out w.state piece (take (length out₁ - w.fed) (drop w.fed out₁)))
    → ran ≡ Ok left → r ≡ on_with done (moved_on w (w.fed + length piece) left 0)
    → (r ≡ (feed_result longest_plain farthest w piece out).step)
    × (put_mid w.fed (length out₁ - w.fed) out₁ ys ≡ (feed_result longest_plain farthest w piece out).buffer)
unfolding feed_result
feed_written {r = r} {out₁ = out₁} w piece out c z e f eo (en, ey) el er =
    let (low, high, roomy, fits) = feed_bounds w piece (length out) c z in
    let long = first_long w.fed w.first out eo (omega (arith, low, roomy)) in
    let left-is = drawn_is (feed_runs w piece out c z eo en) el in
    let walk_is : on_with done (moved_on w (w.fed + length piece) (after w.state piece) 0) ≡ on_with done (walk_after w piece) = rw (← e, f) in
    let step_is : r ≡ on_with done (walk_after w piece) = er ∙ rw left-is walk_is in
    let mid = run_behind w.state w.fed piece out₁ ey (omega (arith, long, roomy, fits)) (omega (arith, high, fits)) in
    let buffer-is : written_at (pick (early w.fed) 0 w.fed) (opened w piece) out ≡ buffer_after w piece out = rw (← e, f) in
    let put : written_at w.fed (run w.state piece) out₁ ≡ written_at (pick (early w.fed) 0 w.fed) (opened w piece) out =
    unfold opened in rw eo (put_on w.fed w.first (run w.state piece) out) in
    rw (← c, z) (step_is, mid ∙ put ∙ buffer-is)

-- the ways out of an end of a walk that goes on: its record would be ill formed, the data are not all there, or it is good
pub end_ill : {r : Step} {next : Link} (w : Walk) → goes_on longest_plain farthest w ≡ true → next ≡ link_left w → well_formed next ≡ false
    → r ≡ on_with not_record w → r ≡ end_step longest_plain farthest w
unfolding end_step end_code
end_ill w g en ill er = rw (g, ← en, ill) er

pub end_early : {r : Step} {next : Link} (w : Walk) → goes_on longest_plain farthest w ≡ true → next ≡ link_left w → well_formed next ≡ true → w.fed < w.total
    → r ≡ on_with shape (over w.link) → r ≡ end_step longest_plain farthest w
unfolding end_step end_code
end_early w g en well few er = rw (g, ← en, well, lt-ltb w.fed w.total few) er

pub end_good : {j : Judged} {next : Link} {ended : Walk} (w : Walk) → goes_on longest_plain farthest w ≡ true → next ≡ link_left w → well_formed next ≡ true
    → w.total ≤ w.fed → j ≡ judged longest_plain farthest w.link w.header w.total → ended ≡ over next
    → record { answer = done; changes = j.changes; walk = ended } ≡ end_step longest_plain farthest w
unfolding end_step end_code judged
end_good w g en well all ej ew =
    let (whole, low, high, fed) = goes_within longest_plain farthest w g in
    rw (g, ← en, well, le-ltb w.fed w.total all, ew, en, ej, whole)

-- the session key and the box that a packet is opened with, and those of a record that waits
pub key_made : {places : List ℕ} (l : Link) (h n : ℕ) → n ≡ changes_for l h → places ≡ placed_changes l.strength l.start l.session n → places ≡ placed (key_for l h)
unfolding placed_changes key_for
key_made l h n en e = e ∙ rw en

keyed_with : {places : List ℕ} (l : Link) (h : ℕ) → length l.session ≡ 16 → places ≡ placed (key_for l h)
    → placed_cipher l.strength places ≡ key_schedule (key_for l h)
unfolding placed_cipher
keyed_with l h full e = rw (e, key_back l.strength (key_for l h) long)
  where
    long : length (key_for l h) ≡ key_length l.strength
    long = unfold key_for in
        changes_length l.strength (start_key_in l) (changes_for l h) (session_key_in l)
        (length-take-le (key_length l.strength) l.session (omega (arith, full, key_most l.strength)))

pub state_made : {state : Rc4} {places : List ℕ} {fresh : Bool} (l : Link) (h n : ℕ) → length l.session ≡ 16 → n ≡ changes_for l h → places ≡ placed (key_for l h)
    → fresh ≡ (not (eqb n 0) || not (lacks bit_a h)) → state ≡ pick fresh (placed_cipher l.strength places) l.state → state ≡ state_for l h
unfolding state_for box_for
state_made l h n full en ep ef es = es ∙ rw (ef, keyed_with l h full ep, ← en) (by n (lacks bit_a h))
  where
    by : (n : ℕ) (lacks_a : Bool)
        → pick (not (eqb n 0) || not lacks_a) (key_schedule (key_for l h)) l.state
        ≡ pick lacks_a (on_done n l.state (key_schedule (key_for l h))) (key_schedule (key_for l h))
    by zero true = refl
    by zero false = refl
    by (suc n) true = rw (ne_eqb (suc n) 0 (suc-ne-zero n))
    by (suc n) false = rw (ne_eqb (suc n) 0 (suc-ne-zero n))

pub box_made : {state : Rc4} {places : List ℕ} (l : Link) (h n : ℕ) → length l.session ≡ 16 → n ≡ changes_for l h → places ≡ placed (key_for l h)
    → state ≡ pick (not (eqb n 0)) (placed_cipher l.strength places) l.state → state ≡ box_for l h
unfolding box_for
box_made l h n full en ep es = es ∙ rw (keyed_with l h full ep, ← en) (by n)
  where
    by : (n : ℕ) → pick (not (eqb n 0)) (key_schedule (key_for l h)) l.state ≡ on_done n l.state (key_schedule (key_for l h))
    by zero = refl
    by (suc n) = rw (ne_eqb (suc n) 0 (suc-ne-zero n))

-- a begin that answers 0, and one that answers 11
pub begun_is : {session : List ℕ} {state : Rc4} (l : Link) (h total : ℕ) → session ≡ placed (key_for l h) → state ≡ state_for l h
    → on_with done (record { live = true; link = l; header = h; session = session; state = state; total = total; fed = 0; first = 0 }) ≡ on_with done (walk_of l h total)
unfolding walk_of
begun_is l h total es ec = rw (es, ec)

pub waiting_is : {n : ℕ} {session : List ℕ} {state : Rc4} {next : Link} {walk : Walk} (l : Link) (h : ℕ) → n ≡ changes_for l h → session ≡ placed (key_for l h)
    → state ≡ box_for l h
    → next ≡ record { strength = l.strength; mode = l.mode; start = l.start; session = session; count = h % 4096; state = state; waiting = true }
    → walk ≡ over next → record { answer = waiting; changes = n; walk = walk } ≡ over_with (waited l h []).outcome
waiting_is l h en es ec el ew = rw (ew, el, ec, es, en)

-- the number of a begin: a wrong front, one that the record and the header decide, and the room
pub begin_front : {r : Step} {code : ℕ} {t : Bool} (l : Link) (four : List ℕ) (total lent : ℕ)
    → t ≡ (wrong front four || not (eqb (pair_at 0 four) 0x00FD)) → t ≡ true → code ≡ pick (well_formed l) shape not_record → r ≡ on_with code (over l)
    → r ≡ begin_step longest_plain farthest l four total lent
unfolding begin_step begin_code
begin_front {r} {code} l four total lent et t ec er =
    by (well_formed l) (wrong front four) (not (eqb (pair_at 0 four) 0x00FD)) refl refl refl (sym et ∙ t) (er ∙ rw ec)
  where
    by : (well a b : Bool) → well_formed l ≡ well → wrong front four ≡ a → not (eqb (pair_at 0 four) 0x00FD) ≡ b → a || b ≡ true
        → r ≡ on_with (pick well shape not_record) (over l) → r ≡ begin_step longest_plain farthest l four total lent
    by false a b ew ea eb some e = rw ew e
    by true true b ew ea eb some e = rw (ew, ea) e
    by true false true ew ea eb some e = rw (ew, ea, eb) e
    by true false false ew ea eb some e = absurd (false≢true some)

-- a right front
pub front_right : {t : Bool} (four : List ℕ) → t ≡ (wrong front four || not (eqb (pair_at 0 four) 0x00FD)) → t ≡ false
    → (wrong front four ≡ false) × (not (eqb (pair_at 0 four) 0x00FD) ≡ false)
front_right four et t = by (wrong front four) (not (eqb (pair_at 0 four) 0x00FD)) (sym et ∙ t)
  where
    by : (a b : Bool) → a || b ≡ false → (a ≡ false) × (b ≡ false)
    by true b e = absurd (true≢false e)
    by false b e = (refl, e)

-- behind it the number is the one judged, and then that of the room
begin_judged : (l : Link) (four : List ℕ) (total lent : ℕ) → wrong front four ≡ false → not (eqb (pair_at 0 four) 0x00FD) ≡ false
    → begin_code longest_plain farthest l four total lent
    ≡ first_of (judged_rows longest_plain farthest l (header_in four) total ++ (room, ltb lent total) ∷ [])
unfolding begin_code
begin_judged l four total lent ea eb = rw (ea, eb)

module _ {t : Bool} {h : ℕ} {j : Judged} (l : Link) (four : List ℕ) (total lent : ℕ)
    (et : t ≡ (wrong front four || not (eqb (pair_at 0 four) 0x00FD))) (right : t ≡ false) (eh : h ≡ header_in four)
    (ej : j ≡ judged longest_plain farthest l h total) where
  abbrev rows : List (ℕ × Bool)
  rows = judged_rows longest_plain farthest l (header_in four) total

  header_judged : j ≡ judged longest_plain farthest l (header_in four) total
  header_judged = ej ∙ ap (λ (n : ℕ). judged longest_plain farthest l n total) eh

  number : j.answer ≡ first_of rows
  unfolding judged
  number = ap (λ (x : Judged). x.answer) header_judged

  code_is : begin_code longest_plain farthest l four total lent ≡ first_of (rows ++ (room, ltb lent total) ∷ [])
  code_is = let (ea, eb) = front_right four et right in begin_judged l four total lent ea eb

  -- a number of the record and the header
  stopped : (j.answer ≡ done → ⊥) → begin_code longest_plain farthest l four total lent ≡ j.answer
  stopped some = code_is ∙ rows_stop rows ((room, ltb lent total) ∷ []) (λ z. some (number ∙ z)) ∙ sym number

  pub begin_refused : {r : Step} → (j.answer ≡ waiting → ⊥) → (j.answer ≡ done → ⊥) → r ≡ on_with j.answer (over l)
      → r ≡ begin_step longest_plain farthest l four total lent
  unfolding begin_step
  begin_refused {r} here some er = by j.answer (stopped some) here some er
    where
      by : (n : ℕ) → begin_code longest_plain farthest l four total lent ≡ n → (n ≡ waiting → ⊥) → (n ≡ done → ⊥) → r ≡ on_with n (over l)
          → r ≡ begin_step longest_plain farthest l four total lent
      by zero e here some er = absurd (some refl)
      by (suc n) e here some er = er ∙ rw (e, ne_eqb (suc n) waiting here)

  -- what a header that is judged brings
  pub begin_changes : (j.answer ≡ not_record → ⊥) → j.changes ≡ changes_for l h
  unfolding judged
  begin_changes some = ap (λ (x : Judged). x.changes) ej ∙ by (well_formed l) refl
    where
      by : (well : Bool) → well_formed l ≡ well → pick well (changes_for l h) 0 ≡ changes_for l h
      by true e = refl
      by false e = absurd (some (number ∙ rw e))

  pub begin_waits : {r : Step} → j.answer ≡ waiting → r ≡ over_with (waited l h []).outcome → r ≡ begin_step longest_plain farthest l four total lent
  unfolding begin_step
  begin_waits z er =
      let code : begin_code longest_plain farthest l four total lent ≡ waiting = stopped (λ q. omega (arith, q, z)) ∙ z in
      er ∙ rw (code, eh)

  -- and what it then has: a total within its limits
  pub begin_total : j.answer ≡ done → total ≤ longest_plain
  begin_total z = (within shortest_plain longest_plain total (clear shape rows refl (sym number ∙ z)).0).1

  passed : j.answer ≡ done → begin_code longest_plain farthest l four total lent ≡ first_of ((room, ltb lent total) ∷ [])
  passed z = code_is ∙ rows_pass rows ((room, ltb lent total) ∷ []) refl (sym number ∙ z)

  pub begin_room : {r : Step} → j.answer ≡ done → lent < total → r ≡ on_with room (over l) → r ≡ begin_step longest_plain farthest l four total lent
  unfolding begin_step
  begin_room z few er =
      let code : begin_code longest_plain farthest l four total lent ≡ room = passed z ∙ rw (lt-ltb lent total few) in
      er ∙ rw code

  pub begin_done : {r : Step} → j.answer ≡ done → total ≤ lent → r ≡ on_with done (walk_of l h total) → r ≡ begin_step longest_plain farthest l four total lent
  unfolding begin_step
  begin_done z roomy er =
      let code : begin_code longest_plain farthest l four total lent ≡ done = passed z ∙ rw (le-ltb lent total roomy) in
      er ∙ rw (code, eh)
