-- The claim proved: a walk after some data is a function of the data, and every feed goes from one such walk to the next.
use Rattle.std.specs.Prelude.{◌≡◌, ◌≢◌, Bool, not, ◌&&◌, ltb, take, drop, get_or}
use Rattle.std.proofs.Math.Path.{refl, ap, sym}
use Rattle.std.proofs.Common.{◌∙◌, true≢false, length-drop, drop-drop}
use Rattle.std.proofs.Math.Bool.{true, false}
use mathlib.Core.List.{List, [], ◌∷◌, ◌++◌, append_assoc, append-nil}
use Prim.Native.Nat.{ℕ, zero, suc, ◌+◌, ◌*◌, ◌<◌, ◌≤◌}
use Rattle.std.proofs.Math.Nat.{suc-ne-zero}
use native.Mathlib.Omega.{arith}
use Rattle.std.proofs.Math.Dec.{eqb}
use Rattle.std.proofs.Math.ListN.{length, length-append}
use Rattle.std.proofs.Math.Seq.{take-append_seam, drop-append_seam}
use borrow.Author.Tests.{ltb-true, ltb-false, lt-ltb, le-ltb, ne_eqb, eqb-true, not-false}
use Rattle.answer.specs.Answer.{done, shape, room, size, protocol, late, not_record, waiting, pick, outside, first_of, on_done}
use Rattle.answer.specs.Laws.{both, clear, rows_pass, rows_stop, rows_passed, within, right_length}
use Rattle.octets.specs.Octets.{written, written_at}
use Rattle.rc4.specs.declared.Rc4.{Rc4}
use Rattle.rc4.specs.Cipher.{run, after}
use Rattle.rc4.proofs.Laws.{run_length, run_cut, after_cut}
use Rattle.mppe_keys.specs.Keys.{placed}
use Rattle.mppe.specs.declared.Link.{Link}
use Rattle.mppe.specs.Link.{shortest_plain, front, well_formed, off_protocol, header_in, changes_for, away_for, key_for, state_for, plain_for, link_after, waited, refusal, header_rows, data_rows, open_code, open_result, judged_rows}
use Rattle.mppe.proofs.Laws.{changes_few, after_well, open_answers}
use Rattle.mppe_pieces.specs.declared.Walk.{Walk}
use Rattle.mppe_pieces.specs.Walk.{Fed, over, over_with, on_with, begin_rows, begin_code, walk_of, unbegun, begin_step, goes_on, opened, reached, early, judged_off, feed_code, walk_after, buffer_after, closes, feed_result, link_left, end_rows, end_code, end_step}
use Rattle.mppe_pieces.specs.Pieces.{joined, Left, feed_all, walked, outcome_in, result_of, Pieces, Calls}

-- a text that goes on behind its first two octets has the same protocol number
same_protocol : (s : Rc4) (d p : List ℕ) → early (length d) ≡ false → off_protocol (run s (d ++ p)) ≡ off_protocol (run s d)
unfolding run
same_protocol s [] p e = absurd (true≢false e)
same_protocol s (x ∷ []) p e = absurd (true≢false e)
same_protocol s (x ∷ y ∷ d) p e = refl

-- a result written behind another is both written together
written_on : (a b out : List ℕ) → written_at (length a) b (written a out) ≡ written (a ++ b) out
written_on a b out =
    rw (take-append_seam a (drop (length a) out), drop-append_seam a (drop (length a) out), drop-drop (length b) (length a) out, length-append a b, append_assoc a b (drop (length a + length b) out))

-- what holds of four octets holds of every list of that length
four_octets : (P : List ℕ → Type 0) → ((a b c d : ℕ) → P (a ∷ b ∷ c ∷ d ∷ [])) → (four : List ℕ) → length four ≡ front → P four
four_octets P all [] long = absurd (omega (arith, long))
four_octets P all (a ∷ []) long = absurd (omega (arith, long))
four_octets P all (a ∷ b ∷ []) long = absurd (omega (arith, long))
four_octets P all (a ∷ b ∷ c ∷ []) long = absurd (omega (arith, long))
four_octets P all (a ∷ b ∷ c ∷ d ∷ []) long = all a b c d
four_octets P all (a ∷ b ∷ c ∷ d ∷ e ∷ more) long = absurd (omega (arith, long))

module _ (limit far : ℕ) where
  -- a feed by its number
  step_is : (w : Walk) (p out : List ℕ) (code : ℕ) → feed_code limit far w p (length out) ≡ code
      → feed_result limit far w p out
      ≡ record { step = on_done code (on_with done (walk_after w p)) (on_with code (pick (closes code) (over w.link) w)); buffer = on_done code (buffer_after w p out) out }
  unfolding feed_result
  step_is w p out code e = rw e

  -- a run of feeds by its first one
  feed_one : (w : Walk) (out p : List ℕ) (ps : List (List ℕ)) (r : Fed) → feed_result limit far w p out ≡ r
      → feed_all limit far w out (p ∷ ps) ≡ feed_all limit far r.step.walk r.buffer ps
  unfolding feed_all
  feed_one w out p ps r e = rw e

  -- a walk that is over stays so
  over_feed : (l : Link) (p out : List ℕ) → feed_result limit far (over l) p out ≡ record { step = on_with not_record (over l); buffer = out }
  unfolding feed_result feed_code goes_on over
  over_feed l p out = refl

  over_all : (l : Link) (out : List ℕ) (ps : List (List ℕ)) → feed_all limit far (over l) out ps ≡ record { walk = over l; buffer = out }
  unfolding feed_all
  over_all l out [] = refl
  over_all l out (p ∷ ps) = rw (over_feed l p out) (over_all l out ps)

  over_end : (l : Link) → end_step limit far (over l) ≡ on_with not_record (over l)
  unfolding end_step end_code goes_on over
  over_end l = refl

  over_dead : (l : Link) → (over l).live ≡ false
  unfolding over
  over_dead l = refl

  over_link : (l : Link) → (over l).link ≡ l
  unfolding over
  over_link l = refl

  -- the walk of a packet with header h after data
  module _ (l : Link) (h total : ℕ) where
    abbrev state : Rc4
    state = state_for l h

    abbrev walk_at : List ℕ → Walk
    walk_at d =
        record {
          live = true;
          link = l;
          header = h;
          session = placed (key_for l h);
          state = after state d;
          total = total;
          fed = length d;
          first = pick (early (length d)) (get_or (run state d) 0 0) 0;
        }

    abbrev buffer_at : List ℕ → List ℕ → List ℕ
    buffer_at out d = pick (early (length d)) out (written (run state d) out)

    abbrev left_at : List ℕ → List ℕ → Left
    left_at out d = record { walk = walk_at d; buffer = buffer_at out d }

    -- both protocol octets, once there, were judged
    abbrev Carried : List ℕ → Type 0
    Carried d = early (length d) ≡ false → off_protocol (run state d) ≡ false

    -- what a piece opens to, in front and behind
    opened_front : (d p : List ℕ) → early (length d) ≡ true → opened (walk_at d) p ≡ run state (d ++ p)
    unfolding opened run after
    opened_front [] p e = refl
    opened_front (x ∷ []) p e = refl
    opened_front (x ∷ y ∷ d) p e = absurd (omega (arith, ltb-true (length (x ∷ y ∷ d)) 2 e))

    opened_behind : (d p : List ℕ) → early (length d) ≡ false → opened (walk_at d) p ≡ run (after state d) p
    unfolding opened
    opened_behind d p e = rw (ne_eqb (length d) 1 (λ z. omega (arith, ltb-false (length d) 2 e)))

    late_stays : (d p : List ℕ) → early (length d) ≡ false → early (length (d ++ p)) ≡ false
    late_stays d p e = le-ltb (length (d ++ p)) 2 (omega (arith, length-append d p, ltb-false (length d) 2 e))

    -- a piece that is taken: the walk and the buffer after it
    first_next : (d p : List ℕ) (t : Bool) → early (length d) ≡ t
        → pick (early (length (d ++ p))) (get_or (opened (walk_at d) p) 0 0) 0 ≡ pick (early (length (d ++ p))) (get_or (run state (d ++ p)) 0 0) 0
    first_next d p true e = rw (opened_front d p e)
    first_next d p false e = rw (late_stays d p e)

    walk_next : (d p : List ℕ) → walk_after (walk_at d) p ≡ walk_at (d ++ p)
    walk_next d p = rw (← length-append d p, ← after_cut state d p, first_next d p (early (length d)) refl)

    buffer_next : (out d p : List ℕ) (t : Bool) → early (length d) ≡ t → buffer_after (walk_at d) p (buffer_at out d) ≡ buffer_at out (d ++ p)
    buffer_next out d p true e = rw (opened_front d p e, ← length-append d p, e)
    buffer_next out d p false e =
        let on : written_at (length d) (run (after state d) p) (written (run state d) out) ≡ written (run state (d ++ p)) out =
        rw (← run_length state d, run_cut state d p) (written_on (run state d) (run (after state d) p) out) in
        rw (opened_behind d p e, ← length-append d p, e, late_stays d p e) on

    carried_next : (d p : List ℕ) → judged_off (walk_at d) p ≡ false → Carried d → Carried (d ++ p)
    carried_next d p off was = by (early (length d)) refl
      where
        by : (t : Bool) → early (length d) ≡ t → Carried (d ++ p)
        by true e = λ there. rw (opened_front d p e, ← length-append d p, e, there) at off
        by false e = λ there. same_protocol state d p e ∙ was e

    -- the walk that a good begin gives has no data yet
    walk_first : walk_of l h total ≡ walk_at []
    unfolding walk_of after run
    walk_first = refl

    -- what begin judged of the record, the header and the total
    module _ (judged : first_of (judged_rows limit far l h total) ≡ done) where
      abbrev rows : List (ℕ × Bool)
      rows = judged_rows limit far l h total

      two : 2 ≤ total
      two = (within shortest_plain limit total (clear shape rows refl judged).0).0

      goes : (d : List ℕ) → length d ≤ total → goes_on limit far (walk_at d) ≡ true
      unfolding goes_on
      goes d fits = rw (judged, le-ltb total (length d) fits)

      -- lent too little, nothing is fed
      short_all : (out : List ℕ) (ps : List (List ℕ)) → length out < total → feed_all limit far (walk_at []) out ps ≡ record { walk = walk_at []; buffer = out }
      unfolding feed_all
      short_all out [] few = refl
      short_all out (p ∷ ps) few =
          let code : feed_code limit far (walk_at []) p (length out) ≡ room = unfold feed_code in rw (goes [] (omega arith), lt-ltb (length out) total few) in
          rw (step_is (walk_at []) p out room code) (short_all out ps few)

      -- the end of a walk after data
      end_code_lem : (d : List ℕ) → length d ≤ total → end_code limit far (walk_at d) ≡ first_of ((shape, ltb (length d) total) ∷ [])
      unfolding end_code
      end_code_lem d fits = rw (goes d fits, after_well l h d (not-false (well_formed l) (clear not_record rows refl judged).0))

      short_end : end_code limit far (walk_at []) ≡ shape
      short_end = end_code_lem [] (omega arith) ∙ rw (lt-ltb 0 total (omega (arith, two)))

      whole_end : (d : List ℕ) → length d ≡ total → end_code limit far (walk_at d) ≡ done
      whole_end d long = end_code_lem d (omega (arith, long)) ∙ rw (le-ltb (length d) total (omega (arith, long)))

      -- the buffer is as long as before, or longer
      room_stays : (out d : List ℕ) (t : Bool) → early (length d) ≡ t → total ≤ length out → total ≤ length (buffer_at out d)
      room_stays out d true e roomy = rw e roomy
      room_stays out d false e roomy =
          rw e (omega (arith, roomy, length-append (run state d) (drop (length (run state d)) out), length-drop (length (run state d)) out))

      -- a feed that is not refused by 7 or 2
      feed_is : (out d p : List ℕ) → length d ≤ total → total ≤ length out
          → feed_code limit far (walk_at d) p (length (buffer_at out d)) ≡ first_of ((size, ltb total (reached (walk_at d) p)) ∷ (protocol, judged_off (walk_at d) p) ∷ [])
      unfolding feed_code
      feed_is out d p fits roomy = rw (goes d fits, le-ltb (length (buffer_at out d)) total (room_stays out d (early (length d)) refl roomy))

      -- what is to be shown of a walk's pieces: where it is live after them every one was taken
      abbrev Taken : List ℕ → List ℕ → List (List ℕ) → Type 0
      Taken out d ps =
          length d ≤ total → Carried d → (feed_all limit far (walk_at d) (buffer_at out d) ps).walk.live ≡ true
          → (feed_all limit far (walk_at d) (buffer_at out d) ps ≡ left_at out (d ++ joined ps)) × (length (d ++ joined ps) ≤ total) × Carried (d ++ joined ps)

      -- a feed that closes the walk
      closed_ends : (out d p : List ℕ) (ps : List (List ℕ)) (code : ℕ) → closes code ≡ true → on_done {A = Bool} code true false ≡ false
          → feed_code limit far (walk_at d) p (length (buffer_at out d)) ≡ code
          → (feed_all limit far (walk_at d) (buffer_at out d) (p ∷ ps)).walk.live ≡ false
      closed_ends out d p ps zero shuts some e = absurd (true≢false some)
      closed_ends out d p ps (suc n) shuts some e =
          let one : feed_result limit far (walk_at d) p (buffer_at out d) ≡ record { step = on_with (suc n) (over l); buffer = buffer_at out d } =
          step_is (walk_at d) p (buffer_at out d) (suc n) e ∙ rw shuts in
          rw (feed_one (walk_at d) (buffer_at out d) p ps _ one, over_all l (buffer_at out d) ps) (over_dead l)

      -- a piece that is taken
      taken : (out d p : List ℕ) → total ≤ length out → length d ≤ total → ltb total (reached (walk_at d) p) ≡ false → judged_off (walk_at d) p ≡ false
          → feed_result limit far (walk_at d) p (buffer_at out d) ≡ record { step = on_with done (walk_at (d ++ p)); buffer = buffer_at out (d ++ p) }
      taken out d p roomy fits ea eb =
          step_is (walk_at d) p (buffer_at out d) done (feed_is out d p fits roomy ∙ rw (ea, eb))
          ∙ rw (walk_next d p, buffer_next out d p (early (length d)) refl)

      take_piece : (out d p : List ℕ) (ps : List (List ℕ)) → total ≤ length out → Taken out (d ++ p) ps
          → (a b : Bool) → ltb total (reached (walk_at d) p) ≡ a → judged_off (walk_at d) p ≡ b → Taken out d (p ∷ ps)
      unfolding joined
      take_piece out d p ps roomy ih true b ea eb fits carried good =
          let code : feed_code limit far (walk_at d) p (length (buffer_at out d)) ≡ size = feed_is out d p fits roomy ∙ rw ea in
          absurd (true≢false (sym good ∙ closed_ends out d p ps size refl refl code))
      take_piece out d p ps roomy ih false true ea eb fits carried good =
          let code : feed_code limit far (walk_at d) p (length (buffer_at out d)) ≡ protocol = feed_is out d p fits roomy ∙ rw (ea, eb) in
          absurd (true≢false (sym good ∙ closed_ends out d p ps protocol refl refl code))
      take_piece out d p ps roomy ih false false ea eb fits carried good =
          let on = feed_one (walk_at d) (buffer_at out d) p ps _ (taken out d p roomy fits ea eb) in
          rw (on, ← append_assoc d p (joined ps))
          (ih (omega (arith, length-append d p, ltb-false total (reached (walk_at d) p) ea)) (carried_next d p eb carried) (rw on at good))

      -- all pieces of a walk that is live after them were taken
      all_fed : (out d : List ℕ) (ps : List (List ℕ)) → total ≤ length out → Taken out d ps
      unfolding feed_all joined
      all_fed out d [] roomy fits carried good = rw (append-nil d) (refl, fits, carried)
      all_fed out d (p ∷ ps) roomy fits carried good =
          take_piece out d p ps roomy (all_fed out (d ++ p) ps roomy) (ltb total (reached (walk_at d) p)) (judged_off (walk_at d) p) refl refl fits carried good

      -- a piece within data whose protocol number is carried
      not_off : (d p rest : List ℕ) → off_protocol (run state (d ++ p ++ rest)) ≡ false → (t u : Bool) → early (length d) ≡ t → early (length (d ++ p)) ≡ u
          → judged_off (walk_at d) p ≡ false
      not_off d p rest carried false u e there = rw e
      not_off d p rest carried true true e there = rw (← length-append d p, e, there)
      not_off d p rest carried true false e there =
          rw (opened_front d p e, ← length-append d p, e, there) (sym (same_protocol state (d ++ p) rest there) ∙ carried)

      -- and all pieces of such data are
      all_taken : (out d : List ℕ) (ps : List (List ℕ)) → total ≤ length out → length (d ++ joined ps) ≡ total → off_protocol (run state (d ++ joined ps)) ≡ false
          → feed_all limit far (walk_at d) (buffer_at out d) ps ≡ left_at out (d ++ joined ps)
      unfolding joined feed_all
      all_taken out d [] roomy long carried = rw (append-nil d)
      all_taken out d (p ∷ ps) roomy long carried =
          let same : d ++ p ++ joined ps ≡ d ++ (p ++ joined ps) = append_assoc d p (joined ps) in
          let carried₂ : off_protocol (run state (d ++ p ++ joined ps)) ≡ false = rw same carried in
          let long₂ : length (d ++ p ++ joined ps) ≡ total = rw same long in
          let fits : length d + length p ≤ total = omega (arith, long₂, length-append (d ++ p) (joined ps), length-append d p) in
          let one : feed_result limit far (walk_at d) p (buffer_at out d) ≡ record { step = on_with done (walk_at (d ++ p)); buffer = buffer_at out (d ++ p) } =
          taken out d p roomy (omega arith) (le-ltb total (length d + length p) fits) (not_off d p (joined ps) carried₂ (early (length d)) (early (length (d ++ p))) refl refl) in
          rw (feed_one (walk_at d) (buffer_at out d) p ps _ one, ← same) (all_taken out (d ++ p) ps roomy long₂ carried₂)

  -- an end, by its number
  end_is : (w : Walk) → end_code limit far w ≡ done → end_step limit far w ≡ over_with (record { answer = done; changes = changes_for w.link w.header; link = link_left w })
  unfolding end_step
  end_is w e = rw e

  -- a walk that ends well goes on, would leave a well-formed record, and all of its data are fed
  end_had : (w : Walk) → end_code limit far w ≡ done → (goes_on limit far w ≡ true) × (well_formed (link_left w) ≡ true) × (w.total ≤ w.fed)
  unfolding end_code
  end_had w e =
      let rows : List (ℕ × Bool) = end_rows limit far w in
      let ill = clear not_record rows refl e in
      (not-false (goes_on limit far w) ill.0, not-false (well_formed (link_left w)) ill.1.0, ltb-false w.fed w.total (clear shape rows refl e).0)

  goes_live : (w : Walk) → goes_on limit far w ≡ true → w.live ≡ true
  unfolding goes_on
  goes_live w e = (both w.live _ (both (w.live && _) _ e).0).0

  end_done : (w : Walk) → (end_step limit far w).answer ≡ done → end_code limit far w ≡ done
  unfolding end_step
  end_done w good = by (end_code limit far w) good
    where
      by : (code : ℕ) → (on_done code (over_with (record { answer = done; changes = changes_for w.link w.header; link = link_left w })) (on_with code (pick (eqb code shape) (over w.link) w))).answer ≡ done → code ≡ done
      by zero e = refl
      by (suc n) e = e

  -- and so is the walk of a run that ends well
  ended_live : (l : Link) (four : List ℕ) (total lent : ℕ) (out : List ℕ) (ps : List (List ℕ)) → (walked limit far l four total lent out ps).step.answer ≡ done
      → (feed_all limit far (begin_step limit far l four total lent).walk out ps).walk.live ≡ true
  unfolding walked
  ended_live l four total lent out ps good =
      let w : Walk = (feed_all limit far (begin_step limit far l four total lent).walk out ps).walk in
      goes_live w (end_had w (end_done w good)).0

  -- a run of calls, from what the feeds leave
  walked_left : (l : Link) (four : List ℕ) (total lent : ℕ) (out : List ℕ) (pieces : List (List ℕ)) (r : Left)
      → begin_code limit far l four total lent ≡ done → feed_all limit far (walk_at l (header_in four) total []) out pieces ≡ r
      → walked limit far l four total lent out pieces ≡ record { step = end_step limit far r.walk; buffer = r.buffer }
  unfolding walked begin_step
  walked_left l four total lent out pieces r code e = rw (code, walk_first l (header_in four) total, e)

  -- open's number, by begin's rows and 4
  module _ (l : Link) (a b c d : ℕ) where
    abbrev four : List ℕ
    four = a ∷ b ∷ c ∷ d ∷ []

    abbrev h : ℕ
    h = header_in four

    four_more : (m n : ℕ) (t : Bool) → ltb m n ≡ t → ltb (4 + m) (4 + n) ≡ t
    four_more m n true e = lt-ltb (4 + m) (4 + n) (omega (arith, ltb-true m n e))
    four_more m n false e = le-ltb (4 + m) (4 + n) (omega (arith, ltb-false m n e))

    either_shape : (s t : Bool) (rest : ℕ) → pick s shape (pick t shape rest) ≡ pick t shape (pick s shape rest)
    either_shape true true rest = refl
    either_shape true false rest = refl
    either_shape false t rest = refl

    begin_open : (text : List ℕ) (lent : ℕ)
        → open_code limit far l (four ++ text) lent ≡ first_of (begin_rows limit far l four (length text) lent ++ (protocol, off_protocol (plain_for l h text)) ∷ [])
    unfolding open_code
    begin_open text lent =
        let n : ℕ = length text in
        let rest : ℕ = first_of (header_rows far l h ++ data_rows l h text lent) in
        let long : length (four ++ text) ≡ front + n = omega arith in
        let size_is : outside (front + shortest_plain) (front + limit) (length (four ++ text)) ≡ outside shortest_plain limit n =
        ap (λ (m : ℕ). outside (front + shortest_plain) (front + limit) m) long
        ∙ ap (λ (t : Bool). pick t true (ltb (front + limit) (front + n))) (four_more n shortest_plain (ltb n shortest_plain) refl)
        ∙ ap (λ (t : Bool). pick (ltb n shortest_plain) true t) (four_more limit n (ltb limit n) refl) in
        rw size_is (ap (λ (m : ℕ). pick (not (well_formed l)) not_record m) (either_shape (outside shortest_plain limit n) (not (eqb (a * 256 + b) 0x00FD)) rest))

    -- what begin refuses
    begin_refuses : (text out : List ℕ) (code : ℕ) → begin_code limit far l four (length text) (length out) ≡ code
        → (begin_step limit far l four (length text) (length out)).answer ≢ done
        → (open_result limit far l (four ++ text) out ≡ record { outcome = outcome_in (begin_step limit far l four (length text) (length out)); buffer = out })
        × ((begin_step limit far l four (length text) (length out)).walk ≡ over (begin_step limit far l four (length text) (length out)).walk.link)
    unfolding begin_step open_result over
    begin_refuses text out zero e some = absurd (some (rw e))
    begin_refuses text out (suc n) e some =
        let rows = begin_rows limit far l four (length text) (length out) in
        let off : List (ℕ × Bool) = (protocol, off_protocol (plain_for l h text)) ∷ [] in
        let stop : first_of rows ≡ suc n = unfold begin_code in e in
        let same : open_code limit far l (four ++ text) (length out) ≡ suc n =
        begin_open text (length out) ∙ rows_stop rows off (λ z. suc-ne-zero n (sym stop ∙ z)) ∙ stop in
        rw (e, same) (by (eqb (suc n) waiting), refl)
      where
        by : (t : Bool)
            → pick t (waited l h out) (refusal (suc n) l out)
            ≡ record { outcome = outcome_in (over_with (pick t (waited l h []).outcome (refusal (suc n) l []).outcome)); buffer = out }
        by true = refl
        by false = refl

    -- after a good begin
    module _ (total lent : ℕ) (out : List ℕ) (pieces : List (List ℕ)) (code : begin_code limit far l four total lent ≡ done) where
      -- no row but that of the room is asked for the room, and these do not apply
      abbrev roomless : List (ℕ × Bool)
      roomless = take 9 (begin_rows limit far l four total lent)

      passed : first_of roomless ≡ done
      passed = rows_passed done roomless ((room, ltb lent total) ∷ []) refl (unfold begin_code in code)

      judged : first_of (judged_rows limit far l h total) ≡ done
      judged = rw (clear shape roomless refl passed).1.0 at passed

      abbrev feeds : Left
      feeds = feed_all limit far (walk_at l h total []) out pieces

      -- with data of that length, whose protocol number is carried, open gives what the walk does
      open_is : (text : List ℕ) → total ≤ length out → length text ≡ total → Carried l h total text
          → open_result limit far l (four ++ text) out
          ≡ record { outcome = record { answer = done; changes = changes_for l h; link = link_after l h text }; buffer = buffer_at l h total out text }
      unfolding open_result plain_for
      open_is text roomy same carried =
          let whole : early (length text) ≡ false = le-ltb (length text) 2 (omega (arith, same, two l h total judged)) in
          let rows : List (ℕ × Bool) = begin_rows limit far l four (length text) (length out) in
          let off : List (ℕ × Bool) = (protocol, off_protocol (plain_for l h text)) ∷ [] in
          let here : List (ℕ × Bool) = begin_rows limit far l four total (length out) in
          let begun : first_of rows ≡ done = rw same (rows_pass (take 9 here) (drop 9 here) refl passed ∙ rw (le-ltb (length out) total roomy)) in
          let code' : open_code limit far l (four ++ text) (length out) ≡ done = begin_open text (length out) ∙ rows_pass rows off refl begun ∙ rw (carried whole) in
          rw (code', whole)

      -- a good end
      equal_four : (t : Bool) → ltb (length out) total ≡ t → (walked limit far l four total lent out pieces).step.answer ≡ done
          → result_of (walked limit far l four total lent out pieces) ≡ open_result limit far l (four ++ joined pieces) out
      equal_four true short good =
          let left = walked_left l four total lent out pieces _ code (short_all l h total judged out pieces (ltb-true (length out) total short)) in
          absurd (suc-ne-zero 0 (sym (short_end l h total judged) ∙ end_done (walk_at l h total []) (rw left at good)))
      equal_four false roomy good =
          let ends : end_code limit far feeds.walk ≡ done = end_done feeds.walk (rw (walked_left l four total lent out pieces feeds code refl) at good) in
          let fits : total ≤ length out = ltb-false (length out) total roomy in
          let (goes_on, well, all) = end_had feeds.walk ends in
          let (same, short, carried) = all_fed l h total judged out [] pieces fits (omega arith) (λ e. absurd (true≢false e)) (goes_live feeds.walk goes_on) in
          let text : List ℕ = joined pieces in
          let last : end_code limit far (walk_at l h total text) ≡ done = rw same at ends in
          let long : length text ≡ total = omega (arith, short, (end_had (walk_at l h total text) last).2) in
          rw (walked_left l four total lent out pieces _ code same, end_is (walk_at l h total text) last, over_link (link_after l h text))
          (sym (open_is text fits long carried))

      -- as long as the walk is live
      so_far_four : total ≤ length out → (feed_all limit far (begin_step limit far l four total lent).walk out pieces).walk.live ≡ true
          → ((feed_all limit far (begin_step limit far l four total lent).walk out pieces).walk.fed ≡ length (joined pieces))
          × ((feed_all limit far (begin_step limit far l four total lent).walk out pieces).buffer
          ≡ pick (early (length (joined pieces))) out (written (plain_for l h (joined pieces)) out))
      unfolding plain_for
      so_far_four fits live =
          let first : (begin_step limit far l four total lent).walk ≡ walk_at l h total [] = unfold begin_step in rw code (walk_first l h total) in
          let (same, short, carried) = all_fed l h total judged out [] pieces fits (omega arith) (λ e. absurd (true≢false e)) (rw first at live) in
          rw (first, same) (refl, refl)

    -- what one call opens, every cutting opens
    open_done : (packet out : List ℕ) → (open_result limit far l packet out).outcome.answer ≡ done → open_code limit far l packet (length out) ≡ done
    open_done packet out good = sym (open_answers limit far l packet out) ∙ good

    opens_four : (out : List ℕ) (pieces : List (List ℕ)) → (open_result limit far l (four ++ joined pieces) out).outcome.answer ≡ done
        → ((begin_step limit far l four (length (joined pieces)) (length out)).answer ≡ done)
        × ((walked limit far l four (length (joined pieces)) (length out) out pieces).step.answer ≡ done)
    unfolding begin_step begin_code plain_for
    opens_four out pieces good =
        let text : List ℕ = joined pieces in
        let total : ℕ = length text in
        let rows : List (ℕ × Bool) = begin_rows limit far l four total (length out) in
        let off : List (ℕ × Bool) = (protocol, off_protocol (plain_for l h text)) ∷ [] in
        let none : first_of (rows ++ off) ≡ done = sym (begin_open text (length out)) ∙ open_done (four ++ text) out good in
        let begun : first_of rows ≡ done = rows_passed done rows off refl none in
        let code : begin_code limit far l four total (length out) ≡ done = begun in
        let roomy : total ≤ length out = ltb-false (length out) total (clear room rows refl begun).0 in
        let carried : off_protocol (run (state_for l h) text) ≡ false = (clear protocol (rows ++ off) refl none).0 in
        let can = judged total (length out) out pieces code in
        let left = all_taken l h total can out [] pieces roomy refl carried in
        (rw code, rw (walked_left l four total (length out) out pieces _ code left, end_is (walk_at l h total text) (whole_end l h total can text refl)))

  -- another length than four is refused
  four_long : (l : Link) (four : List ℕ) (total lent : ℕ) → begin_code limit far l four total lent ≡ done → length four ≡ front
  unfolding begin_code
  four_long l four total lent code = right_length front four (clear shape (begin_rows limit far l four total lent) refl code).0

  -- a walk that is live after its feeds had a good begin
  live_begun : (l : Link) (four : List ℕ) (total lent : ℕ) (out : List ℕ) (ps : List (List ℕ))
      → (feed_all limit far (begin_step limit far l four total lent).walk out ps).walk.live ≡ true → begin_code limit far l four total lent ≡ done
  unfolding begin_step
  live_begun l four total lent out ps live = by (begin_code limit far l four total lent) refl
    where
      by : (code : ℕ) → begin_code limit far l four total lent ≡ code → code ≡ done
      by zero e = refl
      by (suc n) e =
          let closed : Link = (unbegun (suc n) l (header_in four)).link in
          absurd (true≢false (sym (rw (e, over_all closed out ps) at live) ∙ over_dead closed))

  -- what stays: after a begin but for 11, after a feed, after a feed and an end that are refused
  begun_kept : (l : Link) (four : List ℕ) (total lent code : ℕ) → begin_code limit far l four total lent ≡ code → (begin_step limit far l four total lent).answer ≢ waiting
      → ((begin_step limit far l four total lent).walk.link ≡ l) × ((begin_step limit far l four total lent).changes ≡ 0)
  unfolding begin_step walk_of over
  begun_kept l four total lent zero e other = rw e (refl, refl)
  begun_kept l four total lent (suc n) e other = rw e (by (eqb (suc n) waiting) refl)
    where
      by : (t : Bool) → eqb (suc n) waiting ≡ t
          → ((pick t (waited l (header_in four) []).outcome (refusal (suc n) l []).outcome).link ≡ l)
          × ((pick t (waited l (header_in four) []).outcome (refusal (suc n) l []).outcome).changes ≡ 0)
      by true f = absurd (other (rw (e, f)))
      by false f = (refl, refl)

  begun_closed : (l : Link) (four : List ℕ) (total lent code : ℕ) → begin_code limit far l four total lent ≡ code → (begin_step limit far l four total lent).answer ≢ done
      → (begin_step limit far l four total lent).walk ≡ over (begin_step limit far l four total lent).walk.link
  unfolding begin_step over
  begun_closed l four total lent zero e some = absurd (some (rw e))
  begun_closed l four total lent (suc n) e some = rw e

  picked_link : (w : Walk) (t : Bool) → (pick t (over w.link) w).link ≡ w.link
  picked_link w true = over_link w.link
  picked_link w false = refl

  fed_kept : (w : Walk) (piece out : List ℕ) (code : ℕ) → feed_code limit far w piece (length out) ≡ code
      → ((feed_result limit far w piece out).step.walk.link ≡ w.link) × ((feed_result limit far w piece out).step.changes ≡ 0)
  unfolding feed_result
  fed_kept w piece out zero e = rw e (refl, refl)
  fed_kept w piece out (suc n) e = rw e (picked_link w (closes (suc n)), refl)

  fed_refused : (w : Walk) (piece out : List ℕ) (code : ℕ) → feed_code limit far w piece (length out) ≡ code → (feed_result limit far w piece out).step.answer ≢ done
      → ((feed_result limit far w piece out).buffer ≡ out)
      × ((feed_result limit far w piece out).step.walk ≡ pick (closes (feed_result limit far w piece out).step.answer) (over w.link) w)
  unfolding feed_result
  fed_refused w piece out zero e some = absurd (some (rw e))
  fed_refused w piece out (suc n) e some = rw e (refl, refl)

  end_refused : (w : Walk) (code : ℕ) → end_code limit far w ≡ code → (end_step limit far w).answer ≢ done
      → ((end_step limit far w).walk ≡ pick (eqb (end_step limit far w).answer shape) (over w.link) w) × ((end_step limit far w).changes ≡ 0)
  unfolding end_step
  end_refused w zero e some = absurd (some (rw e))
  end_refused w (suc n) e some = rw e (refl, refl)

  -- a good end
  end_good : (w : Walk) → (end_step limit far w).answer ≡ done
      → ((end_step limit far w).walk ≡ over (end_step limit far w).walk.link) × (well_formed (end_step limit far w).walk.link ≡ true)
      × ((end_step limit far w).changes ≤ far)
  unfolding over
  end_good w good =
      let code = end_done w good in
      let (goes_on, well, all) = end_had w code in
      rw (end_is w code, over_link (link_left w)) (refl, well, few goes_on)
    where
      few : goes_on limit far w ≡ true → changes_for w.link w.header ≤ far
      few e = unfold goes_on in
          let rows : List (ℕ × Bool) = judged_rows limit far w.link w.header w.total in
          let none : first_of rows ≡ done = eqb-true (first_of rows) done (both w.live (eqb (first_of rows) done) (both (w.live && eqb (first_of rows) done) _ e).0).1 in
          omega (arith, ltb-false far (away_for w.link w.header) (clear late rows refl none).0, changes_few w.link.mode w.link.count (away_for w.link w.header))

  -- the record of a run of feeds, and of one that does not end well
  run_kept : (w : Walk) (out : List ℕ) (ps : List (List ℕ)) → (feed_all limit far w out ps).walk.link ≡ w.link
  unfolding feed_all
  run_kept w out [] = refl
  run_kept w out (p ∷ ps) =
      let r : Fed = feed_result limit far w p out in
      run_kept r.step.walk r.buffer ps ∙ (fed_kept w p out (feed_code limit far w p (length out)) refl).0

  unended_kept : (l : Link) (four : List ℕ) (total lent : ℕ) (out : List ℕ) (pieces : List (List ℕ))
      → (begin_step limit far l four total lent).answer ≢ waiting → (walked limit far l four total lent out pieces).step.answer ≢ done
      → ((walked limit far l four total lent out pieces).step.walk.link ≡ l) × ((walked limit far l four total lent out pieces).step.changes ≡ 0)
  unfolding walked
  unended_kept l four total lent out pieces other some =
      let w : Walk = (begin_step limit far l four total lent).walk in
      let v : Walk = (feed_all limit far w out pieces).walk in
      let (same, none) = end_refused v (end_code limit far v) refl some in
      let back : v.link ≡ l = run_kept w out pieces ∙ (begun_kept l four total lent (begin_code limit far l four total lent) refl other).0 in
      (ap (λ (x : Walk). x.link) same ∙ picked_link v (eqb (end_step limit far v).answer shape) ∙ back, none)

-- M-104's claim
pub pieces : (limit far : ℕ) → Pieces limit far
pieces limit far =
    record {
      equal = λ l four total lent out ps good.
          let code = live_begun limit far l four total lent out ps (ended_live limit far l four total lent out ps good) in
          four_octets
          (λ (four : List ℕ). begin_code limit far l four total lent ≡ done → (walked limit far l four total lent out ps).step.answer ≡ done
          → result_of (walked limit far l four total lent out ps) ≡ open_result limit far l (four ++ joined ps) out)
          (λ a b c d code. equal_four limit far l a b c d total lent out ps code (ltb (length out) total) refl)
          four (four_long limit far l four total lent code) code good;
      opens = λ l four out ps long.
          four_octets
          (λ (four : List ℕ). (open_result limit far l (four ++ joined ps) out).outcome.answer ≡ done
          → ((begin_step limit far l four (length (joined ps)) (length out)).answer ≡ done)
          × ((walked limit far l four (length (joined ps)) (length out) out ps).step.answer ≡ done))
          (λ a b c d. opens_four limit far l a b c d out ps) four long;
      refuses = λ l four text out long.
          four_octets
          (λ (four : List ℕ). (begin_step limit far l four (length text) (length out)).answer ≢ done
          → (open_result limit far l (four ++ text) out ≡ record { outcome = outcome_in (begin_step limit far l four (length text) (length out)); buffer = out })
          × ((begin_step limit far l four (length text) (length out)).walk ≡ over (begin_step limit far l four (length text) (length out)).walk.link))
          (λ a b c d. begin_refuses limit far l a b c d text out (begin_code limit far l (a ∷ b ∷ c ∷ d ∷ []) (length text) (length out)) refl)
          four long;
      so_far = λ l four total lent out ps roomy live.
          let code = live_begun limit far l four total lent out ps live in
          four_octets
          (λ (four : List ℕ). begin_code limit far l four total lent ≡ done → total ≤ length out
          → (feed_all limit far (begin_step limit far l four total lent).walk out ps).walk.live ≡ true
          → ((feed_all limit far (begin_step limit far l four total lent).walk out ps).walk.fed ≡ length (joined ps))
          × ((feed_all limit far (begin_step limit far l four total lent).walk out ps).buffer
          ≡ pick (early (length (joined ps))) out (written (plain_for l (header_in four) (joined ps)) out)))
          (λ a b c d code. so_far_four limit far l a b c d total lent out ps code)
          four (four_long limit far l four total lent code) code roomy live;
      unmoved = unended_kept limit far;
    }

pub calls : (limit far : ℕ) → Calls limit far
calls limit far =
    record {
      begun = λ l four total lent. begun_kept limit far l four total lent (begin_code limit far l four total lent) refl;
      closed = λ l four total lent. begun_closed limit far l four total lent (begin_code limit far l four total lent) refl;
      fed = λ w piece out. fed_kept limit far w piece out (feed_code limit far w piece (length out)) refl;
      refused = λ w piece out. fed_refused limit far w piece out (feed_code limit far w piece (length out)) refl;
      unended = λ w. end_refused limit far w (end_code limit far w) refl;
      ended = end_good limit far;
      later = λ l piece out. (over_feed limit far l piece out, over_end limit far l);
    }

-- one piece more
pub feed_more : (limit far : ℕ) (w : Walk) (out : List ℕ) (ps : List (List ℕ)) (p : List ℕ) (r : Left) → feed_all limit far w out ps ≡ r
    → feed_all limit far w out (ps ++ p ∷ [])
    ≡ record { walk = (feed_result limit far r.walk p r.buffer).step.walk; buffer = (feed_result limit far r.walk p r.buffer).buffer }
unfolding feed_all
feed_more limit far w out [] p r e = rw (← e)
feed_more limit far w out (q ∷ ps) p r e = feed_more limit far (feed_result limit far w q out).step.walk (feed_result limit far w q out).buffer ps p r e

pub joined_more : (ps : List (List ℕ)) (p : List ℕ) → joined (ps ++ p ∷ []) ≡ joined ps ++ p
unfolding joined
joined_more [] p = append-nil p
joined_more (q ∷ ps) p = rw (joined_more ps p) (sym (append_assoc q (joined ps) p))
