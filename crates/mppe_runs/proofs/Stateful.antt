-- The run of stateful modems, proved: for every limit of a plain packet, every farthest distance below the number of counts, and every
-- number of packets lost in a row below it.
use Rattle.std.proofs.Math.Path.{◌≡◌, refl, sym, ap, subst₂}
use Rattle.std.proofs.Common.{subst, ◌∙◌, true≢false, zero-add, lit<}
use Rattle.std.proofs.Math.Bool.{Bool, true, false, not}
use Rattle.std.specs.Prelude.{◌&&◌, ◌||◌, ◌≢◌, length}
use Rattle.std.proofs.lemmas.Bool.{false≢true}
use mathlib.Core.List.{List, [], ◌∷◌, ◌++◌}
use Prim.Native.Nat.{ℕ, zero, suc, ◌+◌, ◌-◌, ◌/◌, ◌%◌, ◌<◌, ◌≤◌}
use Rattle.std.proofs.Math.Nat.{add-zero}
use native.Mathlib.Omega.{arith}
use Rattle.std.proofs.Math.Dec.{eqb, ltb}
use borrow.Author.Tests.{le-ltb, eq-eqb, ne_eqb, eqb-true, eqb-false}
use Rattle.answer.specs.Answer.{done, size, protocol, waiting, pick, first_of, on_done, wrong}
use Rattle.answer.specs.Laws.{clear, rows_pass, right, right_length}
use Rattle.octets.specs.Octets.{written}
use Rattle.rc4.specs.declared.Rc4.{Rc4}
use Rattle.rc4.specs.Cipher.{unkeyed, key_schedule, run, after}
use Rattle.rc4.proofs.Laws.{run_length, run_twice, after_length}
use Rattle.rc4.proofs.Permutation.{unkeyed_found, unkeyed_permutation}
use Rattle.mppe_keys.specs.declared.Strength.{Strength}
use Rattle.mppe_keys.specs.declared.Mode.TheVariants.{Stateful}
use Rattle.mppe_keys.specs.Keys.{key_length, by_mode, initial_key, key_change, changes}
use Rattle.mppe_keys.proofs.Laws.{initial_key_length, initial_key_head, changes_length, changes_head, changes_add}
use Rattle.ccp.specs.Reset.{reset_rows}
use Rattle.mppe.specs.declared.Link.{Link}
use Rattle.mppe.specs.Link.{longest_plain, counts, new_count, farthest, box_fits, well_formed, start_key_in, session_key_in, link_of, renewed, with_box, kept_box, new_link, new_link_code, off_protocol, packet_on, header_in, data_in, count_of, endings, changes_over, Result, finished, unopened, refusal, plain_rows, next_count, next_changes, next_key, keys_afresh, next_box, seal_code, seal_result, away_for, changes_for, key_for, box_for, opens, state_for, plain_for, link_after, front_rows, header_rows, data_rows, open_code, open_result, reset_code, reset_outcome}
use Rattle.mppe.proofs.Laws.{open_other, Box, after_box, keyed_box, picked_box, key_back, well, front_none, header_of, sealed_header, header_count, header_A, header_D, distance_is, endings_are}
use Rattle.mppe_runs.specs.Run.{most_lost, SealCall, OpenCall, arrival, other, said_code, open_run}
use Rattle.mppe_runs.proofs.Line.{Sealable}
use Rattle.mppe_runs.specs.StatefulRun.{SendCall, seal, reset, History, Packet, first, beginning, held_by, ends, next_session, freshly, box_used, sealed_on, packet_of, asked, numbered, send_run, onward, packets, said_of, said, opened, due_of, Meets, due, StatefulRun}

module _ (s : Strength) (start : List ℕ) where
  -- the session key when m packets are done with
  unfoldable pub key_at : ℕ → List ℕ
  key_at m = changes s start (m / 256) (initial_key s start)

  -- the record of an end that is done with them, and the sender's history
  unfoldable pub held_at : (m : ℕ) (state : Rc4) (mark : Bool) → Link
  held_at m state mark = link_of s Stateful start (key_at m) ((m + new_count) % counts) state mark

  unfoldable history_at : (m : ℕ) (state : Rc4) (mark : Bool) → History
  history_at m state mark = record { number = m; session = key_at m; state = state; mark = mark }

  -- the number of the next packet ends in 0xFF
  abbrev ends_at : ℕ → Bool
  ends_at m = eqb (m % 256) 255

  -- the key changes with these packets, and with no other
  key_ends : (m : ℕ) (t : Bool) → ends_at m ≡ t → changes s start (pick t 1 0) (key_at m) ≡ key_at (suc m)
  unfolding key_at changes
  key_ends m true e =
      let up : suc m / 256 ≡ suc (m / 256) = omega (arith, eqb-true (m % 256) 255 e) in
      rw up
  key_ends m false e =
      let stays : suc m / 256 ≡ m / 256 = omega (arith, eqb-false (m % 256) 255 e) in
      rw stays

  key_said : (m : ℕ) (t : Bool) → ends_at m ≡ t → pick t (key_change s start (key_at m)) (key_at m) ≡ key_at (suc m)
  unfolding changes
  key_said m true e = key_ends m true e
  key_said m false e = key_ends m false e

  -- packet m's box: keyed afresh, or the one before it left
  abbrev used_at : (m : ℕ) (fresh : Bool) (state : Rc4) → Rc4
  used_at m fresh state = pick fresh (key_schedule (key_at (suc m))) state

  start_length : (new_link s Stateful start).answer ≡ done → length start ≡ key_length s
  unfolding new_link
  start_length h = right_length (key_length s) start (clear size ((size, wrong (key_length s) start) ∷ []) refl h).0

  module _ (h : length start ≡ key_length s) where
    first_is_lem : first s start ≡ held_at 0 unkeyed true
    unfolding new_link held_at key_at changes
    first_is_lem =
        let code : new_link_code s start ≡ done = rw (right (key_length s) start h) in
        rw code

    key_long : (m : ℕ) → length (key_at m) ≡ key_length s
    unfolding key_at
    key_long m = changes_length s start (m / 256) (initial_key s start) (initial_key_length s start)

    well_held : (m : ℕ) (state : Rc4) (mark : Bool) → Box state → well_formed (held_at m state mark) ≡ true
    unfolding held_at key_at box_fits
    well_held m state mark box =
        let head = changes_head s start (m / 256) (initial_key s start) (initial_key_head s start) in
        well s Stateful start (key_at m) ((m + new_count) % counts) state mark h (key_long m) head (omega arith) (fits box)
      where
        fits : Box state → box_fits Stateful state mark ≡ true
        fits box = rw box

    start_in : (m : ℕ) (state : Rc4) (mark : Bool) → start_key_in (held_at m state mark) ≡ start
    unfolding held_at
    start_in m state mark = key_back s start h

    session_in : (m : ℕ) (state : Rc4) (mark : Bool) → session_key_in (held_at m state mark) ≡ key_at m
    unfolding held_at
    session_in m state mark = key_back s (key_at m) (key_long m)

    record_next : (m q : ℕ) (state state' : Rc4) (mark mark' : Bool)
        → with_box (renewed (held_at m state mark) (key_at (suc q)) (q % counts)) state' mark' ≡ held_at (suc q) state' mark'
    unfolding held_at
    record_next m q state state' mark mark' =
        let same : q % counts ≡ (suc q + new_count) % counts = omega arith in
        rw same

    -- what the sender makes of its record
    made_next : (m : ℕ) (state : Rc4) (mark : Bool) → next_changes (held_at m state mark) ≡ pick (ends_at m) 1 0
    unfolding held_at changes_over endings
    made_next m state mark =
        let same : ((m + new_count) % counts + 1) % 256 ≡ m % 256 = omega arith in
        rw same (zero-add _)

    count_next : (m : ℕ) (state : Rc4) (mark : Bool) → next_count (held_at m state mark) ≡ m % counts
    unfolding held_at
    count_next m state mark = omega arith

    key_next : (m : ℕ) (state : Rc4) (mark : Bool) → next_key (held_at m state mark) ≡ key_at (suc m)
    unfolding next_key
    key_next m state mark = rw (made_next m state mark, start_in m state mark, session_in m state mark) (unfold held_at in key_ends m (ends_at m) refl)

    fresh_next : (m : ℕ) (state : Rc4) (mark : Bool) → keys_afresh (held_at m state mark) ≡ (ends_at m || mark)
    fresh_next m state mark = rw (made_next m state mark) (unfold held_at in by (ends_at m))
      where
        by : (t : Bool) → (not (eqb (pick t 1 0) 0) || mark) ≡ (t || mark)
        by true = refl
        by false = refl

    box_next : (m : ℕ) (state : Rc4) (mark : Bool) → next_box (held_at m state mark) ≡ used_at m (ends_at m || mark) state
    unfolding next_box
    box_next m state mark = rw (fresh_next m state mark, key_next m state mark) (unfold held_at in refl)

    kept_is : (m : ℕ) (state left : Rc4) (mark : Bool) → kept_box (held_at m state mark) left ≡ left
    unfolding held_at
    kept_is m state left mark = refl

    settled_next : (m : ℕ) (state : Rc4) (mark : Bool) (plain : List ℕ)
        → with_box (renewed (held_at m state mark) (next_key (held_at m state mark)) (next_count (held_at m state mark)))
        (kept_box (held_at m state mark) (after (next_box (held_at m state mark)) plain)) false
        ≡ held_at (suc m) (after (used_at m (ends_at m || mark) state) plain) false
    settled_next m state mark plain =
        rw (kept_is m state (after (next_box (held_at m state mark)) plain) mark, key_next m state mark, count_next m state mark, box_next m state mark)
        (record_next m m state (after (used_at m (ends_at m || mark) state) plain) mark false)

    sealed_next : (m : ℕ) (state : Rc4) (mark : Bool) (plain : List ℕ)
        → packet_on (keys_afresh (held_at m state mark)) (next_box (held_at m state mark)) (next_count (held_at m state mark)) plain
        ≡ packet_on (ends_at m || mark) (used_at m (ends_at m || mark) state) (m % counts) plain
    sealed_next m state mark plain = rw (fresh_next m state mark, box_next m state mark, count_next m state mark)

    -- what the history says next
    history_next : (m : ℕ) (state : Rc4) (mark : Bool) (plain : List ℕ)
        → sealed_on s start (history_at m state mark) plain ≡ history_at (suc m) (after (used_at m (ends_at m || mark) state) plain) false
    unfolding sealed_on box_used next_session history_at
    history_next m state mark plain = rw (key_said m (ends_at m) refl)

    held_is : (m : ℕ) (state : Rc4) (mark : Bool) → held_by s start (history_at m state mark) ≡ held_at m state mark
    unfolding history_at held_at
    held_is m state mark = refl

    -- packet m, with A or without, behind a box
    unfoldable packet_at : (m : ℕ) (fresh : Bool) (state : Rc4) (plain : List ℕ) → Packet
    packet_at m fresh state plain =
        record {
          plain = plain;
          octets = packet_on fresh (used_at m fresh state) (m % counts) plain;
          fresh = fresh;
          session = key_at (suc m);
          link = held_at (suc m) (after (used_at m fresh state) plain) false;
        }

    packet_is : (m : ℕ) (state : Rc4) (mark : Bool) (plain : List ℕ)
        → packet_of s start (history_at m state mark) plain ≡ packet_at m (ends_at m || mark) state plain
    unfolding packet_of packet_at
    packet_is m state mark plain =
        let session : next_session s start (history_at m state mark) ≡ key_at (suc m) = unfold next_session history_at in key_said m (ends_at m) refl in
        let box : box_used s start (history_at m state mark) ≡ used_at m (ends_at m || mark) state = unfold box_used next_session history_at in rw (key_said m (ends_at m) refl) in
        let fresh : freshly s start (history_at m state mark) ≡ (ends_at m || mark) = unfold history_at in refl in
        let number : (history_at m state mark).number ≡ m = unfold history_at in refl in
        rw
        (history_next m state mark plain, held_is (suc m) (after (used_at m (ends_at m || mark) state) plain) false, box, session, fresh, number)

    -- `limit` is the longest plain packet
    module _ (limit : ℕ) where
      seal_code_lem : (m : ℕ) (state : Rc4) (mark : Bool) (c : SealCall) → Box state
          → seal_code limit (held_at m state mark) c.plain (length c.room) ≡ said_code limit c
      unfolding seal_code said_code
      seal_code_lem m state mark c box = rw (well_held m state mark box)

      -- what a seal call gives, and what is said of it
      abbrev sealed_at : (m : ℕ) (state : Rc4) (mark : Bool) (c : SealCall) → Result
      sealed_at m state mark c =
          let p : Packet = packet_at m (ends_at m || mark) state c.plain in
          on_done (said_code limit c) (finished (pick (ends_at m) 1 0) p.link (written p.octets c.room)) (refusal (said_code limit c) (held_at m state mark) c.room)

      seal_next : (m : ℕ) (state : Rc4) (mark : Bool) (c : SealCall) → Box state
          → seal_result limit (held_at m state mark) c.plain c.room ≡ sealed_at m state mark c
      unfolding seal_result packet_at
      seal_next m state mark c box =
          rw (seal_code_lem m state mark c box, settled_next m state mark c.plain, sealed_next m state mark c.plain, made_next m state mark)

      seal_said : (m : ℕ) (state : Rc4) (mark : Bool) (c : SealCall) → said_of limit s start (history_at m state mark) (seal c) ≡ sealed_at m state mark c
      unfolding said_of
      seal_said m state mark c =
          let number : ends s start (history_at m state mark) ≡ ends_at m = unfold history_at in refl in
          rw (packet_is m state mark c.plain, held_is m state mark, number)

      -- the record that takes a Reset-Request
      abbrev marked : (m : ℕ) (state : Rc4) (mark : Bool) → Link
      marked m state mark = let l : Link = held_at m state mark in with_box l l.state (by_mode l.mode l.waiting true)

      -- a Reset-Request, or octets that are none
      asked_is : (m : ℕ) (state : Rc4) (mark : Bool) (request : List ℕ)
          → asked s start (history_at m state mark) request ≡ history_at m state (on_done (first_of (reset_rows request)) true mark)
      unfolding asked history_at
      asked_is m state mark request = refl

      reset_next : (m : ℕ) (state : Rc4) (mark : Bool) (request : List ℕ) → Box state
          → ◌≡◌ {A = Result} (record { outcome = reset_outcome (held_at m state mark) request; buffer = [] })
          (said_of limit s start (history_at m state mark) (reset request))
      unfolding reset_outcome reset_code said_of
      reset_next m state mark request box =
          rw (well_held m state mark box, asked_is m state mark request, held_is m state (on_done (first_of (reset_rows request)) true mark))
          (by (first_of (reset_rows request)))
        where
          by : (code : ℕ)
              → ◌≡◌ {A = Result}
              (record { outcome = record { answer = code; changes = 0; link = on_done code (marked m state mark) (held_at m state mark) }; buffer = [] })
              (record { outcome = record { answer = code; changes = 0; link = held_at m state (on_done code true mark) }; buffer = [] })
          by zero = unfold held_at in refl
          by (suc n) = refl

      -- the sender's results
      sends_on : (m : ℕ) (state : Rc4) (mark : Bool) (c : SealCall) (cs : List SendCall) (code : ℕ) → Box state
          → ((n : ℕ) (state' : Rc4) (mark' : Bool) → Box state' → send_run limit (held_at n state' mark') cs ≡ said limit s start (history_at n state' mark') cs)
          → send_run limit
          (on_done code (finished (pick (ends_at m) 1 0) (packet_at m (ends_at m || mark) state c.plain).link (written (packet_at m (ends_at m || mark) state c.plain).octets c.room))
          (refusal code (held_at m state mark) c.room)).outcome.link
          cs
          ≡ said limit s start (on_done code (sealed_on s start (history_at m state mark) c.plain) (history_at m state mark)) cs
      unfolding packet_at
      sends_on m state mark c cs zero box ih =
          let used : Rc4 = used_at m (ends_at m || mark) state in
          rw (history_next m state mark c.plain)
          (ih (suc m) (after used c.plain) false (after_box used c.plain (picked_box (ends_at m || mark) (key_schedule (key_at (suc m))) state (keyed_box (key_at (suc m))) box)))
      sends_on m state mark c cs (suc n) box ih = ih m state mark box

      sends_all : (cs : List SendCall) (m : ℕ) (state : Rc4) (mark : Bool) → Box state
          → send_run limit (held_at m state mark) cs ≡ said limit s start (history_at m state mark) cs
      unfolding send_run said onward
      sends_all [] m state mark box = refl
      sends_all (seal c ∷ cs) m state mark box =
          rw (seal_next m state mark c box, seal_said m state mark c)
          (ap (λ (rs : List Result). sealed_at m state mark c ∷ rs) (sends_on m state mark c cs (said_code limit c) box (sends_all cs)))
      sends_all (reset request ∷ cs) m state mark box =
          let r : Result = said_of limit s start (history_at m state mark) (reset request) in
          let next : r.outcome.link ≡ held_at m state (on_done (first_of (reset_rows request)) true mark) =
          unfold said_of in rw (asked_is m state mark request) (held_is m state (on_done (first_of (reset_rows request)) true mark)) in
          let rest : send_run limit r.outcome.link cs ≡ said limit s start (asked s start (history_at m state mark) request) cs =
          rw (next, asked_is m state mark request) (sends_all cs m state (on_done (first_of (reset_rows request)) true mark) box) in
          ap (λ (x : Result). x ∷ send_run limit x.outcome.link cs) (reset_next m state mark request box) ∙ ap (λ (rs : List Result). r ∷ rs) rest

      -- packets are those of their numbers, counted from m, each behind the box that the one before it left
      abbrev IsAt : ℕ → Rc4 → Packet → Type 0
      IsAt q prev p = (p ≡ packet_at q p.fresh prev p.plain) × Sealable limit p.plain × (p.fresh ≡ false → suc q % 256 ≢ 0)

      unfoldable Chain : ℕ → Rc4 → List Packet → Type 0
      Chain m prev [] = Unit {0}
      Chain m prev (p ∷ ps) = IsAt m prev p × Chain (suc m) p.link.state ps

      sealable : (c : SealCall) → said_code limit c ≡ done → Sealable limit c.plain
      unfolding said_code
      sealable c e =
          let rows = plain_rows limit c.plain (length c.room) in
          ((clear size rows refl e).0, (clear protocol rows refl e).0)

      odd : (m : ℕ) (mark : Bool) (t : Bool) → ends_at m ≡ t → (t || mark) ≡ false → suc m % 256 ≢ 0
      odd m mark true e none = absurd (true≢false none)
      odd m mark false e none = λ z. eqb-false (m % 256) 255 e (omega arith)

      chained_on : (m : ℕ) (state : Rc4) (mark : Bool) (c : SealCall) (cs : List SendCall) (code : ℕ) → said_code limit c ≡ code
          → ((n : ℕ) (state' : Rc4) (mark' : Bool) → Chain n state' (packets limit s start (history_at n state' mark') cs))
          → Chain m state
          (on_done code (packet_at m (ends_at m || mark) state c.plain ∷ packets limit s start (on_done code (sealed_on s start (history_at m state mark) c.plain) (history_at m state mark)) cs)
          (packets limit s start (on_done code (sealed_on s start (history_at m state mark) c.plain) (history_at m state mark)) cs))
      unfolding Chain packet_at
      chained_on m state mark c cs zero e ih =
          let left : Rc4 = after (used_at m (ends_at m || mark) state) c.plain in
          let state_is : (held_at (suc m) left false).state ≡ left = unfold held_at in refl in
          ((refl, sealable c e, odd m mark (ends_at m) refl), rw (state_is, history_next m state mark c.plain) (ih (suc m) left false))
      chained_on m state mark c cs (suc n) e ih = ih m state mark

      chained : (cs : List SendCall) (m : ℕ) (state : Rc4) (mark : Bool) → Chain m state (packets limit s start (history_at m state mark) cs)
      unfolding Chain packets onward
      chained [] m state mark = tt
      chained (seal c ∷ cs) m state mark =
          rw (packet_is m state mark c.plain) (chained_on m state mark c cs (said_code limit c) refl (chained cs))
      chained (reset request ∷ cs) m state mark = rw (asked_is m state mark request) (chained cs m state (on_done (first_of (reset_rows request)) true mark))

      -- the box before packet i
      unfoldable before : Rc4 → List Packet → ℕ → Rc4
      before prev ps zero = prev
      before prev [] (suc i) = prev
      before prev (p ∷ ps) (suc i) = before p.link.state ps i

      chain_at : (m : ℕ) (prev : Rc4) (ps : List Packet) (i : ℕ) → Chain m prev ps → i < length ps → IsAt (m + i) (before prev ps i) (numbered s start ps i)
      unfolding Chain before numbered
      chain_at m prev [] i all known = absurd (omega arith)
      chain_at m prev (p ∷ ps) zero all known = rw add-zero all.0
      chain_at m prev (p ∷ ps) (suc i) all known =
          let e : m + suc i ≡ suc m + i = omega arith in
          rw e (chain_at (suc m) p.link.state ps i all.1 (omega arith))

      before_next : (prev : Rc4) (ps : List Packet) (i : ℕ) → i < length ps → before prev ps (suc i) ≡ (numbered s start ps i).link.state
      unfolding before numbered
      before_next prev [] i known = absurd (omega arith)
      before_next prev (p ∷ []) zero known = refl
      before_next prev (p ∷ p₂ ∷ ps) zero known = refl
      before_next prev (p ∷ ps) (suc i) known = before_next p.link.state ps i (omega arith)

      -- what a receiver that is done with the packets below `next` makes of packet q's header
      abbrev header_at : (fresh : Bool) (q : ℕ) → ℕ
      header_at fresh q = header_of fresh (q % counts)

      abbrev pub made_at : (next q : ℕ) → ℕ
      made_at next q = endings (next + new_count) (suc (q - next))

      made_is : (next q : ℕ) → next ≤ q → made_at next q ≡ suc q / 256 - next / 256
      made_is next q low = endings_are (next + new_count) (suc (q - next)) ∙ omega arith

      away_at : (next q : ℕ) (state : Rc4) (mark fresh : Bool) → next ≤ q → suc (q - next) < counts
          → away_for (held_at next state mark) (header_at fresh q) ≡ suc (q - next)
      unfolding held_at
      away_at next q state mark fresh low near = rw (header_count fresh (q % counts) (omega arith)) (distance_is next q low near)

      changes_at : (next q : ℕ) (state : Rc4) (mark fresh : Bool) → next ≤ q → suc (q - next) < counts
          → changes_for (held_at next state mark) (header_at fresh q) ≡ made_at next q
      changes_at next q state mark fresh low near =
          rw (away_at next q state mark fresh low near)
          (unfold held_at changes_over in (endings_are ((next + new_count) % counts) (suc (q - next)) ∙ omega (arith, made_is next q low)))

      keys_add : (next q : ℕ) → next ≤ q → changes s start (made_at next q) (key_at next) ≡ key_at (suc q)
      unfolding key_at
      keys_add next q low =
          let all : next / 256 + made_at next q ≡ suc q / 256 = omega (arith, made_is next q low) in
          changes_add s start (next / 256) (made_at next q) (initial_key s start) ∙ rw all

      key_at_lem : (next q : ℕ) (state : Rc4) (mark fresh : Bool) → next ≤ q → suc (q - next) < counts
          → key_for (held_at next state mark) (header_at fresh q) ≡ key_at (suc q)
      unfolding key_for
      key_at_lem next q state mark fresh low near =
          rw (changes_at next q state mark fresh low near, start_in next state mark, session_in next state mark) (unfold held_at in keys_add next q low)

      box_at : (next q : ℕ) (state : Rc4) (mark fresh : Bool) → next ≤ q → suc (q - next) < counts
          → box_for (held_at next state mark) (header_at fresh q) ≡ on_done (made_at next q) state (key_schedule (key_at (suc q)))
      unfolding box_for
      box_at next q state mark fresh low near =
          rw (changes_at next q state mark fresh low near, key_at_lem next q state mark fresh low near) (unfold held_at in refl)

      opens_at : (next q : ℕ) (state : Rc4) (was fresh : Bool) → next ≤ q → suc (q - next) < counts
          → opens (held_at next state (not was)) (header_at fresh q) ≡ (fresh || (eqb q next && was))
      opens_at next q state was fresh low near =
          rw (header_A fresh (q % counts) (omega arith), away_at next q state (not was) fresh low near) (unfold held_at in by fresh (eqb q next) refl was)
        where
          by : (f t : Bool) → eqb q next ≡ t → (w : Bool) → (not (not f) || (eqb (suc (q - next)) 1 && not (not w))) ≡ (f || (t && w))
          by true t e w = refl
          by false true e true = rw (eq-eqb (suc (q - next)) 1 (omega (arith, eqb-true q next e)))
          by false true e false = rw (eq-eqb (suc (q - next)) 1 (omega (arith, eqb-true q next e)))
          by false false e w = rw (ne_eqb (suc (q - next)) 1 (λ z. eqb-false q next e (omega arith)))

      data_is : (fresh : Bool) (used : Rc4) (count : ℕ) (plain : List ℕ) → data_in (packet_on fresh used count plain) ≡ run used plain
      unfolding packet_on
      data_is fresh used count plain = refl

      plain_back : (l : Link) (head : ℕ) (used : Rc4) (plain : List ℕ) → state_for l head ≡ used → plain_for l head (run used plain) ≡ plain
      unfolding plain_for
      plain_back l head used plain e = rw e (run_twice used plain)

      -- and `far` the farthest distance that is opened
      module _ (far : ℕ) where
        code_at : (next q : ℕ) (state used : Rc4) (mark fresh : Bool) (plain : List ℕ) (lent : ℕ) → Box state → far < counts → next ≤ q → q - next < far
            → Sealable limit plain
            → open_code limit far (held_at next state mark) (packet_on fresh used (q % counts) plain) lent
            ≡ first_of
            ((waiting, not (opens (held_at next state mark) (header_at fresh q)))
            ∷ data_rows (held_at next state mark) (header_at fresh q) (run used plain) lent)
        unfolding open_code held_at
        code_at next q state used mark fresh plain lent box bound low near can =
            let packet : List ℕ = packet_on fresh used (q % counts) plain in
            let l : Link = held_at next state mark in
            let head = sealed_header fresh used (q % counts) plain (omega arith) in
            let text : data_in packet ≡ run used plain = unfold packet_on in refl in
            let whole : first_of (front_rows limit l packet) ≡ done =
            unfold packet_on in front_none limit l fresh (q % counts) (run used plain) (well_held next state mark box) (rw (run_length used plain) can.0) in
            let away = away_at next q state mark fresh low (omega arith) in
            let new : eqb (away_for l (header_at fresh q)) 0 ≡ false = ne_eqb (away_for l (header_at fresh q)) 0 (λ z. omega (arith, away, z)) in
            let close : ltb far (away_for l (header_at fresh q)) ≡ false = le-ltb far (away_for l (header_at fresh q)) (omega (arith, away)) in
            rows_pass (front_rows limit l packet) (header_rows far l (header_in packet) ++ data_rows l (header_in packet) (data_in packet) lent) refl whole
            ∙ rw (head, text, header_D fresh (q % counts) (omega arith), new, close)

        -- a packet that is opened, with the box that it was sealed with
        opened_at : (next q : ℕ) (state used : Rc4) (mark fresh : Bool) (plain lent : List ℕ) → Box state → far < counts → next ≤ q → q - next < far
            → Sealable limit plain → length plain ≤ length lent → opens (held_at next state mark) (header_at fresh q) ≡ true
            → state_for (held_at next state mark) (header_at fresh q) ≡ used
            → open_result limit far (held_at next state mark) (packet_on fresh used (q % counts) plain) lent
            ≡ finished (made_at next q) (held_at (suc q) (after used plain) false) (written plain lent)
        unfolding open_result
        opened_at next q state used mark fresh plain lent box bound low near can fits opn box-is =
            let l : Link = held_at next state mark in
            let text : List ℕ = run used plain in
            let long = run_length used plain in
            let h : ℕ = header_at fresh q in
            let back : plain_for l h text ≡ plain = plain_back l h used plain box-is in
            let roomy : ltb (length lent) (length text) ≡ false = le-ltb (length lent) (length text) (omega (arith, long)) in
            let carried : off_protocol (plain_for l h text) ≡ false = rw back can.1 in
            let code : open_code limit far l (packet_on fresh used (q % counts) plain) (length lent) ≡ done =
            code_at next q state used mark fresh plain (length lent) box bound low near can ∙ rw (opn, roomy, carried) in
            let made_is = changes_at next q state mark fresh low (omega arith) in
            let left : link_after l h text ≡ held_at (suc q) (after used plain) false =
            rw
            (kept_is next state (after (state_for l h) text) mark, key_at_lem next q state mark fresh low (omega arith), header_count fresh (q % counts) (omega arith), box-is, after_length used text plain long)
            (record_next next q state (after used plain) mark false) in
            rw (code, sealed_header fresh used (q % counts) plain (omega arith), data_is fresh used (q % counts) plain, back, made_is, left)

        -- one that has bit A, whatever was lost before it
        pub fresh_opens : (next q : ℕ) (state : Rc4) (mark : Bool) (plain lent : List ℕ) → Box state → far < counts → next ≤ q → q - next < far
            → Sealable limit plain → length plain ≤ length lent
            → open_result limit far (held_at next state mark) (packet_on true (key_schedule (key_at (suc q))) (q % counts) plain) lent
            ≡ finished (made_at next q) (held_at (suc q) (after (key_schedule (key_at (suc q))) plain) false) (written plain lent)
        unfolding state_for
        fresh_opens next q state mark plain lent box bound low near can fits =
            let set = header_A true (q % counts) (omega arith) in
            opened_at next q state (key_schedule (key_at (suc q))) mark true plain lent box bound low near can fits (rw set)
            (rw (set, key_at_lem next q state mark true low (omega arith)))

        -- one that is waited for
        waits_at : (next q : ℕ) (state used : Rc4) (mark fresh : Bool) (plain lent : List ℕ) → Box state → far < counts → next ≤ q → q - next < far
            → Sealable limit plain → opens (held_at next state mark) (header_at fresh q) ≡ false
            → open_result limit far (held_at next state mark) (packet_on fresh used (q % counts) plain) lent
            ≡ unopened (made_at next q) (held_at (suc q) (on_done (made_at next q) state (key_schedule (key_at (suc q)))) true) lent
        unfolding open_result
        waits_at next q state used mark fresh plain lent box bound low near can shut =
            let l : Link = held_at next state mark in
            let h : ℕ = header_at fresh q in
            let code : open_code limit far l (packet_on fresh used (q % counts) plain) (length lent) ≡ waiting =
            code_at next q state used mark fresh plain (length lent) box bound low near can ∙ rw shut in
            let left : with_box (renewed l (key_for l h) (count_of h)) (box_for l h) true ≡ held_at (suc q) (on_done (made_at next q) state (key_schedule (key_at (suc q)))) true =
            rw (key_at_lem next q state mark fresh low (omega arith), header_count fresh (q % counts) (omega arith), box_at next q state mark fresh low (omega arith))
            (record_next next q state (on_done (made_at next q) state (key_schedule (key_at (suc q)))) mark true) in
            rw (code, sealed_header fresh used (q % counts) plain (omega arith), changes_at next q state mark fresh low (omega arith), left)

        -- the box that an opened packet is opened with is the one that it was sealed with
        state_used : (next q : ℕ) (state prev : Rc4) (was fresh : Bool) → next ≤ q → suc (q - next) < counts → (fresh ≡ false → suc q % 256 ≢ 0)
            → (was ≡ true → q ≡ next → state ≡ prev) → (fresh || (eqb q next && was)) ≡ true
            → state_for (held_at next state (not was)) (header_at fresh q) ≡ used_at q fresh prev
        unfolding state_for
        state_used next q state prev was true low near odd same opn =
            rw (header_A true (q % counts) (omega arith), key_at_lem next q state (not was) true low near)
        state_used next q state prev was false low near odd same opn =
            let (at, opened) = split (eqb q next) was refl opn in
            let none : made_at next q ≡ 0 = omega (arith, made_is next q low, at, odd refl) in
            rw (header_A false (q % counts) (omega arith), box_at next q state (not was) false low near, none) (same opened at)
          where
            split : (t w : Bool) → eqb q next ≡ t → (t && w) ≡ true → (q ≡ next) × (w ≡ true)
            split true w e h = (eqb-true q next e, h)
            split false w e h = absurd (false≢true h)

        -- what an arrival gives, by whether it is opened: the box that it leaves, and the result
        abbrev left_at : (next q : ℕ) (state prev : Rc4) (fresh : Bool) (plain : List ℕ) (t : Bool) → Rc4
        left_at next q state prev fresh plain t = pick t (after (used_at q fresh prev) plain) (on_done (made_at next q) state (key_schedule (key_at (suc q))))

        abbrev due_at : (next q : ℕ) (state prev : Rc4) (fresh : Bool) (plain lent : List ℕ) (t : Bool) → Result
        due_at next q state prev fresh plain lent t =
            record {
              outcome =
                  record { answer = pick t done waiting; changes = made_at next q; link = held_at (suc q) (left_at next q state prev fresh plain t) (not t) };
              buffer = pick t (written plain lent) lent;
            }

        step_is : (next q : ℕ) (state prev : Rc4) (was fresh : Bool) (plain lent : List ℕ) → Box state → far < counts → next ≤ q → q - next < far
            → Sealable limit plain → length plain ≤ length lent → (fresh ≡ false → suc q % 256 ≢ 0) → (was ≡ true → q ≡ next → state ≡ prev)
            → (t : Bool) → (fresh || (eqb q next && was)) ≡ t
            → open_result limit far (held_at next state (not was)) (packet_on fresh (used_at q fresh prev) (q % counts) plain) lent
            ≡ due_at next q state prev fresh plain lent t
        step_is next q state prev was fresh plain lent box bound low near can fits odd same true e =
            opened_at next q state (used_at q fresh prev) (not was) fresh plain lent box bound low near can fits
            (opens_at next q state was fresh low (omega arith) ∙ e) (state_used next q state prev was fresh low (omega arith) odd same e)
        step_is next q state prev was fresh plain lent box bound low near can fits odd same false e =
            waits_at next q state (used_at q fresh prev) (not was) fresh plain lent box bound low near can
            (opens_at next q state was fresh low (omega arith) ∙ e)

        -- that is what is due
        due_is : (ps : List Packet) (next q : ℕ) (state prev : Rc4) (was mark fresh : Bool) (plain lent : List ℕ)
            → numbered s start ps q ≡ packet_at q fresh prev plain
            → due_of limit far s start ps next was (held_at next state mark) q lent ≡ due_at next q state prev fresh plain lent (fresh || (eqb q next && was))
        unfolding due_of packet_at
        due_is ps next q state prev was mark fresh plain lent e =
            let held : (held_at next state mark).state ≡ state = unfold held_at in refl in
            rw (e, held, record_next next q state (on_done (made_at next q) state (key_schedule (key_at (suc q)))) mark true)
            (by (fresh || (eqb q next && was)))
          where
            by : (t : Bool)
                → pick t (finished (made_at next q) (held_at (suc q) (after (used_at q fresh prev) plain) false) (written plain lent))
                (unopened (made_at next q) (held_at (suc q) (on_done (made_at next q) state (key_schedule (key_at (suc q)))) true) lent)
                ≡ due_at next q state prev fresh plain lent t
            by true = refl
            by false = refl

        -- the box that an arrival leaves
        left_box : (next q : ℕ) (state prev : Rc4) (fresh : Bool) (plain : List ℕ) (t : Bool) → Box state → Box prev
            → Box (left_at next q state prev fresh plain t)
        left_box next q state prev fresh plain true box box' =
            after_box (used_at q fresh prev) plain (picked_box fresh (key_schedule (key_at (suc q))) prev (keyed_box (key_at (suc q))) box')
        left_box next q state prev fresh plain false box box' = by (made_at next q)
          where
            by : (n : ℕ) → Box (on_done n state (key_schedule (key_at (suc q))))
            by zero = box
            by (suc n) = keyed_box (key_at (suc q))

        -- what the sender's record holds after a packet
        state_of : (q : ℕ) (prev : Rc4) (p : Packet) → p ≡ packet_at q p.fresh prev p.plain → p.link.state ≡ after (used_at q p.fresh prev) p.plain
        state_of q prev p is = ap (λ (x : Packet). x.link.state) is ∙ unfold packet_at held_at in refl

        -- every packet's box before it is a permutation
        before_box : (ps : List Packet) (m : ℕ) (prev : Rc4) (i : ℕ) → Box prev → Chain m prev ps → Box (before prev ps i)
        unfolding before Chain
        before_box ps m prev zero box all = box
        before_box [] m prev (suc i) box all = box
        before_box (p ∷ ps) m prev (suc i) box (at, all) =
            before_box ps (suc m) p.link.state i (link_box p at) all
          where
            link_box : (p : Packet) → IsAt m prev p → Box p.link.state
            link_box p (is, can, odd) =
                rw (state_of m prev p is) (after_box (used_at m p.fresh prev) p.plain (picked_box p.fresh (key_schedule (key_at (suc m))) prev (keyed_box (key_at (suc m))) box))

        -- the receiver's results
        opens_all : (most : ℕ) (first : Rc4) (ps : List Packet) (cs : List OpenCall) (next : ℕ) (was : Bool) (state : Rc4) → far < counts → most < far
            → Box first → Chain 0 first ps → Box state → (was ≡ true → state ≡ before first ps next)
            → Meets limit far s start ps most next was (held_at next state (not was)) cs
            → open_run limit far (held_at next state (not was)) cs ≡ due limit far s start ps next was (held_at next state (not was)) cs
        unfolding open_run due Meets
        opens_all most first ps [] next was state bound below box₀ all box same line = refl
        opens_all most first ps (arrival q octets lent ∷ cs) next was state bound below box₀ all box same (known, low, near, here, fits, rest) =
            let p : Packet = numbered s start ps q in
            let prev : Rc4 = before first ps q in
            let (is, can, odd) : IsAt q prev p = rw (zero-add q) at (chain_at 0 first ps q all known) in
            let t : Bool = p.fresh || (eqb q next && was) in
            let l : Link = held_at next state (not was) in
            let due-here = due_is ps next q state prev was (not was) p.fresh p.plain lent is in
            let octets-are : octets ≡ packet_on p.fresh (used_at q p.fresh prev) (q % counts) p.plain =
            here ∙ ap (λ (x : Packet). x.octets) is ∙ unfold packet_at in refl in
            let one : open_result limit far l octets lent ≡ due_of limit far s start ps next was l q lent =
            rw octets-are
            (step_is next q state prev was p.fresh p.plain lent box bound low (omega arith) can fits odd
            (λ w e. same w ∙ ap (λ (n : ℕ). before first ps n) (sym e)) t refl)
            ∙ sym due-here in
            let link-is : (due_of limit far s start ps next was l q lent).outcome.link ≡ held_at (suc q) (left_at next q state prev p.fresh p.plain t) (not t) =
            ap (λ (r : Result). r.outcome.link) due-here in
            let after_is : t ≡ true → left_at next q state prev p.fresh p.plain t ≡ before first ps (suc q) =
            λ e. rw e (sym (before_next first ps q known ∙ state_of q prev p is)) in
            let on = opens_all most first ps cs (suc q) t (left_at next q state prev p.fresh p.plain t) bound below box₀ all
            (left_box next q state prev p.fresh p.plain t box (before_box ps 0 first q box₀ all)) after_is
            (subst (λ (m : Link). Meets limit far s start ps most (suc q) t m cs) link-is rest) in
            ap (λ (r : Result). r ∷ open_run limit far r.outcome.link cs) one
            ∙ ap (λ (rs : List Result). due_of limit far s start ps next was l q lent ∷ rs) (rw link-is on)
        opens_all most first ps (other octets lent ∷ cs) next was state bound below box₀ all box same (not0, not11, rest) =
            let l : Link = held_at next state (not was) in
            let r : Result = refusal (open_code limit far l octets (length lent)) l lent in
            rw (open_other limit far l octets lent not0 not11)
            (ap (λ (rs : List Result). r ∷ rs) (opens_all most first ps cs next was state bound below box₀ all box same rest))

-- the run of stateful modems for every limit, every farthest distance and every number lost in a row below it
pub stateful_run : (limit far most : ℕ) → far < counts → most < far → StatefulRun limit far most
unfolding StatefulRun
stateful_run limit far most bound below s start ok sends opens line =
    let h = start_length s start ok in
    let beginning-is : beginning s start ≡ history_at s start 0 unkeyed true = unfold history_at key_at changes in refl in
    let ps : List Packet = packets limit s start (history_at s start 0 unkeyed true) sends in
    let box : Box unkeyed = unkeyed_permutation unkeyed unkeyed_found in
    let line-is : Meets limit far s start ps most 0 false (held_at s start 0 unkeyed true) opens =
    subst₂ (λ (b : History) (l : Link). Meets limit far s start (packets limit s start b sends) most 0 false l opens) beginning-is (first_is_lem s start h) line in
    rw (first_is_lem s start h, beginning-is)
    (sends_all s start h limit sends 0 unkeyed true box, opens_all s start h limit far most unkeyed ps opens 0 false unkeyed bound below box (chained s start h limit sends 0 unkeyed true) box (λ w. absurd (false≢true w)) line-is)

-- at the users' limits
pub stateful_run_base : StatefulRun longest_plain farthest most_lost
stateful_run_base = stateful_run longest_plain farthest most_lost (lit< tt) (lit< tt)
