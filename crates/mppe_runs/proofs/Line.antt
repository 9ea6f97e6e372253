-- A stateless line: both ends' records as functions of the number of packets sealed, the sender's results and the packets that it has
-- sealed, and what open answers to each of these, whichever was opened last.
use Rattle.std.specs.Prelude.{◌≡◌}
use Rattle.std.proofs.Math.Path.{refl, ap}
use Rattle.std.proofs.Common.{◌∙◌}
use Rattle.std.proofs.Math.Bool.{true, false}
use mathlib.Core.List.{List, [], ◌∷◌, ◌++◌}
use Prim.Native.Nat.{ℕ, zero, suc, ◌+◌, ◌-◌, ◌%◌, ◌<◌, ◌≤◌}
use Rattle.std.proofs.Math.Nat.{add-zero}
use native.Mathlib.Omega.{arith}
use Rattle.std.proofs.Math.Dec.{eqb, ltb}
use Rattle.std.proofs.Math.ListN.{length}
use borrow.Author.Tests.{lt-ltb, le-ltb, eq-eqb, ne_eqb}
use Rattle.answer.specs.Answer.{done, size, protocol, repeat, late, outside, first_of, on_done, wrong}
use Rattle.answer.specs.Laws.{clear, rows_pass, right, right_length}
use Rattle.octets.specs.Octets.{written}
use Rattle.rc4.specs.declared.Rc4.{Rc4}
use Rattle.rc4.specs.Cipher.{unkeyed, key_schedule, after}
use Rattle.rc4.proofs.Laws.{run_length, run_twice}
use Rattle.mppe_keys.specs.declared.Strength.{Strength}
use Rattle.mppe_keys.specs.declared.Mode.TheVariants.{Stateless}
use Rattle.mppe_keys.specs.Keys.{key_length, initial_key, key_change, changes, rc4}
use Rattle.mppe_keys.proofs.Laws.{initial_key_length, initial_key_head, changes_length, changes_head, changes_add}
use Rattle.mppe.specs.declared.Link.{Link}
use Rattle.mppe.specs.Link.{shortest_plain, counts, new_count, well_formed, start_key_in, session_key_in, renewed, next_key, next_count, link_of, new_link, new_link_code, off_protocol, sealed_packet, packet_on, header_in, data_in, distance, Result, finished, refusal, plain_rows, seal_code, next_changes, keys_afresh, next_box, kept_box, with_box, count_of, seal_result, changes_over, away_for, changes_for, key_for, state_for, plain_for, front_rows, header_rows, data_rows, open_code, open_result}
use Rattle.mppe.proofs.Laws.{key_back, well, unkeyed_fits, header_of, front_none, sealed_header, header_count, header_A, header_D, distance_is, distance_none, distance_behind}
use Rattle.mppe_runs.specs.Run.{SealCall, Packet, History, seal_run, said_code, first, packet_of, onward, packets, said, numbered}

-- a packet that may be sealed: its plain packet is within the limit and has a protocol number that is carried
abbrev pub Sealable : ℕ → List ℕ → Type 0
Sealable limit plain = (outside shortest_plain limit (length plain) ≡ false) × (off_protocol plain ≡ false)

module _ (s : Strength) (start : List ℕ) where
  -- both ends as they are when m packets are sealed: the session key, the record, the history
  unfoldable pub key_at : ℕ → List ℕ
  key_at m = changes s start m (initial_key s start)

  unfoldable pub record_at : ℕ → Link
  record_at m = link_of s Stateless start (key_at m) ((m + new_count) % counts) unkeyed false

  unfoldable pub history_at : ℕ → History
  history_at m = record { number = m; session = key_at m }

  -- packet q of a plain packet
  unfoldable pub packet_at : ℕ → List ℕ → Packet
  packet_at q plain =
      record { plain = plain; octets = sealed_packet (key_at (suc q)) (q % counts) plain; link = record_at (suc q) }

  -- a start key that is not refused has its strength's octets ..
  pub start_length : (new_link s Stateless start).answer ≡ done → length start ≡ key_length s
  unfolding new_link
  start_length h = right_length (key_length s) start (clear size ((size, wrong (key_length s) start) ∷ []) refl h).0

  -- from here on it has them
  module _ (h : length start ≡ key_length s) where
    -- .. and its new link is the record before the first packet
    pub first_is_lem : first s start ≡ record_at 0
    unfolding new_link record_at key_at changes
    first_is_lem =
        let code : new_link_code s start ≡ done = rw (right (key_length s) start h) in
        rw code

    -- it is well formed at all times
    pub well_at : (m : ℕ) → well_formed (record_at m) ≡ true
    unfolding record_at key_at
    well_at m =
        let long = changes_length s start m (initial_key s start) (initial_key_length s start) in
        let head = changes_head s start m (initial_key s start) (initial_key_head s start) in
        well s Stateless start (key_at m) ((m + new_count) % counts) unkeyed false h long head (omega arith) (unkeyed_fits Stateless)

    -- what the history says next, in terms of m
    pub key_next : (m : ℕ) → key_change s start (key_at m) ≡ key_at (suc m)
    unfolding key_at changes
    key_next m = refl

    pub record_next : (m : ℕ) → link_of s Stateless start (key_at (suc m)) (m % counts) unkeyed false ≡ record_at (suc m)
    unfolding record_at
    record_next m =
        let same : m % counts ≡ (suc m + new_count) % counts = omega arith in
        rw same

    pub packet_is : (m : ℕ) (plain : List ℕ)
        → packet_of s start (history_at m) plain ≡ packet_at m plain
    unfolding packet_of history_at packet_at record_at
    packet_is m plain = rw (first_is_lem, key_next m, record_next m)

    -- what the record holds, and what it becomes with packet q
    start_in : (m : ℕ) → start_key_in (record_at m) ≡ start
    unfolding record_at
    start_in m = key_back s start h

    session_in : (m : ℕ) → session_key_in (record_at m) ≡ key_at m
    unfolding record_at key_at
    session_in m = key_back s (key_at m) (changes_length s start m (initial_key s start) (initial_key_length s start))

    next_key_at : (m : ℕ) → next_key (record_at m) ≡ key_at (suc m)
    unfolding next_key record_at changes_over
    next_key_at m = rw (start_in m, session_in m) (unfold changes in key_next m)

    next_count_at : (m : ℕ) → next_count (record_at m) ≡ m % counts
    unfolding record_at
    next_count_at m = omega arith

    -- what the next packet is, and the record after it
    sealed_at_lem : (m : ℕ) (plain : List ℕ)
        → packet_on (keys_afresh (record_at m)) (next_box (record_at m)) (next_count (record_at m)) plain ≡ sealed_packet (key_at (suc m)) (m % counts) plain
    unfolding next_box
    sealed_at_lem m plain =
        let fresh : keys_afresh (record_at m) ≡ true = unfold record_at changes_over in refl in
        rw (fresh, next_key_at m, next_count_at m)

    settled_at : (m : ℕ) (left : Rc4)
        → with_box (renewed (record_at m) (next_key (record_at m)) (next_count (record_at m))) (kept_box (record_at m) left) false ≡ record_at (suc m)
    settled_at m left =
        rw (next_key_at m, next_count_at m) (unfold record_at in record_next m)

    made_at_lem : (m : ℕ) → next_changes (record_at m) ≡ 1
    unfolding record_at changes_over
    made_at_lem m = refl

    -- what the receiver makes of packet q's header when the last that it opened is the one before `next`
    abbrev header_at : ℕ → ℕ
    header_at q = header_of true (q % counts)

    changes_at : (next q : ℕ) → changes_for (record_at next) (header_at q) ≡ distance ((next + new_count) % counts) (q % counts)
    unfolding record_at changes_over
    changes_at next q = rw (header_count true (q % counts) (omega arith))

    away_at : (next q : ℕ) → away_for (record_at next) (header_at q) ≡ changes_for (record_at next) (header_at q)
    unfolding record_at changes_over
    away_at next q = refl

    key_at_lem : (next q r : ℕ) → changes_for (record_at next) (header_at q) ≡ suc (r - next) → next ≤ r → key_for (record_at next) (header_at q) ≡ key_at (suc r)
    unfolding key_for record_at
    key_at_lem next q r e low =
        let all : next + suc (r - next) ≡ suc r = omega arith in
        let add : changes s start (suc (r - next)) (key_at next) ≡ key_at (next + suc (r - next)) =
        unfold key_at in changes_add s start next (suc (r - next)) (initial_key s start) in
        rw (e, start_in next, session_in next) (add ∙ ap key_at all)

    -- `limit` is the longest plain packet
    module _ (limit : ℕ) where
      -- the next seal call is answered as the history says
      seal_code_lem : (m : ℕ) (c : SealCall)
          → seal_code limit (record_at m) c.plain (length c.room) ≡ said_code limit c
      unfolding seal_code said_code
      seal_code_lem m c = rw (well_at m)

      seal_next : (m : ℕ) (c : SealCall)
          → seal_result limit (record_at m) c.plain c.room
          ≡ on_done (said_code limit c) (finished 1 (record_at (suc m)) (written (packet_at m c.plain).octets c.room))
          (refusal (said_code limit c) (record_at m) c.room)
      unfolding seal_result packet_at
      seal_next m c = rw (seal_code_lem m c, settled_at m (after (next_box (record_at m)) c.plain), sealed_at_lem m c.plain, made_at_lem m)

      -- the history moves on with the records
      history_next : (m : ℕ) (c : SealCall)
          → onward limit s start (history_at m) c ≡ on_done (said_code limit c) (history_at (suc m)) (history_at m)
      unfolding onward history_at key_at changes
      history_next m c = refl

      -- the sender's results, by the number that its first call answers
      seals_on : (m code : ℕ) (cs : List SealCall) (sent lent : List ℕ)
          → ((n : ℕ) → seal_run limit (record_at n) cs ≡ said limit s start (history_at n) (record_at n) cs)
          → seal_run limit (on_done code (finished 1 (record_at (suc m)) sent) (refusal code (record_at m) lent)).outcome.link cs
          ≡ said limit s start (on_done code (history_at (suc m)) (history_at m)) (on_done code (record_at (suc m)) (record_at m)) cs
      seals_on m zero cs sent lent ih = ih (suc m)
      seals_on m (suc n) cs sent lent ih = ih m

      pub seals_all : (m : ℕ) (cs : List SealCall)
          → seal_run limit (record_at m) cs ≡ said limit s start (history_at m) (record_at m) cs
      unfolding seal_run said packet_at
      seals_all m [] = refl
      seals_all m (c ∷ cs) =
          let sent = written (packet_at m c.plain).octets c.room in
          rw (seal_next m c, packet_is m c.plain, history_next m c)
          (ap (λ (rs : List Result). on_done (said_code limit c) (finished 1 (record_at (suc m)) sent) (refusal (said_code limit c) (record_at m) c.room) ∷ rs)
          (seals_on m (said_code limit c) cs sent c.room λ n. seals_all n cs))

      -- packets are those of their numbers, counted from m
      abbrev pub IsAt : ℕ → Packet → Type 0
      IsAt q p = (p ≡ packet_at q p.plain) × Sealable limit p.plain

      unfoldable pub AllAt : ℕ → List Packet → Type 0
      AllAt m [] = Unit {0}
      AllAt m (p ∷ ps) = IsAt m p × AllAt (suc m) ps

      sealable : (c : SealCall) → said_code limit c ≡ done → Sealable limit c.plain
      unfolding said_code
      sealable c e =
          let rows = plain_rows limit c.plain (length c.room) in
          ((clear size rows refl e).0, (clear protocol rows refl e).0)

      packets_on : (m code : ℕ) (c : SealCall) (cs : List SealCall) → said_code limit c ≡ code
          → ((n : ℕ) → AllAt n (packets limit s start (history_at n) cs))
          → AllAt m
          (on_done code (packet_at m c.plain ∷ packets limit s start (on_done code (history_at (suc m)) (history_at m)) cs)
          (packets limit s start (on_done code (history_at (suc m)) (history_at m)) cs))
      unfolding AllAt packet_at
      packets_on m zero c cs e ih = ((refl, sealable c e), ih (suc m))
      packets_on m (suc n) c cs e ih = ih m

      pub packets_at : (m : ℕ) (cs : List SealCall)
          → AllAt m (packets limit s start (history_at m) cs)
      unfolding AllAt packets
      packets_at m [] = tt
      packets_at m (c ∷ cs) =
          rw (packet_is m c.plain, history_next m c)
          (packets_on m (said_code limit c) c cs refl λ n. packets_at n cs)

      pub numbered_at : (m : ℕ) (ps : List Packet) (i : ℕ) → AllAt m ps → i < length ps
          → IsAt (m + i) (numbered s start ps i)
      unfolding AllAt numbered
      numbered_at m [] i all known = absurd (omega arith)
      numbered_at m (p ∷ ps) zero all known = rw add-zero all.0
      numbered_at m (p ∷ ps) (suc i) all known =
          let e : m + suc i ≡ suc m + i = omega arith in
          rw e (numbered_at (suc m) ps i all.1 (omega arith))

      -- a packet on the line: its header, its data, and the rows that it passes whatever was opened last
      line_header : (q : ℕ) (plain : List ℕ) → header_in (packet_at q plain).octets ≡ header_at q
      unfolding packet_at
      line_header q plain = sealed_header true (key_schedule (key_at (suc q))) (q % counts) plain (omega arith)

      line_data : (q : ℕ) (plain : List ℕ) → data_in (packet_at q plain).octets ≡ rc4 (key_at (suc q)) plain
      unfolding packet_at packet_on
      line_data q plain = refl

      line_front : (m q : ℕ) (plain : List ℕ) → Sealable limit plain → first_of (front_rows limit (record_at m) (packet_at q plain).octets) ≡ done
      unfolding packet_at packet_on
      line_front m q plain can =
          front_none limit (record_at m) true (q % counts) (rc4 (key_at (suc q)) plain) (well_at m) (rw (run_length (key_schedule (key_at (suc q))) plain) can.0)

      -- and `far` the farthest distance that is opened
      module _ (far : ℕ) where
        line_code : (m q : ℕ) (plain : List ℕ) (lent : ℕ) → Sealable limit plain
            → open_code limit far (record_at m) (packet_at q plain).octets lent
            ≡ first_of
            ((repeat, eqb (away_for (record_at m) (header_at q)) 0)
            ∷ (late, ltb far (away_for (record_at m) (header_at q)))
            ∷ data_rows (record_at m) (header_at q) (rc4 (key_at (suc q)) plain) lent)
        unfolding open_code record_at
        line_code m q plain lent can =
            let packet : List ℕ = (packet_at q plain).octets in
            let h : ℕ = header_in packet in
            rows_pass (front_rows limit (record_at m) packet) (header_rows far (record_at m) h ++ data_rows (record_at m) h (data_in packet) lent) refl (line_front m q plain can)
            ∙ rw (line_header q plain, line_data q plain, header_A true (q % counts) (omega arith), header_D true (q % counts) (omega arith))

        -- what an arrival opens to, and what it leaves
        plain_at : (next q : ℕ) (plain : List ℕ) → key_for (record_at next) (header_at q) ≡ key_at (suc q)
            → plain_for (record_at next) (header_at q) (rc4 (key_at (suc q)) plain) ≡ plain
        unfolding plain_for state_for
        plain_at next q plain key = rw (header_A true (q % counts) (omega arith), key) (run_twice (key_schedule (key_at (suc q))) plain)

        opened_at : (next q : ℕ) (left : Rc4) → key_for (record_at next) (header_at q) ≡ key_at (suc q)
            → with_box (renewed (record_at next) (key_for (record_at next) (header_at q)) (count_of (header_at q))) (kept_box (record_at next) left) false ≡ record_at (suc q)
        opened_at next q left key =
            rw (key, header_count true (q % counts) (omega arith)) (unfold record_at in record_next q)

        -- so it opens as is due
        pub open_arrival : (next q : ℕ) (plain lent : List ℕ) → far < counts → Sealable limit plain → next ≤ q → q - next < far → length plain ≤ length lent
            → open_result limit far (record_at next) (packet_at q plain).octets lent
            ≡ finished (suc (q - next)) (record_at (suc q)) (written plain lent)
        unfolding open_result
        open_arrival next q plain lent bound can low near fits =
            let text : List ℕ = rc4 (key_at (suc q)) plain in
            let long : length text ≡ length plain = run_length (key_schedule (key_at (suc q))) plain in
            let made : changes_for (record_at next) (header_at q) ≡ suc (q - next) = rw (changes_at next q) (distance_is next q low (omega arith)) in
            let key = key_at_lem next q q made low in
            let opened = plain_at next q plain key in
            let away : away_for (record_at next) (header_at q) ≡ suc (q - next) = away_at next q ∙ made in
            let new : eqb (away_for (record_at next) (header_at q)) 0 ≡ false =
            ne_eqb (away_for (record_at next) (header_at q)) 0 (λ z. omega (arith, away, z)) in
            let close : ltb far (away_for (record_at next) (header_at q)) ≡ false =
            le-ltb far (away_for (record_at next) (header_at q)) (omega (arith, away)) in
            let roomy : ltb (length lent) (length text) ≡ false = le-ltb (length lent) (length text) (omega (arith, long)) in
            let carried : off_protocol (plain_for (record_at next) (header_at q) text) ≡ false = rw opened can.1 in
            let code : open_code limit far (record_at next) (packet_at q plain).octets (length lent) ≡ done =
            line_code next q plain (length lent) can ∙ rw (new, close, roomy, carried) in
            rw (code, line_header q plain, line_data q plain, opened, made, opened_at next q (after (state_for (record_at next) (header_at q)) text) key)

        -- the packet that was opened last is a repeat
        pub repeat_code : (q : ℕ) (plain : List ℕ) (lent : ℕ) → Sealable limit plain
            → open_code limit far (record_at (suc q)) (packet_at q plain).octets lent ≡ repeat
        repeat_code q plain lent can =
            line_code (suc q) q plain lent can ∙ rw (eq-eqb (away_for (record_at (suc q)) (header_at q)) 0 (away_at (suc q) q ∙ changes_at (suc q) q ∙ distance_none q))

        -- one beyond the farthest distance is late: one that it has overtaken ..
        beyond_farthest : (next q : ℕ) (plain : List ℕ) (lent : ℕ) → Sealable limit plain → far < away_for (record_at next) (header_at q)
            → open_code limit far (record_at next) (packet_at q plain).octets lent ≡ late
        beyond_farthest next q plain lent can beyond =
            let away : ℕ = away_for (record_at next) (header_at q) in
            line_code next q plain lent can ∙ rw (ne_eqb away 0 (λ z. omega (arith, beyond, z)), lt-ltb far away beyond)

        pub late_code : (next q : ℕ) (plain : List ℕ) (lent : ℕ) → Sealable limit plain → suc q < next → far + (next - suc q) < counts
            → open_code limit far (record_at next) (packet_at q plain).octets lent ≡ late
        late_code next q plain lent can low near =
            let made = away_at next q ∙ changes_at next q ∙ distance_behind next q low (omega arith) in
            beyond_farthest next q plain lent can (omega (arith, made))

        -- .. and one farther ahead than is opened, though it is new
        pub beyond_code : (next q : ℕ) (plain : List ℕ) (lent : ℕ) → Sealable limit plain → next + far ≤ q → suc q < next + counts
            → open_code limit far (record_at next) (packet_at q plain).octets lent ≡ late
        beyond_code next q plain lent can low near =
            let made = away_at next q ∙ changes_at next q ∙ distance_is next q (omega arith) (omega arith) in
            beyond_farthest next q plain lent can (omega (arith, made))

        -- one too far behind is taken for one ahead: neither 6 nor 10 applies, and the receiver opens it with the key of the packet that
        -- has its count one round later
        pub round_code : (next q : ℕ) (plain : List ℕ) (lent : ℕ) → Sealable limit plain → far < counts → suc q + counts ≤ next + far → next ≤ q + counts
            → (open_code limit far (record_at next) (packet_at q plain).octets lent
            ≡ first_of (data_rows (record_at next) (header_in (packet_at q plain).octets) (data_in (packet_at q plain).octets) lent))
            × (key_for (record_at next) (header_in (packet_at q plain).octets) ≡ key_at (suc (q + counts)))
        round_code next q plain lent can bound near low =
            let round : q % counts ≡ (q + counts) % counts = omega arith in
            let made : changes_for (record_at next) (header_at q) ≡ suc (q + counts - next) =
            changes_at next q ∙ ap (distance ((next + new_count) % counts)) round ∙ distance_is next (q + counts) low (omega arith) in
            let away : ℕ = away_for (record_at next) (header_at q) in
            let is : away ≡ suc (q + counts - next) = away_at next q ∙ made in
            rw (line_header q plain, line_data q plain) (
              line_code next q plain lent can ∙ rw (ne_eqb away 0 (λ z. omega (arith, is, z)), le-ltb far away (omega (arith, is))),
              key_at_lem next q (q + counts) made low,
            )
