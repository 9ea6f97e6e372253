-- Opening on, proved: `opens_on` at the end is the claim.
use Rattle.std.proofs.Math.Path.{◌≡◌, refl, ap}
use Rattle.std.proofs.Common.{sym, ◌∙◌, length-drop, drop_of_length-le, take_at, drop_at, ltb-true, ltb-false}
use Rattle.std.specs.Prelude.{Bool, eqb, ltb, take, drop, get_or, replicate, Ok}
use Rattle.std.proofs.Math.Bool.{true, false}
use mathlib.Core.List.{List, [], ◌∷◌, ◌++◌, append_assoc, append-nil}
use Prim.Native.Nat.{ℕ, zero, suc, ◌+◌, ◌*◌, ◌-◌, ◌/◌, ◌%◌, ◌^◌, ◌<◌, ◌≤◌}
use native.Mathlib.Omega.{arith}
use Rattle.std.proofs.Math.ListN.{length, length-append, length-replicate}
use Rattle.std.proofs.Math.Seq.{take-append_seam, drop-append-add}
use Rattle.answer.specs.Answer.{done, waiting, pick, on_done}
use Rattle.answer.specs.Laws.{within}
use Rattle.octets.specs.Octets.{Octets}
use Rattle.rc4.specs.Cipher.{run}
use Rattle.rc4.proofs.Laws.{run_length}
use Rattle.mppe.specs.declared.Link.{Link}
use Rattle.mppe.specs.declared.Outcome.{Outcome}
use Rattle.mppe.specs.Link.{front, longest_plain, farthest, Result, header_in, data_in, state_for, plain_for, open_code, opened_by, open_result, refusal, waited}
use Rattle.mppe.proofs.Laws.{open_room}
use Rattle.tape.specs.Tape.{first_octet, shortest_packet, most_groups, groups, Contents, record_size, record_of, records_of, tape_of, Writable, read_from, contents, holding, ReadsBack}
use Rattle.tape.proofs.Laws.{reads_records, records_only, reads_back, records_count, records_append, writable_behind}
use Rattle.tape.specs.Replay.{Step, Held, held, held_by, fed, replay, held_after, at_end}
use Rattle.tape.proofs.ReplayLaws.{replay_from}
use Rattle.marks.specs.declared.Mark.{Mark}
use Rattle.marks.specs.Marks.{every, mark_length, mark_octets, marks_octets, mark_read, start_at, Opened, opened, onward, walk, reached, marks_from, marks_of}
use Rattle.marks.specs.Resume.{Shows, ShowsTo, mark_at, Resumes, OpensOn}
use Rattle.marks.proofs.Laws.{Whole, Markable, mark_length_lem, mark_back, check_yes, onward_whole, onward_opened, kept_is, marks_length, marks_number}

module _ (k limit far : ℕ) where
  -- a walk over two lists, one behind the other
  walk_append : (m : Mark) (a b : List (List ℕ)) → walk k limit far m (a ++ b) ≡ walk k limit far m a ++ walk k limit far (reached k limit far m a) b
  unfolding walk reached
  walk_append m [] b = refl
  walk_append m (p ∷ a) b = rw (walk_append (onward k limit far m p) a b)

  reached_append : (m : Mark) (a b : List (List ℕ)) → reached k limit far m (a ++ b) ≡ reached k limit far (reached k limit far m a) b
  unfolding reached
  reached_append m [] b = refl
  reached_append m (p ∷ a) b = reached_append (onward k limit far m p) a b

  -- where it ends: the record, the offset, and how many were opened
  reached_whole : (m : Mark) (ps : List (List ℕ)) → Whole m.link → Whole (reached k limit far m ps).link
  unfolding reached
  reached_whole m [] whole = whole
  reached_whole m (p ∷ ps) whole = reached_whole (onward k limit far m p) ps (onward_whole k limit far m p whole)

  reached_offset : (m : Mark) (ps : List (List ℕ)) → (reached k limit far m ps).offset ≡ m.offset + length (records_of k ps)
  unfolding reached records_of record_of onward opened
  reached_offset m [] = omega arith
  reached_offset m (p ∷ ps) = reached_offset (onward k limit far m p) ps ∙ simp length-append (omega arith)

  reached_opened : (m : Mark) (ps : List (List ℕ)) → (reached k limit far m ps).opened ≤ m.opened + length ps
  unfolding reached
  reached_opened m [] = omega arith
  reached_opened m (p ∷ ps) = omega (arith, reached_opened (onward k limit far m p) ps, (onward_opened k limit far m p).1)

  -- a mark of a walk: the packets before it and behind it, its octets in the list, and its number
  record Found (m : Mark) (ps : List (List ℕ)) (i : ℕ) : Type 0 where
    before : List (List ℕ)
    behind : List (List ℕ)
    packets : ps ≡ before ++ behind
    octets : mark_at i (marks_octets (marks_from k limit far m ps)) ≡ mark_octets (reached k limit far m before)
    number : (reached k limit far m before).opened ≡ every * (m.opened / every + suc i)

  found : (m : Mark) (ps : List (List ℕ)) (i : ℕ) → Whole m.link → i < length (marks_from k limit far m ps) → Found m ps i
  unfolding marks_from marks_octets reached
  found m [] i whole h = absurd (omega arith)
  found m (p ∷ ps) i whole h = by (ltb (m.opened / every) (next.opened / every)) refl i h (λ j. found next ps j after)
    where
      next : Mark
      next = onward k limit far m p

      after : Whole next.link
      after = onward_whole k limit far m p whole

      rest : List Mark
      rest = marks_from k limit far next ps

      -- the list, by whether a mark is kept behind the packet
      list : (t : Bool) → ltb (m.opened / every) (next.opened / every) ≡ t → marks_from k limit far m (p ∷ ps) ≡ pick t (next ∷ []) [] ++ rest
      list t e = ap (λ a. a ++ rest) (kept_is k limit far m p ∙ ap (λ u. pick u (next ∷ []) []) e)

      size : length (mark_octets next) ≡ mark_length
      size = mark_length_lem next after.2

      by : (t : Bool) → ltb (m.opened / every) (next.opened / every) ≡ t → (i : ℕ) → i < length (marks_from k limit far m (p ∷ ps))
          → ((j : ℕ) → j < length rest → Found next ps j) → Found m (p ∷ ps) i
      by true e zero h ih =
          let (low, high) = onward_opened k limit far m p in
          record {
            before = p ∷ [];
            behind = ps;
            packets = refl;
            octets = ap (λ a. mark_at 0 (marks_octets a)) (list true e) ∙ take_at (mark_octets next) (marks_octets rest) mark_length size;
            number = omega (arith, ltb-true (m.opened / every) (next.opened / every) e);
          }
      by true e (suc j) h ih =
          let (low, high) = onward_opened k limit far m p in
          let count = ap (λ a. length a) (list true e) in
          let f = ih j (omega (arith, h, count)) in
          let on : mark_length * suc j ≡ length (mark_octets next) + mark_length * j = omega (arith, size) in
          record {
            before = p ∷ f.before;
            behind = f.behind;
            packets = ap (λ a. p ∷ a) f.packets;
            octets = ap (λ a. mark_at (suc j) (marks_octets a)) (list true e)
                ∙ ap (λ a. take mark_length a) (ap (λ a. drop a (mark_octets next ++ marks_octets rest)) on ∙ drop-append-add (mark_octets next) (marks_octets rest) (mark_length * j))
                ∙ f.octets;
            number = f.number ∙ omega (arith, ltb-true (m.opened / every) (next.opened / every) e);
          }
      by false e i h ih =
          let (low, high) = onward_opened k limit far m p in
          let count = ap (λ a. length a) (list false e) in
          let f = ih i (omega (arith, h, count)) in
          record {
            before = p ∷ f.before;
            behind = f.behind;
            packets = ap (λ a. p ∷ a) f.packets;
            octets = ap (λ a. mark_at i (marks_octets a)) (list false e) ∙ f.octets;
            number = f.number ∙ omega (arith, ltb-false (m.opened / every) (next.opened / every) e);
          }

  -- any room for the plain packet serves: the outcome of the walk, its plain packet in front, and as much room as before
  room_shows : (m : Mark) (packet room : List ℕ) → length packet - front ≤ length room
      → (let r : Result = open_result limit far m.link packet room in
      let o : Opened = opened k limit far m packet in
      (r.outcome ≡ o.outcome) × (take (length o.plain) r.buffer ≡ o.plain) × (length r.buffer ≡ length room))
  unfolding opened open_result plain_for
  room_shows m packet room h =
      rw (open_room limit far l packet (length room) h, length-replicate {A = ℕ} (length packet - front) 0) (by (open_code limit far l packet (length packet - front)))
    where
      l : Link
      l = m.link

      h' : ℕ
      h' = header_in packet

      text : List ℕ
      text = data_in packet

      zeros : List ℕ
      zeros = replicate (length packet - front) 0

      plain : List ℕ
      plain = run (state_for l h') text

      long : length plain ≡ length packet - front
      long = run_length (state_for l h') text ∙ length-drop front packet

      all : plain ++ drop (length plain) zeros ≡ plain
      all =
          let short : length zeros ≤ length plain = omega (arith, length-replicate {A = ℕ} (length packet - front) 0, long) in
          rw (drop_of_length-le zeros short, append-nil)

      by : (code : ℕ)
          → (let r : Result = opened_by code l h' text room in
          let z : Result = opened_by code l h' text zeros in
          (r.outcome ≡ z.outcome) × (take (length (on_done z.outcome.answer z.buffer [])) r.buffer ≡ on_done z.outcome.answer z.buffer [])
          × (length r.buffer ≡ length room))
      by zero = (refl, rw all (take-append_seam plain (drop (length plain) room)), simp (length-append, length-drop) (omega (arith, long)))
      by (suc c) = test (eqb (suc c) waiting)
        where
          test : (t : Bool)
              → (let r : Result = pick t (waited l h' room) (refusal (suc c) l room) in
              let z : Result = pick t (waited l h' zeros) (refusal (suc c) l zeros) in
              (r.outcome ≡ z.outcome) × (take (length (on_done z.outcome.answer z.buffer [])) r.buffer ≡ on_done z.outcome.answer z.buffer [])
              × (length r.buffer ≡ length room))
          test true = (refl, refl, refl)
          test false = (refl, refl, refl)

  -- packets fed into one room for the longest plain packet show the walk, and leave its record and next-held much room
  fed_shows : (m : Mark) (room : List ℕ) (ps : List (List ℕ)) → Writable (front + limit) ps → limit ≤ length room
      → (let h : Held = held m.link room in
      Shows (walk k limit far m ps) (fed k limit far h m.offset ps)
      × ((held_after limit far h ps).link ≡ (reached k limit far m ps).link)
      × (length (held_after limit far h ps).room ≡ length room))
  unfolding Shows walk fed held_after reached Writable onward opened
  fed_shows m room [] all enough = (tt, refl, refl)
  fed_shows m room (p ∷ ps) (fit, all) enough =
      let short = (within shortest_packet (front + limit) (length p) fit).1 in
      let r : Result = open_result limit far m.link p room in
      let next : Mark = onward k limit far m p in
      let (same, shown, size) = room_shows m p room (omega arith) in
      let next-held : held_by r ≡ held next.link r.buffer = ap (λ (o : Outcome). held o.link r.buffer) same in
      let (rest, end, left) = fed_shows next r.buffer ps all (omega arith) in (
        (same, shown, refl, rw next-held rest),
        ap (λ (h : Held). (held_after limit far h ps).link) next-held ∙ end,
        ap (λ (h : Held). length (held_after limit far h ps).room) next-held ∙ left ∙ size,
      )

  fed_append : (h : Held) (o : ℕ) (a b : List (List ℕ))
      → fed k limit far h o (a ++ b) ≡ fed k limit far h o a ++ fed k limit far (held_after limit far h a) (o + length (records_of k a)) b
  unfolding fed held_after records_of record_of
  fed_append h o [] b =
      let none : o + 0 ≡ o = omega arith in
      rw none
  fed_append h o (p ∷ a) b =
      let r : Result = open_result limit far h.link p h.room in
      let on : o + record_size k (length p) + length (records_of k a) ≡ o + length (records_of k (p ∷ a)) = simp length-append (omega arith) in
      rw (fed_append (held_by r) (o + record_size k (length p)) a b, on)

  fed_length : (h : Held) (o : ℕ) (ps : List (List ℕ)) → length (fed k limit far h o ps) ≡ length ps
  unfolding fed
  fed_length h o [] = refl
  fed_length h o (p ∷ ps) = ap suc (fed_length (held_by (open_result limit far h.link p h.room)) (o + record_size k (length p)) ps)

  writable_front : (most : ℕ) (a b : List (List ℕ)) → Writable most (a ++ b) → Writable most a
  unfolding Writable
  writable_front most [] b all = tt
  writable_front most (p ∷ a) b (fit, all) = (fit, writable_front most a b all)

  held_append : (h : Held) (a b : List (List ℕ)) → held_after limit far h (a ++ b) ≡ held_after limit far (held_after limit far h a) b
  unfolding held_after
  held_append h [] b = refl
  held_append h (p ∷ a) b = held_append (held_by (open_result limit far h.link p h.room)) a b

module _ (k limit far : ℕ) (fits : front + limit < 128 ^ k) where
  -- a tape that reads without a refusal holds its packets, and nothing else
  holds : (tape : List ℕ) → Octets tape → (contents k (front + limit) tape).answer ≡ done
      → Writable (front + limit) (contents k (front + limit) tape).packets × (tape ≡ tape_of k (contents k (front + limit) tape).packets)
  unfolding contents ReadsBack
  holds tape octets e =
      let (_, _, _, last) = records_only k (front + limit) fits (length tape) tape 1 octets (omega arith) e in
      let c : Contents = read_from k (front + limit) tape 1 in
      (reads_back k (front + limit) fits tape c.packets octets).0 (whole c.packets c.answer c.offset e last)
    where
      whole : (ps : List (List ℕ)) (a o : ℕ) → a ≡ done → o ≡ length tape → ◌≡◌ {A = Contents} (record { packets = ps; answer = a; offset = o }) (holding tape ps)
      whole ps a o e last = rw (e, last)

  -- a record has seven octets at least: so a room of one octet for every 35 of the tape has room for its list
  one_group : (k n : ℕ) → 0 < k → 1 ≤ length (groups k n)
  unfolding groups
  one_group zero n h = absurd (omega arith)
  one_group (suc k) n h = by (ltb n 128)
    where
      by : (t : Bool) → 1 ≤ length (pick t (n ∷ []) ((128 + n % 128) ∷ groups k (n / 128)))
      by true = omega arith
      by false = omega arith

  some_group : (k : ℕ) → front + limit < 128 ^ k → 0 < k
  some_group zero h = absurd (omega (arith, h))
  some_group (suc k) h = omega arith

  records_seven : (ps : List (List ℕ)) → Writable (front + limit) ps → 7 * length ps ≤ length (records_of k ps)
  unfolding Writable records_of record_of
  records_seven [] all = omega arith
  records_seven (p ∷ ps) (fit, all) =
      let low = (within shortest_packet (front + limit) (length p) fit).0 in
      simp length-append (omega (arith, one_group k (length p) (some_group k fits), records_seven ps all))

  pub list_short : (start : Link) (tape : List ℕ) → Whole start → Octets tape → (contents k (front + limit) tape).answer ≡ done
      → 35 * length (marks_octets (marks_of k limit far start tape)) ≤ length tape
  unfolding marks_of tape_of
  list_short start tape whole octets e =
      let ps : List (List ℕ) = (contents k (front + limit) tape).packets in
      let (all, is) = holds tape octets e in
      let size : length tape ≡ suc (length (records_of k ps)) = ap (λ l. length l) is in
      let long = marks_length k limit far (start_at start) ps whole in
      let number = marks_number k limit far (start_at start) ps in
      omega (arith, size, records_seven ps all, long, number, reached_opened k limit far (start_at start) ps)

  -- what holds behind any packet of such a tape
  resumes : (start : Link) (tape : List ℕ) (before behind : List (List ℕ)) → Whole start → (contents k (front + limit) tape).packets ≡ before ++ behind
      → Writable (front + limit) (before ++ behind) → tape ≡ tape_of k (before ++ behind) → Resumes k limit far start tape (reached k limit far (start_at start) before)
  unfolding tape_of ShowsTo
  resumes start tape before behind whole packets all is =
      record {
        before = before;
        behind = behind;
        packets = packets;
        mark = refl;
        place = at;
        ahead = reads_records k (front + limit) fits (length tape) tape m.offset behind first (omega (arith, at)) (omega (arith, size))
            (omega (arith, size, records_count k (front + limit) fits behind last)) last ahead;
        walks = walk_append k limit far (start_at start) before behind;
        ends = reached_append k limit far (start_at start) before behind;
        from_start = from_start;
        from_mark = from_mark;
      }
    where
      m : Mark
      m = reached k limit far (start_at start) before

      end : Mark
      end = reached k limit far m behind

      at : m.offset ≡ suc (length (records_of k before))
      at = reached_offset k limit far (start_at start) before ∙ omega arith

      cut : tape ≡ (first_octet ∷ records_of k before) ++ records_of k behind
      cut = is ∙ ap (λ l. first_octet ∷ l) (records_append k before behind)

      size : length tape ≡ m.offset + length (records_of k behind)
      size = ap (λ l. length l) cut ∙ simp length-append (omega (arith, at))

      first : get_or tape 0 0 ≡ first_octet
      first = ap (λ l. get_or l 0 0) cut

      ahead : drop m.offset tape ≡ records_of k behind
      ahead = ap (λ l. drop m.offset l) cut ∙ drop_at (first_octet ∷ records_of k before) (records_of k behind) m.offset (sym at)

      last : Writable (front + limit) behind
      last = writable_behind (front + limit) before behind all

      well : Whole m.link
      well = reached_whole k limit far (start_at start) before whole

      -- the packets behind the mark, fed into a room, and the end of the tape
      shown : (room : List ℕ) → limit ≤ length room → (n : ℕ)
          → ShowsTo end n (walk k limit far m behind)
          (fed k limit far (held m.link room) m.offset behind ++ replicate n (at_end (held_after limit far (held m.link room) behind) (length tape)))
      shown room enough n =
          let h : Held = held m.link room in
          let (shows, link, left) = fed_shows k limit far m room behind last enough in
          let place : end.offset ≡ length tape = reached_offset k limit far m behind ∙ sym size in
          (fed k limit far h m.offset behind, (held_after limit far h behind).room, shows, rw (← link, place))

      from_mark : (room : List ℕ) → limit ≤ length room → (n : ℕ)
          → ShowsTo end n (walk k limit far m behind) (replay k limit far (length behind + n) (held m.link room) tape m.offset)
      from_mark room enough n =
          rw (replay_from k limit far fits behind n (held m.link room) tape m.offset last well.0 first (omega (arith, at)) (omega (arith, size)) ahead)
          (shown room enough n)

      from_start : (room : List ℕ) → limit ≤ length room → (n : ℕ)
          → ShowsTo end n (walk k limit far m behind)
          (drop (length before) (replay k limit far (length before + (length behind + n)) (held start room) tape 1))
      from_start room enough n =
          let h : Held = held start room in
          let (_, link, left) = fed_shows k limit far (start_at start) room before (writable_front k limit far (front + limit) before behind all) enough in
          let h₁ : Held = held_after limit far h before in
          let same : h₁ ≡ held m.link h₁.room = ap (λ l. held l h₁.room) link in
          let count : length before + (length behind + n) ≡ length (before ++ behind) + n = simp length-append (omega arith) in
          let steps = replay_from k limit far fits (before ++ behind) n h tape 1 all whole.0 first (omega arith) (omega (arith, size, at)) (ap (λ l. drop 1 l) is) in
          let ends : List Step = replicate n (at_end (held_after limit far h (before ++ behind)) (length tape)) in
          let parts = fed_append k limit far h 1 before behind in
          let gone : drop (length before) (fed k limit far h 1 (before ++ behind) ++ ends) ≡ fed k limit far h₁ (1 + length (records_of k before)) behind ++ ends =
          ap (λ l. drop (length before) (l ++ ends)) parts ∙ ap (λ l. drop (length before) l) (append_assoc (fed k limit far h 1 before) _ ends)
          ∙ drop_at (fed k limit far h 1 before) _ (length before) (fed_length k limit far h 1 before) in
          let place : 1 + length (records_of k before) ≡ m.offset = omega (arith, at) in
          rw (count, steps, gone, held_append k limit far h before behind, same, place) (shown h₁.room (omega (arith, left)) n)

  -- "Opening on from a checked mark with room lent gives the same packets, refusals and end record as the whole walk after that point."
  pub opens_on : OpensOn k limit far
  unfolding OpensOn marks_of tape_of
  opens_on start tape marks sized octets short agreed i inside =
      let (well, mode, e, is) = (check_yes k limit far start tape marks).0 agreed in
      let (all, tape-is) = holds tape octets e in
      by (contents k (front + limit) tape).packets refl (well, mode, sized) all tape-is is
    where
      by : (ps : List (List ℕ)) → (contents k (front + limit) tape).packets ≡ ps → Whole start → Writable (front + limit) ps → tape ≡ tape_of k ps
          → marks ≡ marks_octets (marks_from k limit far (start_at start) ps)
          → (m : Mark) × (mark_read (mark_at i marks) ≡ Ok m) × (m.opened ≡ every * suc i) × Resumes k limit far start tape m
      by ps packets whole all tape-is is =
          let long = ap (λ l. length l) is ∙ marks_length k limit far (start_at start) ps whole in
          let f = found k limit far (start_at start) ps i whole (omega (arith, inside, long)) in
          let m : Mark = reached k limit far (start_at start) f.before in
          let resumed = resumes start tape f.before f.behind whole (packets ∙ f.packets) (rw f.packets at all) (tape-is ∙ ap (λ l. tape_of k l) f.packets) in
          let size : length tape ≡ suc (length (records_of k ps)) = ap (λ l. length l) tape-is in
          let few = records_count k (front + limit) fits ps all in
          let some : length ps ≡ length f.before + length f.behind = ap (λ l. length l) f.packets ∙ simp length-append in
          let opened-most = reached_opened k limit far (start_at start) f.before in
          let markable : Markable m = (
            omega (arith, opened-most),
            omega (arith, place_inside f.before f.behind f.packets),
            reached_whole k limit far (start_at start) f.before whole,
          ) in
          let read : mark_read (mark_at i marks) ≡ Ok m =
          ap (λ l. mark_read (mark_at i l)) is ∙ ap (λ l. mark_read l) f.octets ∙ mark_back m markable in
          (m, read, f.number ∙ omega arith, resumed)
        where
          place_inside : (a b : List (List ℕ)) → ps ≡ a ++ b → (reached k limit far (start_at start) a).offset ≤ length tape
          place_inside a b e =
              let size : length tape ≡ suc (length (records_of k a) + length (records_of k b)) =
              ap (λ l. length l) (tape-is ∙ ap (λ l. tape_of k l) e) ∙ ap (λ l. suc (length l)) (records_append k a b) ∙ simp length-append in
              omega (arith, reached_offset k limit far (start_at start) a, size)

-- at the limits in force
pub opens_on_base : OpensOn most_groups longest_plain farthest
opens_on_base = opens_on most_groups longest_plain farthest (omega arith)
