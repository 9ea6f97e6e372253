-- What holds of groups, records and tapes, over the number of groups and the limit: `reads_back` and `writes_next` are the claims.
use Rattle.std.specs.Prelude.{◌≡◌, Bool, true, false, ◌⊎◌, eqb, ltb, take}
use Rattle.std.proofs.Math.Path.{refl, sym, ap}
use Rattle.std.proofs.Common.{◌∙◌, take-append-drop, drop-drop}
use Rattle.std.proofs.Math.Logic.{inl, inr}
use mathlib.Core.List.{List, [], ◌∷◌, ◌++◌, append_assoc, append-nil}
use Prim.Native.Nat.{ℕ, zero, suc, ◌+◌, ◌*◌, ◌-◌, ◌/◌, ◌%◌, ◌^◌, ◌<◌, ◌≤◌}
use native.Mathlib.Omega.{arith}
use Rattle.std.proofs.Math.ListN.{length, drop, get_or, length-append, length-drop}
use Rattle.std.proofs.Math.Seq.{length-take-le, take-append-add, drop-length, take-append_seam, drop-append_seam, get_or-drop}
use borrow.Author.Tests.{lt-ltb, le-ltb, ltb-true, ltb-false, eq-eqb, ne_eqb, eqb-true, not-false}
use Rattle.answer.specs.Answer.{done, shape, room, size, pick, outside, first_of, on_done, number_of, value_of, result_of}
use Rattle.answer.specs.Laws.{clear, within, outside_none, number_result, first_listed, number_first, value_result}
use Rattle.octets.specs.Octets.{Octets}
use Rattle.tape.specs.Tape.{first_octet, shortest_packet, longest_packet, most_groups, groups, with_low, length_in, Read, reading, Contents, ended, behind, holding, on_packet, record_size, record_of, records_of, tape_of, Fits, Writable}
use Rattle.tape.specs.Tape.{begin_code, begin_answer, write_code, write_answer, write_out, place_rows, length_at, packet_at, record_rows, record_read, read_at, read_on, read_from, contents, ReadsBack, WritesNext}

-- groups in front of others
pub low_some : (low high : ℕ) → 0 < high → with_low low high ≡ low + 128 * high
low_some low zero h = absurd (omega arith)
low_some low (suc high) h = refl

pub groups_one : (k n : ℕ) → n < 128 → groups (suc k) n ≡ n ∷ []
unfolding groups
groups_one k n h = rw (lt-ltb n 128 h)

pub groups_more : (k low high : ℕ) → low < 128 → 0 < high → groups (suc k) (low + 128 * high) ≡ (128 + low) ∷ groups k high
unfolding groups
groups_more k low high l h =
    let a : (low + 128 * high) % 128 ≡ low = omega arith in
    let b : (low + 128 * high) / 128 ≡ high = omega arith in
    rw (le-ltb (low + 128 * high) 128 (omega arith), a, b)

-- a group that is the last, and one that is not
pub length_one : (k g : ℕ) (rest : List ℕ) → g < 128 → length_in (suc k) (g ∷ rest) ≡ g
unfolding length_in
length_one k g rest h = rw (lt-ltb g 128 h)

pub length_more : (k g : ℕ) (rest : List ℕ) → 128 ≤ g → length_in (suc k) (g ∷ rest) ≡ with_low (g - 128) (length_in k rest)
unfolding length_in
length_more k g rest h = rw (le-ltb g 128 h)

-- a number is one group, or a low one with others behind it
abbrev pub Split : ℕ → Type 0
Split n = (n < 128) ⊎ ((low : ℕ) × (high : ℕ) × (low < 128) × (0 < high) × (n ≡ low + 128 * high))

pub split : (n : ℕ) → Split n
split n = by (ltb n 128) refl
  where
    by : (t : Bool) → ltb n 128 ≡ t → Split n
    by true e = inl (ltb-true n 128 e)
    by false e = let h = ltb-false n 128 e in inr (n % 128, n / 128, omega arith, omega arith, omega arith)

-- what is written is read, whatever stands behind it
pub length_back : (k n : ℕ) (rest : List ℕ) → n < 128 ^ k → 0 < n → length_in k (groups k n ++ rest) ≡ n
length_back zero n rest h some = absurd (omega arith)
length_back (suc k) n rest h some = by (split n) (λ high. length_back k high rest)
  where
    by : Split n → ((high : ℕ) → high < 128 ^ k → 0 < high → length_in k (groups k high ++ rest) ≡ high)
        → length_in (suc k) (groups (suc k) n ++ rest) ≡ n
    by (inl small) ih = rw (groups_one k n small) (length_one k n rest small)
    by (inr (low, high, l, a, e)) ih =
        let gap : 128 + low - 128 ≡ low = omega arith in
        rw (e, groups_more k low high l a, length_more k (128 + low) (groups k high ++ rest) (omega arith), ih high (omega arith) a, gap) (low_some low high a)

-- a length that is read was written, and in no other form
abbrev Stands : ℕ → List ℕ → ℕ → Type 0
Stands k l n = (n < 128 ^ k) × ((rest : List ℕ) × (l ≡ groups k n ++ rest))

pub pow_some : (k : ℕ) → 0 < 128 ^ k
pow_some zero = omega arith
pow_some (suc k) = omega (arith, pow_some k)

pub length_only : (k : ℕ) (l : List ℕ) → Octets l → 0 < length_in k l → Stands k l (length_in k l)
length_only zero l octets some = unfold length_in in absurd (omega arith)
length_only (suc k) [] octets some = unfold length_in in absurd (omega arith)
length_only (suc k) (g ∷ l) octets some = by (ltb g 128) refl (length_only k l λ i. octets (suc i))
  where
    more : (h : ℕ) → 128 ≤ g → 0 < with_low (g - 128) h → (0 < h → Stands k l h) → Stands (suc k) (g ∷ l) (with_low (g - 128) h)
    more zero big some ih = absurd (omega arith)
    more (suc h) big some ih =
        let low : 128 + (g - 128) ≡ g = omega arith in
        let small : g - 128 < 128 = omega (arith, octets 0) in
        let (below, (rest, e)) = ih (omega arith) in
        (omega arith, (rest, rw (groups_more k (g - 128) (suc h) small (omega arith), low, ← e)))

    by : (t : Bool) → ltb g 128 ≡ t → (0 < length_in k l → Stands k l (length_in k l)) → Stands (suc k) (g ∷ l) (length_in (suc k) (g ∷ l))
    by true e ih =
        let h = ltb-true g 128 e in
        rw (length_one k g l h) (omega (arith, pow_some k), (l, rw (groups_one k g h)))
    by false e ih =
        let h = ltb-false g 128 e in
        rw (length_more k g l h) (more (length_in k l) h (rw (length_more k g l h) at some) ih)

-- a packet is not empty
cons_some : {x : ℕ} {xs : List ℕ} → x ∷ xs ≡ [] → ⊥
cons_some e = omega (arith, ap (λ (l : List ℕ). length l) e)

pub on_packet_lem : {A : Type 0} (p : List ℕ) (some none : A) → shortest_packet ≤ length p → on_packet p some none ≡ some
on_packet_lem [] some none h = absurd (omega arith)
on_packet_lem (x ∷ xs) some none h = refl

-- what stands behind a record
pub past : (k : ℕ) (tape : List ℕ) (o : ℕ) (p rest : List ℕ) → drop o tape ≡ record_of k p ++ rest
    → (drop (o + record_size k (length p)) tape ≡ rest) × (length tape - o ≡ record_size k (length p) + length rest)
unfolding record_of
past k tape o p rest e =
    let size : record_size k (length p) ≡ length (record_of k p) = simp length-append in (
      rw (size, ← drop-drop (length (record_of k p)) o tape, e) (drop-append_seam (record_of k p) rest),
      sym (length-drop o tape) ∙ ap (λ (l : List ℕ). length l) e ∙ simp length-append,
    )

module _ (k most : ℕ) (fits : Fits k most) where
  -- a packet that has a record
  abbrev Fit : List ℕ → Type 0
  Fit p = (shortest_packet ≤ length p) × (length p ≤ most)

  -- a record that stands at an offset is read
  record_there : (tape : List ℕ) (o : ℕ) (p rest : List ℕ) → Fit p → drop o tape ≡ record_of k p ++ rest
      → record_read k most tape o ≡ reading done p (o + record_size k (length p))
  unfolding record_read record_of
  record_there tape o p rest (low, high) e =
      let n : length_in k (drop o tape) ≡ length p =
      rw (e, append_assoc) (length_back k (length p) (p ++ rest) (omega arith) (omega arith)) in
      let long : length tape - o ≡ record_size k (length p) + length rest =
      sym (length-drop o tape) ∙ ap (λ (l : List ℕ). length l) e ∙ simp length-append in
      let behind : drop (o + length (groups k (length p))) tape ≡ p ++ rest =
      sym (drop-drop (length (groups k (length p))) o tape) ∙ rw (e, append_assoc) (drop-append_seam (groups k (length p)) (p ++ rest)) in
      rw (n, outside_none shortest_packet most (length p) low high, le-ltb (length tape - o) (record_size k (length p)) (omega arith), behind, take-append_seam p rest)

  -- and a record that is read stands there
  record_only : (tape : List ℕ) (o : ℕ) → Octets tape → first_of (record_rows k most tape o) ≡ done
      → (p : List ℕ) × (rest : List ℕ) × Fit p × (drop o tape ≡ record_of k p ++ rest)
  unfolding record_of
  record_only tape o octets e =
      let (inside, (whole, _)) = clear shape (record_rows k most tape o) refl e in
      let n : ℕ = length_in k (drop o tape) in
      let (low, high) = within shortest_packet most n inside in
      let enough = ltb-false (length tape - o) (record_size k n) whole in
      let (_, (after, stands)) = length_only k (drop o tape) (λ i. rw get_or-drop (octets (o + i))) (omega arith) in
      let long : length tape - o ≡ length (groups k n) + length after =
      sym (length-drop o tape) ∙ ap (λ (l : List ℕ). length l) stands ∙ simp length-append in
      let size : length (take n after) ≡ n = length-take-le n after (omega arith) in
      (take n after, drop n after, (omega arith, omega arith), rw (size, append_assoc, take-append-drop) stands)

  -- the first octet is right, and the offset behind it and not past the end
  abbrev Placed : List ℕ → ℕ → Type 0
  Placed tape o = (get_or tape 0 0 ≡ first_octet) × (1 ≤ o) × (o ≤ length tape)

  placed_rows : (tape : List ℕ) (o : ℕ) → Placed tape o → first_of (place_rows tape o) ≡ done
  placed_rows tape o (first, low, high) = rw (eq-eqb (get_or tape 0 0) first_octet first, outside_none 1 (length tape) o low high)

  -- a read at the end, and one at a record
  pub read_end : (tape : List ℕ) → get_or tape 0 0 ≡ first_octet → 1 ≤ length tape → read_at k most tape (length tape) ≡ reading done [] (length tape)
  unfolding read_at
  read_end tape first some = rw (placed_rows tape (length tape) (first, some, omega arith), eq-eqb (length tape) (length tape) refl)

  pub read_record : (tape : List ℕ) (o : ℕ) (p rest : List ℕ) → get_or tape 0 0 ≡ first_octet → 1 ≤ o → Fit p → drop o tape ≡ record_of k p ++ rest
      → read_at k most tape o ≡ reading done p (o + record_size k (length p))
  unfolding read_at
  read_record tape o p rest first low fit e =
      let long : length tape - o ≡ record_size k (length p) + length rest =
      sym (length-drop o tape) ∙ ap (λ (l : List ℕ). length l) e ∙ (unfold record_of in simp length-append) in
      rw (placed_rows tape o (first, low, omega arith), ne_eqb o (length tape) (λ (z : o ≡ length tape). omega arith))
      (record_there tape o p rest fit e)

  -- what a read finds: no packet, and if that is no refusal the end; or a record
  abbrev None : List ℕ → ℕ → Type 0
  None tape o =
      (code : ℕ) × (after : ℕ) × (read_at k most tape o ≡ reading code [] after)
      × (code ≡ done → (get_or tape 0 0 ≡ first_octet) × (1 ≤ o) × (o ≡ length tape) × (after ≡ o))

  abbrev Some : List ℕ → ℕ → Type 0
  Some tape o =
      (p : List ℕ) × (rest : List ℕ) × (get_or tape 0 0 ≡ first_octet) × (1 ≤ o) × Fit p × (drop o tape ≡ record_of k p ++ rest)

  found : (tape : List ℕ) (o : ℕ) → Octets tape → None tape o ⊎ Some tape o
  unfolding read_at record_read
  found tape o octets = place (first_of (place_rows tape o)) refl
    where
      here : Placed tape o → (code : ℕ) → first_of (record_rows k most tape o) ≡ code → (eqb o (length tape) ≡ false) → None tape o ⊎ Some tape o
      here (first, low, high) zero e last =
          let (p, rest, fit, stands) = record_only tape o octets e in inr (p, rest, first, low, fit, stands)
      here placed (suc c) e last =
          inl (suc c, o, rw (placed_rows tape o placed, last, e), λ z. absurd (omega arith))

      end : Placed tape o → (t : Bool) → eqb o (length tape) ≡ t → None tape o ⊎ Some tape o
      end (first, low, high) true e =
          inl (done, o, rw (placed_rows tape o (first, low, high), e), λ z. (first, low, eqb-true o (length tape) e, refl))
      end placed false e = here placed (first_of (record_rows k most tape o)) refl e

      place : (code : ℕ) → first_of (place_rows tape o) ≡ code → None tape o ⊎ Some tape o
      place zero e =
          let first = not-false (eqb (get_or tape 0 0) first_octet) (clear shape (place_rows tape o) refl e).0 in
          let (low, high) = within 1 (length tape) o (clear size (place_rows tape o) refl e).0 in
          end (eqb-true (get_or tape 0 0) first_octet first, low, high) (eqb o (length tape)) refl
      place (suc c) e = inl (suc c, 0, rw e, λ z. absurd (omega arith))

  -- reading on from an offset gives the packet there, and behind it what reading on gives; or it ends there
  one_read : (n : ℕ) (tape : List ℕ) (o : ℕ) → ((read_at k most tape o).packet ≡ [] → ⊥)
      → read_on k most (suc n) tape o ≡ behind (read_at k most tape o).packet (read_on k most n tape (read_at k most tape o).offset)
  unfolding read_on
  one_read n tape o some = by (read_at k most tape o).packet some
    where
      rest : Contents
      rest = read_on k most n tape (read_at k most tape o).offset

      by : (p : List ℕ) → (p ≡ [] → ⊥) → on_packet p (behind p rest) (ended (read_at k most tape o)) ≡ behind p rest
      by [] some = absurd (some refl)
      by (x ∷ xs) some = refl

  pub reads_none : (n : ℕ) (tape : List ℕ) (o : ℕ) → (read_at k most tape o).packet ≡ [] → read_on k most n tape o ≡ ended (read_at k most tape o)
  unfolding read_on
  reads_none zero tape o e = refl
  reads_none (suc n) tape o e = rw e

  on_none : (n : ℕ) (tape : List ℕ) (o code after : ℕ) → read_at k most tape o ≡ reading code [] after
      → read_on k most n tape o ≡ ended (reading code [] after)
  on_none n tape o code after e = reads_none n tape o (ap (λ (r : Read). r.packet) e) ∙ ap (λ (r : Read). ended r) e

  on_some : (n : ℕ) (tape : List ℕ) (o : ℕ) (p : List ℕ) → shortest_packet ≤ length p
      → read_at k most tape o ≡ reading done p (o + record_size k (length p))
      → read_on k most (suc n) tape o ≡ behind p (read_on k most n tape (o + record_size k (length p)))
  on_some n tape o p h e =
      let some : (read_at k most tape o).packet ≡ [] → ⊥ = λ z. omega (arith, h, ap (λ (l : List ℕ). length l) (sym (ap (λ (r : Read). r.packet) e) ∙ z)) in
      one_read n tape o some ∙ ap (λ (r : Read). behind r.packet (read_on k most n tape r.offset)) e

  -- records that stand behind an offset are read, if there are as many reads
  pub reads_records : (n : ℕ) (tape : List ℕ) (o : ℕ) (ps : List (List ℕ)) → get_or tape 0 0 ≡ first_octet → 1 ≤ o → o ≤ length tape → length ps ≤ n
      → Writable most ps → drop o tape ≡ records_of k ps → read_on k most n tape o ≡ holding tape ps
  unfolding records_of Writable
  reads_records n tape o [] first low high enough all e =
      let end : o ≡ length tape = omega (arith, length-drop o tape, ap (λ (l : List ℕ). length l) e) in
      rw end (on_none n tape (length tape) done (length tape) (read_end tape first (omega arith)))
  reads_records zero tape o (p ∷ ps) first low high enough all e = absurd (omega arith)
  reads_records (suc n) tape o (p ∷ ps) first low high enough (fit, all) e =
      let w = within shortest_packet most (length p) fit in
      let (on, long) = past k tape o p (records_of k ps) e in
      rw (
        on_some n tape o p w.0 (read_record tape o p (records_of k ps) first low w e),
        reads_records n tape (o + record_size k (length p)) ps first (omega arith) (omega arith) (omega arith) all on,
      )

  -- and what is read without a refusal stands there
  abbrev Stood : List ℕ → ℕ → Contents → Type 0
  Stood tape o c = Writable most c.packets × (drop o tape ≡ records_of k c.packets) × (get_or tape 0 0 ≡ first_octet) × (c.offset ≡ length tape)

  none_only : (n : ℕ) (tape : List ℕ) (o : ℕ) → None tape o → (read_on k most n tape o).answer ≡ done → Stood tape o (read_on k most n tape o)
  unfolding Writable records_of
  none_only n tape o (code, after, r, end) e =
      let stop = on_none n tape o code after r in
      let (first, low, at, same) = end (rw stop at e) in
      rw stop (tt, rw (at, drop-length), first, same ∙ at)

  pub records_only : (n : ℕ) (tape : List ℕ) (o : ℕ) → Octets tape → length tape ≤ o + n → (read_on k most n tape o).answer ≡ done
      → Stood tape o (read_on k most n tape o)
  unfolding Writable records_of
  records_only zero tape o octets enough e = by (found tape o octets)
    where
      by : None tape o ⊎ Some tape o → Stood tape o (read_on k most 0 tape o)
      by (inl none) = none_only 0 tape o none e
      by (inr (p, rest, first, low, fit, stands)) = absurd (omega (arith, (past k tape o p rest stands).1))
  records_only (suc n) tape o octets enough e = by (found tape o octets) (λ o'. records_only n tape o' octets)
    where
      by : None tape o ⊎ Some tape o
          → ((o' : ℕ) → length tape ≤ o' + n → (read_on k most n tape o').answer ≡ done → Stood tape o' (read_on k most n tape o'))
          → Stood tape o (read_on k most (suc n) tape o)
      by (inl none) ih = none_only (suc n) tape o none e
      by (inr (p, rest, first, low, fit, stands)) ih =
          let step = on_some n tape o p fit.0 (read_record tape o p rest first low fit stands) in
          let (on, long) = past k tape o p rest stands in
          let (all, ahead, _, last) = ih (o + record_size k (length p)) (omega arith) (rw step at e) in
          rw step ((outside_none shortest_packet most (length p) fit.0 fit.1, all), rw (← ahead, on) stands, first, last)

  -- a read that gives a packet answers 0, moves on over its record, and not past the end
  abbrev pub Moves : List ℕ → ℕ → Read → Type 0
  Moves tape o r =
      (r.packet ≡ [] → ⊥)
      → (r.answer ≡ done) × (r.offset ≡ o + record_size k (length r.packet)) × (r.offset ≤ length tape) × Fit r.packet

  pub read_moves : (tape : List ℕ) (o : ℕ) → Moves tape o (read_at k most tape o)
  unfolding read_at record_read
  read_moves tape o some = place (first_of (place_rows tape o)) refl some
    where
      here : (code : ℕ) → first_of (record_rows k most tape o) ≡ code → o ≤ length tape
          → Moves tape o (on_done code (reading done (packet_at k tape o) (o + record_size k (length_at k tape o))) (reading code [] o))
      here zero e high some =
          let (inside, (whole, _)) = clear shape (record_rows k most tape o) refl e in
          let n : ℕ = length_at k tape o in
          let fit = within shortest_packet most n inside in
          let enough = ltb-false (length tape - o) (record_size k n) whole in
          let size : length (packet_at k tape o) ≡ n =
          length-take-le n (drop (o + length (groups k n)) tape) (omega (arith, length-drop (o + length (groups k n)) tape)) in
          rw size (refl, refl, omega arith, fit)
      here (suc c) e high some = absurd (some refl)

      end : (t : Bool) → o ≤ length tape → Moves tape o (pick t (reading done [] o) (record_read k most tape o))
      end true high some = absurd (some refl)
      end false high some = here (first_of (record_rows k most tape o)) refl high some

      place : (code : ℕ) → first_of (place_rows tape o) ≡ code
          → Moves tape o (on_done code (pick (eqb o (length tape)) (reading done [] o) (record_read k most tape o)) (reading code [] 0))
      place zero e some = end (eqb o (length tape)) (within 1 (length tape) o (clear size (place_rows tape o) refl e).0).1 some
      place (suc c) e some = absurd (some refl)

  -- more reads than there are octets left change nothing ..
  reads_enough : (n : ℕ) (tape : List ℕ) (o : ℕ) → length tape ≤ o + n → read_on k most (suc n) tape o ≡ read_on k most n tape o
  unfolding read_on
  reads_enough zero tape o enough = by (read_at k most tape o).packet refl
    where
      by : (p : List ℕ) → (read_at k most tape o).packet ≡ p → on_packet p (behind p (ended (read_at k most tape (read_at k most tape o).offset))) (ended (read_at k most tape o)) ≡ ended (read_at k most tape o)
      by [] e = refl
      by (x ∷ xs) e = let (_, on, inside, fit) = read_moves tape o (λ z. cons_some (sym e ∙ z)) in absurd (omega (arith, fit.0))
  reads_enough (suc n) tape o enough = by (read_at k most tape o).packet refl (reads_enough n tape (read_at k most tape o).offset)
    where
      by : (p : List ℕ) → (read_at k most tape o).packet ≡ p
          → (length tape ≤ (read_at k most tape o).offset + n → read_on k most (suc n) tape (read_at k most tape o).offset ≡ read_on k most n tape (read_at k most tape o).offset)
          → on_packet p (behind p (read_on k most (suc n) tape (read_at k most tape o).offset)) (ended (read_at k most tape o))
          ≡ on_packet p (behind p (read_on k most n tape (read_at k most tape o).offset)) (ended (read_at k most tape o))
      by [] e ih = refl
      by (x ∷ xs) e ih =
          let (_, on, inside, fit) = read_moves tape o (λ z. cons_some (sym e ∙ z)) in
          rw (ih (omega (arith, fit.0)))

  -- .. so that reading on to the end does so too
  pub reads_on : (tape : List ℕ) (o : ℕ) → ((read_at k most tape o).packet ≡ [] → ⊥)
      → read_from k most tape o ≡ behind (read_at k most tape o).packet (read_from k most tape (read_at k most tape o).offset)
  reads_on tape o some = by (length tape) refl
    where
      after : ℕ
      after = (read_at k most tape o).offset

      by : (n : ℕ) → length tape ≡ n → read_on k most n tape o ≡ behind (read_at k most tape o).packet (read_on k most n tape after)
      by zero h = let (_, on, inside, fit) = read_moves tape o some in absurd (omega (arith, fit.0))
      by (suc n) h =
          let (_, on, inside, fit) = read_moves tape o some in
          rw (reads_enough n tape after (omega (arith, fit.0))) (one_read n tape o some)

  -- there are fewer records than octets
  pub records_count : (ps : List (List ℕ)) → Writable most ps → length ps ≤ length (records_of k ps)
  unfolding Writable records_of record_of
  records_count [] all = omega arith
  records_count (p ∷ ps) (fit, all) =
      let low = (within shortest_packet most (length p) fit).0 in
      simp length-append (omega (arith, records_count ps all))

  -- "Each list's tape, and no other, reads back to it."
  pub reads_back : ReadsBack k most
  unfolding ReadsBack contents tape_of
  reads_back tape ps octets = (only, back)
    where
      front : (tape : List ℕ) → get_or tape 0 0 ≡ first_octet → tape ≡ first_octet ∷ drop 1 tape
      front [] first = absurd (omega arith)
      front (x ∷ xs) first = rw first

      only : read_on k most (length tape) tape 1 ≡ holding tape ps → Writable most ps × (tape ≡ tape_of k ps)
      only e =
          let (all, ahead, first, _) = records_only (length tape) tape 1 octets (omega arith) (ap (λ (c : Contents). c.answer) e) in
          (rw e at all, rw (front tape first, ahead, e))

      back : Writable most ps × (tape ≡ tape_of k ps) → read_on k most (length tape) tape 1 ≡ holding tape ps
      back (all, e) =
          let size : length tape ≡ suc (length (records_of k ps)) = ap (λ (l : List ℕ). length l) e in
          reads_records (length tape) tape 1 ps (ap (λ (l : List ℕ). get_or l 0 0) e) (omega arith) (omega arith)
          (omega (arith, records_count ps all)) all (ap (λ (l : List ℕ). drop 1 l) e)

-- at the limits in force
pub reads_back_base : ReadsBack most_groups longest_packet
reads_back_base = reads_back most_groups longest_packet (omega arith)

-- the records of two lists, one behind the other
pub records_append : (k : ℕ) (a b : List (List ℕ)) → records_of k (a ++ b) ≡ records_of k a ++ records_of k b
unfolding records_of
records_append k [] b = refl
records_append k (p ∷ a) b = rw (records_append k a b, append_assoc)

pub writable_behind : (most : ℕ) (a b : List (List ℕ)) → Writable most (a ++ b) → Writable most b
unfolding Writable
writable_behind most [] b all = all
writable_behind most (p ∷ a) b (fit, all) = writable_behind most a b all

tape_more : (k : ℕ) (ps : List (List ℕ)) (p : List ℕ) → tape_of k ps ++ record_of k p ≡ tape_of k (ps ++ (p ∷ []))
unfolding tape_of records_of
tape_more k ps p = rw (records_append k ps (p ∷ []), append-nil)

-- a record written behind a tape makes the tape of one packet more
pub writes_next : (k most : ℕ) → WritesNext k most
unfolding WritesNext write_out
writes_next k most ps p rest e =
    let size : record_size k (length p) ≡ length (record_of k p) = unfold record_of in sym (length-append (groups k (length p)) p) in
    rw (
      e,
      take-append-add (tape_of k ps) (record_of k p ++ drop (length (record_of k p)) rest) (record_size k (length p)),
      size,
      take-append_seam (record_of k p) (drop (length (record_of k p)) rest),
    ) (tape_more k ps p)

-- the number of a read is in the table
pub read_number : (k most : ℕ) (tape : List ℕ) (o : ℕ) → number_of (result_of {A = Unit {0}} (read_at k most tape o).answer tt) ≡ (read_at k most tape o).answer
unfolding read_at record_read
read_number k most tape o = by (first_of (place_rows tape o)) (eqb o (length tape)) (first_of (record_rows k most tape o))
    (number_first {A = Unit {0}} (place_rows tape o) tt refl) (number_first {A = Unit {0}} (record_rows k most tape o) tt refl)
  where
    Numbered : ℕ → Type 0
    Numbered n = number_of (result_of {A = Unit {0}} n tt) ≡ n

    by : (c : ℕ) (t : Bool) (d : ℕ) → Numbered c → Numbered d
        → Numbered (on_done c (pick t (reading done [] o) (on_done d (reading done (packet_at k tape o) (o + record_size k (length_at k tape o))) (reading d [] o))) (reading c [] 0)).answer
    by zero true d hc hd = refl
    by zero false zero hc hd = refl
    by zero false (suc d) hc hd = hd
    by (suc c) t d hc hd = hc

pub read_listed : (k most : ℕ) (tape : List ℕ) (o : ℕ) → ltb (read_at k most tape o).answer 12 ≡ true
unfolding read_at record_read
read_listed k most tape o = by (first_of (place_rows tape o)) (eqb o (length tape)) (first_of (record_rows k most tape o))
    (first_listed (place_rows tape o) refl) (first_listed (record_rows k most tape o) refl)
  where
    by : (c : ℕ) (t : Bool) (d : ℕ) → ltb c 12 ≡ true → ltb d 12 ≡ true
        → ltb (on_done c (pick t (reading done [] o) (on_done d (reading done (packet_at k tape o) (o + record_size k (length_at k tape o))) (reading d [] o))) (reading c [] 0)).answer 12 ≡ true
    by zero true d hc hd = refl
    by zero false zero hc hd = refl
    by zero false (suc d) hc hd = hd
    by (suc c) t d hc hd = hc

-- and so is that with which reading on ends, and that of a tape
pub on_listed : (k most n : ℕ) (tape : List ℕ) (o : ℕ) → ltb (read_on k most n tape o).answer 12 ≡ true
unfolding read_on
on_listed k most zero tape o = read_listed k most tape o
on_listed k most (suc n) tape o = by (read_at k most tape o).packet (read_on k most n tape (read_at k most tape o).offset) (on_listed k most n tape (read_at k most tape o).offset)
  where
    by : (p : List ℕ) (c : Contents) → ltb c.answer 12 ≡ true → ltb (on_packet p (behind p c) (ended (read_at k most tape o))).answer 12 ≡ true
    by [] c h = read_listed k most tape o
    by (x ∷ xs) c h = h

pub contents_listed : (k most : ℕ) (tape : List ℕ) → ltb (contents k most tape).answer 12 ≡ true
unfolding contents
contents_listed k most tape = on_listed k most (length tape) tape 1

pub contents_number : {A : Type 0} (k most : ℕ) (tape : List ℕ) (x : A) → number_of (result_of (contents k most tape).answer x) ≡ (contents k most tape).answer
contents_number k most tape x = number_result (contents k most tape).answer x (contents_listed k most tape)

-- the number of a beginning and of a write: that of the first row that applies; a refused write has written no octet
pub begin_number : (out : List ℕ) → number_of (begin_answer out) ≡ begin_code out
unfolding begin_answer begin_code
begin_number out = number_first ((room, ltb (length out) 1) ∷ []) tt refl

pub write_number : (k most : ℕ) (packet out : List ℕ) → number_of (write_answer k most packet out) ≡ write_code k most packet out
unfolding write_answer write_code
write_number k most packet out =
    number_first
    ((shape, outside shortest_packet most (length packet)) ∷ (room, ltb (length out) (record_size k (length packet))) ∷ [])
    (record_size k (length packet)) refl

pub write_value : (k most : ℕ) (packet out : List ℕ)
    → value_of 0 (write_answer k most packet out) ≡ on_done (write_code k most packet out) (record_size k (length packet)) 0
unfolding write_answer
write_value k most packet out = value_result (write_code k most packet out) (record_size k (length packet)) 0
