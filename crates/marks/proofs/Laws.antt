-- What holds of marks and walks: `check_yes` says when a check says yes, and `write_yes` that it does so to what a write gives.
use Rattle.std.specs.Prelude.{◌≡◌, Bool, true, false, not, ◌↔◌, eqb, ltb, length, take, drop, get_or, Ok}
use Rattle.std.proofs.Math.Path.{refl}
use Rattle.std.proofs.Common.{sym, ◌∙◌, le-ltb, ltb-true, ltb-false, eq-eqb, ne_eqb}
use Rattle.std.proofs.lemmas.Bool.{false≢true}
use mathlib.Core.List.{List, [], ◌∷◌, ◌++◌, append_assoc}
use Prim.Native.Nat.{ℕ, zero, suc, ◌+◌, ◌*◌, ◌-◌, ◌/◌, ◌%◌, ◌^◌, ◌<◌, ◌≤◌}
use Rattle.std.proofs.Math.Nat.{mod-eq_of_lt}
use native.Mathlib.Omega.{arith}
use Rattle.std.proofs.Math.Dec.{eqb-suc-zero}
use Rattle.std.proofs.Math.ListN.{replicate, length-append}
use Rattle.std.proofs.Math.Seq.{take-append_seam}
use Rattle.answer.specs.Answer.{done, room, not_record, waiting, pick, first_of, on_done, result_of, number_of, value_of}
use Rattle.answer.specs.Laws.{listed, number_first, value_result}
use Rattle.octets.specs.Octets.{big_endian, from_big_endian, written, equal}
use Rattle.octets.specs.Laws.{big_endian_length, big_endian_back, equal_same, equal_true}
use Rattle.mppe_keys.specs.declared.Mode.{Mode}
use Rattle.mppe_keys.specs.declared.Mode.TheVariants.{Stateless, Stateful}
use Rattle.mppe_keys.specs.Keys.{by_mode, bits_of}
use Rattle.mppe.specs.declared.Link.{Link}
use Rattle.mppe.specs.Link.{front, well_formed, header_in, data_in, open_code, opened_by, open_result, refusal, waited}
use Rattle.mppe.proofs.Laws.{open_well}
use Rattle.mppe_record.specs.Record.{front_octets}
use Rattle.mppe_record.proofs.Laws.{bits_known, Sized, front_octets_length, stateless_in_back, open_sized}
use Rattle.tape.specs.Tape.{contents}
use Rattle.tape.proofs.Laws.{contents_listed, contents_number}
use Rattle.marks.specs.declared.Mark.{Mark}
use Rattle.marks.specs.declared.Checked.{Checked}
use Rattle.marks.specs.Marks.{every, mark_length, mark_octets, marks_octets, mark_in, mark_rows, no_mark, mark_read, agreeing, opened, onward, reached, kept, marks_from, marks_of, walk_rows, write_code, write_answer, write_out, unchecked, checked}

-- a mark whose numbers fit their octets, with a well-formed stateless record
abbrev pub Whole : Link → Type 0
Whole l = (well_formed l ≡ true) × (l.mode ≡ Stateless) × Sized l

abbrev pub Markable : Mark → Type 0
Markable m = (m.opened < 256 ^ 8) × (m.offset < 256 ^ 8) × Whole m.link

-- the octets of a mark: their number ..
pub mark_length_lem : (m : Mark) → Sized m.link → length (mark_octets m) ≡ mark_length
unfolding mark_octets
mark_length_lem m h = simp length-append (omega (arith, big_endian_length 8 m.opened, big_endian_length 8 m.offset, front_octets_length m.link h))

-- .. and that the mark is read back from them
pub mark_back : (m : Mark) → Markable m → mark_read (mark_octets m) ≡ Ok m
unfolding mark_read mark_in mark_octets
mark_back m (ho, hf, (well, mode, sized)) =
    let back = stateless_in_back m.link sized mode well in
    let long : length (mark_octets m) ≡ mark_length = mark_length_lem m sized in
    let first : get_or (front_octets m.link) 0 0 ≡ bits_of m.link.strength = unfold front_octets in refl in
    let one : from_big_endian (big_endian 8 m.opened) ≡ m.opened = big_endian_back 8 m.opened ∙ mod-eq_of_lt ho in
    let two : from_big_endian (big_endian 8 m.offset) ≡ m.offset = big_endian_back 8 m.offset ∙ mod-eq_of_lt hf in
    rw (eq-eqb (length (mark_octets m)) mark_length long, first, bits_known m.link.strength, back, well, one, two)

-- the octets of two lists, one behind the other
pub octets_append : (a b : List Mark) → marks_octets (a ++ b) ≡ marks_octets a ++ marks_octets b
unfolding marks_octets
octets_append [] b = refl
octets_append (m ∷ a) b = rw (octets_append a b, append_assoc)

-- a list has 51 octets for each mark
abbrev pub WholeOctets : List Mark → Type 0
WholeOctets ms = length (marks_octets ms) ≡ mark_length * length ms

pub whole_none : WholeOctets []
unfolding marks_octets
whole_none = refl

whole_one : (m : Mark) → Sized m.link → (t : Bool) → WholeOctets (pick t (m ∷ []) [])
unfolding marks_octets
whole_one m sized true = length-append (mark_octets m) [] ∙ omega (arith, mark_length_lem m sized)
whole_one m sized false = refl

pub whole_append : (a b : List Mark) → WholeOctets a → WholeOctets b → WholeOctets (a ++ b)
whole_append a b ha hb = rw (octets_append a b) (simp length-append (omega (arith, ha, hb)))

-- what a read of a mark answers, its number and its mark: those of the first row that applies, and no mark where one does
pub mark_number : (octets : List ℕ) → number_of (mark_read octets) ≡ first_of (mark_rows octets)
unfolding mark_read
mark_number octets = number_first (mark_rows octets) (mark_in octets) refl

pub mark_value : (octets : List ℕ) → value_of no_mark (mark_read octets) ≡ on_done (first_of (mark_rows octets)) (mark_in octets) no_mark
unfolding mark_read
mark_value octets = value_result (first_of (mark_rows octets)) (mark_in octets) no_mark

-- what a check says: a refused one no, and that none agree
yes_of : (n : ℕ) (x : Checked) → (value_of unchecked (result_of n x)).yes ≡ on_done n x.yes false
yes_of zero x = refl
yes_of (suc n) x = refl

agreeing_of : (n : ℕ) (x : Checked) → (value_of unchecked (result_of n x)).agreeing ≡ on_done n x.agreeing 0
agreeing_of zero x = refl
agreeing_of (suc n) x = refl

module _ (k limit far : ℕ) where
  told : (start : Link) (tape marks : List ℕ)
      → (value_of unchecked (checked k limit far start tape marks)).yes
      ≡ on_done (first_of (walk_rows k limit far start tape)) (equal (marks_octets (marks_of k limit far start tape)) marks) false
  unfolding checked
  told start tape marks = yes_of (first_of (walk_rows k limit far start tape)) _

  -- "then a faulty tape gives its own refusal": both answer the tape's number, whatever the list and the room
  pub faulty_number : (start : Link) (tape marks out : List ℕ) → well_formed start ≡ true → start.mode ≡ Stateless
      → ((contents k (front + limit) tape).answer ≡ done → ⊥)
      → (number_of (checked k limit far start tape marks) ≡ (contents k (front + limit) tape).answer)
      × (number_of (write_answer k limit far start tape out) ≡ (contents k (front + limit) tape).answer)
  unfolding checked write_answer write_code
  faulty_number start tape marks out well mode fault =
      (rw (well, mode, faulty) (contents_number k (front + limit) tape _), rw (well, mode, faulty) (contents_number k (front + limit) tape _))
    where
      faulty : eqb (contents k (front + limit) tape).answer done ≡ false
      faulty = ne_eqb (contents k (front + limit) tape).answer done fault

  -- the numbers of a walk's rows are in the table, also that of the tape
  walk_listed : (start : Link) (tape : List ℕ) → listed (walk_rows k limit far start tape) ≡ true
  walk_listed start tape = rw (contents_listed k (front + limit) tape)

  -- what a check answers: the number of the first row that applies, and a no and none where one does
  pub check_number : (start : Link) (tape marks : List ℕ) → number_of (checked k limit far start tape marks) ≡ first_of (walk_rows k limit far start tape)
  unfolding checked
  check_number start tape marks = number_first (walk_rows k limit far start tape) _ (walk_listed start tape)

  pub check_values : (start : Link) (tape marks : List ℕ)
      → ((value_of unchecked (checked k limit far start tape marks)).yes
      ≡ on_done (first_of (walk_rows k limit far start tape)) (equal (marks_octets (marks_of k limit far start tape)) marks) false)
      × ((value_of unchecked (checked k limit far start tape marks)).agreeing
      ≡ on_done (first_of (walk_rows k limit far start tape)) (agreeing (marks_of k limit far start tape) marks) 0)
  unfolding checked
  check_values start tape marks = (told start tape marks, agreeing_of (first_of (walk_rows k limit far start tape)) _)

  -- what a write answers: the number of the first row that applies, and no octet written where one does
  pub write_number : (start : Link) (tape out : List ℕ) → number_of (write_answer k limit far start tape out) ≡ write_code k limit far start tape out
  unfolding write_answer write_code
  write_number start tape out =
      number_first (walk_rows k limit far start tape ++ ((room, ltb (length out) (length (marks_octets (marks_of k limit far start tape)))) ∷ []))
      (length (marks_octets (marks_of k limit far start tape))) (rw (contents_listed k (front + limit) tape))

  pub write_value : (start : Link) (tape out : List ℕ)
      → value_of 0 (write_answer k limit far start tape out)
      ≡ on_done (write_code k limit far start tape out) (length (marks_octets (marks_of k limit far start tape))) 0
  unfolding write_answer
  write_value start tape out = value_result (write_code k limit far start tape out) (length (marks_octets (marks_of k limit far start tape))) 0

  -- a check says yes "exactly when they are the marks that a walk from the start gives"
  pub check_yes : (start : Link) (tape marks : List ℕ)
      → ((value_of unchecked (checked k limit far start tape marks)).yes ≡ true)
      ↔ ((well_formed start ≡ true) × (start.mode ≡ Stateless) × ((contents k (front + limit) tape).answer ≡ done)
      × (marks ≡ marks_octets (marks_of k limit far start tape)))
  unfolding checked
  check_yes start tape marks = (yes, back)
    where
      list : List ℕ
      list = marks_octets (marks_of k limit far start tape)

      by : (w : Bool) (m : Mode) (a : ℕ) (t : Bool)
          → on_done (first_of ((not_record, not w) ∷ (not_record, by_mode m false true) ∷ (a, not (eqb a done)) ∷ [])) t false ≡ true
          → (w ≡ true) × (m ≡ Stateless) × (a ≡ done) × (t ≡ true)
      by false m a t e = absurd (false≢true e)
      by true Stateful a t e = absurd (false≢true e)
      by true Stateless zero t e = (refl, refl, refl, e)
      by true Stateless (suc a) t e = absurd (false≢true (rw (eqb-suc-zero a) at e))

      passed : (w : Bool) (m : Mode) (a : ℕ) (t : Bool) → w ≡ true → m ≡ Stateless → a ≡ done
          → on_done (first_of ((not_record, not w) ∷ (not_record, by_mode m false true) ∷ (a, not (eqb a done)) ∷ [])) t false ≡ t
      passed w m a t ew em ea = rw (ew, em, ea)

      yes : (value_of unchecked (checked k limit far start tape marks)).yes ≡ true
          → (well_formed start ≡ true) × (start.mode ≡ Stateless) × ((contents k (front + limit) tape).answer ≡ done) × (marks ≡ list)
      yes e =
          let (w, m, a, t) = by (well_formed start) start.mode (contents k (front + limit) tape).answer (equal list marks) (sym (told start tape marks) ∙ e) in
          (w, m, a, sym (equal_true list marks t))

      back : (well_formed start ≡ true) × (start.mode ≡ Stateless) × ((contents k (front + limit) tape).answer ≡ done) × (marks ≡ list)
          → (value_of unchecked (checked k limit far start tape marks)).yes ≡ true
      back (w, m, a, e) = told start tape marks ∙ passed (well_formed start) start.mode (contents k (front + limit) tape).answer (equal list marks) w m a ∙ rw e (equal_same list)

  -- what a write gives is such a list
  pub write_yes : (start : Link) (tape out : List ℕ) → write_code k limit far start tape out ≡ done
      → (value_of unchecked (checked k limit far start tape (take (value_of 0 (write_answer k limit far start tape out)) (write_out k limit far start tape out)))).yes ≡ true
  unfolding write_code write_answer write_out
  write_yes start tape out e =
      let (w, m, a) = by (well_formed start) start.mode (contents k (front + limit) tape).answer (ltb (length out) (length list)) e in
      rw e ((check_yes start tape (take (length list) (written list out))).1 (w, m, a, take-append_seam list (drop (length list) out)))
    where
      list : List ℕ
      list = marks_octets (marks_of k limit far start tape)

      by : (w : Bool) (m : Mode) (a : ℕ) (t : Bool)
          → first_of ((not_record, not w) ∷ (not_record, by_mode m false true) ∷ (a, not (eqb a done)) ∷ (room, t) ∷ []) ≡ done
          → (w ≡ true) × (m ≡ Stateless) × (a ≡ done)
      by false m a t e = absurd (omega arith)
      by true Stateful a t e = absurd (omega arith)
      by true Stateless zero t e = (refl, refl, refl)
      by true Stateless (suc a) t e = absurd (omega (arith, rw (eqb-suc-zero a) at e))

  open_mode : (code : ℕ) (l : Link) (h : ℕ) (text out : List ℕ) → (opened_by code l h text out).outcome.link.mode ≡ l.mode
  open_mode zero l h text out = refl
  open_mode (suc n) l h text out = by (eqb (suc n) waiting)
    where
      by : (t : Bool) → (pick t (waited l h out) (refusal (suc n) l out)).outcome.link.mode ≡ l.mode
      by true = refl
      by false = refl

  -- opening keeps a record well formed and stateless, and its sizes
  pub onward_whole : (m : Mark) (packet : List ℕ) → Whole m.link → Whole (onward k limit far m packet).link
  unfolding onward opened open_result
  onward_whole m packet (well, mode, sized) =
      let l : Link = m.link in
      let out : List ℕ = replicate (length packet - front) 0 in (
        open_well limit far l packet out well,
        open_mode (open_code limit far l packet (length out)) l (header_in packet) (data_in packet) out ∙ mode,
        open_sized limit far l packet out sized,
      )

  -- the mark that is kept behind a packet, by how many were opened before it and behind it
  pub kept_is : (m : Mark) (packet : List ℕ)
      → kept k limit far m packet
      ≡ pick (ltb (m.opened / every) ((onward k limit far m packet).opened / every)) (onward k limit far m packet ∷ []) []
  unfolding kept onward
  kept_is m packet = by (opened k limit far m packet).outcome.answer (onward k limit far m packet)
    where
      n : ℕ
      n = m.opened

      tests : (t : Bool) → ltb (n / every) (suc n / every) ≡ t → eqb (suc n % every) 0 ≡ t
      tests true e = eq-eqb (suc n % every) 0 (omega (arith, ltb-true (n / every) (suc n / every) e))
      tests false e = ne_eqb (suc n % every) 0 (λ z. omega (arith, z, ltb-false (n / every) (suc n / every) e))

      by : (code : ℕ) (x : Mark)
          → on_done code (pick (eqb (on_done code (suc n) n % every) 0) (x ∷ []) []) []
          ≡ pick (ltb (n / every) (on_done code (suc n) n / every)) (x ∷ []) []
      by zero x = rw (tests (ltb (n / every) (suc n / every)) refl)
      by (suc c) x = rw (le-ltb (n / every) (n / every) (omega arith))

  -- one packet is one more opened at the most, and one more mark where a number of them is full
  pub onward_opened : (m : Mark) (packet : List ℕ) → (m.opened ≤ (onward k limit far m packet).opened) × ((onward k limit far m packet).opened ≤ suc m.opened)
  unfolding onward
  onward_opened m packet = by (opened k limit far m packet).outcome.answer
    where
      by : (code : ℕ) → (m.opened ≤ on_done code (suc m.opened) m.opened) × (on_done code (suc m.opened) m.opened ≤ suc m.opened)
      by zero = (omega arith, omega arith)
      by (suc c) = (omega arith, omega arith)

  pub kept_count : (m : Mark) (packet : List ℕ) → m.opened / every + length (kept k limit far m packet) ≡ (onward k limit far m packet).opened / every
  kept_count m packet =
      rw (kept_is m packet) (by (ltb (m.opened / every) ((onward k limit far m packet).opened / every)) refl)
    where
      next : Mark
      next = onward k limit far m packet

      by : (t : Bool) → ltb (m.opened / every) (next.opened / every) ≡ t → m.opened / every + length (pick t (next ∷ []) []) ≡ next.opened / every
      by true e = let (low, high) = onward_opened m packet in omega (arith, ltb-true (m.opened / every) (next.opened / every) e)
      by false e = let (low, high) = onward_opened m packet in omega (arith, ltb-false (m.opened / every) (next.opened / every) e)

  -- the octets of the mark that is kept, and of all of a walk
  pub kept_whole : (m : Mark) (packet : List ℕ) → Whole m.link → WholeOctets (kept k limit far m packet)
  kept_whole m packet whole =
      let next : Mark = onward k limit far m packet in
      rw (kept_is m packet) (whole_one next (onward_whole m packet whole).2 (ltb (m.opened / every) (next.opened / every)))

  pub marks_length : (m : Mark) (ps : List (List ℕ)) → Whole m.link → WholeOctets (marks_from k limit far m ps)
  unfolding marks_from
  marks_length m [] whole = whole_none
  marks_length m (p ∷ ps) whole =
      let next : Mark = onward k limit far m p in
      whole_append (kept k limit far m p) (marks_from k limit far next ps) (kept_whole m p whole) (marks_length next ps (onward_whole m p whole))

  -- there are as many marks as full numbers of 256 opened packets
  pub marks_number : (m : Mark) (ps : List (List ℕ)) → m.opened / every + length (marks_from k limit far m ps) ≡ (reached k limit far m ps).opened / every
  unfolding marks_from reached
  marks_number m [] = omega arith
  marks_number m (p ∷ ps) =
      let next : Mark = onward k limit far m p in
      let more = length-append (kept k limit far m p) (marks_from k limit far next ps) in
      omega (arith, more, kept_count m p, marks_number next ps)
