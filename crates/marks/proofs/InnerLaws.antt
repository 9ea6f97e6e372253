-- The ways out of the calls, and the walk of the two loops, over plain lists and numbers.
use mathlib.Core.Path.{◌≡◌, refl, sym, ap, ◌∙◌}
use mathlib.Core.Bool.{Bool, true, false, not, ◌&&◌, true≢false}
use mathlib.Core.List.{List, [], ◌∷◌, ◌++◌, append_assoc, append-nil}
use Prim.Native.Nat.{ℕ, zero, suc, ◌+◌, ◌*◌, ◌-◌, ◌/◌, ◌^◌, ◌<◌, ◌≤◌}
use native.Mathlib.Numerals.{add-one}
use native.Mathlib.Omega.{arith}
use lib.Dec.{eqb, ltb, eqb-suc-zero, eqb-suc-suc}
use lib.ListN.{length, take, drop, get_or, replicate, length-append, length-drop, length-take, length-replicate}
use lib.Seq.{take_all, take_at, take-add, drop_at, drop-drop, get_or-drop}
use borrow.Author.Tests.{eq-eqb, ne_eqb, lt-ltb, le-ltb, eqb-true, eqb-false}
use Rattle.answer.specs.declared.Refusal.{Refusal}
use Rattle.answer.specs.declared.Refusal.TheVariants.{Size, Room, Record}
use Rattle.answer.specs.Answer.{done, room, not_record, pick, outside, first_of, on_done, result_of}
use Rattle.answer.specs.Laws.{outside_none, test_under, ok_only, err_only, err_same, err_done}
use Rattle.octets.specs.Octets.{big_endian, from_big_endian, written, written_at, equal}
use Rattle.octets.specs.Laws.{append_more, written_more, equal_lengths, equal_same, equal_true}
use Rattle.mppe_keys.specs.declared.Mode.{Mode}
use Rattle.mppe_keys.specs.declared.Mode.TheVariants.{Stateless, Stateful}
use Rattle.mppe_keys.specs.Keys.{by_mode}
use Rattle.mppe.specs.declared.Link.{Link}
use Rattle.mppe.specs.declared.Outcome.{Outcome}
use Rattle.mppe.specs.Link.{front, longest_plain, farthest, well_formed, open_result}
use Rattle.mppe.proofs.Laws.{open_front}
use Rattle.mppe_record.specs.Record.{no_strength, front_octets, front_length, stateless_in, stateless_read}
use Rattle.mppe_record.proofs.Laws.{Sized}
use Rattle.tape.specs.declared.Next.{Next}
use Rattle.tape.specs.Tape.{shortest_packet, longest_packet, most_groups, Read, behind, on_packet, next_of, read_at, read_from, contents}
use Rattle.tape.proofs.Laws.{read_moves, reads_on, reads_none}
use Rattle.marks.specs.declared.Mark.{Mark}
use Rattle.marks.specs.declared.Found.{Found}
use Rattle.marks.specs.Marks.{every, mark_length, mark_octets, marks_octets, mark_in, mark_read, start_at, agreeing, opened, onward, kept, marks_from, marks_of, walk_rows, write_code, write_answer, write_out, checked}
use Rattle.std.specs.Prelude.{Option, Some, None, Result, Ok, Err}
use Rattle.std.specs.Int.{w64, from_be_bytes}
use Rattle.marks.specs.Inner.{Begins, ahead, found, agreed_on}
use Rattle.marks.proofs.Laws.{Whole, mark_length_lem, octets_append, onward_whole, onward_opened, kept_is, kept_count, WholeOctets, whole_none, whole_append, kept_whole, marks_length}

-- opened by its front and its protocol octets
pub cut_opened : {o : Outcome} (limit far : ℕ) (l : Link) (packet : List ℕ) → l.mode ≡ Stateless → outside shortest_packet (front + limit) (length packet) ≡ false
    → o ≡ (open_result limit far l (take 6 packet) (replicate 2 0)).outcome
    → o ≡ (open_result limit far l packet (replicate (length packet - front) 0)).outcome
cut_opened limit far l packet mode inside e =
    let room : List ℕ = replicate (length packet - front) 0 in
    let enough : length packet - front ≤ length room = omega (arith, length-replicate {A = ℕ} (length packet - front) 0) in
    e ∙ sym (open_front limit far l packet room (replicate 2 0) mode inside enough (omega arith))

-- whether there is a packet
pub packet_some : (p : List ℕ) → on_packet p true false ≡ true → p ≡ [] → ⊥
packet_some [] h e = true≢false (sym h)
packet_some (x ∷ p) h e = omega (arith, ap (λ (l : List ℕ). length l) e)

packet_none : (p : List ℕ) → on_packet p true false ≡ false → p ≡ []
packet_none [] h = refl
packet_none (x ∷ p) h = absurd (true≢false h)

-- it has the length of one
pub packet_fits : {packet : List ℕ} (k limit : ℕ) → front + limit < 128 ^ k → (tape : List ℕ) (o : ℕ) → on_packet (read_at k (front + limit) tape o).packet true false ≡ true
    → packet ≡ (read_at k (front + limit) tape o).packet → outside shortest_packet (front + limit) (length packet) ≡ false
packet_fits {packet} k limit fits tape o some e =
    let (_, _, _, fit) = read_moves k (front + limit) fits tape o (packet_some _ some) in
    let size : length packet ≡ length (read_at k (front + limit) tape o).packet = ap length e in
    outside_none shortest_packet (front + limit) (length packet) (omega (arith, fit.0)) (omega (arith, fit.1))

-- a walk behind the packet at its offset, or where there is none
pub advances_none : {packet : List ℕ} (k limit far : ℕ) (m : Mark) (tape : List ℕ) → packet ≡ (read_at k (front + limit) tape m.offset).packet → length packet ≡ 0
    → None ≡ ahead k limit far m tape
unfolding ahead
advances_none k limit far m tape e none =
    by (read_at k (front + limit) tape m.offset).packet (onward k limit far m (read_at k (front + limit) tape m.offset).packet) (ap length (sym e) ∙ none)
  where
    by : (p : List ℕ) (x : Mark) → length p ≡ 0 → None ≡ on_packet p (Some x) None
    by [] x h = refl
    by (y ∷ p) x h = absurd (omega arith)

pub there : {packet : List ℕ} (k limit : ℕ) (tape : List ℕ) (o : ℕ) → packet ≡ (read_at k (front + limit) tape o).packet → (length packet ≡ 0 → ⊥)
    → on_packet (read_at k (front + limit) tape o).packet true false ≡ true
there k limit tape o e some = by (read_at k (front + limit) tape o).packet (λ z. some (ap length e ∙ z))
  where
    by : (p : List ℕ) → (length p ≡ 0 → ⊥) → on_packet p true false ≡ true
    by [] h = absurd (h refl)
    by (y ∷ p) h = refl

pub ahead_some : {next : Mark} (k limit far : ℕ) (m : Mark) (tape : List ℕ) → Some next ≡ ahead k limit far m tape
    → (on_packet (read_at k (front + limit) tape m.offset).packet true false ≡ true) × (next ≡ onward k limit far m (read_at k (front + limit) tape m.offset).packet)
unfolding ahead
ahead_some {next} k limit far m tape e =
    by (read_at k (front + limit) tape m.offset).packet (onward k limit far m (read_at k (front + limit) tape m.offset).packet) e
  where
    by : (p : List ℕ) (x : Mark) → Some next ≡ on_packet p (Some x) None → (on_packet p true false ≡ true) × (next ≡ x)
    by [] x e = absurd (cc)
    by (y ∷ p) x e = (refl, cc)

pub ahead_none : (k limit far : ℕ) (m : Mark) (tape : List ℕ) → None ≡ ahead k limit far m tape
    → on_packet (read_at k (front + limit) tape m.offset).packet true false ≡ false
unfolding ahead
ahead_none k limit far m tape e =
    by (read_at k (front + limit) tape m.offset).packet (onward k limit far m (read_at k (front + limit) tape m.offset).packet) e
  where
    by : (p : List ℕ) (x : Mark) → None ≡ on_packet p (Some x) None → on_packet p true false ≡ false
    by [] x e = refl
    by (y ∷ p) x e = absurd (cc)

pub advances : {next : Next} {packet : List ℕ} {o : Outcome} {count : ℕ} (k limit far : ℕ) → front + limit < 128 ^ k → (m : Mark) (tape : List ℕ)
    → on_packet (read_at k (front + limit) tape m.offset).packet true false ≡ true → next ≡ next_of (read_at k (front + limit) tape m.offset)
    → packet ≡ (read_at k (front + limit) tape m.offset).packet → o ≡ (open_result limit far m.link packet (replicate (length packet - front) 0)).outcome
    → count ≡ on_done o.answer (suc m.opened) m.opened
    → ◌≡◌ {A = Option Mark} (Some (record { opened = count; offset = next.offset; link = o.link })) (ahead k limit far m tape)
unfolding ahead
advances {next} {packet} {o} {count} k limit far fits m tape some en ep eo ec =
    ap Some is ∙ by (read_at k (front + limit) tape m.offset).packet (onward k limit far m (read_at k (front + limit) tape m.offset).packet) some
  where
    is : ◌≡◌ {A = Mark} (record { opened = count; offset = next.offset; link = o.link }) (onward k limit far m (read_at k (front + limit) tape m.offset).packet)
    is =
        let (_, on, _, _) = read_moves k (front + limit) fits tape m.offset (packet_some _ some) in
        unfold onward in unfold opened in unfold next_of in rw (ec, eo, ep, en, on)

    by : (p : List ℕ) (x : Mark) → on_packet p true false ≡ true → Some x ≡ on_packet p (Some x) None
    by [] x e = absurd (true≢false (sym e))
    by (y ∷ p) x e = refl

-- a mark as octets
pub mark_laid : {opened offset front t₁ t₂ t₃ : List ℕ} (m : Mark) → opened ≡ big_endian 8 m.opened → offset ≡ big_endian 8 m.offset
    → (front ≡ front_octets m.link) × (length front ≡ 35) → t₁ ≡ written (take 51 opened) (replicate 51 0)
    → t₂ ≡ written_at 8 (take (length t₁ - 8) offset) t₁ → t₃ ≡ written_at 16 (take (length t₂ - 16) front) t₂
    → (t₃ ≡ mark_octets m) × (length t₃ ≡ mark_length)
unfolding mark_octets
mark_laid {opened} {offset} {front} {t₁} {t₂} {t₃} m eo ef (er, hr) e₁ e₂ e₃ =
    let ho : length opened ≡ 8 = ap length eo in
    let hf : length offset ≡ 8 = ap length ef in
    let both : length (opened ++ offset) ≡ 16 = length-append opened offset ∙ omega arith in
    let laid : t₁ ≡ opened ++ replicate 43 0 = e₁ ∙ rw (take_all 51 opened (omega arith), ho) in
    let g₂ = append_more opened offset 8 43 laid e₂ (sym ho) (omega arith) in
    let g₃ = append_more (opened ++ offset) front 16 (43 - length offset) g₂ e₃ (sym both) (omega arith) in
    let none : 43 - length offset - length front ≡ 0 = omega arith in
    let is : t₃ ≡ (opened ++ offset) ++ front = g₃ ∙ ap (λ n. ((opened ++ offset) ++ front) ++ replicate n 0) none ∙ append-nil _ in
    (is ∙ append_assoc opened offset front ∙ rw (eo, ef, er), ap length is ∙ length-append (opened ++ offset) front ∙ omega arith)

-- a mark put into its place
pub mark_put : {octets t : List ℕ} (m : Mark) (at : ℕ) (out : List ℕ) → (octets ≡ mark_octets m) × (length octets ≡ mark_length) → at + mark_length ≤ length out
    → t ≡ written_at at (take (length out - at) octets) out → t ≡ written_at at (mark_octets m) out
mark_put {octets} m at out (e, h) room et = et ∙ rw (take_all (length out - at) octets (omega arith), e)

-- a mark's octets at a place of a list
pub beyond_list : (octets marks : List ℕ) (at : ℕ) → length octets ≡ mark_length → length marks < at + mark_length
    → false ≡ equal octets (take mark_length (drop at marks))
beyond_list octets marks at h short =
    equal_lengths octets (take mark_length (drop at marks)) (λ e. omega (arith, h, e, length-take mark_length (drop at marks), length-drop at marks))

-- eight octets as a number
pub long_is : (octets : List ℕ) → length octets ≡ 8 → from_be_bytes w64 octets ≡ from_big_endian octets
long_is [] h = absurd (omega arith)
long_is (a ∷ []) h = absurd (omega arith)
long_is (a ∷ b ∷ []) h = absurd (omega arith)
long_is (a ∷ b ∷ c ∷ []) h = absurd (omega arith)
long_is (a ∷ b ∷ c ∷ d ∷ []) h = absurd (omega arith)
long_is (a ∷ b ∷ c ∷ d ∷ e ∷ []) h = absurd (omega arith)
long_is (a ∷ b ∷ c ∷ d ∷ e ∷ f ∷ []) h = absurd (omega arith)
long_is (a ∷ b ∷ c ∷ d ∷ e ∷ f ∷ g ∷ []) h = absurd (omega arith)
long_is (a ∷ b ∷ c ∷ d ∷ e ∷ f ∷ g ∷ i ∷ []) h = omega arith
long_is (a ∷ b ∷ c ∷ d ∷ e ∷ f ∷ g ∷ i ∷ x ∷ xs) h = absurd (omega arith)

-- octets that hold no mark, by their number, their strength and their record, and octets that hold one
pub size_told : (octets : List ℕ) → (length octets ≡ mark_length → ⊥) → mark_read octets ≡ Err Size
unfolding mark_read
size_told octets h = rw (ne_eqb (length octets) mark_length h)

-- what is read of the link's octets
abbrev pub held_in : List ℕ → Result Link Refusal
held_in octets = stateless_read (take (length octets - 16) (drop 16 octets))

held_is : (octets : List ℕ) → length octets ≡ mark_length
    → held_in octets ≡ result_of (first_of ((not_record, no_strength (get_or octets 16 0)) ∷ [])) (stateless_in (drop 16 octets))
unfolding stateless_read
held_is octets h =
    let all : take (length octets - 16) (drop 16 octets) ≡ drop 16 octets = take_all (length octets - 16) (drop 16 octets) (omega (arith, length-drop 16 octets)) in
    let long : length (drop 16 octets) ≡ front_length = omega (arith, length-drop 16 octets) in
    rw (all, eq-eqb (length (drop 16 octets)) front_length long, get_or-drop 16 octets 0 0)

-- it has a strength or has none, and the link is read
weak : (t : Bool) → (first_of ((not_record, t) ∷ []) ≡ done → ⊥) → t ≡ true
weak true h = refl
weak false h = absurd (h refl)

strong : (t : Bool) → first_of ((not_record, t) ∷ []) ≡ done → t ≡ false
strong true h = absurd (omega (arith, h))
strong false h = refl

pub weak_told : {e : Refusal} (octets : List ℕ) → length octets ≡ mark_length → held_in octets ≡ Err e → mark_read octets ≡ Err e
unfolding mark_read
weak_told octets h ee =
    let t : Bool = no_strength (get_or octets 16 0) in
    let held = sym (held_is octets h) ∙ ee in
    let some = weak t (err_only (first_of ((not_record, t) ∷ [])) (stateless_in (drop 16 octets)) held) in
    rw (eq-eqb (length octets) mark_length h, some) (err_same not_record (stateless_in (drop 16 octets)) (mark_in octets) (rw some at held))

pub ill_told : {l : Link} (octets : List ℕ) → length octets ≡ mark_length → held_in octets ≡ Ok l → well_formed l ≡ false
    → mark_read octets ≡ Err Record
unfolding mark_read mark_in
ill_told octets h el ill =
    let t : Bool = no_strength (get_or octets 16 0) in
    let (none, link) = ok_only (first_of ((not_record, t) ∷ [])) (stateless_in (drop 16 octets)) (sym (held_is octets h) ∙ el) in
    rw (eq-eqb (length octets) mark_length h, strong t none, link, ill)

pub held_told : {l : Link} (octets : List ℕ) → length octets ≡ mark_length → held_in octets ≡ Ok l → well_formed l ≡ true
    → mark_read octets
    ≡ Ok (record { opened = from_big_endian (take 8 octets); offset = from_big_endian (take 8 (drop 8 octets)); link = l })
unfolding mark_read mark_in
held_told octets h el well =
    let t : Bool = no_strength (get_or octets 16 0) in
    let (none, link) = ok_only (first_of ((not_record, t) ∷ [])) (stateless_in (drop 16 octets)) (sym (held_is octets h) ∙ el) in
    rw (eq-eqb (length octets) mark_length h, strong t none, link, well)

pub ruleset told_rules = (size_told, weak_told, ill_told, held_told)

-- the walk of the loops: the marks done, and those that the rest of the tape gives
module _ (k limit far : ℕ) (fits : front + limit < 128 ^ k) (start : Link) (tape : List ℕ) where
  pub record Walks (at : Mark) (ms : List Mark) : Type 0 where
    pub marks : marks_of k limit far start tape ≡ ms ++ marks_from k limit far at (read_from k (front + limit) tape at.offset).packets
    pub answer : (contents k (front + limit) tape).answer ≡ (read_from k (front + limit) tape at.offset).answer
    pub number : length ms ≡ at.opened / every
    pub octets : WholeOctets ms
    pub few : at.opened < at.offset
    pub near : at.offset ≤ suc (length tape)
    pub whole : Whole at.link

  pub walks_first : Whole start → Walks (start_at start) []
  unfolding marks_of contents
  walks_first whole = record { marks = refl; answer = refl; number = refl; octets = whole_none; few = omega arith; near = omega arith; whole = whole }

  -- a packet further
  pub walks_next : (at : Mark) (ms : List Mark) → Walks at ms → on_packet (read_at k (front + limit) tape at.offset).packet true false ≡ true
      → (let next : Mark = onward k limit far at (read_at k (front + limit) tape at.offset).packet in
      Walks next (ms ++ kept k limit far at (read_at k (front + limit) tape at.offset).packet) × (at.offset < next.offset) × (next.offset ≤ length tape))
  unfolding marks_from
  walks_next at ms w some =
      let r : Read = read_at k (front + limit) tape at.offset in
      let next : Mark = onward k limit far at r.packet in
      let there = packet_some r.packet some in
      let (_, on, inside, fit) = read_moves k (front + limit) fits tape at.offset there in
      let place : next.offset ≡ r.offset = (unfold onward opened in sym on) in
      let rest : read_from k (front + limit) tape at.offset ≡ behind r.packet (read_from k (front + limit) tape next.offset) =
      reads_on k (front + limit) fits tape at.offset there ∙ ap (λ o. behind r.packet (read_from k (front + limit) tape o)) (sym place) in
      let (_, high) = onward_opened k limit far at r.packet in (
        record {
          marks = w.marks ∙ ap (λ c. ms ++ marks_from k limit far at c.packets) rest
              ∙ sym (append_assoc (ms) (kept k limit far at r.packet) (marks_from k limit far next (read_from k (front + limit) tape next.offset).packets));
          answer = w.answer ∙ ap (λ c. c.answer) rest;
          number = length-append (ms) (kept k limit far at r.packet) ∙ omega (arith, w.number, kept_count k limit far at r.packet);
          octets = whole_append ms (kept k limit far at r.packet) w.octets (kept_whole k limit far at r.packet w.whole);
          few = omega (arith, w.few, place, on, fit.0, high);
          near = omega (arith, place, inside);
          whole = onward_whole k limit far at r.packet w.whole;
        },
        omega (arith, place, on, fit.0),
        omega (arith, place, inside),
      )

  -- and where there is none
  pub walks_last : (at : Mark) (ms : List Mark) → Walks at ms → on_packet (read_at k (front + limit) tape at.offset).packet true false ≡ false
      → (marks_of k limit far start tape ≡ ms) × ((contents k (front + limit) tape).answer ≡ (read_at k (front + limit) tape at.offset).answer)
  unfolding marks_from
  walks_last at ms w none =
      let end = reads_none k (front + limit) fits (length tape) tape at.offset (packet_none _ none) in (
        w.marks ∙ ap (λ c. ms ++ marks_from k limit far at c.packets) end ∙ append-nil (ms),
        w.answer ∙ ap (λ c. c.answer) end,
      )

-- the limits in force
pub fits : front + longest_plain < 128 ^ most_groups
fits = omega arith

-- how many agree: not more than there are, and one more by the next
agreeing_most : (ms : List Mark) (octets : List ℕ) → agreeing ms octets ≤ length ms
unfolding agreeing
agreeing_most [] octets = omega arith
agreeing_most (m ∷ ms) octets = by (equal (mark_octets m) (take mark_length octets)) (agreeing_most ms (drop mark_length octets))
  where
    by : (t : Bool) {n : ℕ} → n ≤ length ms → pick t (suc n) 0 ≤ suc (length ms)
    by true h = omega arith
    by false h = omega arith

agreeing_next : (ms : List Mark) (m : Mark) (octets : List ℕ)
    → agreeing (ms ++ (m ∷ [])) octets
    ≡ pick (eqb (agreeing ms octets) (length ms) && equal (mark_octets m) (take mark_length (drop (mark_length * agreeing ms octets) octets)))
    (suc (agreeing ms octets)) (agreeing ms octets)
unfolding agreeing
agreeing_next [] m octets = refl
agreeing_next (d ∷ ms) m octets =
    by (equal (mark_octets d) (take mark_length octets)) (agreeing ms (drop mark_length octets)) (agreeing (ms ++ (m ∷ [])) (drop mark_length octets))
    (agreeing_next ms m (drop mark_length octets))
  where
    place : (n : ℕ) → drop (mark_length * n) (drop mark_length octets) ≡ drop (mark_length * suc n) octets
    place n =
        let on : mark_length + mark_length * n ≡ mark_length * suc n = omega arith in
        drop-drop (mark_length * n) mark_length octets ∙ ap (λ x. drop x octets) on

    by : (t : Bool) (a b : ℕ)
        → b ≡ pick (eqb a (length ms) && equal (mark_octets m) (take mark_length (drop (mark_length * a) (drop mark_length octets)))) (suc a) a
        → pick t (suc b) 0
        ≡ pick (eqb (pick t (suc a) 0) (suc (length ms)) && equal (mark_octets m) (take mark_length (drop (mark_length * pick t (suc a) 0) octets)))
        (suc (pick t (suc a) 0)) (pick t (suc a) 0)
    by true a b e = rw (e, place a) (sucs (eqb a (length ms)) (eqb (suc a) (suc (length ms))) (sym (eqb-suc-suc a (length ms))))
      where
        sucs : (x y : Bool) → x ≡ y
            → suc (pick (x && equal (mark_octets m) (take mark_length (drop (mark_length * suc a) octets))) (suc a) a)
            ≡ pick (y && equal (mark_octets m) (take mark_length (drop (mark_length * suc a) octets))) (suc (suc a)) (suc a)
        sucs x y e = rw e (test_under suc (y && equal (mark_octets m) (take mark_length (drop (mark_length * suc a) octets))) (suc a) a)
    by false a b e = rw (ne_eqb 0 (suc (length ms)) (λ z. omega (arith, z)))

agreeing_one : {n : ℕ} (ms : List Mark) (m : Mark) (octets : List ℕ) → suc (length ms) ≡ m.opened / every → n ≡ agreeing ms octets
    → agreed_on m octets n ≡ agreeing (ms ++ (m ∷ [])) octets
unfolding agreed_on
agreeing_one ms m octets number e = rw (e, ← number, eqb-suc-suc) (sym (agreeing_next ms m octets))

-- a packet further, by whether a mark is kept behind it
module _ {next : Mark} {t : Bool} (start : Link) (tape : List ℕ) (at : Mark) (ms : List Mark)
    (w : Walks most_groups longest_plain farthest fits start tape at ms)
    (some : on_packet (read_at most_groups longest_packet tape at.offset).packet true false ≡ true)
    (en : next ≡ onward most_groups longest_plain farthest at (read_at most_groups longest_packet tape at.offset).packet)
    (et : t ≡ ltb (at.opened / every) (next.opened / every)) where
  abbrev packet : List ℕ
  packet = (read_at most_groups longest_packet tape at.offset).packet

  behind_is : (b : Bool) → t ≡ b → kept most_groups longest_plain farthest at packet ≡ pick b (next ∷ []) []
  behind_is b e = kept_is most_groups longest_plain farthest at packet ∙ rw (← en, ← et, e)

  pub further : (b : Bool) → t ≡ b
      → Walks most_groups longest_plain farthest fits start tape next (ms ++ pick b (next ∷ []) []) × (at.offset < next.offset) × (next.offset ≤ length tape)
  further b e =
      let (w', low, high) = walks_next most_groups longest_plain farthest fits start tape at ms w some in
      rw (← behind_is b e, en) (w', low, high)

-- the loop that compares, and the one that writes
abbrev pub Compares : (start : Link) (tape marks : List ℕ) → Mark → ℕ → Type 0
Compares start tape marks at n = (ms : List Mark) × Walks most_groups longest_plain farthest fits start tape at ms × (n ≡ agreeing ms marks)

abbrev pub Puts : (start : Link) (tape out : List ℕ) → Mark → List ℕ → Type 0
Puts start tape out at now = (ms : List Mark) × Walks most_groups longest_plain farthest fits start tape at ms × (now ≡ written (marks_octets ms) out)

pub compares_first : (start : Link) (tape marks : List ℕ) → Whole start → Compares start tape marks (start_at start) 0
unfolding agreeing
compares_first start tape marks whole = ([], walks_first most_groups longest_plain farthest fits start tape whole, refl)

pub puts_first : (start : Link) (tape out : List ℕ) → Whole start → Puts start tape out (start_at start) out
unfolding marks_octets
puts_first start tape out whole = ([], walks_first most_groups longest_plain farthest fits start tape whole, refl)

-- what the loops' invariant says of the record
pub begins_walk : {start : Link} {tape : List ℕ} {at : Mark} {ms : List Mark} → Walks most_groups longest_plain farthest fits start tape at ms
    → Begins at.link × (at.opened < at.offset)
begins_walk w = (w.whole, w.few)

-- a loop's step, by what is ahead and whether a mark is kept behind it
module _ {next : Mark} {t : Bool} (start : Link) (tape : List ℕ) (at : Mark) (step : Some next ≡ ahead most_groups longest_plain farthest at tape)
    (test : t ≡ ltb (at.opened / every) (next.opened / every)) where
  on : (ms : List Mark) → Walks most_groups longest_plain farthest fits start tape at ms → (b : Bool) → t ≡ b
      → Walks most_groups longest_plain farthest fits start tape next (ms ++ pick b (next ∷ []) []) × (at.offset < next.offset) × (next.offset ≤ length tape)
  on ms w =
      let (some, is) = ahead_some most_groups longest_plain farthest at tape step in
      further start tape at ms w some is test

  pub goes_down : (ms : List Mark) → Walks most_groups longest_plain farthest fits start tape at ms → suc (length tape) - next.offset < suc (length tape) - at.offset
  goes_down ms w = let (_, low, high) = on ms w t refl in omega (arith, low, high)

  full : (ms : List Mark) → Walks most_groups longest_plain farthest fits start tape at ms → t ≡ true → suc (length ms) ≡ next.opened / every
  full ms w kept =
      let (w', _, _) = on ms w true kept in
      sym (length-append ms (next ∷ []) ∙ add-one (length ms)) ∙ w'.number

  pub agrees_less : {n : ℕ} (marks : List ℕ) → Compares start tape marks at n → t ≡ true → n < next.opened / every
  agrees_less marks (ms, w, e) kept = omega (arith, e, agreeing_most ms marks, full ms w kept)

  pub compares_kept : {n n' : ℕ} (marks : List ℕ) → Compares start tape marks at n → t ≡ true → n' ≡ agreed_on next marks n → Compares start tape marks next n'
  compares_kept marks (ms, w, e) kept en =
      (ms ++ (next ∷ []), (on ms w true kept).0, en ∙ agreeing_one ms next marks (full ms w kept) e)

  pub compares_not : {n : ℕ} (marks : List ℕ) → Compares start tape marks at n → t ≡ false → Compares start tape marks next n
  compares_not marks (ms, w, e) none = (ms, rw append-nil at (on ms w false none).0, e)

  pub puts_room : {now : List ℕ} (out : List ℕ) → length (marks_octets (marks_of most_groups longest_plain farthest start tape)) ≤ length out → Whole start
      → Puts start tape out at now → t ≡ true → (1 ≤ next.opened / every) × (mark_length * (next.opened / every) ≤ length now)
  unfolding marks_of
  puts_room {now} out room whole (ms, w, e) kept =
      let (w', _, _) = on ms w true kept in
      let all : List Mark = marks_of most_groups longest_plain farthest start tape in
      let size : length (marks_octets all) ≡ mark_length * length all =
      marks_length most_groups longest_plain farthest (start_at start) (contents most_groups longest_packet tape).packets whole in
      let many : length all ≡ length (ms ++ (next ∷ [])) + _ = ap (λ l. length l) w'.marks ∙ length-append (ms ++ (next ∷ [])) _ in
      let more : length (ms ++ (next ∷ [])) ≡ suc (length ms) = length-append ms (next ∷ []) ∙ add-one (length ms) in
      let number = full ms w kept in
      let long : length now ≡ length (marks_octets ms) + (length out - length (marks_octets ms)) = ap length e ∙ simp (length-append, length-drop) in
      (omega (arith, number), omega (arith, number, room, size, many, more, long))

  pub puts_kept : {now after : List ℕ} (out : List ℕ) → Puts start tape out at now → t ≡ true
      → after ≡ written_at (mark_length * (next.opened / every - 1)) (mark_octets next) now → Puts start tape out next after
  puts_kept {now} {after} out (ms, w, e) kept ea = (ms ++ (next ∷ []), (on ms w true kept).0, laid)
    where
      at' : ℕ
      at' = mark_length * (next.opened / every - 1)

      before : length (marks_octets ms) ≡ at'
      before = w.octets ∙ omega (arith, full ms w kept)

      one : marks_octets (next ∷ []) ≡ mark_octets next
      one = unfold marks_octets in append-nil (mark_octets next)

      parts : after ≡ take at' now ++ mark_octets next ++ drop (at' + length (mark_octets next)) now
      parts = ea ∙ rw (drop-drop, append_assoc)

      laid : after ≡ written (marks_octets (ms ++ (next ∷ []))) out
      laid = written_more (marks_octets ms) out (mark_octets next) at' e parts before ∙ ap (λ l. written l out) (ap (λ l. marks_octets ms ++ l) (sym one) ∙ sym (octets_append ms (next ∷ [])))

  pub puts_not : {now : List ℕ} (out : List ℕ) → Puts start tape out at now → t ≡ false → Puts start tape out next now
  puts_not out (ms, w, e) none = (ms, rw append-nil at (on ms w false none).0, e)

-- the ends of the loops
module _ {n : ℕ} (start : Link) (tape marks : List ℕ) (at : Mark) (all : Compares start tape marks at n)
    (end : None ≡ ahead most_groups longest_plain farthest at tape) where
  compared_all : (marks_of most_groups longest_plain farthest start tape ≡ all.0)
      × ((contents most_groups longest_packet tape).answer ≡ (read_at most_groups longest_packet tape at.offset).answer)
  compared_all = walks_last most_groups longest_plain farthest fits start tape at all.0 all.1 (ahead_none most_groups longest_plain farthest at tape end)

  pub compares_fits : mark_length * (at.opened / every) ≤ length tape
  compares_fits = omega (arith, all.1.few, all.1.near)

  module _ {last : Next} (el : last ≡ next_of (read_at most_groups longest_packet tape at.offset)) where
    last_read : {r : Result (Unit {0}) Refusal} → last.answer ≡ r → result_of (contents most_groups longest_packet tape).answer tt ≡ r
    unfolding next_of
    last_read e = ap (λ a. result_of {A = Unit {0}} a tt) (compared_all.1) ∙ sym (ap (λ (x : Next). x.answer) el) ∙ e

    pub compares_last : {u : Unit {0}} → last.answer ≡ Ok u
        → Ok (record { marks = at.opened / every; agreeing = n }) ≡ found most_groups longest_plain farthest start tape marks
    unfolding found
    compares_last e = rw ((ok_only (contents most_groups longest_packet tape).answer tt (last_read e)).0, compared_all.0, all.2, ← all.1.number)

    pub compares_fault : {refusal : Refusal} → last.answer ≡ Err refusal → Err refusal ≡ found most_groups longest_plain farthest start tape marks
    unfolding found
    compares_fault e = sym (err_same (contents most_groups longest_packet tape).answer tt _ (last_read e))

pub puts_last : {now : List ℕ} (start : Link) (tape out : List ℕ) (at : Mark) → Puts start tape out at now
    → None ≡ ahead most_groups longest_plain farthest at tape
    → now ≡ written (marks_octets (marks_of most_groups longest_plain farthest start tape)) out
puts_last start tape out at (ms, w, e) end =
    let (all, _) = walks_last most_groups longest_plain farthest fits start tape at ms w (ahead_none most_groups longest_plain farthest at tape end) in
    e ∙ ap (λ l. written (marks_octets l) out) (sym all)

pub written_size : {now : List ℕ} (list out : List ℕ) → length list ≤ length out → now ≡ written list out → length now ≡ length out
written_size list out room e = ap length e ∙ simp (length-append, length-drop) (omega (arith, room))

-- the rows of a walk: a record that none may begin with, and those behind
module _ (start : Link) (tape : List ℕ) (rest : List (ℕ × Bool)) where
  abbrev rows : List (ℕ × Bool)
  rows = walk_rows most_groups longest_plain farthest start tape ++ rest

  rows_ill : {t : Bool} → t ≡ (well_formed start && by_mode start.mode true false) → t ≡ false → first_of rows ≡ not_record
  rows_ill e h = by (well_formed start) start.mode (sym e ∙ h)
    where
      last : List (ℕ × Bool)
      last = ((contents most_groups longest_packet tape).answer, not (eqb (contents most_groups longest_packet tape).answer done)) ∷ rest

      by : (w : Bool) (m : Mode) → (w && by_mode m true false) ≡ false → first_of ((not_record, not w) ∷ (not_record, by_mode m false true) ∷ last) ≡ not_record
      by true Stateless h = absurd (true≢false h)
      by true Stateful h = refl
      by false m h = refl

  rows_begun : Begins start → (a : ℕ) → (contents most_groups longest_packet tape).answer ≡ a → first_of rows ≡ on_done a (first_of rest) a
  rows_begun (well, mode, _) a e = by (well_formed start) start.mode well mode (contents most_groups longest_packet tape).answer e
    where
      fault : (a : ℕ) → pick (not (eqb a done)) a (first_of rest) ≡ on_done a (first_of rest) a
      fault zero = refl
      fault (suc n) = rw (eqb-suc-zero n)

      by : (w : Bool) (m : Mode) → w ≡ true → m ≡ Stateless → (b : ℕ) → b ≡ a
          → first_of ((not_record, not w) ∷ (not_record, by_mode m false true) ∷ (b, not (eqb b done)) ∷ rest) ≡ on_done a (first_of rest) a
      by w m ew em b e = rw (ew, em, e) (fault a)

-- a list of marks agrees with its own octets ..
own_agrees : (k limit far : ℕ) (m : Mark) (ps : List (List ℕ)) → Whole m.link
    → agreeing (marks_from k limit far m ps) (marks_octets (marks_from k limit far m ps)) ≡ length (marks_from k limit far m ps)
unfolding marks_from marks_octets agreeing
own_agrees k limit far m [] whole = refl
own_agrees k limit far m (p ∷ ps) whole =
    let next : Mark = onward k limit far m p in
    let after = onward_whole k limit far m p whole in
    rw (kept_is k limit far m p) (by (ltb (m.opened / every) (next.opened / every)) next after.2 (marks_from k limit far next ps) (own_agrees k limit far next ps after))
  where
    by : (t : Bool) (next : Mark) → Sized next.link → (rest : List Mark) → agreeing rest (marks_octets rest) ≡ length rest
        → agreeing (pick t (next ∷ []) [] ++ rest) (marks_octets (pick t (next ∷ []) [] ++ rest)) ≡ length (pick t (next ∷ []) [] ++ rest)
    by true next sized rest e =
        let size = mark_length_lem next sized in
        rw (take_at (mark_octets next) (marks_octets rest) mark_length size, equal_same (mark_octets next), drop_at (mark_octets next) (marks_octets rest) mark_length size, e)
    by false next sized rest e = e

-- .. and where all agree, they stand in front
all_stand : (ms : List Mark) (octets : List ℕ) → agreeing ms octets ≡ length ms → take (mark_length * length ms) octets ≡ marks_octets ms
unfolding agreeing marks_octets
all_stand [] octets e = refl
all_stand (m ∷ ms) octets e = by (equal (mark_octets m) (take mark_length octets)) refl e (all_stand ms (drop mark_length octets))
  where
    by : (t : Bool) → equal (mark_octets m) (take mark_length octets) ≡ t → pick t (suc (agreeing ms (drop mark_length octets))) 0 ≡ suc (length ms)
        → (agreeing ms (drop mark_length octets) ≡ length ms → take (mark_length * length ms) (drop mark_length octets) ≡ marks_octets ms)
        → take (mark_length * suc (length ms)) octets ≡ mark_octets m ++ marks_octets ms
    by true q e ih =
        let on : mark_length * suc (length ms) ≡ mark_length + mark_length * length ms = omega arith in
        ap (λ n. take n octets) on ∙ take-add mark_length (mark_length * length ms) octets
        ∙ rw (← equal_true (mark_octets m) (take mark_length octets) q, ih (omega (arith, e)))
    by false q e ih = absurd (omega (arith, e))

-- the check's yes, by how many agree and the length of the list
module _ (start : Link) (tape marks : List ℕ) (whole : Whole start) where
  abbrev all : List Mark
  all = marks_of most_groups longest_plain farthest start tape

  all_length : WholeOctets all
  unfolding marks_of
  all_length = marks_length most_groups longest_plain farthest (start_at start) (contents most_groups longest_packet tape).packets whole

  all_own : agreeing all (marks_octets all) ≡ length all
  unfolding marks_of
  all_own = own_agrees most_groups longest_plain farthest (start_at start) (contents most_groups longest_packet tape).packets whole

  yes_length : agreeing all marks ≡ length all → eqb (length marks) (mark_length * length all) ≡ equal (marks_octets all) marks
  yes_length e = by (eqb (length marks) (mark_length * length all)) refl
    where
      by : (t : Bool) → eqb (length marks) (mark_length * length all) ≡ t → t ≡ equal (marks_octets all) marks
      by true q =
          let long = eqb-true (length marks) (mark_length * length all) q in
          let same : marks_octets all ≡ marks = sym (all_stand all marks e) ∙ take_all (mark_length * length all) marks (omega (arith, long)) in
          sym (ap (λ l. equal l marks) same ∙ equal_same marks)
      by false q = equal_lengths (marks_octets all) marks (λ z. eqb-false (length marks) (mark_length * length all) q (sym z ∙ all_length))

  yes_not : (agreeing all marks ≡ length all → ⊥) → false ≡ equal (marks_octets all) marks
  yes_not h = by (equal (marks_octets all) marks) refl
    where
      by : (t : Bool) → equal (marks_octets all) marks ≡ t → false ≡ t
      by true q = absurd (h (ap (λ l. agreeing all l) (sym (equal_true (marks_octets all) marks q)) ∙ all_own))
      by false q = refl

-- the refusal of a tape is that of the rows, if a walk may begin
faulty : {A B : Type 0} {refusal : Refusal} (a rest : ℕ) (x : A) (y : B) → result_of a x ≡ Err refusal → result_of (on_done a rest a) y ≡ Err refusal
faulty {refusal = r} a rest x y e = by a (err_only a x e) (err_same a x y e)
  where
    by : (a : ℕ) → (a ≡ done → ⊥) → result_of a y ≡ Err r → result_of (on_done a rest a) y ≡ Err r
    by zero fault e = absurd (fault refl)
    by (suc n) fault e = e

-- the ways out of a check
module _ (start : Link) (tape marks : List ℕ) where
  pub check_ill : {t : Bool} → t ≡ (well_formed start && by_mode start.mode true false) → t ≡ false
      → Err Record ≡ checked most_groups longest_plain farthest start tape marks
  unfolding checked
  check_ill e h = rw (rows_ill start tape [] e h)

  module _ (begun : Begins start) where
    pub check_faulty : {refusal : Refusal} → Err refusal ≡ found most_groups longest_plain farthest start tape marks
        → Err refusal ≡ checked most_groups longest_plain farthest start tape marks
    unfolding checked found
    check_faulty e =
        let code = rows_begun start tape [] begun (contents most_groups longest_packet tape).answer refl in
        rw code (sym (faulty (contents most_groups longest_packet tape).answer done _ _ (sym e)))

    module _ {w : Found} (ew : Ok w ≡ found most_groups longest_plain farthest start tape marks) where
      walked : ((contents most_groups longest_packet tape).answer ≡ done)
          × (w.marks ≡ length (marks_of most_groups longest_plain farthest start tape))
          × (w.agreeing ≡ agreeing (marks_of most_groups longest_plain farthest start tape) marks)
      unfolding found
      walked =
          let (ok, is) = ok_only (contents most_groups longest_packet tape).answer _ (sym ew) in
          (ok, sym (ap (λ (f : Found). f.marks) is), sym (ap (λ (f : Found). f.agreeing) is))

      found_done : (b : Bool) → b ≡ equal (marks_octets (marks_of most_groups longest_plain farthest start tape)) marks
          → Ok (record { yes = b; agreeing = w.agreeing }) ≡ checked most_groups longest_plain farthest start tape marks
      unfolding checked
      found_done b e = rw (rows_begun start tape [] begun done walked.0, e, walked.2)

      pub check_same : w.agreeing ≡ w.marks
          → Ok (record { yes = eqb (length marks) (mark_length * w.marks); agreeing = w.agreeing }) ≡ checked most_groups longest_plain farthest start tape marks
      check_same e =
          let (_, count, agree) = walked in
          found_done (eqb (length marks) (mark_length * w.marks))
          (ap (λ n. eqb (length marks) (mark_length * n)) count ∙ yes_length start tape marks begun (sym agree ∙ e ∙ count))

      pub check_other : (w.agreeing ≡ w.marks → ⊥)
          → Ok (record { yes = eqb w.agreeing w.marks; agreeing = w.agreeing }) ≡ checked most_groups longest_plain farthest start tape marks
      check_other h =
          let (_, count, agree) = walked in
          found_done (eqb w.agreeing w.marks) (ne_eqb w.agreeing w.marks h ∙ yes_not start tape marks begun (λ z. h (agree ∙ z ∙ sym count)))

-- and of a write
module _ (start : Link) (tape out : List ℕ) where
  abbrev Gives : Result ℕ Refusal → List ℕ → Type 0
  Gives r after = (r ≡ write_answer most_groups longest_plain farthest start tape out) × (after ≡ write_out most_groups longest_plain farthest start tape out)

  abbrev last_row : List (ℕ × Bool)
  last_row = (room, ltb (length out) (length (marks_octets (marks_of most_groups longest_plain farthest start tape)))) ∷ []

  pub write_ill : {t : Bool} → t ≡ (well_formed start && by_mode start.mode true false) → t ≡ false → Gives (Err Record) out
  unfolding write_answer write_out write_code
  write_ill e h = let code = rows_ill start tape last_row e h in (rw code, rw code)

  module _ (begun : Begins start) where
    pub write_faulty : {refusal : Refusal} → Err refusal ≡ found most_groups longest_plain farthest start tape out → Gives (Err refusal) out
    unfolding write_answer write_out write_code found
    write_faulty e =
        let a : ℕ = (contents most_groups longest_packet tape).answer in
        let code = rows_begun start tape last_row begun a refl in
        let same = faulty a (first_of last_row) _ (length (marks_octets (marks_of most_groups longest_plain farthest start tape))) (sym e) in
        rw code (sym same, sym (err_done (on_done a (first_of last_row) a) _ _ out same))

    module _ {w : Found} (ew : Ok w ≡ found most_groups longest_plain farthest start tape out) where
      code_is : write_code most_groups longest_plain farthest start tape out ≡ first_of last_row
      unfolding write_code
      code_is = rows_begun start tape last_row begun done (walked start tape out begun ew).0

      pub list_length : mark_length * w.marks ≡ length (marks_octets (marks_of most_groups longest_plain farthest start tape))
      list_length = ap (λ n. mark_length * n) (walked start tape out begun ew).1 ∙ sym (all_length start tape out begun)

      pub write_short : length out < mark_length * w.marks → Gives (Err Room) out
      unfolding write_answer write_out
      write_short short =
          let small = lt-ltb (length out) (length (marks_octets (marks_of most_groups longest_plain farthest start tape))) (omega (arith, list_length)) in
          (rw (code_is, small), rw (code_is, small))

      pub write_done : {after : List ℕ} → mark_length * w.marks ≤ length out
          → after ≡ written (marks_octets (marks_of most_groups longest_plain farthest start tape)) out
          → Gives (Ok (mark_length * w.marks)) after
      unfolding write_answer write_out
      write_done enough ea =
          let large = le-ltb (length out) (length (marks_octets (marks_of most_groups longest_plain farthest start tape))) (omega (arith, list_length)) in
          (rw (code_is, large, list_length), rw (code_is, large) ea)
