-- From the steps of the code to what the calls answer.
use mathlib.Core.Path.{◌≡◌, refl, sym, ap, subst, ◌∙◌}
use mathlib.Core.Bool.{Bool, true, false, not, true≢false}
use mathlib.Core.List.{List, [], ◌∷◌, ◌++◌, append-nil, append_assoc}
use Prim.Native.Nat.{ℕ, zero, suc, ◌+◌, ◌*◌, ◌-◌, ◌/◌, ◌%◌, ◌^◌, ◌<◌, ◌≤◌}
use native.Mathlib.Numerals.{add-one}
use native.Mathlib.Omega.{arith}
use lib.Dec.{eqb, ltb}
use lib.ListN.{length, take, drop, get_or, set, length-append, length-drop, drop_of_length-le}
use lib.Seq.{length-take-le, take_all, take-length, drop-cons, drop-drop, get_or-drop}
use borrow.Author.Tests.{lt-ltb, le-ltb, ltb-true, ltb-false, eq-eqb, ne_eqb}
use Rattle.std.proofs.Common.{suc-ne-zero}
use Rattle.std.specs.Prelude.{Result, Ok, Err, is_ok}
use Rattle.answer.specs.declared.Refusal.{Refusal}
use Rattle.answer.specs.declared.Refusal.TheVariants.{Shape}
use Rattle.answer.specs.Answer.{done, shape, size, pick, outside, first_of, on_done, number_of, result_of}
use Rattle.answer.specs.Laws.{clear, within, not_done}
use Rattle.octets.specs.Octets.{written, onward}
use borrow.Rule.Slice.PartMut.{put_mid}
use Rattle.octets.specs.Laws.{copy_more, written_more}
use Rattle.mppe.specs.declared.Link.{Link}
use Rattle.mppe.specs.declared.Outcome.{Outcome}
use Rattle.mppe.specs.Link.{front, well_formed, refusal, open_result}
use Rattle.tape.specs.declared.Next.{Next}
use Rattle.tape.specs.declared.Replayed.{Replayed}
use Rattle.tape.specs.Tape.{first_octet, shortest_packet, groups, length_in, Read, reading, next_of, on_packet, place_rows, record_size, record_of, length_at, packet_at, write_code, write_answer, write_out, record_rows, record_read, read_at}
use Rattle.tape.specs.Replay.{step_of, replayed, held, replay_step}
use Rattle.tape.proofs.Laws.{read_number, low_some, groups_one, groups_more, length_one, length_more, pow_some}

-- what the groups from one on say: no octet is there, or the last group, or one with others behind it
module _ (k : ℕ) (l : List ℕ) (i : ℕ) where
  abbrev pub Said : ℕ → Type 0
  Said n = (n ≡ length_in (k - i) (drop i l)) × (n < 128 ^ (k - i))

  pub no_octet : length l ≤ i → Said 0
  unfolding length_in
  no_octet h = rw (drop_of_length-le l {i = i} h) (by (k - i))
    where
      by : (j : ℕ) → (0 ≡ length_in j []) × (0 < 128 ^ j)
      by zero = (refl, pow_some 0)
      by (suc j) = (refl, pow_some (suc j))

  module _ {g : ℕ} (some : i < k) (there : i < length l) (is : g ≡ get_or l i 0) where
    left : k - i ≡ suc (k - (i + 1))
    left = omega arith

    here : drop i l ≡ g ∷ drop (i + 1) l
    here = drop-cons l i 0 there ∙ rw (is, add-one)

    pub last_group : g < 128 → Said g
    last_group h = rw (left, here) (sym (length_one (k - (i + 1)) g (drop (i + 1) l) h), omega (arith, pow_some (k - (i + 1))))

    module _ {high : ℕ} (top : 128 ≤ g) (said : high ≡ length_in (k - (i + 1)) (drop (i + 1) l)) where
      pub none_behind : high ≡ 0 → Said 0
      none_behind none = rw (left, here, length_more (k - (i + 1)) g (drop (i + 1) l) top, ← said, none) (refl, pow_some (suc (k - (i + 1))))

      pub some_behind : g < 256 → high < 128 ^ (k - (i + 1)) → (high ≡ 0 → ⊥) → Said (g - 128 + 128 * high)
      some_behind octet below more =
          rw (left, here, length_more (k - (i + 1)) g (drop (i + 1) l) top, ← said) (sym (low_some (g - 128) high (omega (arith, more))), omega arith)

-- the same of a longer form, as the check applies it by itself
pub longer_form : (k : ℕ) (l : List ℕ) (i : ℕ) → i < k → i < length l → 128 ≤ get_or l i 0 → length_in (k - (i + 1)) (drop (i + 1) l) ≡ 0
    → length_in (k - i) (drop i l) ≡ 0
longer_form k l i some there top none = sym (none_behind k l i some there refl top refl none).0

pub ruleset no_length = (longer_form, pow_some)

-- no first octet
pub no_first : (tape : List ℕ) → length tape ≡ 0 → not (eqb (get_or tape 0 0) first_octet) ≡ true
no_first [] h = refl
no_first (x ∷ tape) h = absurd (omega arith)

-- a number of more than one group
more_groups : (j left : ℕ) → 128 ≤ left → left < 128 ^ suc j → 0 < j
more_groups zero left more below = absurd (omega arith)
more_groups (suc j) left more below = omega arith

-- the groups of a length one by one, lowest first: those from a place on are the groups of what is left of it
module _ (k n : ℕ) where
  abbrev pub Left : (i left : ℕ) → Type 0
  Left i left = (i < k) × (left < 128 ^ (k - i)) × (drop i (groups k n) ≡ groups (k - i) left)

  pub left_all : 0 < k → n < 128 ^ k → Left 0 n
  left_all some h =
      let whole : k - 0 ≡ k = omega arith in
      rw whole (some, h, refl)

  -- the group at a place: one with others behind it, or the last
  module _ {i left : ℕ} (at : Left i left) where
    behind : k - i ≡ suc (k - (i + 1))
    behind = omega (arith, at.0)

    at_place : (g : ℕ) (rest : List ℕ) → groups (k - i) left ≡ g ∷ rest
        → (i + length (g ∷ rest) ≡ length (groups k n)) × (get_or (groups k n) i 0 ≡ g) × (drop (i + 1) (groups k n) ≡ rest)
    at_place g rest e =
        let l : List ℕ = groups k n in
        let here : drop i l ≡ g ∷ rest = at.2 ∙ e in
        let place : i + 0 ≡ i = omega arith in
        let size : length l - i ≡ suc (length rest) = sym (length-drop i l) ∙ ap (λ (m : List ℕ). length m) here in (
          omega arith,
          ap (λ (j : ℕ). get_or l j 0) (sym place) ∙ sym (get_or-drop i l 0 0) ∙ ap (λ (m : List ℕ). get_or m 0 0) here,
          sym (drop-drop 1 i l) ∙ ap (λ (m : List ℕ). drop 1 m) here,
        )

    more_left : 128 ≤ left → groups (k - i) left ≡ (128 + left % 128) ∷ groups (k - (i + 1)) (left / 128)
    more_left more =
        let parts : left ≡ left % 128 + 128 * (left / 128) = omega arith in
        ap (λ (j : ℕ). groups j left) behind ∙ ap (λ (m : ℕ). groups (suc (k - (i + 1))) m) parts
        ∙ groups_more (k - (i + 1)) (left % 128) (left / 128) (omega arith) (omega arith)

    pub next_group : 128 ≤ left → (i < length (groups k n)) × (get_or (groups k n) i 0 ≡ 128 + left % 128) × Left (i + 1) (left / 128)
    next_group more =
        let (size, group, rest) = at_place (128 + left % 128) (groups (k - (i + 1)) (left / 128)) (more_left more) in
        let below : left < 128 ^ suc (k - (i + 1)) = subst (λ (j : ℕ). left < 128 ^ j) behind at.1 in
        (omega arith, group, (omega (arith, more_groups (k - (i + 1)) left more below), omega arith, rest))

    pub top_group : left < 128 → (length (groups k n) ≡ i + 1) × (get_or (groups k n) i 0 ≡ left)
    top_group last =
        let (size, group, _) = at_place left [] (ap (λ (j : ℕ). groups j left) behind ∙ groups_one (k - (i + 1)) left last) in
        (omega arith, group)

    pub place_inside : i < length (groups k n)
    place_inside = by (ltb left 128) refl
      where
        by : (t : Bool) → ltb left 128 ≡ t → i < length (groups k n)
        by true e = omega (arith, (top_group (ltb-true left 128 e)).0)
        by false e = (next_group (ltb-false left 128 e)).0

-- a group put behind others in the front of a buffer that has room for all
pub group_put : {b : List ℕ} (l out : List ℕ) (i g : ℕ) → b ≡ written (take i l) out → get_or l i 0 ≡ g → i < length l → length l ≤ length out
    → set b i g ≡ written (take (i + 1) l) out
group_put {b} l out i g e is some fits = ap (λ (x : ℕ). set b i x) (sym is) ∙ copy_more l out i e some (omega arith)

pub top_put : {b : List ℕ} (l out : List ℕ) (i g : ℕ) → b ≡ written (take i l) out → get_or l i 0 ≡ g → length l ≡ i + 1 → length l ≤ length out
    → set b i g ≡ written l out
top_put l out i g e is size fits = group_put l out i g e is (omega arith) fits ∙ rw (← size, take-length)

-- what is said behind the highest group that may be
pub before_groups : (k : ℕ) (l : List ℕ) → Said k l k 0
unfolding length_in
before_groups k l =
    let none : k - k ≡ 0 = omega arith in
    rw none (refl, pow_some 0)

-- where a read's packet stands: none, or one that ends at the offset answered
abbrev pub nothing : Result (Unit {0}) Refusal → ℕ → Next
nothing answer offset = record { answer = answer; start = offset; offset = offset }

no_packet : {next : Next} {r : Read} (code offset : ℕ) → r ≡ reading code [] offset → next ≡ nothing (result_of code tt) offset → next ≡ next_of r
unfolding next_of
no_packet code offset e is =
    let same : offset - 0 ≡ offset = omega arith in
    is ∙ rw (e, same)

some_packet : {r : Read} (p : List ℕ) (start offset : ℕ) → r ≡ reading done p offset → start + length p ≡ offset
    → ◌≡◌ {A = Next} (record { answer = Ok tt; start = start; offset = offset }) (next_of r)
unfolding next_of
some_packet p start offset e sum =
    let begin : offset - length p ≡ start = omega arith in
    rw (e, begin)

-- a length that is not beyond a packet's is one of a packet's
pub carried_length : {beyond : Bool} (most n : ℕ) → beyond ≡ outside shortest_packet most n → beyond ≡ false → (shortest_packet ≤ n) × (n ≤ most)
carried_length most n long carried = within shortest_packet most n (sym long ∙ carried)

-- the ways out of the reading of a record: another length, a cut record, a packet
module _ (k most : ℕ) (tape : List ℕ) (o : ℕ) {n : ℕ} {beyond : Bool} (said : n ≡ length_in k (take (length tape - o) (drop o tape)))
    (long : beyond ≡ outside shortest_packet most n) where
  length_is : length_at k tape o ≡ n
  length_is = sym (said ∙ ap (λ (l : List ℕ). length_in k l) (take_all (length tape - o) (drop o tape) (omega (arith, length-drop o tape))))

  pub record_other : {next : Next} → beyond ≡ true → next ≡ nothing (Err Shape) o → next ≡ next_of (record_read k most tape o)
  unfolding record_read
  record_other other is = no_packet shape o (rw (length_is, ← long, other)) is

  module _ {g : ℕ} (carried : beyond ≡ false) (size : g ≡ length (groups k n)) where
    pub record_cut : {next : Next} → length tape - o < g + n → next ≡ nothing (Err Shape) o → next ≡ next_of (record_read k most tape o)
    unfolding record_read
    record_cut h is = no_packet shape o (rw (length_is, ← long, carried, ← size, lt-ltb (length tape - o) (g + n) h)) is

    pub record_whole : g + n ≤ length tape - o
        → ◌≡◌ {A = Next} (record { answer = Ok tt; start = o + g; offset = o + g + n }) (next_of (record_read k most tape o))
    unfolding record_read
    record_whole h =
        let after : o + (g + n) ≡ o + g + n = omega arith in
        let all : length (take n (drop (o + g) tape)) ≡ n = length-take-le n (drop (o + g) tape) (omega (arith, length-drop (o + g) tape, (carried_length most n long carried).0)) in
        some_packet (take n (drop (o + g) tape)) (o + g) (o + g + n)
        (rw (length_is, ← long, carried, ← size, le-ltb (length tape - o) (g + n) h, after)) (omega arith)

-- the ways out of a read: a wrong place, the end, a record
module _ (k most : ℕ) (tape : List ℕ) (o : ℕ) {placed : Result (Unit {0}) Refusal} (place : placed ≡ result_of (first_of (place_rows tape o)) tt) where
  pub misplaced : {next : Next} → is_ok placed ≡ false → next ≡ nothing placed 0 → next ≡ next_of (read_at k most tape o)
  unfolding read_at
  misplaced bad is = no_packet code 0 (not_done code _ _ (refusal code (rw place at bad))) (is ∙ rw place)
    where
      code : ℕ
      code = first_of (place_rows tape o)

      refusal : (n : ℕ) → is_ok (result_of {A = Unit {0}} n tt) ≡ false → n ≡ done → ⊥
      refusal zero bad e = true≢false bad
      refusal (suc n) bad e = suc-ne-zero n e

  good : is_ok placed ≡ true → first_of (place_rows tape o) ≡ done
  good fine = by (first_of (place_rows tape o)) (rw place at fine)
    where
      by : (n : ℕ) → is_ok (result_of {A = Unit {0}} n tt) ≡ true → n ≡ done
      by zero fine = refl
      by (suc n) fine = absurd (true≢false (sym fine))

  pub inside : is_ok placed ≡ true → o ≤ length tape
  inside fine = (within 1 (length tape) o (clear size (place_rows tape o) refl (good fine)).0).1

  pub at_end_lem : {next : Next} → is_ok placed ≡ true → o ≡ length tape → next ≡ nothing (Ok tt) o → next ≡ next_of (read_at k most tape o)
  unfolding read_at
  at_end_lem fine e is = no_packet done o (rw (good fine, eq-eqb o (length tape) e)) is

  pub at_record : {next : Next} → is_ok placed ≡ true → (o ≡ length tape → ⊥) → next ≡ next_of (record_read k most tape o) → next ≡ next_of (read_at k most tape o)
  unfolding read_at
  at_record fine e is = is ∙ ap next_of (sym (rw (good fine, ne_eqb o (length tape) e)))

-- a read's packet is the part of the tape that ends at the offset answered
module _ (k most : ℕ) (tape : List ℕ) (o : ℕ) where
  abbrev IsPart : Read → Type 0
  IsPart r = (r.offset ≤ length tape) × (length r.packet ≤ r.offset) × (take (length r.packet) (drop (r.offset - length r.packet) tape) ≡ r.packet)

  no_part : (code offset : ℕ) → offset ≤ length tape → IsPart (reading code [] offset)
  no_part code offset h = (h, omega arith, refl)

  record_part : o ≤ length tape → IsPart (record_read k most tape o)
  unfolding record_read
  record_part h = by (first_of (record_rows k most tape o)) refl
    where
      by : (code : ℕ) → first_of (record_rows k most tape o) ≡ code
          → IsPart (on_done code (reading done (packet_at k tape o) (o + record_size k (length_at k tape o))) (reading code [] o))
      by zero e =
          let n : ℕ = length_at k tape o in
          let g : ℕ = length (groups k n) in
          let (carried, (whole, _)) = clear shape (record_rows k most tape o) refl e in
          let fits : g + n ≤ length tape - o = ltb-false (length tape - o) (g + n) whole in
          let low = within shortest_packet most n carried in
          let long : length (packet_at k tape o) ≡ n = length-take-le n (drop (o + g) tape) (omega (arith, length-drop (o + g) tape)) in
          let begin : o + (g + n) - n ≡ o + g = omega arith in
          (omega arith, omega arith, rw (long, begin))
      by (suc c) e = no_part (suc c) o h

  read_part : IsPart (read_at k most tape o)
  unfolding read_at
  read_part = by (first_of (place_rows tape o)) refl
    where
      end : o ≤ length tape → (t : Bool) → IsPart (pick t (reading done [] o) (record_read k most tape o))
      end h true = no_part done o h
      end h false = record_part h

      by : (code : ℕ) → first_of (place_rows tape o) ≡ code
          → IsPart (on_done code (pick (eqb o (length tape)) (reading done [] o) (record_read k most tape o)) (reading code [] 0))
      by zero e = end (inside k most tape o (ap (λ n. result_of n tt) (sym e)) refl) (eqb o (length tape))
      by (suc c) e = no_part (suc c) 0 (omega arith)

  -- the same of where it stands
  module _ {next : Next} (is : next ≡ next_of (read_at k most tape o)) where
    pub part_fits : (next.start ≤ next.offset) × (next.offset ≤ length tape)
    unfolding next_of
    part_fits =
        let (end, size, _) = read_part in
        rw is (omega arith, omega arith)

    pub part_read : take (next.offset - next.start) (drop next.start tape) ≡ (read_at k most tape o).packet
    unfolding next_of
    part_read =
        let (end, size, part) = read_part in
        let n : ℕ = length (read_at k most tape o).packet in
        let after : ℕ = (read_at k most tape o).offset in
        let all : after - (after - n) ≡ n = omega arith in
        rw (is, all) part

    pub part_at : (place : ℕ × ℕ) → onward next.start place ≡ onward (next_of (read_at k most tape o)).start place
    part_at place = rw is

    -- there is none exactly where it has no octet
    pub no_octets : next.start ≡ next.offset → (read_at k most tape o).packet ≡ []
    unfolding next_of
    no_octets same =
        let (_, size, _) = read_part in
        none (read_at k most tape o).packet (omega (arith, size, rw is at same))
      where
        none : (p : List ℕ) → length p ≤ 0 → p ≡ []
        none [] h = refl
        none (x ∷ p) h = absurd (omega arith)

    pub some_octets : {A : Type 0} (some other : A) → (next.start ≡ next.offset → ⊥) → on_packet (read_at k most tape o).packet some other ≡ some
    unfolding next_of
    some_octets some other differ = by (read_at k most tape o).packet refl
      where
        by : (p : List ℕ) → (read_at k most tape o).packet ≡ p → on_packet p some other ≡ some
        by [] e =
            let same : (read_at k most tape o).offset - 0 ≡ (read_at k most tape o).offset = omega arith in
            absurd (differ (rw (is, e, same)))
        by (x ∷ p) e = refl

-- as the check applies it by itself
pub part_low : (k most : ℕ) (tape : List ℕ) (o : ℕ) → (next_of (read_at k most tape o)).start ≤ (next_of (read_at k most tape o)).offset
part_low k most tape o = (part_fits k most tape o refl).0

pub part_high : (k most : ℕ) (tape : List ℕ) (o : ℕ) → (next_of (read_at k most tape o)).offset ≤ length tape
part_high k most tape o = (part_fits k most tape o refl).1

pub ruleset part_within = (part_low, part_high)

-- the ways out of a replay step
module _ (k limit far : ℕ) (l : Link) (room tape : List ℕ) (o : ℕ) {well : Bool} (form : well ≡ well_formed l) where
  abbrev Stepped : Replayed → List ℕ → Type 0
  Stepped r after =
      (r ≡ replayed (replay_step k limit far (held l room) tape o)) × (after ≡ (replay_step k limit far (held l room) tape o).result.buffer)

  module _ {next : Next} (good : well ≡ true) (found : next ≡ next_of (read_at k (front + limit) tape o)) where
    pub step_none : {r : Replayed} {code : ℕ} → next.start ≡ next.offset → code ≡ number_of next.answer → r ≡ replayed (step_of (refusal code l []) next.offset) → Stepped r room
    unfolding replay_step next_of
    step_none same number is = rw (sym form ∙ good, no_octets k (front + limit) tape o found same) (is ∙ rw (number, found, read_number k (front + limit) tape o), refl)

    pub step_some : {out : Outcome} {after : List ℕ} → (next.start ≡ next.offset → ⊥)
        → out ≡ (open_result limit far l (take (next.offset - next.start) (drop next.start tape)) room).outcome
        → after ≡ (open_result limit far l (take (next.offset - next.start) (drop next.start tape)) room).buffer
        → Stepped (record { outcome = out; offset = next.offset }) after
    unfolding replay_step
    step_some differ is wrote =
        let part = part_read k (front + limit) tape o found in
        let offset : next.offset ≡ (read_at k (front + limit) tape o).offset = ap (λ (x : Next). x.offset) found ∙ (unfold next_of in refl) in
        rw (sym form ∙ good, some_octets k (front + limit) tape o found _ _ differ) (rw (is, part, offset), rw (wrote, part))

-- a write that is done
module _ (k most : ℕ) (p out : List ℕ) {beyond : Bool} (long : beyond ≡ outside shortest_packet most (length p)) where
  module _ {g : ℕ} (carried : beyond ≡ false) (size : g ≡ length (groups k (length p))) where
    pub write_whole : {b ys : List ℕ} → g + length p ≤ length out → b ≡ written (groups k (length p)) out
        → ys ≡ written p (take (length b - g) (drop g b))
        → (Ok (g + length p) ≡ write_answer k most p out) × (put_mid g (length b - g) b ys ≡ write_out k most p out)
    unfolding write_answer write_out record_of
    write_whole {b} {ys} h put copied =
        let code : write_code k most p out ≡ done = unfold write_code in rw (← long, carried, ← size, le-ltb (length out) (g + length p) h) in
        let same : length b ≡ length out = ap (λ (x : List ℕ). length x) put ∙ length-append (groups k (length p)) _ ∙ omega (arith, length-drop (length (groups k (length p))) out) in
        let part : take (length b - g) (drop g b) ≡ drop g b = take_all (length b - g) (drop g b) (omega (arith, length-drop g b)) in
        let none : drop (length b - g) (drop g b) ≡ [] = drop_of_length-le (drop g b) {i = length b - g} (omega (arith, length-drop g b)) in
        let behind : put_mid g (length b - g) b ys ≡ take g b ++ p ++ drop (g + length p) b =
        rw (copied, part, none, drop-drop (length p) g b, append-nil, append_assoc) in
        rw code (rw size, written_more (groups k (length p)) out p g put behind (sym size))
