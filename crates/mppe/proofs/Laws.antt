-- What holds of records, packets and counts, once over the strengths.
use Rattle.std.specs.Prelude.{◌≡◌, Bool, false, not, ◌&&◌, ◌≢◌, List, [], ◌∷◌, ◌++◌, ℕ, zero, suc, ◌+◌, ◌-◌, ◌/◌, ◌%◌, ◌<◌, ◌≤◌, eqb, ltb, take, drop, get_or, replicate}
use Rattle.std.proofs.Math.Path.{refl}
use Rattle.std.proofs.Common.{sym, ap, ◌∙◌, add-zero, add-suc, suc-ne-zero, arith, length-take, length-drop, take-append-drop, length-take-le}
use Rattle.std.proofs.Math.Bool.{true}
use Rattle.std.proofs.lemmas.Bool.{false≢true}
use Rattle.std.proofs.Math.ListN.{length}
use Rattle.std.proofs.Math.Seq.{take-append_seam, drop-append_seam}
use borrow.Author.Tests.{lt-ltb, le-ltb, eq-eqb, ne_eqb, ltb-true, ltb-false, eqb-true, eqb-false, not-true}
use Rattle.answer.specs.Answer.{done, flags, repeat, not_record, late, waiting, pick, outside, first_of, on_done}
use Rattle.answer.specs.Laws.{both, clear, never, not_done, rows_pass, rows_passed, within, outside_none}
use Rattle.rc4.specs.declared.Rc4.{Rc4}
use Rattle.rc4.specs.Cipher.{permutation, unkeyed, is_unkeyed, key_schedule, run, after}
use Rattle.rc4.proofs.Permutation.{whole_permutation, permutation_whole, after_whole, keyed_whole, unkeyed_found, unkeyed_permutation}
use Rattle.octets.specs.Octets.{written}
use Rattle.mppe_keys.specs.declared.Strength.{Strength}
use Rattle.mppe_keys.specs.declared.Mode.{Mode}
use Rattle.mppe_keys.specs.declared.Mode.TheVariants.{Stateless, Stateful}
use Rattle.mppe_keys.specs.Keys.{key_length, by_mode, head_of, begins, key_change, changes, placed}
use Rattle.mppe_keys.proofs.Laws.{key_least, key_most, head_most, key_change_length, key_change_head, changes_length}
use Rattle.mppe.specs.declared.Link.{Link}
use Rattle.mppe.specs.Link.{shortest_plain, front, counts, new_count, zeros, box_fits, well_formed, start_key_in, session_key_in, link_of, with_box, renewed, kept_box, key_for, box_for, state_for, plain_for, link_after, bit_a, bit_d, header, packet_on, header_in, count_of, lacks, data_in, distance, endings, changes_over, away_for, changes_for, front_rows, data_rows, finished, refusal, next_count, next_changes, next_key, keys_afresh, next_box, seal_code, seal_result, waited, open_rows, open_code, opened_by, open_result}

-- zeros are zeros
pub zeros_all : (n : ℕ) → zeros (replicate n 0) ≡ true
unfolding zeros
zeros_all zero = refl
zeros_all (suc n) = zeros_all n

-- a key in its places, and the places behind it
pub key_back : (s : Strength) (key : List ℕ) → length key ≡ key_length s → take (key_length s) (placed key) ≡ key
unfolding placed
key_back s key h = rw (← h, take-append_seam key (replicate (16 - length key) 0))

pub places_zero : (s : Strength) (key : List ℕ) → length key ≡ key_length s → zeros (drop (key_length s) (placed key)) ≡ true
unfolding placed
places_zero s key h = rw (← h, drop-append_seam key (replicate (16 - length key) 0), zeros_all (16 - length key))

-- 16 places with zeros behind a key are that key in its places
zeros_are : (l : List ℕ) → zeros l ≡ true → l ≡ replicate (length l) 0
unfolding zeros
zeros_are [] h = refl
zeros_are (x ∷ xs) h =
    let (here, rest) = both (eqb x 0) (zeros xs) h in
    rw (eqb-true x 0 here) (ap (λ (l : List ℕ). 0 ∷ l) (zeros_are xs rest))

pub places_back : (s : Strength) (places : List ℕ) → length places ≡ 16 → zeros (drop (key_length s) places) ≡ true → placed (take (key_length s) places) ≡ places
unfolding placed
places_back s places h z =
    let k : ℕ = key_length s in
    let long : length (take k places) ≡ k = length-take-le k places (omega (arith, key_most s)) in
    let behind : drop k places ≡ replicate (16 - k) 0 = zeros_are (drop k places) z ∙ rw (length-drop k places, h) in
    rw (long, ← behind) (take-append-drop k places)

-- the session key of a record has the octets of its strength, and after n changes it is read back from its places
pub session_length : (l : Link) → length l.session ≡ 16 → length (session_key_in l) ≡ key_length l.strength
session_length l h = length-take-le (key_length l.strength) l.session (omega (arith, key_most l.strength))

pub changed_back : (l : Link) (n : ℕ) → length l.session ≡ 16
    → take (key_length l.strength) (placed (changes l.strength (start_key_in l) n (session_key_in l))) ≡ changes l.strength (start_key_in l) n (session_key_in l)
changed_back l n h = key_back l.strength _ (changes_length l.strength (start_key_in l) n (session_key_in l) (session_length l h))

-- a list begins with what its first part begins with
pub begins_front : (front key rest : List ℕ) → take (length front) key ≡ front → begins front (key ++ rest) ≡ true
unfolding begins
begins_front [] key rest e = refl
begins_front (x ∷ front) [] rest e = absurd (omega (arith, ap (λ (l : List ℕ). length l) e))
begins_front (x ∷ front) (y ∷ key) rest e =
    rw (eq-eqb y x (ap (λ (l : List ℕ). get_or l 0 0) e), begins_front front key rest (ap (λ (l : List ℕ). drop 1 l) e))

-- a record of keys with the lengths of their strength, a session key that begins as reduce leaves it, a count of 12 bits, and a box and a
-- mark that its mode asks for
pub well : (s : Strength) (mode : Mode) (start session : List ℕ) (count : ℕ) (state : Rc4) (mark : Bool) → length start ≡ key_length s
    → length session ≡ key_length s → take (length (head_of s)) session ≡ head_of s → count < counts → box_fits mode state mark ≡ true
    → well_formed (link_of s mode start session count state mark) ≡ true
unfolding well_formed
well s mode start session count state mark hs hk head h fits =
    let b : begins (head_of s) (placed session) ≡ true = unfold placed in begins_front (head_of s) session (replicate (16 - length session) 0) head in
    rw (lt-ltb count counts h, places_zero s start hs, places_zero s session hk, b, fits)

-- the box of a new link fits either mode
pub unkeyed_fits : (mode : Mode) → box_fits mode unkeyed (by_mode mode false true) ≡ true
unfolding box_fits
unkeyed_fits Stateless = rw (unkeyed_permutation unkeyed unkeyed_found, unkeyed_found)
unkeyed_fits Stateful = rw (unkeyed_permutation unkeyed unkeyed_found)

-- what a well-formed record has
pub well_parts : (l : Link) → well_formed l ≡ true
    → (l.count < counts) × (zeros (drop (key_length l.strength) l.start) ≡ true) × (zeros (drop (key_length l.strength) l.session) ≡ true)
    × (begins (head_of l.strength) l.session ≡ true) × (box_fits l.mode l.state l.waiting ≡ true)
unfolding well_formed
well_parts l h =
    let count : Bool = ltb l.count counts in
    let start : Bool = zeros (drop (key_length l.strength) l.start) in
    let session : Bool = zeros (drop (key_length l.strength) l.session) in
    let head : Bool = begins (head_of l.strength) l.session in
    let (keys, box) = both (count && start && session && head) (box_fits l.mode l.state l.waiting) h in
    let (places, begun) = both (count && start && session) head keys in
    let (front, zero-session) = both (count && start) session places in
    let (low, zero-start) = both count start front in
    (ltb-true l.count counts low, zero-start, zero-session, begun, box)

-- the box and the mark of a well-formed record, and those of a stateless one
pub well_box : (l : Link) → well_formed l ≡ true → box_fits l.mode l.state l.waiting ≡ true
well_box l h = (well_parts l h).4

pub fits_unkeyed : (state : Rc4) (mark : Bool) → box_fits Stateless state mark ≡ true → is_unkeyed state ≡ true
unfolding box_fits
fits_unkeyed state mark h = (both (is_unkeyed state) (not mark) (both (permutation state.cells) (is_unkeyed state && not mark) h).1).0

pub fits_unmarked : (mode : Mode) (state : Rc4) (mark : Bool) → mode ≡ Stateless → box_fits mode state mark ≡ true → mark ≡ false
unfolding box_fits
fits_unmarked mode state mark em h =
    let h' : permutation state.cells && (is_unkeyed state && not mark) ≡ true = rw em at h in
    not-true mark (both (is_unkeyed state) (not mark) (both (permutation state.cells) (is_unkeyed state && not mark) h').1).1

-- zeros behind a key that fills its places or fewer, and what a key begins with
zeros_drop : (n m : ℕ) → zeros (drop n (replicate m 0)) ≡ true
zeros_drop zero m = zeros_all m
zeros_drop (suc n) zero = unfold zeros in refl
zeros_drop (suc n) (suc m) = zeros_drop n m

zeros_behind : (n : ℕ) (key : List ℕ) (m : ℕ) → length key ≤ n → zeros (drop n (key ++ replicate m 0)) ≡ true
zeros_behind n [] m h = zeros_drop n m
zeros_behind zero (x ∷ key) m h = absurd (omega arith)
zeros_behind (suc n) (x ∷ key) m h = zeros_behind n key m (omega arith)

begins_still : (front key rest : List ℕ) (n : ℕ) → length front ≤ n → begins front key ≡ true → begins front (take n key ++ rest) ≡ true
unfolding begins
begins_still [] key rest n h e = refl
begins_still (x ∷ front) [] rest n h e = absurd (false≢true e)
begins_still (x ∷ front) (y ∷ key) rest zero h e = absurd (omega arith)
begins_still (x ∷ front) (y ∷ key) rest (suc n) h e = go (eqb y x) e (begins_still front key rest n (omega arith))
  where
    go : (t : Bool) → pick t (begins front key) false ≡ true → (begins front key ≡ true → begins front (take n key ++ rest) ≡ true)
        → pick t (begins front (take n key ++ rest)) false ≡ true
    go true e later = later e
    go false e later = e

-- a box that is a permutation
abbrev pub Box : Rc4 → Type 0
Box state = permutation state.cells ≡ true

pub after_box : (state : Rc4) (text : List ℕ) → Box state → Box (after state text)
after_box state text h = whole_permutation (after state text).cells (after_whole state text (permutation_whole state.cells h))

pub keyed_box : (key : List ℕ) → Box (key_schedule key)
keyed_box key = whole_permutation (key_schedule key).cells (keyed_whole key)

pub picked_box : (t : Bool) (a b : Rc4) → Box a → Box b → Box (pick t a b)
picked_box true a b ha hb = ha
picked_box false a b ha hb = hb

-- the session key of a record after so many changes, in its places, is as well formed as the one before
changed_well : (s : Strength) (start session : List ℕ) (n : ℕ) → begins (head_of s) session ≡ true
    → (zeros (drop (key_length s) (placed (changes s start n (take (key_length s) session)))) ≡ true)
    × (begins (head_of s) (placed (changes s start n (take (key_length s) session))) ≡ true)
unfolding changes placed
changed_well s start session zero h =
    let key : List ℕ = take (key_length s) session in (
      zeros_behind (key_length s) key (16 - length key) (omega (arith, length-take (key_length s) session)),
      begins_still (head_of s) session (replicate (16 - length key) 0) (key_length s) (omega (arith, head_most s, key_least s)) h,
    )
changed_well s start session (suc n) h =
    let key : List ℕ = key_change s start (changes s start n (take (key_length s) session)) in
    let long : length key ≡ key_length s = key_change_length s start _ in (
      zeros_behind (key_length s) key (16 - length key) (omega (arith, long)),
      begins_front (head_of s) key (replicate (16 - length key) 0) (key_change_head s start _),
    )

-- the box that a record keeps where it is its own
pub kept_own : (l : Link) → kept_box l l.state ≡ l.state
kept_own l = by l.mode
  where
    by : (m : Mode) → by_mode m l.state l.state ≡ l.state
    by Stateless = refl
    by Stateful = refl

-- the box that a record keeps after m key changes and then n, each of which keys it afresh in stateful mode: `keyed n` is that of the last
pub boxes_add : (mode : Mode) (state : Rc4) (keyed : ℕ → Rc4) (m n : ℕ)
    → by_mode mode (by_mode mode state (on_done m state (keyed 0))) (on_done n (by_mode mode state (on_done m state (keyed 0))) (keyed n))
    ≡ by_mode mode state (on_done (m + n) state (keyed n))
boxes_add Stateless state keyed m n = refl
boxes_add Stateful state keyed m zero = rw add-zero
boxes_add Stateful state keyed m (suc n) = rw add-suc

-- the box that a record has once it has moved on to a header, and the one that the packet is opened with
done_box : (n : ℕ) (a b : Rc4) → Box a → Box b → Box (on_done n a b)
done_box zero a b ha hb = ha
done_box (suc n) a b ha hb = hb

header_box : (l : Link) (h : ℕ) → Box l.state → Box (box_for l h)
unfolding box_for
header_box l h held = done_box (changes_for l h) l.state (key_schedule (key_for l h)) held (keyed_box (key_for l h))

pub state_box : (l : Link) (h : ℕ) → Box l.state → Box (state_for l h)
unfolding state_for
state_box l h held = picked_box (lacks bit_a h) _ _ (header_box l h held) (keyed_box (key_for l h))

-- the box that a record keeps after draws, or after key changes
fits_kept : (mode : Mode) (state drawn : Rc4) (mark : Bool) → (Box state → Box drawn) → box_fits mode state mark ≡ true
    → box_fits mode (by_mode mode state drawn) mark ≡ true
fits_kept Stateless state drawn mark next fits = fits
fits_kept Stateful state drawn mark next fits = unfold box_fits in rw (next (both (permutation state.cells) true (unfold box_fits in fits)).0)

fits_after : (mode : Mode) (state drawn : Rc4) (mark : Bool) → (Box state → Box drawn) → box_fits mode state mark ≡ true
    → box_fits mode (by_mode mode state drawn) false ≡ true
fits_after Stateless state drawn mark next fits = rw (fits_unmarked Stateless state mark refl fits) at fits
fits_after Stateful state drawn mark next fits = unfold box_fits in fits_kept Stateful state drawn mark next fits

pub changed_fits : (l : Link) (n : ℕ) (key : List ℕ) → well_formed l ≡ true
    → box_fits l.mode (kept_box l (on_done n l.state (key_schedule key))) l.waiting ≡ true
changed_fits l n key whole =
    fits_kept l.mode l.state (on_done n l.state (key_schedule key)) l.waiting
    (λ held. done_box n l.state (key_schedule key) held (keyed_box key)) (well_box l whole)

-- a record after n key changes, with a count of 12 bits, and a box and a mark that its mode asks for, is well formed ..
pub renewed_well : (l : Link) (n count : ℕ) (state : Rc4) (mark : Bool) → well_formed l ≡ true → count < counts → box_fits l.mode state mark ≡ true
    → well_formed (with_box (renewed l (changes l.strength (start_key_in l) n (session_key_in l)) count) state mark) ≡ true
unfolding well_formed
renewed_well l n count state mark whole low fits =
    let (_, zeros-start, _, begun, _) = well_parts l whole in
    let (zeros-key, head-key) = changed_well l.strength (start_key_in l) l.session n begun in
    rw (lt-ltb count counts low, zeros-start, zeros-key, head-key, fits)

-- .. so is one that has moved on to a header's count and key ..
moved_well : (l : Link) (h : ℕ) (state : Rc4) (mark : Bool) → well_formed l ≡ true → box_fits l.mode state mark ≡ true
    → well_formed (with_box (renewed l (key_for l h) (count_of h)) state mark) ≡ true
unfolding key_for
moved_well l h state mark whole fits = renewed_well l (changes_for l h) (count_of h) state mark whole (omega arith) fits

-- .. the record after an opened packet ..
pub after_well : (l : Link) (h : ℕ) (text : List ℕ) → well_formed l ≡ true → well_formed (link_after l h text) ≡ true
after_well l h text whole =
    moved_well l h (kept_box l (after (state_for l h) text)) false whole
    (fits_after l.mode l.state (after (state_for l h) text) l.waiting (λ held. after_box (state_for l h) text (state_box l h held)) (well_box l whole))

-- .. and the one of a stateful link that waits
waited_well : (l : Link) (h : ℕ) (out : List ℕ) → l.mode ≡ Stateful → well_formed l ≡ true → well_formed (waited l h out).outcome.link ≡ true
unfolding box_fits
waited_well l h out mode whole = moved_well l h (box_for l h) true whole (fits l.mode mode (well_box l whole))
  where
    fits : (m : Mode) → m ≡ Stateful → box_fits m l.state l.waiting ≡ true → box_fits m (box_for l h) true ≡ true
    fits m e held = let box : Box l.state = (both (permutation l.state.cells) _ held).0 in rw (e, header_box l h box)

-- a packet with data of a carried length passes the rows that the record and the packet's shape decide
pub front_none : (limit : ℕ) (l : Link) (fresh : Bool) (count : ℕ) (text : List ℕ) → well_formed l ≡ true → outside shortest_plain limit (length text) ≡ false
    → first_of (front_rows limit l (0x00 ∷ 0xFD ∷ header fresh count ++ text)) ≡ done
front_none limit l fresh count text well long =
    let packet : List ℕ = 0x00 ∷ 0xFD ∷ header fresh count ++ text in
    let (low, high) = within shortest_plain limit (length text) long in
    let whole : outside (front + shortest_plain) (front + limit) (length packet) ≡ false =
    outside_none (front + shortest_plain) (front + limit) (length packet) (omega arith) (omega arith) in
    rw (well, whole)

-- what a sealed packet's header says
abbrev pub header_of : Bool → ℕ → ℕ
header_of fresh count = pick fresh bit_a 0 + bit_d + count

pub sealed_header : (fresh : Bool) (state : Rc4) (count : ℕ) (plain : List ℕ) → count < counts → header_in (packet_on fresh state count plain) ≡ header_of fresh count
unfolding packet_on
sealed_header true state count plain h = omega arith
sealed_header false state count plain h = omega arith

pub header_count : (fresh : Bool) (count : ℕ) → count < counts → count_of (header_of fresh count) ≡ count
header_count true count h = omega arith
header_count false count h = omega arith

pub header_A : (fresh : Bool) (count : ℕ) → count < counts → lacks bit_a (header_of fresh count) ≡ not fresh
header_A true count h =
    let one : (bit_a + bit_d + count) / bit_a % 2 ≡ 1 = omega arith in
    rw one
header_A false count h =
    let none : (0 + bit_d + count) / bit_a % 2 ≡ 0 = omega arith in
    rw none

pub header_D : (fresh : Bool) (count : ℕ) → count < counts → lacks bit_d (header_of fresh count) ≡ false
header_D true count h =
    let one : (bit_a + bit_d + count) / bit_d % 2 ≡ 1 = omega arith in
    rw one
header_D false count h =
    let one : (0 + bit_d + count) / bit_d % 2 ≡ 1 = omega arith in
    rw one

-- how many counts end in 0xFF, without counting them
pub endings_are : (last d : ℕ) → endings last d ≡ (last + d + 1) / 256 - (last + 1) / 256
unfolding endings
endings_are last zero = omega arith
endings_are last (suc d) = one (eqb ((last + suc d) % 256) 255) refl (endings_are last d)
  where
    one : (t : Bool) → eqb ((last + suc d) % 256) 255 ≡ t → endings last d ≡ (last + d + 1) / 256 - (last + 1) / 256
        → endings last d + pick t 1 0 ≡ (last + suc d + 1) / 256 - (last + 1) / 256
    one true e ih = omega (arith, ih, eqb-true ((last + suc d) % 256) 255 e)
    one false e ih = omega (arith, ih, eqb-false ((last + suc d) % 256) 255 e)

-- no count brings no key change, and the changes that counts bring add up, wherever the counts are cut
pub none_over : (mode : Mode) (last : ℕ) → changes_over mode last 0 ≡ 0
unfolding changes_over endings
none_over Stateless last = refl
none_over Stateful last = refl

pub changes_over_add : (mode : Mode) (last d e : ℕ)
    → changes_over mode last d + changes_over mode ((last + d) % counts) e ≡ changes_over mode last (d + e)
unfolding changes_over
changes_over_add Stateless last d e = refl
changes_over_add Stateful last d e = omega (arith, endings_are last d, endings_are ((last + d) % counts) e, endings_are last (d + e))

-- .. and so do the counts, which wrap
pub counts_add : (last d e : ℕ) → ((last + d) % counts + e) % counts ≡ (last + (d + e)) % counts
counts_add last d e = omega arith

-- no count brings more than one key change
pub changes_few : (mode : Mode) (last d : ℕ) → changes_over mode last d ≤ d
unfolding changes_over
changes_few Stateless last d = omega arith
changes_few Stateful last d = omega (arith, endings_are last d)

-- the distance from the count that the record holds when `next` packets are sealed to the count of packet q
pub distance_is : (next q : ℕ) → next ≤ q → suc (q - next) < counts → distance ((next + new_count) % counts) (q % counts) ≡ suc (q - next)
distance_is next q low near = omega arith

-- .. to that of the packet before it, which the record holds ..
pub distance_none : (q : ℕ) → distance ((suc q + new_count) % counts) (q % counts) ≡ 0
distance_none q = omega arith

-- .. and to that of one that this packet has overtaken
pub distance_behind : (next q : ℕ) → suc q < next → next - suc q < counts → distance ((next + new_count) % counts) (q % counts) ≡ counts - (next - suc q)
distance_behind next q low near = omega arith

-- a count is the last one, moved on by its distance
pub distance_back : (last arrived : ℕ) → last < counts → arrived < counts → (last + distance last arrived) % counts ≡ arrived
distance_back last arrived low known = omega arith

-- two ways from one count to another, less than a round apart, are as long
same_round : (last s d : ℕ) → (last + s) % counts ≡ (last + d) % counts → s ≤ counts → d < counts → 0 < d → s ≡ d
same_round last s d e most below some =
    let low : (last + s) / counts ≤ (last + d) / counts = omega arith in
    let high : (last + d) / counts ≤ (last + s) / counts = omega arith in
    omega (arith, low, high)

-- two distances in a row are one, where they do not go round
pub distance_add : (last between arrived : ℕ) → last < counts → between < counts → arrived < counts → distance last between + distance between arrived ≤ counts
    → 0 < distance last arrived → distance last between + distance between arrived ≡ distance last arrived
distance_add last between arrived hl hb ha =
    by (distance last between) (distance between arrived) (distance last arrived) (distance_back last between hl hb) (distance_back between arrived hb ha)
    (distance_back last arrived hl ha) (omega arith)
  where
    by : (d₁ d₂ d₃ : ℕ) → (last + d₁) % counts ≡ between → (between + d₂) % counts ≡ arrived → (last + d₃) % counts ≡ arrived → d₃ < counts → d₁ + d₂ ≤ counts → 0 < d₃
        → d₁ + d₂ ≡ d₃
    by d₁ d₂ d₃ e₁ e₂ e₃ below most some = same_round last (d₁ + d₂) d₃ (sym (counts_add last d₁ d₂) ∙ ap (λ c. (c + d₂) % counts) e₁ ∙ e₂ ∙ sym e₃) most below some

-- 6 and 10 never both apply, so no answer shows which of the two is tested first
pub either_first : (far away : ℕ) (rest : List (ℕ × Bool))
    → first_of ((repeat, eqb away 0) ∷ (late, ltb far away) ∷ rest) ≡ first_of ((late, ltb far away) ∷ (repeat, eqb away 0) ∷ rest)
either_first far zero rest = rw (le-ltb far 0 (omega arith))
either_first far (suc n) rest = rw (ne_eqb (suc n) 0 (suc-ne-zero n))

-- no report is above the farthest distance, whatever the record and the packet are
pub report_bound : (limit far : ℕ) (l : Link) (packet out : List ℕ) → (open_result limit far l packet out).outcome.changes ≤ far
unfolding open_result open_code
report_bound limit far l packet out = go (open_code limit far l packet (length out)) refl
  where
    rows : List (ℕ × Bool)
    rows = open_rows limit far l packet (length out)

    near : ltb far (away_for l (header_in packet)) ≡ false → changes_for l (header_in packet) ≤ far
    near e = omega (arith, ltb-false far (away_for l (header_in packet)) e, changes_few l.mode l.count (away_for l (header_in packet)))

    go : (code : ℕ) → first_of rows ≡ code → (opened_by code l (header_in packet) (data_in packet) out).outcome.changes ≤ far
    go zero e = near (clear late rows refl e).0
    go (suc n) e = by (eqb (suc n) waiting) refl
      where
        by : (t : Bool) → eqb (suc n) waiting ≡ t → (pick t (waited l (header_in packet) out) (refusal (suc n) l out)).outcome.changes ≤ far
        by true w = near (clear late (take 7 rows) refl (rows_passed waiting (take 7 rows) (drop 7 rows) refl (e ∙ eqb-true (suc n) waiting w))).0
        by false w = omega arith

-- open answers the first number that applies
pub open_answers : (limit far : ℕ) (l : Link) (packet out : List ℕ) → (open_result limit far l packet out).outcome.answer ≡ open_code limit far l packet (length out)
unfolding open_result
open_answers limit far l packet out = go (open_code limit far l packet (length out))
  where
    by : (code : ℕ) (t : Bool) → eqb code waiting ≡ t → (pick t (waited l (header_in packet) out) (refusal code l out)).outcome.answer ≡ code
    by code true e = sym (eqb-true code waiting e)
    by code false e = refl

    go : (code : ℕ) → (opened_by code l (header_in packet) (data_in packet) out).outcome.answer ≡ code
    go zero = refl
    go (suc n) = by (suc n) (eqb (suc n) waiting) refl

-- what it gives where its table refuses, but for 11
pub open_other : (limit far : ℕ) (l : Link) (packet lent : List ℕ) → open_code limit far l packet (length lent) ≢ done
    → open_code limit far l packet (length lent) ≢ waiting
    → open_result limit far l packet lent ≡ refusal (open_code limit far l packet (length lent)) l lent
unfolding open_result
open_other limit far l packet lent not0 not11 =
    let code : ℕ = open_code limit far l packet (length lent) in
    rw (ne_eqb code waiting not11) (not_done code _ (refusal code l lent) not0)

-- what it gives where it answers 0, and where it answers 11
pub open_done : (limit far : ℕ) (l : Link) (packet out : List ℕ) → (open_result limit far l packet out).outcome.answer ≡ done
    → open_result limit far l packet out
    ≡ finished (changes_for l (header_in packet)) (link_after l (header_in packet) (data_in packet)) (written (plain_for l (header_in packet) (data_in packet)) out)
unfolding open_result
open_done limit far l packet out e = rw (sym (open_answers limit far l packet out) ∙ e)

pub open_waits : (limit far : ℕ) (l : Link) (packet out : List ℕ) → (open_result limit far l packet out).outcome.answer ≡ waiting
    → open_result limit far l packet out ≡ waited l (header_in packet) out
unfolding open_result
open_waits limit far l packet out e = rw (sym (open_answers limit far l packet out) ∙ e)

-- where it answers another number than 7 the record is well formed ..
pub open_record : (limit far : ℕ) (l : Link) (packet out : List ℕ) (code : ℕ) → (open_result limit far l packet out).outcome.answer ≡ code
    → eqb code not_record ≡ false → well_formed l ≡ true
open_record limit far l packet out code answered other = by (well_formed l) refl
  where
    by : (t : Bool) → well_formed l ≡ t → t ≡ true
    by true e = refl
    by false e =
        let ill : open_code limit far l packet (length out) ≡ not_record = unfold open_code in rw e in
        absurd (false≢true (sym other ∙ eq-eqb code not_record (sym answered ∙ open_answers limit far l packet out ∙ ill)))

-- .. and the packet's count is the last one, moved on by its distance
pub open_count : (limit far : ℕ) (l : Link) (packet out : List ℕ) (code : ℕ) → (open_result limit far l packet out).outcome.answer ≡ code
    → eqb code not_record ≡ false → (l.count + away_for l (header_in packet)) % counts ≡ count_of (header_in packet)
open_count limit far l packet out code answered other =
    distance_back l.count (count_of (header_in packet)) (well_parts l (open_record limit far l packet out code answered other)).0 (omega arith)

-- seal answers the first number that applies too, and what it gives where that is 0
pub seal_answers : (limit : ℕ) (l : Link) (plain out : List ℕ) → (seal_result limit l plain out).outcome.answer ≡ seal_code limit l plain (length out)
unfolding seal_result
seal_answers limit l plain out = by (seal_code limit l plain (length out)) _ _ _
  where
    by : (code changed : ℕ) (next : Link) (buffer : List ℕ) → (on_done code (finished changed next buffer) (refusal code l out)).outcome.answer ≡ code
    by zero changed next buffer = refl
    by (suc n) changed next buffer = refl

pub seal_done : (limit : ℕ) (l : Link) (plain out : List ℕ) → (seal_result limit l plain out).outcome.answer ≡ done
    → seal_result limit l plain out
    ≡ finished (next_changes l) (with_box (renewed l (next_key l) (next_count l)) (kept_box l (after (next_box l) plain)) false)
    (written (packet_on (keys_afresh l) (next_box l) (next_count l) plain) out)
unfolding seal_result
seal_done limit l plain out e = rw (sym (seal_answers limit l plain out) ∙ e)

-- with a stateless record no packet is waited for
pub no_waiting : (limit far : ℕ) (l : Link) (packet : List ℕ) (lent : ℕ) → l.mode ≡ Stateless → open_code limit far l packet lent ≡ waiting → ⊥
unfolding open_code
no_waiting limit far l packet lent mode e =
    let rows : List (ℕ × Bool) = open_rows limit far l packet lent in
    let h : ℕ = header_in packet in
    let early = rows_passed waiting (take 7 rows) (drop 7 rows) refl e in
    let flag : by_mode l.mode (lacks bit_a h) false ≡ false = (clear flags (take 7 rows) refl early).0 in
    let set : lacks bit_a h ≡ false = rw mode at flag in
    let left : first_of (drop 7 rows) ≡ waiting = sym (rows_pass (take 7 rows) (drop 7 rows) refl early) ∙ e in
    never waiting (data_rows l h (data_in packet) lent) refl refl (rw set at left)

-- a record that waits is stateful
pub waits_stateful : (limit far : ℕ) (l : Link) (packet out : List ℕ) → (open_result limit far l packet out).outcome.answer ≡ waiting → l.mode ≡ Stateful
waits_stateful limit far l packet out e = by l.mode refl
  where
    by : (m : Mode) → l.mode ≡ m → m ≡ Stateful
    by Stateless mode = absurd (no_waiting limit far l packet (length out) mode (sym (open_answers limit far l packet out) ∙ e))
    by Stateful mode = refl

-- open keeps a record well formed, whatever it answers
pub open_well : (limit far : ℕ) (l : Link) (packet out : List ℕ) → well_formed l ≡ true → well_formed (open_result limit far l packet out).outcome.link ≡ true
unfolding open_result
open_well limit far l packet out whole = go (open_code limit far l packet (length out)) refl
  where
    by_mode_lem : (m : Mode) → l.mode ≡ m → open_code limit far l packet (length out) ≡ waiting → well_formed (waited l (header_in packet) out).outcome.link ≡ true
    by_mode_lem Stateless e w = absurd (no_waiting limit far l packet (length out) e w)
    by_mode_lem Stateful e w = waited_well l (header_in packet) out e whole

    by : (code : ℕ) (t : Bool) → open_code limit far l packet (length out) ≡ code → eqb code waiting ≡ t
        → well_formed (pick t (waited l (header_in packet) out) (refusal code l out)).outcome.link ≡ true
    by code true e w = by_mode_lem l.mode refl (e ∙ eqb-true code waiting w)
    by code false e w = whole

    go : (code : ℕ) → open_code limit far l packet (length out) ≡ code → well_formed (opened_by code l (header_in packet) (data_in packet) out).outcome.link ≡ true
    go zero e = after_well l (header_in packet) (data_in packet) whole
    go (suc n) e = by (suc n) (eqb (suc n) waiting) e refl

-- with room for the plain packet, the length of the lent buffer decides nothing ..
pub open_room : (limit far : ℕ) (l : Link) (packet : List ℕ) (lent : ℕ) → length packet - front ≤ lent
    → open_code limit far l packet lent ≡ open_code limit far l packet (length packet - front)
unfolding open_code
open_room limit far l packet lent h =
    let long : length (data_in packet) ≡ length packet - front = length-drop front packet in
    rw (long, le-ltb lent (length packet - front) h, le-ltb (length packet - front) (length packet - front) (omega arith))

-- .. and what is in it nothing of the outcome
pub outcome_by : (code : ℕ) (l : Link) (h : ℕ) (text a b : List ℕ) → (opened_by code l h text a).outcome ≡ (opened_by code l h text b).outcome
outcome_by zero l h text a b = refl
outcome_by (suc n) l h text a b = by (eqb (suc n) waiting)
  where
    by : (t : Bool) → (pick t (waited l h a) (refusal (suc n) l a)).outcome ≡ (pick t (waited l h b) (refusal (suc n) l b)).outcome
    by true = refl
    by false = refl

-- in stateless mode the front of a packet and its protocol octets decide all of the outcome
pub open_front : (limit far : ℕ) (l : Link) (packet a b : List ℕ) → l.mode ≡ Stateless → outside (front + shortest_plain) (front + limit) (length packet) ≡ false
    → length packet - front ≤ length a → shortest_plain ≤ length b
    → (open_result limit far l packet a).outcome ≡ (open_result limit far l (take (front + shortest_plain) packet) b).outcome
unfolding open_result open_code plain_for run
open_front limit far l packet a b mode inside enough two =
    let (low, high) = within (front + shortest_plain) (front + limit) (length packet) inside in by packet inside low high enough
  where
    own : (x y : Rc4) → kept_box l x ≡ kept_box l y
    own x y = rw mode

    texts : (code h : ℕ) (t t' : List ℕ) → (opened_by code l h t a).outcome ≡ (opened_by code l h t' b).outcome
    texts zero h t t' = rw (own (after (state_for l h) t) (after (state_for l h) t'))
    texts (suc n) h t t' = outcome_by (suc n) l h t a b

    by : (p : List ℕ) → outside (front + shortest_plain) (front + limit) (length p) ≡ false → front + shortest_plain ≤ length p → length p ≤ front + limit
        → length p - front ≤ length a
        → (open_result limit far l p a).outcome ≡ (open_result limit far l (take (front + shortest_plain) p) b).outcome
    by [] fit low high enough = absurd (omega arith)
    by (p₁ ∷ []) fit low high enough = absurd (omega arith)
    by (p₁ ∷ p₂ ∷ []) fit low high enough = absurd (omega arith)
    by (p₁ ∷ p₂ ∷ p₃ ∷ []) fit low high enough = absurd (omega arith)
    by (p₁ ∷ p₂ ∷ p₃ ∷ p₄ ∷ []) fit low high enough = absurd (omega arith)
    by (p₁ ∷ p₂ ∷ p₃ ∷ p₄ ∷ p₅ ∷ []) fit low high enough = absurd (omega arith)
    by (p₁ ∷ p₂ ∷ p₃ ∷ p₄ ∷ p₅ ∷ p₆ ∷ rest) fit low high enough =
        let cut : List ℕ = p₁ ∷ p₂ ∷ p₃ ∷ p₄ ∷ p₅ ∷ p₆ ∷ [] in
        let fit' : outside (front + shortest_plain) (front + limit) (length cut) ≡ false = outside_none (front + shortest_plain) (front + limit) (length cut) (omega arith) (omega arith) in
        let packet' : List ℕ = p₁ ∷ p₂ ∷ p₃ ∷ p₄ ∷ p₅ ∷ p₆ ∷ rest in
        let h : ℕ = header_in packet' in
        let same : open_code limit far l packet' (length a) ≡ open_code limit far l cut (length b) =
        rw (fit, fit', le-ltb (length a) (length (data_in packet')) (omega arith), le-ltb (length b) 2 two) in
        ap (λ c. (opened_by c l h (data_in packet') a).outcome) same ∙ texts (open_code limit far l cut (length b)) h (data_in packet') (data_in cut)
