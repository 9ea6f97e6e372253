-- What holds of records as octets.
use Rattle.std.specs.Prelude.{◌≡◌, Bool, true, not, List, [], ◌∷◌, ◌++◌, ℕ, zero, suc, ◌+◌, ◌*◌, ◌/◌, ◌%◌, ◌^◌, ◌<◌, ◌≤◌, eqb, length, take, drop, replicate, ◌&&◌, Result as Answered, Ok, Err, is_ok}
use Rattle.std.proofs.Math.Path.{refl, ap}
use Rattle.std.proofs.Common.{true≢false, sym, ◌∙◌, append_assoc, append-nil, arith, length-append, length-drop, take-append-drop, take_at, drop_at, drop-drop, take-add, drop-cons, get_or-drop, eq-eqb, eqb-true, ltb-false}
use Rattle.std.proofs.Math.Bool.{false}
use Rattle.std.proofs.Math.ListN.{get_or}
use Rattle.std.proofs.Math.Seq.{take_all}
use Rattle.answer.specs.declared.Refusal.{Refusal}
use Rattle.answer.specs.declared.Refusal.TheVariants.{Record}
use Rattle.answer.specs.Answer.{size, not_record, waiting, pick, first_of, on_done, result_of, number_of, value_of}
use Rattle.answer.specs.Laws.{both, clear, right_length, number_first, value_result, ok_only}
use Rattle.octets.specs.Octets.{Octets, big_endian}
use Rattle.rc4.specs.declared.Rc4.{Rc4}
use Rattle.rc4.specs.Cipher.{box, unkeyed, key_schedule, after}
use Rattle.rc4.proofs.Permutation.{below_length, unkeyed_is, Sized as StateSized, keyed_sized, after_sized}
use Rattle.mppe_keys.specs.declared.Strength.{Strength}
use Rattle.mppe_keys.specs.declared.Mode.{Mode}
use Rattle.mppe_keys.specs.declared.Mode.TheVariants.{Stateless, Stateful}
use Rattle.mppe_keys.specs.declared.Strength.TheVariants.{Bits40, Bits56, Bits128}
use Rattle.mppe_keys.specs.Keys.{bits_of, key_length, by_mode, mode_if, head_of, begins, initial_key, changes, placed}
use Rattle.mppe_keys.proofs.Laws.{key_most, placed_length, initial_key_length, changes_length}
use Rattle.mppe.specs.declared.Link.{Link}
use Rattle.mppe.specs.Link.{zeros, box_fits, well_formed, Result, start_key_in, session_key_in, link_of, with_box, kept_box, new_count, no_link, new_link, bit_a, lacks, refusal, seal_code, seal_result, next_changes, next_key, keys_afresh, next_box, header_in, data_in, changes_for, key_for, box_for, state_for, waited, open_code, open_result, reset_code, reset_outcome}
use Rattle.mppe.proofs.Laws.{session_length, well_box, fits_unmarked, fits_unkeyed}
use Rattle.mppe_record.specs.Record.{strength_of, no_strength, yes_number, no_choice, front_octets, rest_octets, record_length, record_octets, front_in, record_in, record_rows, no_record, record_read, front_length, stateless_in, stateless_rows, stateless_read}

-- a strength's bits are its number
pub bits_back : (s : Strength) → strength_of (bits_of s) ≡ s
bits_back Bits40 = refl
bits_back Bits56 = refl
bits_back Bits128 = refl

pub bits_known : (s : Strength) → no_strength (bits_of s) ≡ false
bits_known Bits40 = refl
bits_known Bits56 = refl
bits_known Bits128 = refl

-- a mode is stateful or is not, and a yes or no is its number
mode_back : (m : Mode) → mode_if (by_mode m false true) ≡ m
mode_back Stateless = refl
mode_back Stateful = refl

mode_told : (stateful : Bool) → by_mode (mode_if stateful) false true ≡ stateful
mode_told true = refl
mode_told false = refl

pub yes_back : (holds : Bool) → eqb (yes_number holds) 1 ≡ holds
yes_back true = refl
yes_back false = refl

pub yes_known : (holds : Bool) → no_choice (yes_number holds) ≡ false
yes_known true = refl
yes_known false = refl

-- a number as two octets, and two octets that are a number's
pub two_octets : (n : ℕ) → n < 65536 → n / 256 ∷ n % 256 ∷ [] ≡ big_endian 2 n
two_octets n h =
    let high : n / 256 ^ 1 % 256 ≡ n / 256 = omega arith in
    let low : n / 256 ^ 0 % 256 ≡ n % 256 = omega arith in
    rw (high, low)

pub pair_back : (high low : ℕ) → high < 256 → low < 256 → big_endian 2 (high * 256 + low) ≡ high ∷ low ∷ []
pair_back high low hh hl =
    let first : (high * 256 + low) / 256 ^ 1 % 256 ≡ high = omega arith in
    let second : (high * 256 + low) / 256 ^ 0 % 256 ≡ low = omega arith in
    rw (first, second)

-- what the fields of the code's struct hold: 16 places a key, a count of 16 bits, 256 cells, and indices that are octets
abbrev pub Sized : Link → Type 0
Sized l = (length l.start ≡ 16) × (length l.session ≡ 16) × (l.count < 65536) × StateSized l.state

-- the octets of a record: their number ..
pub front_octets_length : (l : Link) → Sized l → length (front_octets l) ≡ 35
unfolding front_octets
front_octets_length l (hs, hk, hc, hb) = simp length-append (omega arith)

rest_octets_length : (l : Link) → Sized l → length (rest_octets l) ≡ 260
unfolding rest_octets
rest_octets_length l (hs, hk, hc, hb) = omega (arith, hb.0)

pub record_octets_length : (l : Link) → Sized l → length (record_octets l) ≡ record_length
unfolding record_octets
record_octets_length l h = length-append (front_octets l) (rest_octets l) ∙ omega (arith, front_octets_length l h, rest_octets_length l h)

-- .. what stands behind the first 35 ..
behind_front : (l : Link) → Sized l → drop 35 (record_octets l) ≡ rest_octets l
unfolding record_octets
behind_front l h = drop_at (front_octets l) (rest_octets l) 35 (front_octets_length l h)

rest_at : (l : Link) → Sized l → (i : ℕ) → get_or (record_octets l) (35 + i) 0 ≡ get_or (rest_octets l) i 0
rest_at l h i = sym (get_or-drop 35 (record_octets l) i 0) ∙ ap (λ t. get_or t i 0) (behind_front l h)

-- .. and that the record is read back from them
first_is_lem : (l : Link) → get_or (record_octets l) 0 0 ≡ bits_of l.strength
unfolding record_octets front_octets
first_is_lem l = refl

mode_is : (l : Link) → Sized l → get_or (record_octets l) 35 0 ≡ yes_number (by_mode l.mode false true)
mode_is l h = rest_at l h 0 ∙ unfold rest_octets in refl

mark_is : (l : Link) → Sized l → get_or (record_octets l) 36 0 ≡ yes_number l.waiting
mark_is l h = rest_at l h 1 ∙ unfold rest_octets in refl

cells_are : (l : Link) → Sized l → take 256 (drop 39 (record_octets l)) ≡ l.state.cells
cells_are l h =
    let behind : drop 39 (record_octets l) ≡ drop 4 (rest_octets l) = sym (drop-drop 4 35 (record_octets l)) ∙ ap (drop 4) (behind_front l h) in
    let cells : drop 4 (rest_octets l) ≡ l.state.cells = unfold rest_octets in refl in
    ap (take 256) (behind ∙ cells) ∙ take_all 256 l.state.cells (omega (arith, h.3.0))

-- whatever stands behind the first 35
front_in_back : (l : Link) → Sized l → (rest : List ℕ) (mode : Mode) (state : Rc4) (mark : Bool)
    → front_in (front_octets l ++ rest) mode state mark
    ≡ record { strength = l.strength; mode = mode; start = l.start; session = l.session; count = l.count; state = state; waiting = mark }
unfolding front_octets
front_in_back l (hs, hk, hc, hb) rest mode state mark =
    let count : List ℕ = big_endian 2 l.count in
    let tail : List ℕ = count ++ rest in
    let both : length (l.start ++ l.session) ≡ 32 = length-append l.start l.session ∙ omega arith in
    let body : List ℕ = (l.start ++ l.session ++ count) ++ rest in
    let parts : body ≡ (l.start ++ l.session) ++ tail = append_assoc (l.start ++ l.session) count rest in
    let parts' : body ≡ l.start ++ (l.session ++ tail) = parts ∙ append_assoc l.start l.session tail in
    let start : take 16 body ≡ l.start = ap (take 16) parts' ∙ take_at l.start (l.session ++ tail) 16 hs in
    let behind = ap (drop 16) parts' ∙ drop_at l.start (l.session ++ tail) 16 hs in
    let session : take 16 (drop 16 body) ≡ l.session = ap (take 16) behind ∙ take_at l.session tail 16 hk in
    let last : drop 32 body ≡ tail = ap (drop 32) parts ∙ drop_at (l.start ++ l.session) tail 32 both in
    let high : get_or body 32 0 ≡ l.count / 256 ^ 1 % 256 = sym (get_or-drop 32 body 0 0) ∙ ap (λ t. get_or t 0 0) last in
    let low : get_or body 33 0 ≡ l.count / 256 ^ 0 % 256 = sym (get_or-drop 32 body 1 0) ∙ ap (λ t. get_or t 1 0) last in
    let all : get_or body 32 0 * 256 + get_or body 33 0 ≡ l.count = rw (high, low) (omega arith) in
    rw (bits_back l.strength, start, session, all)

record_in_back : (l : Link) → Sized l → record_in (record_octets l) ≡ l
unfolding record_in
record_in_back l h =
    let i-is : get_or (record_octets l) 37 0 ≡ l.state.i = rest_at l h 2 ∙ unfold rest_octets in refl in
    let j_is : get_or (record_octets l) 38 0 ≡ l.state.j = rest_at l h 3 ∙ unfold rest_octets in refl in
    let all : record_octets l ≡ front_octets l ++ rest_octets l = unfold record_octets in refl in
    rw (mode_is l h, yes_back (by_mode l.mode false true), mode_back l.mode, mark_is l h, yes_back l.waiting, cells_are l h, i-is, j_is)
    (ap (λ t. front_in t l.mode l.state l.waiting) all ∙ front_in_back l h (rest_octets l) l.mode l.state l.waiting)

pub reads_back : (l : Link) → Sized l → record_read (record_octets l) ≡ Ok l
unfolding record_read
reads_back l h =
    rw
    (eq-eqb (length (record_octets l)) record_length (record_octets_length l h), first_is_lem l, bits_known l.strength, mode_is l h, yes_known (by_mode l.mode false true), mark_is l h, yes_known l.waiting, record_in_back l h)

-- octets that are read: there are 295 of them, the first is the bits of a strength, mode and mark are 0 or 1, and what is read is the
-- record in them
abbrev first_is : List ℕ → Bool
first_is octets = let bits : ℕ = get_or octets 0 0 in eqb bits (bits_of (strength_of bits))

known : (t : Bool) → not t ≡ false → t ≡ true
known true e = refl
known false e = absurd (true≢false e)

read_known : {l : Link} (octets : List ℕ) → record_read octets ≡ Ok l
    → (length octets ≡ record_length) × (first_is octets ≡ true) × (no_choice (get_or octets 35 0) ≡ false) × (no_choice (get_or octets 36 0) ≡ false)
    × (l ≡ record_in octets)
unfolding record_read
read_known octets ok =
    let (none, same) = ok_only (first_of (record_rows octets)) (record_in octets) ok in
    let facts = clear not_record (record_rows octets) refl none in
    (right_length record_length octets facts.0, known (first_is octets) facts.1.0, facts.1.1.0, facts.1.1.1.0, sym same)

pub read_length : {l : Link} (octets : List ℕ) → record_read octets ≡ Ok l → length octets ≡ record_length
read_length octets ok = (read_known octets ok).0

-- what a read answers, its number and its record: those of the first row that applies, and no record where one does
pub read_number : (octets : List ℕ) → number_of (record_read octets) ≡ first_of (record_rows octets)
unfolding record_read
read_number octets = number_first (record_rows octets) (record_in octets) refl

pub read_value : (octets : List ℕ) → value_of (no_link Bits40 Stateless) (record_read octets) ≡ on_done (first_of (record_rows octets)) (record_in octets) no_record
unfolding record_read
read_value octets = value_result (first_of (record_rows octets)) (record_in octets) no_record

pub stateless_number : (octets : List ℕ) → number_of (stateless_read octets) ≡ first_of (stateless_rows octets)
unfolding stateless_read
stateless_number octets = number_first (stateless_rows octets) (stateless_in octets) refl

pub stateless_value : (octets : List ℕ) → value_of (no_link Bits40 Stateless) (stateless_read octets) ≡ on_done (first_of (stateless_rows octets)) (stateless_in octets) no_record
unfolding stateless_read
stateless_value octets = value_result (first_of (stateless_rows octets)) (stateless_in octets) no_record

-- rows that all have this one number give that refusal or none
abbrev pub only_records : List (ℕ × Bool) → Bool
only_records [] = true
only_records (row ∷ rows) = eqb row.0 not_record && only_records rows

pub first_record : {A : Type 0} {e : Refusal} (rows : List (ℕ × Bool)) (x : A) → only_records rows ≡ true → result_of (first_of rows) x ≡ Err e → e ≡ Record
first_record [] x all h = absurd (true≢false (ap is_ok h))
first_record {A} ((n, true) ∷ rows) x all h =
    let code = eqb-true n not_record (both (eqb n not_record) (only_records rows) all).0 in
    sym (ap (λ r. refusal_in r) (rw code at h))
  where
    refusal_in : Answered A Refusal → Refusal
    refusal_in (Ok x) = Record
    refusal_in (Err e) = e
first_record ((n, false) ∷ rows) x all h = first_record rows x (both (eqb n not_record) (only_records rows) all).1 h

pub read_refused : {e : Refusal} (octets : List ℕ) → record_read octets ≡ Err e → e ≡ Record
unfolding record_read
read_refused octets h = first_record (record_rows octets) (record_in octets) refl h

pub stateless_refused : {e : Refusal} (octets : List ℕ) → stateless_read octets ≡ Err e → e ≡ Record
unfolding stateless_read
stateless_refused octets h = first_record (stateless_rows octets) (stateless_in octets) refl h

-- octets that hold a record, read and written back, are the same: the first 35 ..
front_back : (octets : List ℕ) → Octets octets → front_length ≤ length octets → first_is octets ≡ true → (mode : Mode) (state : Rc4) (mark : Bool)
    → front_octets (front_in octets mode state mark) ≡ take 35 octets
unfolding front_octets
front_back [] all h e mode state mark = absurd (omega arith)
front_back (x ∷ xs) all h e mode state mark =
    let high : ℕ = get_or xs 32 0 in
    let low : ℕ = get_or xs 33 0 in
    let last : take 2 (drop 32 xs) ≡ high ∷ low ∷ [] = ap (take 2) (drop-cons xs 32 0 (omega arith) ∙ ap (λ t. high ∷ t) (drop-cons xs 33 0 (omega arith))) in
    let tail : List ℕ = big_endian 2 (high * 256 + low) in
    let count : tail ≡ high ∷ low ∷ [] = pair_back high low (all 33) (all 34) in
    let keys : take 16 xs ++ take 16 (drop 16 xs) ≡ take 32 xs = sym (take-add 16 16 xs) in
    let behind : take 16 xs ++ take 16 (drop 16 xs) ++ tail ≡ take 34 xs = ap (λ k. k ++ tail) keys ∙ ap (λ t. take 32 xs ++ t) (count ∙ sym last) ∙ sym (take-add 32 2 xs) in
    ap (λ t. bits_of (strength_of x) ∷ t) behind ∙ ap (λ b. b ∷ take 34 xs) (sym (eqb-true x (bits_of (strength_of x)) e))

-- .. and those behind them
pub choice_is : (n : ℕ) → no_choice n ≡ false → yes_number (eqb n 1) ≡ n
choice_is zero h = refl
choice_is (suc zero) h = refl
choice_is (suc (suc n)) h = absurd (omega (arith, ltb-false 1 (suc (suc n)) h))

rest_back : (octets : List ℕ) → length octets ≡ record_length → no_choice (get_or octets 35 0) ≡ false → no_choice (get_or octets 36 0) ≡ false
    → rest_octets (record_in octets) ≡ drop 35 octets
unfolding rest_octets record_in
rest_back octets h em ek =
    let long = length-drop 39 octets in
    let cells : take 256 (drop 39 octets) ≡ drop 39 octets = take_all 256 (drop 39 octets) (omega arith) in
    let four : drop 35 octets ≡ get_or octets 35 0 ∷ get_or octets 36 0 ∷ get_or octets 37 0 ∷ get_or octets 38 0 ∷ drop 39 octets =
    drop-cons octets 35 0 (omega arith)
    ∙ ap (λ t. get_or octets 35 0 ∷ t)
    (drop-cons octets 36 0 (omega arith)
    ∙ ap (λ t. get_or octets 36 0 ∷ t) (drop-cons octets 37 0 (omega arith) ∙ ap (λ t. get_or octets 37 0 ∷ t) (drop-cons octets 38 0 (omega arith)))) in
    rw (mode_told (eqb (get_or octets 35 0) 1), choice_is (get_or octets 35 0) em, choice_is (get_or octets 36 0) ek, cells) (sym four)

pub writes_back : {l : Link} (octets : List ℕ) → Octets octets → record_read octets ≡ Ok l → record_octets l ≡ octets
unfolding record_octets
writes_back octets all ok =
    let (long, first, mode, mark, link) = read_known octets ok in
    let front : front_octets (record_in octets) ≡ take 35 octets = unfold record_in in front_back octets all (omega arith) first _ _ _ in
    rw (link, front, rest_back octets long mode mark) (take-append-drop 35 octets)

-- a well-formed stateless record is read back from its first 35 octets alone, and what is read of them is written as them
pub stateless_in_back : (l : Link) → Sized l → l.mode ≡ Stateless → well_formed l ≡ true → stateless_in (front_octets l) ≡ l
unfolding stateless_in
stateless_in_back l h mode well =
    let fits : box_fits Stateless l.state l.waiting ≡ true = rw mode at (well_box l well) in
    let state = unkeyed_is l.state (fits_unkeyed l.state l.waiting fits) in
    let mark = fits_unmarked Stateless l.state l.waiting refl fits in
    ap (λ t. front_in t Stateless unkeyed false) (sym (append-nil (front_octets l))) ∙ front_in_back l h [] Stateless unkeyed false ∙ rw (← mode, state, mark)

pub stateless_back : (l : Link) → Sized l → l.mode ≡ Stateless → well_formed l ≡ true → stateless_read (front_octets l) ≡ Ok l
unfolding stateless_read front_octets
stateless_back l h mode well =
    rw (eq-eqb (length (front_octets l)) front_length (front_octets_length l h), bits_known l.strength, stateless_in_back l h mode well)

pub stateless_writes : {l : Link} (octets : List ℕ) → Octets octets → stateless_read octets ≡ Ok l → front_octets l ≡ octets
unfolding stateless_read stateless_in
stateless_writes octets all ok =
    let (none, same) = ok_only (first_of (stateless_rows octets)) (stateless_in octets) ok in
    let facts = clear not_record (stateless_rows octets) refl none in
    let long = right_length front_length octets facts.0 in
    ap front_octets (sym same) ∙ front_back octets all (omega arith) (known (first_is octets) facts.1.0) Stateless unkeyed false ∙ take_all 35 octets (omega arith)

-- what is read of octets that hold no record is not well formed, so that seal and open refuse it
pub no_record_ill : well_formed no_record ≡ false
unfolding well_formed zeros begins head_of no_link
no_record_ill = refl

-- a new link has these sizes, and all calls keep them
zeros_sized : StateSized (box (replicate 256 0) 0 0)
zeros_sized = (refl, omega arith, omega arith)

unkeyed_sized : StateSized unkeyed
unkeyed_sized = (below_length 256, omega arith, omega arith)

pub new_sized : (s : Strength) (mode : Mode) (start : List ℕ) → Sized (new_link s mode start).link
unfolding new_link no_link
new_sized s mode start = go (eqb (length start) (key_length s)) refl
  where
    go : (t : Bool) → eqb (length start) (key_length s) ≡ t
        → Sized (on_done (first_of ((size, not t) ∷ [])) (link_of s mode start (initial_key s start) new_count unkeyed (by_mode mode false true)) (no_link s mode))
    go true h = (placed_length start (omega (arith, eqb-true (length start) (key_length s) h, key_most s)), placed_length (initial_key s start) (omega (arith, initial_key_length s start, key_most s)), omega arith, unkeyed_sized)
    go false h = (refl, refl, omega arith, zeros_sized)

-- n key changes fill the places
changed_places : (l : Link) (n : ℕ) → Sized l → length (placed (changes l.strength (start_key_in l) n (session_key_in l))) ≡ 16
changed_places l n (hs, hk, hc, hb) =
    let key = changes_length l.strength (start_key_in l) n (session_key_in l) (session_length l hk) in
    placed_length (changes l.strength (start_key_in l) n (session_key_in l)) (omega (arith, key, key_most l.strength))

picked_sized : (t : Bool) (a b : Rc4) → StateSized a → StateSized b → StateSized (pick t a b)
picked_sized true a b ha hb = ha
picked_sized false a b ha hb = hb

kept_sized : (l : Link) (drawn : Rc4) → StateSized l.state → StateSized drawn → StateSized (kept_box l drawn)
kept_sized l drawn ha hb = by l.mode
  where
    by : (m : Mode) → StateSized (by_mode m l.state drawn)
    by Stateless = ha
    by Stateful = hb

done_sized : (n : ℕ) (a b : Rc4) → StateSized a → StateSized b → StateSized (on_done n a b)
done_sized zero a b ha hb = ha
done_sized (suc n) a b ha hb = hb

kept : (code : ℕ) (r : Result) (l : Link) (out : List ℕ) → Sized r.outcome.link → Sized l → Sized (on_done code r (refusal code l out)).outcome.link
kept zero r l out made held = made
kept (suc n) r l out made held = held

pub seal_sized : (limit : ℕ) (l : Link) (plain out : List ℕ) → Sized l → Sized (seal_result limit l plain out).outcome.link
unfolding seal_result next_box next_key
seal_sized limit l plain out (hs, hk, hc, hb) =
    let used = picked_sized (keys_afresh l) (key_schedule (next_key l)) l.state (keyed_sized (next_key l)) hb in
    let left = kept_sized l (after (next_box l) plain) hb (after_sized (next_box l) plain used) in
    kept (seal_code limit l plain (length out)) _ l out (hs, changed_places l (next_changes l) (hs, hk, hc, hb), omega arith, left) (hs, hk, hc, hb)

waited_kept : (code : ℕ) (r w : Result) (l : Link) (out : List ℕ) → Sized r.outcome.link → Sized w.outcome.link → Sized l
    → Sized (on_done code r (pick (eqb code waiting) w (refusal code l out))).outcome.link
waited_kept zero r w l out made wait held = made
waited_kept (suc n) r w l out made wait held = by (eqb (suc n) waiting)
  where
    by : (t : Bool) → Sized (pick t w (refusal (suc n) l out)).outcome.link
    by true = wait
    by false = held

pub open_sized : (limit far : ℕ) (l : Link) (packet out : List ℕ) → Sized l → Sized (open_result limit far l packet out).outcome.link
unfolding open_result key_for state_for box_for
open_sized limit far l packet out (hs, hk, hc, hb) =
    let h : ℕ = header_in packet in
    let places = changed_places l (changes_for l h) (hs, hk, hc, hb) in
    let held = done_sized (changes_for l h) l.state (key_schedule (key_for l h)) hb (keyed_sized (key_for l h)) in
    let used = picked_sized (lacks bit_a h) (box_for l h) (key_schedule (key_for l h)) held (keyed_sized (key_for l h)) in
    let left = kept_sized l (after (state_for l h) (data_in packet)) hb (after_sized (state_for l h) (data_in packet) used) in
    waited_kept (open_code limit far l packet (length out)) _ (waited l h out) l out (hs, places, omega arith, left) (hs, places, omega arith, held) (hs, hk, hc, hb)

pub reset_sized : (l : Link) (request : List ℕ) → Sized l → Sized (reset_outcome l request).link
unfolding reset_outcome
reset_sized l request h = by (reset_code l request)
  where
    by : (code : ℕ) → Sized (on_done code (with_box l l.state (by_mode l.mode l.waiting true)) l)
    by zero = h
    by (suc n) = h
