-- What holds of walks as octets.
use Rattle.std.specs.Prelude.{◌≡◌, Result, false, List, [], ◌∷◌, ◌++◌, ℕ, zero, suc, ◌+◌, ◌-◌, ◌/◌, ◌%◌, ◌^◌, ◌<◌, eqb, length, replicate, Ok, Err, is_err}
use Rattle.std.proofs.Math.Path.{refl, sym, ap}
use Rattle.std.proofs.Common.{◌∙◌, true≢false, append_assoc, arith, length-append, take-append-drop, drop_of_length-le, drop_at, drop-drop, take-add, drop-cons, get_or-drop, eq-eqb}
use Rattle.std.proofs.Math.ListN.{take, drop, get_or}
use Rattle.std.proofs.Math.Seq.{take_at}
use Rattle.answer.specs.declared.Refusal.{Refusal}
use Rattle.answer.specs.declared.Refusal.TheVariants.{Record}
use Rattle.answer.specs.Answer.{not_record, first_of, on_done, number_of, value_of}
use Rattle.answer.specs.Laws.{clear, right, right_length, number_first, value_result, ok_only}
use Rattle.octets.specs.Octets.{Octets, big_endian, pair_at}
use Rattle.rc4.specs.Cipher.{box}
use Rattle.rc4.proofs.Permutation.{Sized as StateSized}
use Rattle.mppe_record.specs.Record.{yes_number, no_choice, record_length, record_octets, no_record, record_read}
use Rattle.mppe_record.proofs.Laws.{yes_back, yes_known, pair_back, choice_is, Sized as LinkSized, record_octets_length, first_record, reads_back as record-back, writes_back as record-kept}
use Rattle.mppe.specs.declared.Link.{Link}
use Rattle.mppe.specs.Link.{no_link}
use Rattle.mppe_keys.specs.declared.Strength.TheVariants.{Bits40}
use Rattle.mppe_keys.specs.declared.Mode.TheVariants.{Stateless}
use Rattle.mppe_pieces.specs.declared.Walk.{Walk}
use Rattle.mppe_pieces.specs.Walk.{over}
use Rattle.mppe_walk.specs.Walk.{key_octets, state_octets, fed_octets, walk_length, rest_octets, walk_octets, rest_put, front_read, walk_in, walk_rows, no_walk, walk_read}

-- what the fields of the code's struct hold: a record's own, numbers of 16 bits, 16 places, and RC4's state
abbrev pub Sized : Walk → Type 0
Sized w = LinkSized w.link × (w.header < 65536) × (length w.session ≡ 16) × StateSized w.state × (w.total < 65536) × (w.fed < 65536)

-- the octets of a walk: their number ..
key_octets_length : (w : Walk) → Sized w → length (key_octets w) ≡ 19
unfolding key_octets
key_octets_length w h = omega (arith, h.2)

state_octets_length : (w : Walk) → Sized w → length (state_octets w.state) ≡ 258
unfolding state_octets
state_octets_length w h = omega (arith, h.3.0)

pub walk_octets_length : (w : Walk) → Sized w → length (walk_octets w) ≡ walk_length
unfolding walk_octets rest_octets fed_octets
walk_octets_length w h =
    simp length-append (omega (arith, record_octets_length w.link h.0, key_octets_length w h, state_octets_length w h))

-- .. what stands in front, and what behind the record, behind the session key and behind the cells ..
abbrev behind : Walk → List ℕ
behind w = key_octets w ++ (state_octets w.state ++ fed_octets w)

parts : (w : Walk) → walk_octets w ≡ record_octets w.link ++ behind w
unfolding walk_octets rest_octets
parts w = ap (λ t. record_octets w.link ++ t) (append_assoc (key_octets w) (state_octets w.state) (fed_octets w))

module _ (w : Walk) (h : Sized w) where
  in_front : take 295 (walk_octets w) ≡ record_octets w.link
  in_front = ap (take 295) (parts w) ∙ take_at (record_octets w.link) (behind w) 295 (record_octets_length w.link h.0)

  from_295 : drop 295 (walk_octets w) ≡ behind w
  from_295 = ap (drop 295) (parts w) ∙ drop_at (record_octets w.link) (behind w) 295 (record_octets_length w.link h.0)

  from_314 : drop 314 (walk_octets w) ≡ state_octets w.state ++ fed_octets w
  from_314 =
      sym (drop-drop 19 295 (walk_octets w)) ∙ ap (drop 19) from_295 ∙ drop_at (key_octets w) (state_octets w.state ++ fed_octets w) 19 (key_octets_length w h)

  from_572 : drop 572 (walk_octets w) ≡ fed_octets w
  from_572 = sym (drop-drop 258 314 (walk_octets w)) ∙ ap (drop 258) from_314 ∙ drop_at (state_octets w.state) (fed_octets w) 258 (state_octets_length w h)

  -- .. so that each field is found in its place
  at_295 : (i : ℕ) → get_or (walk_octets w) (295 + i) 0 ≡ get_or (behind w) i 0
  at_295 i = sym (get_or-drop 295 (walk_octets w) i 0) ∙ ap (λ t. get_or t i 0) from_295

  at_314 : (i : ℕ) → get_or (walk_octets w) (314 + i) 0 ≡ get_or (state_octets w.state ++ fed_octets w) i 0
  at_314 i = sym (get_or-drop 314 (walk_octets w) i 0) ∙ ap (λ t. get_or t i 0) from_314

  at_572 : (i : ℕ) → get_or (walk_octets w) (572 + i) 0 ≡ get_or (fed_octets w) i 0
  at_572 i = sym (get_or-drop 572 (walk_octets w) i 0) ∙ ap (λ t. get_or t i 0) from_572

  live_is : get_or (walk_octets w) 295 0 ≡ yes_number w.live
  live_is = at_295 0 ∙ unfold key_octets in refl

  header_is : pair_at 296 (walk_octets w) ≡ w.header
  header_is =
      let high : get_or (walk_octets w) 296 0 ≡ w.header / 256 ^ 1 % 256 = at_295 1 ∙ unfold key_octets in refl in
      let low : get_or (walk_octets w) 297 0 ≡ w.header / 256 ^ 0 % 256 = at_295 2 ∙ unfold key_octets in refl in
      rw (high, low) (omega (arith, h.1))

  session_is : take 16 (drop 298 (walk_octets w)) ≡ w.session
  session_is =
      let rest : List ℕ = state_octets w.state ++ fed_octets w in
      let inside : drop 3 (key_octets w ++ rest) ≡ w.session ++ rest = unfold key_octets in refl in
      let from : drop 298 (walk_octets w) ≡ w.session ++ rest = sym (drop-drop 3 295 (walk_octets w)) ∙ ap (drop 3) from_295 ∙ inside in
      ap (take 16) from ∙ take_at w.session rest 16 h.2

  state_is : box (take 256 (drop 316 (walk_octets w))) (get_or (walk_octets w) 314 0) (get_or (walk_octets w) 315 0) ≡ w.state
  state_is =
      let cells : List ℕ = w.state.cells in
      let inside : drop 2 (state_octets w.state ++ fed_octets w) ≡ cells ++ fed_octets w = unfold state_octets in refl in
      let from : drop 316 (walk_octets w) ≡ cells ++ fed_octets w = sym (drop-drop 2 314 (walk_octets w)) ∙ ap (drop 2) from_314 ∙ inside in
      let held : take 256 (drop 316 (walk_octets w)) ≡ cells = ap (take 256) from ∙ take_at cells (fed_octets w) 256 h.3.0 in
      let i-is : get_or (walk_octets w) 314 0 ≡ w.state.i = at_314 0 ∙ unfold state_octets in refl in
      let j_is : get_or (walk_octets w) 315 0 ≡ w.state.j = at_314 1 ∙ unfold state_octets in refl in
      rw (held, i-is, j_is)

  total_is : pair_at 572 (walk_octets w) ≡ w.total
  total_is =
      let high : get_or (walk_octets w) 572 0 ≡ w.total / 256 ^ 1 % 256 = at_572 0 ∙ unfold fed_octets in refl in
      let low : get_or (walk_octets w) 573 0 ≡ w.total / 256 ^ 0 % 256 = at_572 1 ∙ unfold fed_octets in refl in
      rw (high, low) (omega (arith, h.4))

  fed_is : pair_at 574 (walk_octets w) ≡ w.fed
  fed_is =
      let high : get_or (walk_octets w) 574 0 ≡ w.fed / 256 ^ 1 % 256 = at_572 2 ∙ unfold fed_octets in refl in
      let low : get_or (walk_octets w) 575 0 ≡ w.fed / 256 ^ 0 % 256 = at_572 3 ∙ unfold fed_octets in refl in
      rw (high, low) (omega (arith, h.5))

  first_is_lem : get_or (walk_octets w) 576 0 ≡ w.first
  first_is_lem = at_572 4 ∙ unfold fed_octets in refl

  front_is : front_read (walk_octets w) ≡ Ok w.link
  front_is = ap record_read in_front ∙ record-back w.link h.0

  walk_in_back : walk_in (walk_octets w) ≡ w
  unfolding walk_in
  walk_in_back = rw (live_is, yes_back w.live, front_is, header_is, session_is, state_is, total_is, fed_is, first_is_lem)

  -- a written walk is read back
  pub reads_back : walk_read (walk_octets w) ≡ Ok w
  unfolding walk_read
  reads_back = rw (eq-eqb (length (walk_octets w)) walk_length (walk_octets_length w h), front_is, live_is, yes_known w.live, walk_in_back)

-- octets that are read: there are 577 of them, they begin with a record, the walk is live or not, and what is read is the walk in them
read_known : {w : Walk} (octets : List ℕ) → walk_read octets ≡ Ok w
    → (length octets ≡ walk_length) × (front_read octets ≡ Ok w.link) × (no_choice (get_or octets 295 0) ≡ false) × (w ≡ walk_in octets)
unfolding walk_read
read_known {w} octets ok =
    let (none, same) = ok_only (first_of (walk_rows octets)) (walk_in octets) ok in
    let facts = clear not_record (walk_rows octets) refl none in
    let link : value_of no_record (front_read octets) ≡ w.link = unfold walk_in in ap (λ (w : Walk). w.link) same in
    (right_length walk_length octets facts.0, read (front_read octets) facts.1.0 ∙ ap Ok link, facts.1.1.0, sym same)
  where
    read : (front : Result Link Refusal) → is_err front ≡ false → front ≡ Ok (value_of no_record front)
    read (Ok l) e = refl
    read (Err refusal) e = absurd (true≢false e)

pub read_length : {w : Walk} (octets : List ℕ) → walk_read octets ≡ Ok w → length octets ≡ walk_length
read_length octets ok = (read_known octets ok).0

-- what a read answers, its number and its walk: those of the first row that applies, and a walk that is over where one does
pub read_number : (octets : List ℕ) → number_of (walk_read octets) ≡ first_of (walk_rows octets)
unfolding walk_read
read_number octets = number_first (walk_rows octets) (walk_in octets) refl

pub read_value : (octets : List ℕ) → value_of (over (no_link Bits40 Stateless)) (walk_read octets) ≡ on_done (first_of (walk_rows octets)) (walk_in octets) no_walk
unfolding walk_read
read_value octets = value_result (first_of (walk_rows octets)) (walk_in octets) no_walk

-- octets that hold a walk, read and written back, are the same: those behind the record ..
next : {t : List ℕ} (l : List ℕ) (n : ℕ) → n < length l → drop (suc n) l ≡ t → drop n l ≡ get_or l n 0 ∷ t
next l n h e = drop-cons l n 0 h ∙ ap (λ t. get_or l n 0 ∷ t) e

key_kept : (octets : List ℕ) → Octets octets → length octets ≡ walk_length → no_choice (get_or octets 295 0) ≡ false
    → key_octets (walk_in octets) ≡ take 19 (drop 295 octets)
unfolding key_octets walk_in
key_kept octets all h e =
    let live : ℕ = get_or octets 295 0 in
    let session : List ℕ = take 16 (drop 298 octets) in
    let header = pair_back (get_or octets 296 0) (get_or octets 297 0) (all 296) (all 297) in
    let three = next octets 295 (omega arith) (next octets 296 (omega arith) (next octets 297 (omega arith) refl)) in
    ap (λ t. yes_number (eqb live 1) ∷ t ++ session) header ∙ ap (λ n. n ∷ get_or octets 296 0 ∷ get_or octets 297 0 ∷ session) (choice_is live e)
    ∙ sym (ap (take 19) three)

state_kept : (octets : List ℕ) → length octets ≡ walk_length → state_octets (walk_in octets).state ≡ take 258 (drop 314 octets)
unfolding state_octets walk_in
state_kept octets h = sym (ap (take 258) (next octets 314 (omega arith) (next octets 315 (omega arith) refl)))

fed_kept : (octets : List ℕ) → Octets octets → length octets ≡ walk_length → fed_octets (walk_in octets) ≡ drop 572 octets
unfolding fed_octets walk_in
fed_kept octets all h =
    let total = pair_back (get_or octets 572 0) (get_or octets 573 0) (all 572) (all 573) in
    let fed = pair_back (get_or octets 574 0) (get_or octets 575 0) (all 574) (all 575) in
    let last : List ℕ = get_or octets 576 0 ∷ [] in
    let four = next octets 573 (omega arith) (next octets 574 (omega arith) (next octets 575 (omega arith) (next octets 576 (omega arith) (drop_of_length-le octets {i = 577} (omega arith))))) in
    ap (λ t. t ++ big_endian 2 (pair_at 574 octets) ++ last) total
    ∙ ap (λ t. get_or octets 572 0 ∷ get_or octets 573 0 ∷ t ++ last) fed
    ∙ sym (next octets 572 (omega arith) four)

-- .. all of these, and with the record all of them
pub in_front_octets : (n : ℕ) (l : List ℕ) → Octets l → Octets (take n l)
in_front_octets zero l all i = omega arith
in_front_octets (suc n) [] all i = omega arith
in_front_octets (suc n) (x ∷ l) all zero = all 0
in_front_octets (suc n) (x ∷ l) all (suc i) = in_front_octets n l (λ k. all (suc k)) i

rest_kept : (octets : List ℕ) → Octets octets → length octets ≡ walk_length → no_choice (get_or octets 295 0) ≡ false
    → rest_octets (walk_in octets) ≡ drop 295 octets
unfolding rest_octets
rest_kept octets all h e = joined (key_kept octets all h e) (state_kept octets h) (fed_kept octets all h)
  where
    joined : {key state fed : List ℕ} → key ≡ take 19 (drop 295 octets) → state ≡ take 258 (drop 314 octets) → fed ≡ drop 572 octets
        → key ++ state ++ fed ≡ drop 295 octets
    joined ek es el =
        rw (ek, es, el, ← drop-drop 19 295 octets, ← take-add 19 258 (drop 295 octets), ← drop-drop 277 295 octets) (take-append-drop 277 (drop 295 octets))

pub front_kept : {w : Walk} (octets : List ℕ) → Octets octets → walk_read octets ≡ Ok w → record_octets w.link ≡ take record_length octets
front_kept octets all ok = record-kept (take record_length octets) (in_front_octets record_length octets all) (read_known octets ok).1

pub writes_back : {w : Walk} (octets : List ℕ) → Octets octets → walk_read octets ≡ Ok w → walk_octets w ≡ octets
unfolding walk_octets
writes_back {w} octets all ok =
    let (long, front, live, walk) = read_known octets ok in
    let rest : rest_octets w ≡ drop 295 octets = ap rest_octets walk ∙ rest_kept octets all long live in
    rw (front_kept octets all ok, rest) (take-append-drop 295 octets)

-- another walk with the same record is written by what stands behind the record
pub rest_written : {held : Walk} (octets : List ℕ) (w : Walk) → Octets octets → walk_read octets ≡ Ok held → w.link ≡ held.link → rest_put w octets ≡ walk_octets w
unfolding rest_put walk_octets
rest_written octets w all ok same =
    rw (right walk_length octets (read_length octets ok)) (ap (λ f. f ++ rest_octets w) (sym (front_kept octets all ok) ∙ ap record_octets (sym same)))

-- octets that hold no walk are refused with 7
pub read_refused : {e : Refusal} (octets : List ℕ) → walk_read octets ≡ Err e → e ≡ Record
unfolding walk_read
read_refused octets h = first_record (walk_rows octets) (walk_in octets) refl h

-- a walk that is over is its record and zeros behind it
pub over_octets : (l : Link) → walk_octets (over l) ≡ record_octets l ++ replicate (walk_length - record_length) 0
unfolding key_octets state_octets fed_octets over
over_octets l = parts (over l)
