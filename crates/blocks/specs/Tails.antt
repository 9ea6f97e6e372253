-- The last blocks of a message, as they are made: the rest of the message in front of zeros, the bit 1, the length.
use Rattle.std.specs.Prelude.{◌≡◌, refl, List, ◌∷◌, ◌++◌, ℕ, suc, ◌+◌, ◌*◌, ◌-◌, ◌/◌, ◌%◌, ◌≤◌, length, take, drop, set, replicate}
use Rattle.std.proofs.Common.{sym, ap, ◌∙◌, append_assoc, arith, length-append, length-drop, take_all}
use Rattle.std.proofs.lemmas.List.{length-replicate, replicate-append-replicate}
use Rattle.std.proofs.Math.Seq.{set-append_seam}
use Rattle.octets.specs.declared.Order.{Order}
use Rattle.octets.specs.declared.Order.TheVariants.{HighestFirst, LowestFirst}
use Rattle.octets.specs.Laws.{drop_zeros, append_more, count}
use Rattle.octets.specs.Octets.{octets_of, written, written_at}
use Rattle.blocks.specs.Blocks.{tail_of, ending}
use Rattle.blocks.specs.Inner.{HoldsTail}

length_field_lem : (order : Order) (x : ℕ) → length (octets_of order 8 x) ≡ 8
length_field_lem HighestFirst x = refl
length_field_lem LowestFirst x = refl

-- how many octets the last blocks are
pub length_ending : (order : Order) (m : List ℕ) (bits : ℕ) → length (ending order m bits) ≡ length m % 64 + 9 + (119 - length m % 64) % 64
length_ending order m bits = rw (length-append, length-drop, length-append, length-replicate, length_field_lem order bits) (omega arith)

-- r, the bit 1 and z zeros, in front of zeros
mark : (r : List ℕ) (z n : ℕ) → set (r ++ replicate (suc (z + n)) 0) (length r) 0x80 ≡ (r ++ 0x80 ∷ replicate z 0) ++ replicate n 0
mark r z n =
    rw (← replicate-append-replicate {A = ℕ} z n 0, set-append_seam r 0 (replicate z 0 ++ replicate n 0) 0x80, append_assoc)

-- the buffer after the rest r of a message is copied into zeros, the bit 1 set behind it, and the length w copied to `at`
put_ending : {b d : List ℕ} (r w : List ℕ) (z n at : ℕ) → b ≡ written (take 128 r) (replicate 128 0)
    → d ≡ written_at at (take (length (set b (length r) 0x80) - at) w) (set b (length r) 0x80) → at ≡ length r + 1 + z
    → length r + 1 + z + n ≡ 128 → length w ≤ n → d ≡ (r ++ (0x80 ∷ replicate z 0 ++ w)) ++ replicate (n - length w) 0
put_ending {b} r w z n at eb ed ea h hw =
    let l : List ℕ = r ++ 0x80 ∷ replicate z 0 in
    let ll : length r + 1 + z ≡ length l = rw (length-append, length-replicate) (omega arith) in
    let left : 128 - length r ≡ suc (z + n) = omega arith in
    let marked : set b (length r) 0x80 ≡ l ++ replicate n 0 = rw (eb, take_all 128 r (omega arith), drop_zeros, left) (mark r z n) in
    append_more l w at n marked ed (ea ∙ ll) hw ∙ simp append_assoc

-- the arithmetic of it
before : (n : ℕ) → n - n % 64 ≡ 64 * (n / 64)
before n = omega arith

behind : (n : ℕ) → n - 64 * (n / 64) ≡ n % 64
behind n = omega arith

two : (n : ℕ) → n % 64 + 1 + (119 - n % 64) % 64 ≤ 120
two n = omega arith

whole : (k : ℕ) → k ≤ 120 → k + (128 - k) ≡ 128
whole k h = omega arith

room : (k : ℕ) → k ≤ 120 → 8 ≤ 128 - k
room k h = omega arith

left : (q z : ℕ) → 128 - (q + 1 + z) - 8 ≡ 128 - (q + 9 + z)
left q z = omega arith

-- the buffer that the code makes of a message is its last blocks
pub tail_is : {b w d : List ℕ} (order : Order) (m : List ℕ) (bits rest from at len : ℕ)
    → b ≡ written (take 128 (take (length m - from) (drop from m))) (replicate 128 0) → w ≡ octets_of order 8 bits
    → d ≡ written_at at (take (length (set b rest 0x80) - at) w) (set b rest 0x80)
    → rest ≡ length m % 64 → from ≡ length m - rest → at ≡ rest + 1 + (119 - rest) % 64 → len ≡ at + 8
    → HoldsTail order m bits len d
unfolding tail_of
tail_is {b} {w} {d} order m bits rest from at len eb ew ed er ef ea el =
    let r : List ℕ = drop (64 * (length m / 64)) m in
    let z : ℕ = (119 - length m % 64) % 64 in
    let start : from ≡ 64 * (length m / 64) = ef ∙ rw er (before (length m)) in
    let lr : length r ≡ length m - 64 * (length m / 64) = length-drop (64 * (length m / 64)) m in
    let lr' : length r ≡ length m % 64 = lr ∙ behind (length m) in
    let er' : rest ≡ length r = er ∙ sym lr' in
    let ea' : at ≡ length r + 1 + z = ea ∙ rw (er, lr') in
    let fits : length r + 1 + z ≤ 120 = rw lr' (two (length m)) in
    let lw : length w ≡ 8 = ap length ew ∙ length_field_lem order bits in
    let le : length (ending order m bits) ≡ length m % 64 + 9 + z = length_ending order m bits in
    let zeros : 128 - (length r + 1 + z) - length w ≡ 128 - length (ending order m bits) = rw (lr', lw, le) (left (length m % 64) z) in
    let len' : len ≡ length (ending order m bits) = el ∙ rw (ea, er, le) (omega arith) in
    let eb' : b ≡ written (take 128 r) (replicate 128 0) = eb ∙ rw (start, take_all (length m - 64 * (length m / 64)) r (omega arith)) in
    let octets : d ≡ ending order m bits ++ replicate (128 - length (ending order m bits)) 0 =
    put_ending r w z (128 - (length r + 1 + z)) at eb' (rw er' at ed) ea' (whole _ fits) (rw lw (room _ fits)) ∙ rw (zeros, ew) in
    (len', octets)

-- they are within their buffer
pub tail_fits : {n : ℕ} {last : List ℕ} (order : Order) (m : List ℕ) (bits : ℕ) → HoldsTail order m bits n last → n ≤ length last
unfolding tail_of
tail_fits order m bits (en, e) =
    rw (en, e, length-append (ending order m bits) (replicate (128 - length (ending order m bits)) 0)) (omega arith)

pub tail_part : {n : ℕ} {last : List ℕ} (order : Order) (m : List ℕ) (bits : ℕ) → HoldsTail order m bits n last → n ≡ length (take n last)
tail_part {n} {last} order m bits e = count n last (tail_fits order m bits e)
