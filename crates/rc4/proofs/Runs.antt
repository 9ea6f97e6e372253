-- A run over a text, of which n octets are done.
use mathlib.Core.Path.{◌≡◌, refl, sym, ap, ◌∙◌}
use mathlib.Core.List.{List, [], ◌∷◌, ◌++◌, append_assoc, append-nil}
use Prim.Native.Nat.{ℕ, ◌+◌, ◌*◌, ◌/◌, ◌%◌, ◌<◌, ◌≤◌}
use native.Mathlib.Nat.{add-zero, add_assoc}
use native.Mathlib.Omega.{arith}
use lib.Bits.{bit_xor, xor_zero_l}
use lib.ListN.{length, get_or, set, take, drop, drop_of_length-le, take-append-drop, replicate, get_or-replicate, length-append, length-drop}
use lib.Seq.{drop-cons, set_split, drop-drop, length-take-le, take_at, drop_at}
use Rattle.octets.specs.Octets.{written}
use Rattle.rc4.specs.declared.Rc4.{Rc4}
use Rattle.rc4.specs.Cipher.{step, drawn, run, after}
use Rattle.rc4.specs.Inner.{wrapped, xors, OctetCells, Finished}
use Rattle.rc4.proofs.Laws.{run_length, run_cut, after_cut}
use Rattle.rc4.proofs.Draws.{step_octets}

-- s and out₀ are the state and the buffer where the run began, s' and out what they are
pub record Running (s s' : Rc4) (text out₀ out : List ℕ) (n : ℕ) : Type 0 where
  pub within : n ≤ length text
  pub room : length text ≤ length out
  pub same : length out ≡ length out₀
  pub whole : OctetCells s'.cells
  pub octets : run s text ≡ take n out ++ run s' (drop n text)
  pub state : after s text ≡ after s' (drop n text)
  pub rest : drop n out ≡ drop n out₀

-- at the start
pub begun : (c text out : List ℕ) (i j : ℕ) → OctetCells c → length text ≤ length out → Running (wrapped c i j) (wrapped c (i + 0) j) text out out 0
begun c text out i j whole room =
    rw add-zero (record { within = omega arith; room = room; same = refl; whole = whole; octets = refl; state = refl; rest = refl })

-- at the end of the text, the buffer
written_all : {s s' : Rc4} {text out₀ out : List ℕ} {n : ℕ} → Running s s' text out₀ out n → length text ≤ n → out ≡ written (run s text) out₀
unfolding run
written_all {s} {s'} {text} {out₀} {out} {n} r h =
    let whole : n ≡ length text = omega (arith, r.within) in
    let front : run s text ≡ take n out = (rw (drop_of_length-le text h) at r.octets) ∙ append-nil _ in
    rw (run_length s text, front, ← whole, ← r.rest) (sym (take-append-drop n out))

-- a buffer as long as the text holds the result and nothing else
pub filled : {s s' : Rc4} {text out₀ out : List ℕ} {n : ℕ} → Running s s' text out₀ out n → length text ≤ n → length out₀ ≤ length text → out ≡ run s text
filled {s} {s'} {text} {out₀} {out} {n} r h short =
    written_all r h ∙ rw (run_length s text, drop_of_length-le out₀ short, append-nil)

-- and the state
pub after_all : {s s' : Rc4} {text out₀ out : List ℕ} {n : ℕ} → Running s s' text out₀ out n → length text ≤ n → s' ≡ after s text
unfolding after
after_all {s} {s'} {text} {out₀} {out} {n} r h = rw (drop_of_length-le text h) at (sym r.state)

-- a place counted on from the start of the run
pub onward : (c : List ℕ) (i n m j : ℕ) {s : Rc4} → wrapped c (i + n + m) j ≡ s → wrapped c (i + (n + m)) j ≡ s
onward c i n m j e = rw (← add_assoc i n m) e

-- a zero xored with an octet is that octet
pub from_zero : {v d : ℕ} (k m : ℕ) → k < m → v ≡ d → v ≡ bit_xor (get_or (replicate m 0) k 0) d
from_zero {v} {d} k m h e = rw (get_or-replicate {A = ℕ} m k 0 0 h, xor_zero_l d) e

-- a text is its xor with the keystream, which is what as many zeros give ..
run_zeros : (s : Rc4) (text : List ℕ) → run s text ≡ xors text (run s (replicate (length text) 0))
unfolding run
run_zeros s [] = refl
run_zeros s (x ∷ xs) = rw (xor_zero_l (drawn s), ← run_zeros (step s) xs)

-- .. and the state after it hangs on its length alone
after_zeros : (s : Rc4) (text : List ℕ) → after s text ≡ after s (replicate (length text) 0)
unfolding after
after_zeros s [] = refl
after_zeros s (x ∷ xs) = after_zeros (step s) xs

-- the next m octets at once
more_block : {s s' s'' : Rc4} {text out₀ out ys : List ℕ} {n : ℕ} (m : ℕ) → Running s s' text out₀ out n → ys ≡ run s' (take m (drop n text))
    → s'' ≡ after s' (take m (drop n text)) → OctetCells s''.cells → n + m ≤ length text
    → Running s s'' text out₀ (take n out ++ (ys ++ drop m (drop n out))) (n + m)
more_block {s} {s'} {s''} {text} {out₀} {out} {ys} {n} m r wrote stepped whole h =
    let block = take m (drop n text) in
    let left : drop n text ≡ block ++ drop (n + m) text = sym (take-append-drop m (drop n text)) ∙ ap (λ l. block ++ l) (drop-drop m n text) in
    let fits : m ≤ length (drop n text) = simp length-drop (omega arith) in
    let sized : length ys ≡ m = ap length wrote ∙ run_length s' block ∙ length-take-le m (drop n text) fits in
    let front : length (take n out ++ ys) ≡ n + m = length-append (take n out) ys ∙ rw (length-take-le n out (omega (arith, r.room)), sized) in
    let regroup : take n out ++ (ys ++ drop m (drop n out)) ≡ (take n out ++ ys) ++ drop (n + m) out = sym (append_assoc (take n out) ys (drop m (drop n out))) ∙ rw (drop-drop m n out) in
    let size : length ((take n out ++ ys) ++ drop (n + m) out) ≡ length out = length-append (take n out ++ ys) (drop (n + m) out) ∙ rw (front, length-drop) (omega (arith, r.room)) in
    rw regroup (record {
      within = h;
      room = rw size r.room;
      same = size ∙ r.same;
      whole = whole;
      octets = rw (take_at (take n out ++ ys) (drop (n + m) out) (n + m) front, wrote, stepped, append_assoc, ← run_cut s' block (drop (n + m) text), ← left) r.octets;
      state = r.state ∙ ap (after s') left ∙ after_cut s' block (drop (n + m) text) ∙ ap (λ t. after t (drop (n + m) text)) (sym stepped);
      rest = drop_at (take n out ++ ys) (drop (n + m) out) (n + m) front ∙ sym (drop-drop m n out) ∙ ap (drop m) r.rest ∙ drop-drop m n out₀;
    })

-- the next octet
pub more : {s s' s'' : Rc4} {text out₀ out : List ℕ} {n v : ℕ} → Running s s' text out₀ out n → s'' ≡ step s' → v ≡ bit_xor (get_or text n 0) (drawn s')
    → n < length text → Running s s'' text out₀ (set out n v) (n + 1)
unfolding run after
more {s} {s'} {s''} {text} {out₀} {out} {n} {v} r stepped drew h =
    let fits : n < length out = omega (arith, r.room) in
    let one : take 1 (drop n text) ≡ get_or text n 0 ∷ [] = ap (take 1) (drop-cons text n 0 h) in
    let stored : set out n v ≡ take n out ++ ((v ∷ []) ++ drop 1 (drop n out)) = rw (drop-cons out n 0 fits) (set_split out n v fits) in
    rw stored (more_block {ys = v ∷ []} 1 r (rw (one, drew)) (rw one stepped) (step_octets s' stepped r.whole) (omega arith))

-- the place of the next eight, from one that is a multiple of eight
pub eight_place : (i k : ℕ) → i % 8 ≡ 0 → (i + 8 * k) / 8 % 32 * 8 ≡ (i + 8 * k) % 256
eight_place i k h = omega arith

-- the next eight octets, from eight of keystream
pub more_eight : {s s' s'' : Rc4} {text out₀ out ys octets : List ℕ} {n n' : ℕ} (k : ℕ) → Running s s' text out₀ out n → octets ≡ run s' (replicate 8 0)
    → s'' ≡ after s' (replicate 8 0) → OctetCells s''.cells → ys ≡ xors (take k (drop n text)) octets → k ≡ 8 → n' ≡ n + 8 → n + 8 ≤ length text
    → Running s s'' text out₀ (take n out ++ (ys ++ drop k (drop n out))) n'
more_eight {s} {s'} {s''} {text} {out₀} {out} {ys} {octets} {n} {n'} k r drew stepped whole wrote eight count h =
    let block = take 8 (drop n text) in
    let sized : length block ≡ 8 = length-take-le 8 (drop n text) (simp length-drop (omega arith)) in
    rw (eight, count) (more_block 8 r ((rw (eight, drew) at wrote) ∙ sym (rw sized at (run_zeros s' block))) (stepped ∙ sym (rw sized at (after_zeros s' block))) whole h)

-- a loop that has come to the end of its text
pub finished : {c c' text out₀ out : List ℕ} {i j j' n : ℕ} → Running (wrapped c i j) (wrapped c' (i + n) j') text out₀ out n → length text ≤ n → j' ≤ j + 255 * n
    → Finished c i j text out₀ c' j' out
finished {c} {c'} {text} {out₀} {out} {i} {j} {j'} {n} r h near =
    let all : n ≡ length text = omega (arith, r.within) in
    record { wrote = written_all r h; stepped = rw all at (after_all r h); whole = r.whole; near = rw (← all) near }
