-- The laws of sums, of padding and of a run over blocks, over any compression function.
use Rattle.std.specs.Prelude.{◌≡◌, get_or, take, drop, set}
use Rattle.std.proofs.Math.Path.{refl}
use Rattle.std.proofs.Common.{sym, subst, ◌∙◌, add-suc, add_assoc, add-one, ltb, Ok, length-drop, take-append-drop, length-take-le, take-suc-set, get_or-take, lt-ltb, le-ltb}
use mathlib.Core.List.{List, [], ◌∷◌, ◌++◌, append_assoc}
use Prim.Native.Nat.{ℕ, zero, suc, ◌+◌, ◌*◌, ◌-◌, ◌/◌, ◌%◌, ◌≤◌, ◌<◌}
use Rattle.std.proofs.Math.Nat.{add-zero, zero-add}
use native.Mathlib.Omega.{arith}
use Rattle.std.proofs.Math.ListN.{length, length-append}
use Rattle.std.proofs.lemmas.List.{take-append-le, drop-append-le, get_or_at}
use Rattle.std.proofs.Math.Seq.{drop-drop, drop-append_seam, take-append_seam, take_all}
use Rattle.answer.specs.Answer.{size, first_of, result_of}
use Rattle.answer.specs.Laws.{ok_only}
use Rattle.std.specs.Int.{w32, rotate_left, rotate_right}
use Rattle.std.specs.Simd.{first_chunks}
use Rattle.octets.specs.Octets.{word_be, longest_text}
use Rattle.octets.specs.Words.{◌⊞◌, rotl, rotr}
use Rattle.octets.specs.declared.Order.{Order}
use Rattle.octets.specs.declared.Order.TheVariants.{HighestFirst}
use Rattle.blocks.specs.Blocks.{schedule, next_word, words, word_in, rounds, tail_of, block, padding, padded, ending, after, absorbed, hashed}
use Rattle.blocks.specs.Inner.{HoldsTail, closed, closed_answer}

-- two words are added in either order
pub add_swap : (a x y : ℕ) → a ⊞ x ⊞ y ≡ a ⊞ y ⊞ x
add_swap a x y = omega arith

-- rotations by some places, not all, are the library's
pub rotated_left : (n x : ℕ) → 0 < n → n < 32 → rotate_left w32 x n ≡ rotl n x
rotated_left n x low high =
    let whole : (32 - n % 32) % 32 ≡ 32 - n % 32 = omega arith in
    rw whole

pub rotated_right : (n x : ℕ) → 0 < n → n < 32 → rotate_right w32 x n ≡ rotr n x
rotated_right n x low high =
    let whole : (32 - n % 32) % 32 ≡ 32 - n % 32 = omega arith in
    rw whole

-- a schedule of n words has n, begins with each shorter one, and has each word as it is made from those before it
pub schedule_length : (next : List ℕ → ℕ → ℕ) (n : ℕ) → length (schedule next n) ≡ n
unfolding schedule
schedule_length next zero = refl
schedule_length next (suc n) = length-append (schedule next n) (next (schedule next n) n ∷ []) ∙ rw (schedule_length next n) (add-one n)

pub schedule_front : (next : List ℕ → ℕ → ℕ) (t n : ℕ) → take t (schedule next (t + n)) ≡ schedule next t
unfolding schedule
schedule_front next t zero = rw add-zero (take_all t (schedule next t) (omega (arith, schedule_length next t)))
schedule_front next t (suc n) =
    let long = schedule_length next (t + n) in
    rw (add-suc, take-append-le t (schedule next (t + n)) (next (schedule next (t + n)) (t + n) ∷ []) (omega arith)) (schedule_front next t n)

pub schedule_word : (next : List ℕ → ℕ → ℕ) (t n : ℕ) → get_or (schedule next (suc t + n)) t 0 ≡ next (schedule next t) t
unfolding schedule
schedule_word next t n =
    sym (get_or-take (suc t) (schedule next (suc t + n)) t 0 (omega arith))
    ∙ rw (schedule_front next (suc t) n) (get_or_at (schedule next t) (next (schedule next t) t) [] 0 t (schedule_length next t))

-- word i of a block's words
pub words_at : {w : List ℕ} (order : Order) (block : List ℕ) (n i : ℕ) → w ≡ words order block n → i < n → get_or w i 0 ≡ word_in order block (4 * i)
words_at order block n i e h =
    let next = λ (w : List ℕ) (t : ℕ). word_in order block (4 * t) in
    let all : suc i + (n - suc i) ≡ n = omega arith in
    rw e (rw all at (schedule_word next i (n - suc i)))

-- one word more of a schedule
pub word_more : {x : ℕ} (next : List ℕ → ℕ → ℕ) (w : List ℕ) (t : ℕ) → take t w ≡ schedule next t → x ≡ next (take t w) t → t < length w
    → take (t + 1) (set w t x) ≡ schedule next (t + 1)
unfolding schedule
word_more {x} next w t e ex h = rw (add-one, take-suc-set w t x h, ex, e)

-- a word of the block is the next word of a schedule, and so is one made from those before it
pub early : {x : ℕ} (late : List ℕ → ℕ → ℕ) (block w : List ℕ) (t : ℕ) → x ≡ word_be block (4 * t) → t < 16 → x ≡ next_word late block w t
unfolding next_word
early late block w t ex h = rw (ex, lt-ltb t 16 h)

pub later : {x : ℕ} (late : List ℕ → ℕ → ℕ) (block w : List ℕ) (t : ℕ) → x ≡ late w t → 16 ≤ t → x ≡ next_word late block w t
unfolding next_word
later late block w t ex h = rw (ex, le-ltb t 16 h)

-- a message cut into blocks has each at its number
chunk_at : (k i : ℕ) (m d : List ℕ) → i < k → get_or (first_chunks 64 k m) i d ≡ block m i
chunk_at zero i m d h = absurd (omega arith)
chunk_at (suc k) zero m d h = refl
chunk_at (suc k) (suc i) m d h =
    let place : 64 + 64 * i ≡ 64 * suc i = omega arith in
    rw (chunk_at k i (drop 64 m) d (omega arith), drop-drop, place)

-- the first sixteen words of SHA's schedules are the block's
pub early_words : (late : List ℕ → ℕ → ℕ) (block : List ℕ) (n : ℕ) → n ≤ 16 → schedule (next_word late block) n ≡ words HighestFirst block n
unfolding schedule next_word
early_words late block zero h = refl
early_words late block (suc n) h =
    let first : n < 16 = omega arith in
    rw (early_words late block n (omega arith), lt-ltb n 16 first)

module _ {S : Type 0} (round : ℕ → S → S) where
  -- a loop over rounds begins, and goes on by one
  pub round_none : (t : ℕ) (s : S) → s ≡ rounds round t 0 s
  unfolding rounds
  round_none t s = refl

  pub round_more : {x y : S} (t n : ℕ) (s : S) → x ≡ rounds round t n s → y ≡ round (t + n) x → y ≡ rounds round t (n + 1) s
  unfolding rounds
  round_more t n s e ey = rw (ey, e, add-one)

  -- m rounds, and then n more
  pub rounds_add : (t m n : ℕ) (s : S) → rounds round (t + m) n (rounds round t m s) ≡ rounds round t (m + n) s
  unfolding rounds
  rounds_add t m zero s = rw add-zero
  rounds_add t m (suc n) s = rw (add-suc, rounds_add t m n s, add_assoc)

-- all rounds on a schedule, in four equal parts, added to the hash value
pub block_done : {S : Type 0} {s₁ s₂ s₃ s₄ r : S} {w : List ℕ} (round : List ℕ → ℕ → S → S) (added : S → S → S) (q : ℕ) (h : S) (words : List ℕ) → w ≡ words
    → s₁ ≡ rounds (round w) 0 q h → s₂ ≡ rounds (round w) (0 + q) q s₁ → s₃ ≡ rounds (round w) (0 + (q + q)) q s₂ → s₄ ≡ rounds (round w) (0 + (q + q + q)) q s₃
    → r ≡ added h s₄ → r ≡ added h (rounds (round words) 0 (q + q + q + q) h)
block_done round added q h words ew e₁ e₂ e₃ e₄ er =
    let f = round words in
    rw (er, e₄, e₃, e₂, e₁, ew, rounds_add f 0 q q h, rounds_add f 0 (q + q) q h, rounds_add f 0 (q + q + q) q h)

-- a block of the first of two parts
block_front : (p q : List ℕ) (n : ℕ) → 64 * suc n ≤ length p → block (p ++ q) n ≡ block p n
block_front p q n h =
    let l : length (drop (64 * n) p) ≡ length p - 64 * n = length-drop (64 * n) p in
    rw (drop-append-le (64 * n) p q (omega arith), take-append-le 64 (drop (64 * n) p) q (omega arith))

module _ {S : Type 0} (f : S → List ℕ → S) where
  -- blocks of the first of two parts do not see the second
  after_front : (s : S) (p q : List ℕ) (n : ℕ) → 64 * n ≤ length p → after f s (p ++ q) n ≡ after f s p n
  unfolding after
  after_front s p q zero h = refl
  after_front s p q (suc n) h = rw (after_front s p q n (omega arith), block_front p q n h)

  -- a loop over the blocks begins, and goes on by one
  pub after_none : (s : S) (m : List ℕ) → s ≡ after f s m 0
  unfolding after
  after_none s m = refl

  pub after_more : {h h' : S} (s : S) (m : List ℕ) (i : ℕ) → h ≡ after f s m i → h' ≡ f h (block m i) → h' ≡ after f s m (i + 1)
  unfolding after
  after_more s m i e e' = rw (e', e, add-one)

  -- the same in a loop over the blocks that the message is cut into
  pub after_chunk : {h h' : S} {whole : List (List ℕ)} (s : S) (m d : List ℕ) (i : ℕ) → whole ≡ first_chunks 64 (length m / 64) m → i < length whole
      → length whole ≡ length m / 64 → h ≡ after f s m i → h' ≡ f h (get_or whole i d) → h' ≡ after f s m (i + 1)
  after_chunk s m d i e below long eh eh' =
      let lt : i < length m / 64 = omega arith in
      let here = chunk_at (length m / 64) i m d lt in
      after_more s m i eh (eh' ∙ rw (e, here))

  -- j blocks, and then n of what is left
  after_add : (s : S) (m : List ℕ) (j n : ℕ) → after f s m (j + n) ≡ after f (after f s m j) (drop (64 * j) m) n
  unfolding after
  after_add s m j zero = rw add-zero
  after_add s m j (suc n) =
      let place : 64 * j + 64 * n ≡ 64 * (j + n) = omega arith in
      rw (add-suc, after_add s m j n, drop-drop, place)

  -- whole blocks in front are run first
  pub absorbed_append : (s : S) (p q : List ℕ) → length p % 64 ≡ 0 → absorbed f s (p ++ q) ≡ absorbed f (absorbed f s p) q
  absorbed_append s p q h =
      let count : (length p + length q) / 64 ≡ length p / 64 + length q / 64 = omega arith in
      let whole : 64 * (length p / 64) ≡ length p = omega arith in
      rw (length-append, count, after_add s (p ++ q) (length p / 64) (length q / 64), after_front s p q (length p / 64) (omega arith), whole, drop-append_seam)

  -- a message that begins with whole blocks: go on behind them
  hashed_behind : (order : Order) (s : S) (p m : List ℕ) → length p % 64 ≡ 0
      → hashed f order s (p ++ m) ≡ closed f order (absorbed f s p) (length p) m
  unfolding hashed closed
  hashed_behind order s p m h = rw (length-append p m, append_assoc) (absorbed_append s p (m ++ padding order (length p + length m)) h)

  -- a message that begins with one block
  pub hashed_behind_one : (order : Order) (s : S) (b m : List ℕ) → length b ≡ 64 → hashed f order s (b ++ m) ≡ closed f order (f s b) 64 m
  unfolding after
  hashed_behind_one order s b m l =
      let one : absorbed f s b ≡ f s b = rw (l, take_all 64 b (omega arith)) in
      let whole : length b % 64 ≡ 0 = rw l in
      hashed_behind order s b m whole ∙ rw (one, l)

  -- whole blocks p and a rest q
  closed_parts : (order : Order) (s : S) (prior : ℕ) (p q : List ℕ) → prior % 64 ≡ 0 → length p % 64 ≡ 0 → length q < 64
      → absorbed f (absorbed f s (p ++ q)) (q ++ padded order (length (p ++ q)) (8 * (prior + length (p ++ q)))) ≡ closed f order s prior (p ++ q)
  unfolding after closed
  closed_parts order s prior p q hs hp hq =
      let none : length q / 64 ≡ 0 = omega arith in
      let zeros : (prior + (length p + length q)) % 64 ≡ (length p + length q) % 64 = omega arith in
      rw
      (absorbed_append s p q hp, none, append_assoc, absorbed_append s p (q ++ padding order (prior + length (p ++ q))) hp, length-append p q, zeros)

  -- the whole blocks of a message, and then the rest of it, padded
  pub closed_is : (order : Order) (s : S) (prior : ℕ) (m : List ℕ) → prior % 64 ≡ 0
      → absorbed f (absorbed f s m) (ending order m (8 * (prior + length m))) ≡ closed f order s prior m
  closed_is order s prior m h =
      let k : ℕ = 64 * (length m / 64) in
      let front : length (take k m) ≡ k = length-take-le k m (omega arith) in
      let rest : length (drop k m) ≡ length m - k = length-drop k m in
      subst
      (λ (x : List ℕ). absorbed f (absorbed f s x) (drop k m ++ padded order (length x) (8 * (prior + length x))) ≡ closed f order s prior x)
      (take-append-drop k m)
      (closed_parts order s prior (take k m) (drop k m) h (omega arith) (omega arith))

  -- the hash value of a message as code makes it: its whole blocks, and then its last ones
  pub closed_by : {h r : S} {last : List ℕ} {n bits : ℕ} (order : Order) (s : S) (prior : ℕ) (m : List ℕ) → h ≡ absorbed f s m
      → HoldsTail order m bits n last → r ≡ absorbed f h (take n last) → bits ≡ 8 * (prior + length m) → prior % 64 ≡ 0
      → r ≡ closed f order s prior m
  unfolding tail_of
  closed_by order s prior m eh (en, et) er eb hp =
      rw (er, eh, en, et, eb, take-append_seam (ending order m (8 * (prior + length m)))) (closed_is order s prior m hp)

  -- a message with nothing before it
  pub closed_alone : (order : Order) (s : S) (m : List ℕ) → closed f order s 0 m ≡ hashed f order s m
  unfolding closed hashed
  closed_alone order s m = rw zero-add

  -- the digest of a text: what is answered where the last state is
  pub digested : {X : Type 0} {h i : S} {o : X} (order : Order) (initial : S) (octets : S → X) (m : List ℕ) → i ≡ initial
      → Ok h ≡ closed_answer f order i 0 m → o ≡ octets h
      → Ok o ≡ result_of (first_of ((size, ltb longest_text (length m)) ∷ [])) (octets (hashed f order initial m))
  unfolding closed_answer
  digested order initial octets m ei eh eo =
      let (none, same) = ok_only _ _ (sym eh) in
      rw (none, eo, ← same, ei, closed_alone order initial m)
