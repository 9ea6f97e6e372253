-- Sixteen words of the message schedule, overwritten in turn: each round uses the word that the whole schedule has there (02, M-102).
use Rattle.std.specs.Prelude.{◌≡◌, refl, Bool, true, false, List, ℕ, suc, ◌+◌, ◌-◌, ◌%◌, ◌≤◌, ◌<◌, ltb, get_or, take, set}
use Rattle.std.proofs.Common.{sym, subst, ◌∙◌, add-zero, add_assoc, arith, length-set, get_or-take, get_or-set_same, get_or-set_other, le-ltb, ltb-true, ltb-false}
use Rattle.answer.specs.Answer.{pick}
use Rattle.blocks.specs.Blocks.{schedule, next_word}
use Rattle.blocks.specs.Laws.{schedule_length, schedule_front, schedule_word, round_none, rounds_add}
use Rattle.sha_1.specs.declared.State.{State}
use Rattle.sha_1.specs.Sha1.{late_word, round}
use Rattle.sha_1.specs.Inner.{whole, Ring, made_word, ring_word, Rounds}

-- word t of the whole schedule, from those before it in the same schedule
late_is : (block : List ℕ) (t : ℕ) → 16 ≤ t → t < 80 → get_or (whole block) t 0 ≡ late_word (whole block) t
unfolding whole next_word
late_is block t low high =
    let next = next_word late_word block in
    let all : suc t + (79 - t) ≡ 80 = omega arith in
    let word : get_or (schedule next 80) t 0 ≡ next (schedule next t) t = rw all at (schedule_word next t (79 - t)) in
    let all' : t + (80 - t) ≡ 80 = omega arith in
    let front : take t (schedule next 80) ≡ schedule next t = rw all' at (schedule_front next t (80 - t)) in
    let same : (j : ℕ) → j < t → get_or (schedule next t) j 0 ≡ get_or (schedule next 80) j 0 = λ j h. rw (← front) (get_or-take t (schedule next 80) j 0 h) in
    word ∙ rw (le-ltb t 16 low, same (t - 3) (omega arith), same (t - 8) (omega arith), same (t - 14) (omega arith), same (t - 16) (omega arith))

-- the word that the ring holds for round t is word t of FIPS 180-4's schedule
pub ring_word_lem : (block ring : List ℕ) (t : ℕ) → t < 80 → Ring block t ring → ring_word ring t ≡ get_or (whole block) t 0
unfolding Ring ring_word
ring_word_lem block ring t high (long, held) = go (ltb t 16) refl
  where
    go : (early : Bool) → ltb t 16 ≡ early → pick early (get_or ring (t % 16) 0) (made_word ring t) ≡ get_or (whole block) t 0
    go true e = let h = ltb-true t 16 e in held t (omega arith) (omega arith)
    go false e =
        let h = ltb-false t 16 e in
        let place : (t - 16) % 16 ≡ t % 16 = omega arith in
        let oldest : get_or ring (t % 16) 0 ≡ get_or (whole block) (t - 16) 0 = rw place at (held (t - 16) (omega arith) (omega arith)) in
        rw (held (t - 3) (omega arith) (omega arith), held (t - 8) (omega arith) (omega arith), held (t - 14) (omega arith) (omega arith), oldest)
        (sym (late_is block t h high))

-- a block's sixteen words are its ring before the first round
pub ring_first : (block ring : List ℕ) → ring ≡ schedule (next_word late_word block) 16 → Ring block 0 ring
unfolding Ring whole
ring_first block ring e =
    let next = next_word late_word block in
    let word : (j : ℕ) → j < 16 → get_or ring (j % 16) 0 ≡ get_or (schedule next 80) j 0 = λ j h.
    let place : j % 16 ≡ j = omega arith in
    rw (place, e, ← schedule_front next 16 64) (get_or-take 16 (schedule next 80) j 0 h) in
    (rw e (schedule_length next 16), λ j h _. word j (omega arith))

-- with the word of round t in its place it is the ring before the next
pub ring_more : (block ring : List ℕ) (t : ℕ) → t < 80 → Ring block t ring → Ring block (t + 1) (set ring (t % 16) (ring_word ring t))
unfolding Ring
ring_more block ring t high (long, held) = (simp length-set long, λ j low near. go j low near (ltb j t) (ltb t j) refl refl)
  where
    go : (j : ℕ) → j < 16 + (t + 1 - 16) → t + 1 ≤ j + 16 → (below above : Bool) → ltb j t ≡ below → ltb t j ≡ above
        → get_or (set ring (t % 16) (ring_word ring t)) (j % 16) 0 ≡ get_or (whole block) j 0
    go j low near true above e e' =
        let h = ltb-true j t e in
        get_or-set_other ring (t % 16) (j % 16) (ring_word ring t) 0 (λ z. omega arith) ∙ held j (omega arith) (omega arith)
    go j low near false true e e' =
        let h = ltb-true t j e' in
        get_or-set_other ring (t % 16) (j % 16) (ring_word ring t) 0 (λ z. omega arith) ∙ held j (omega arith) (omega arith)
    go j low near false false e e' =
        let same : j ≡ t = omega (arith, ltb-false j t e, ltb-false t j e') in
        rw same (get_or-set_same ring (t % 16) (ring_word ring t) 0 (omega arith) ∙ ring_word_lem block ring t high (long, held))

-- no round on a ring
pub rounds_none : (t : ℕ) (s : State) (ring : List ℕ) → Rounds t 0 s s ring ring
rounds_none t s ring block held = (round_none (round (whole block)) t s, rw add-zero held)

-- m rounds on a ring, and then n more
pub rounds_on : (s x y : State) (ring mid left : List ℕ) (t m n : ℕ) → Rounds t m s x ring mid → Rounds (t + m) n x y mid left → Rounds t (m + n) s y ring left
rounds_on s x y ring mid left t m n first rest block held =
    let (is, kept) = first block held in
    let (is', kept') = rest block kept in
    (is' ∙ rw is (rounds_add (round (whole block)) t m n s), subst (λ (k : ℕ). Ring block k left) (add_assoc t m n) kept')
