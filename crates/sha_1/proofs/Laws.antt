-- The word of a round, and a block's rounds together.
use Rattle.std.proofs.Common.{◌≡◌, ◌∙◌, sym, List, ℕ, ◌%◌, ◌≤◌, ◌<◌, add-zero, get_or, set, lt-ltb, le-ltb, arith}
use Rattle.octets.specs.declared.Order.TheVariants.{HighestFirst}
use Rattle.octets.specs.Words.{◌⊞◌, rotl}
use Rattle.blocks.specs.Blocks.{words, rounds}
use Rattle.blocks.specs.Laws.{add_swap, early_words}
use Rattle.sha_1.specs.declared.State.{State}
use Rattle.sha_1.specs.Sha1.{f, k, late_word, round, added, compress}
use Rattle.sha_1.specs.Inner.{whole, made_word, ring_word, Rounds}
use Rattle.sha_1.specs.Ring.{ring_word_lem, ring_first, ring_more}

-- the word of a round: the ring's own, and one that is made
pub own_word : {x : ℕ} (ring : List ℕ) (t : ℕ) → x ≡ get_or ring (t % 16) 0 → t < 16 → x ≡ ring_word ring t
unfolding ring_word
own_word ring t e h = rw (lt-ltb t 16 h) e

pub made_word_lem : {x : ℕ} (ring : List ℕ) (t : ℕ) → x ≡ made_word ring t → 16 ≤ t → x ≡ ring_word ring t
unfolding ring_word
made_word_lem ring t e h = rw (le-ltb t 16 h) e

-- its sum, in the code's order
either : (x y : ℕ) → x ⊞ y ≡ y ⊞ x
either x y = omega arith

added_last : (r f e k w : ℕ) → e ⊞ k ⊞ w ⊞ f ⊞ r ≡ r ⊞ f ⊞ e ⊞ k ⊞ w
added_last r f e k w =
    rw
    (add_swap (e ⊞ k) w f, add_swap e k f, either e f, add_swap (f ⊞ e ⊞ k) w r, add_swap (f ⊞ e) k r, add_swap f e r, either f r)

-- a round that uses it
pub one_round : (s : State) (ring : List ℕ) (t word a c : ℕ) → t < 80 → word ≡ ring_word ring t
    → a ≡ s.e ⊞ k t ⊞ word ⊞ f t s.b s.c s.d ⊞ rotl 5 s.a → c ≡ rotl 30 s.b
    → Rounds t 1 s (record { a = a; b = s.a; c = c; d = s.c; e = s.d }) ring (set ring (t % 16) word)
unfolding rounds round
one_round s ring t word a c h e ea ec block held =
    let sum = added_last (rotl 5 s.a) (f t s.b s.c s.d) s.e (k t) (get_or (whole block) t 0) in
    (rw (add-zero, ea, ec, e, ring_word_lem block ring t h held, sum), rw e (ring_more block ring t h held))

-- all rounds from a block's own words, added to the hash value
pub compressed : {s r : State} {ring : List ℕ} (h : State) (block left : List ℕ) → ring ≡ words HighestFirst block 16
    → Rounds 0 80 h s ring left → r ≡ added h s → r ≡ compress h block
unfolding compress whole
compressed {s} {r} {ring} h block left ew all er = er ∙ rw (all block (ring_first block ring (ew ∙ sym (early_words late_word block 16 (omega arith))))).0
