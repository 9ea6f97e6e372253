-- Whether a box is a permutation, by a mark for each number that stands in it; whether a state is the unkeyed one.
use mathlib.Core.Path.{◌≡◌, refl, sym, ◌∙◌}
use mathlib.Core.Bool.{Bool, true, false, ◌&&◌, ◌||◌, and-true}
use mathlib.Core.List.{List, [], ◌∷◌, ◌++◌, perm_append_singleton}
use Prim.Native.Nat.{ℕ, zero, suc, ◌+◌, ◌<◌, ◌≤◌}
use native.Mathlib.Numerals.{add-one}
use native.Mathlib.Omega.{arith}
use lib.Bits.{bit_and}
use lib.Dec.{eqb}
use lib.ListN.{length, length-set, take, drop, set, get_or, get_or-replicate, replicate}
use lib.Seq.{take_all, take-suc, drop-cons, drop-length, get_or-set_same, get_or-set_other}
use borrow.Author.Tests.{eq-eqb, eqb-true, eqb-false}
use Rattle.std.specs.List.{fold}
use Rattle.std.proofs.lemmas.List.Sums.{fold-append}
use Rattle.rc4.specs.Cipher.{among, all_among, permutation, in_order}
use Rattle.rc4.specs.Inner.{mark, Marked}
use Rattle.rc4.proofs.Permutation.{among_same}

-- no cell is looked at
pub marks_none : Marked [] (replicate 256 0)
unfolding Marked among
marks_none = (refl, λ n h. get_or-replicate 256 n 0 0 h)

-- one cell more
among_more : (n : ℕ) (xs : List ℕ) (y : ℕ) → among n (xs ++ y ∷ []) ≡ eqb y n || among n xs
unfolding among
among_more n xs y = among_same n (perm_append_singleton y xs)

pub marks_more : {x : ℕ} (cells marks : List ℕ) (i : ℕ) → x ≡ get_or cells i 0 → x < 256 → i < length cells → Marked (take i cells) marks
    → Marked (take (i + 1) cells) (set marks x 1)
unfolding Marked
marks_more {x} cells marks i e low h (long, marks-are) = (simp length-set long, λ n top. go n top (eqb x n) refl)
  where
    go : (n : ℕ) → n < 256 → (here : Bool) → eqb x n ≡ here → get_or (set marks x 1) n 0 ≡ mark (among n (take (i + 1) cells))
    go n top here eh =
        let more : among n (take (i + 1) cells) ≡ here || among n (take i cells) =
        rw (add-one i, take-suc cells i 0 h, ← e, among_more n (take i cells) x, eh) in
        rw more (by here eh)
      where
        by : (here : Bool) → eqb x n ≡ here → get_or (set marks x 1) n 0 ≡ mark (here || among n (take i cells))
        by true eh = rw (← eqb-true x n eh) (get_or-set_same marks x 1 0 (omega arith))
        by false eh = get_or-set_other marks x n 1 0 (λ z. eqb-false x n eh (sym z)) ∙ marks-are n top

-- all of them
pub marks_all : (cells marks : List ℕ) → length cells ≡ 256 → Marked (take 256 cells) marks → Marked cells marks
marks_all cells marks long m = rw (take_all 256 cells (omega arith)) at m

-- the marks of the numbers below n, joined
pub joined_more : {all x : ℕ} (n : ℕ) (cells marks : List ℕ) → x ≡ get_or marks n 0 → n < 256 → Marked cells marks → all ≡ mark (all_among n cells)
    → bit_and all x ≡ mark (all_among (n + 1) cells)
unfolding Marked all_among
joined_more n cells marks ex h (long, marks-are) ea = rw (ea, ex, marks-are n h, add-one n) (both (all_among n cells) (among n cells))
  where
    both : (a b : Bool) → bit_and (mark a) (mark b) ≡ mark (a && b)
    both true true = refl
    both true false = refl
    both false true = refl
    both false false = refl

joined : (n : ℕ) (cells marks : List ℕ) → n ≤ 256 → Marked cells marks → fold bit_and 1 (take n marks) ≡ mark (all_among n cells)
unfolding all_among Marked
joined zero cells marks h m = refl
joined (suc n) cells marks h m =
    let size : length marks ≡ 256 = m.0 in
    rw (take-suc marks n 0 (omega arith), fold-append bit_and 1 (take n marks) (get_or marks n 0 ∷ [])) (rw (add-one n) at (joined_more n cells marks refl (omega arith) m (joined n cells marks (omega arith) m)))

pub joined_tells : {all : ℕ} (a : Bool) → all ≡ mark a → eqb all 1 ≡ a
joined_tells true e = rw e
joined_tells false e = rw e

-- so a box is a permutation where all 256 marks, joined, are 1
pub permutation_told : {all : ℕ} (cells marks : List ℕ) → length cells ≡ 256 → Marked cells marks → all ≡ fold bit_and 1 marks → eqb all 1 ≡ permutation cells
unfolding permutation Marked
permutation_told cells marks long m e =
    let size : length marks ≡ 256 = m.0 in
    let whole : take 256 marks ≡ marks = take_all 256 marks (omega arith) in
    joined_tells (all_among 256 cells) (e ∙ (rw whole at (joined 256 cells marks (omega arith) m))) ∙ rw (eq-eqb (length cells) 256 long)

-- cells looked at in order: what is found so far, and what is left
pub order_more : (found : Bool) (cells : List ℕ) (n : ℕ) → n < length cells → found && in_order n (drop n cells) ≡ in_order 0 cells
    → (found && eqb (get_or cells n 0) n) && in_order (n + 1) (drop (n + 1) cells) ≡ in_order 0 cells
unfolding in_order
order_more found cells n h e =
    let one : in_order n (drop n cells) ≡ eqb (get_or cells n 0) n && in_order (n + 1) (drop (n + 1) cells) = rw (drop-cons cells n 0 h, add-one n) in
    by found (eqb (get_or cells n 0) n) (in_order (n + 1) (drop (n + 1) cells)) ∙ (rw one at e)
  where
    by : (a b c : Bool) → (a && b) && c ≡ a && (b && c)
    by true b c = refl
    by false b c = refl

pub order_all : (found : Bool) (cells : List ℕ) (n : ℕ) → length cells ≡ 256 → n ≡ 256 → found && in_order n (drop n cells) ≡ in_order 0 cells
    → found ≡ in_order 0 cells
unfolding in_order
order_all found cells n long end e =
    let none : drop 256 cells ≡ [] = rw (← long) (drop-length cells) in
    sym (and-true found) ∙ (rw (end, none) at e)
