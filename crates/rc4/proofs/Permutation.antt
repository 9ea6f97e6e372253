-- Laws of the box: a key gives a permutation of 0 to 255, and draws leave one.
use Rattle.std.specs.Prelude.{◌≡◌, Bool, true, false, ◌&&◌, ◌||◌, ℕ, zero, suc, ◌+◌, ◌<◌, ◌≤◌, eqb, length, get_or, set}
use Rattle.std.proofs.Math.Path.{refl}
use Rattle.std.proofs.Common.{sym, ap, ◌∙◌, add-one, length-set, length-append, eq-eqb, ne_eqb, eqb-true}
use Rattle.std.proofs.Math.Bool.{Bool-set}
use Rattle.std.proofs.lemmas.Bool.{false≢true}
use Rattle.std.proofs.Math.Logic.{∥∥₁_elim}
use mathlib.Core.List.Perm
use mathlib.Core.List.{List, [], ◌∷◌, ◌++◌, Perm, perm_append_singleton, append_assoc, append-nil, Permᴰ}
use native.Mathlib.Omega.{arith}
use Rattle.answer.specs.Answer.{pick}
use Rattle.answer.specs.Laws.{both}
use Rattle.rc4.specs.declared.Rc4.{Rc4}
use Rattle.rc4.specs.Cipher.{below, among, all_among, permutation, unkeyed, in_order, is_unkeyed, swap, round_j, round, rounds, key_schedule, next_i, next_j, step, after}

-- there are n numbers below n
pub below_length : (n : ℕ) → length (below n) ≡ n
unfolding below
below_length zero = refl
below_length (suc n) = length-append (below n) (n ∷ []) ∙ rw (below_length n) (add-one n)

-- a list in which x takes the place of an element, and that element in front: x in front of the list, in another order
moved_perm : (x : ℕ) (l : List ℕ) (i : ℕ) → i < length l → Perm (get_or l i 0 ∷ set l i x) (x ∷ l)
moved_perm x [] i h = absurd (omega arith)
moved_perm x (y ∷ ys) zero h = Perm.swap x y ys
moved_perm x (y ∷ ys) (suc i) h =
    Perm.trans (Perm.swap y (get_or ys i 0) (set ys i x)) (Perm.trans (Perm.cons y (moved_perm x ys i (omega arith))) (Perm.swap x y ys))

-- a swap is a permutation
swap_perm : (l : List ℕ) (a b : ℕ) → a < length l → b < length l → Perm (swap l a b) l
swap_perm [] a b ha hb = Perm.rfl
swap_perm (x ∷ xs) zero zero ha hb = Perm.rfl
swap_perm (x ∷ xs) zero (suc b) ha hb = moved_perm x xs b (omega arith)
swap_perm (x ∷ xs) (suc a) zero ha hb = moved_perm x xs a (omega arith)
swap_perm (x ∷ xs) (suc a) (suc b) ha hb = Perm.cons x (swap_perm xs a b (omega arith) (omega arith))

-- lists in another order have the same numbers among them
perm_among : (n : ℕ) {a b : List ℕ} → Permᴰ a b → among n a ≡ among n b
unfolding among
perm_among n Permᴰ.nil = refl
perm_among n (Permᴰ.cons e d) = rw (e, perm_among n d)
perm_among n (Permᴰ.swap {a} {b} {a'} {b'} {l} e₁ e₂) = rw (e₁, e₂) (exchange (eqb b' n) (eqb a' n) (among n l))
  where
    exchange : (x y z : Bool) → x || (y || z) ≡ y || (x || z)
    exchange true true z = refl
    exchange true false z = refl
    exchange false y z = refl
perm_among n (Permᴰ.trans d₁ d₂) = perm_among n d₁ ∙ perm_among n d₂

pub among_same : (n : ℕ) {a b : List ℕ} → Perm a b → among n a ≡ among n b
among_same n {a} {b} perm = ∥∥₁_elim perm (Bool-set (among n a) (among n b)) (perm_among n)

all_same : (n : ℕ) {a b : List ℕ} → Perm a b → all_among n a ≡ all_among n b
unfolding all_among
all_same zero perm = refl
all_same (suc n) perm = rw (all_same n perm, among_same n perm)

-- a number among others can stand in front of what is left without it
without : ℕ → List ℕ → List ℕ
without n [] = []
without n (x ∷ xs) = pick (eqb x n) xs (x ∷ without n xs)

among_first : (n : ℕ) (xs : List ℕ) → among n xs ≡ true → (suc (length (without n xs)) ≡ length xs) × Perm xs (n ∷ without n xs)
unfolding among without
among_first n [] h = absurd (false≢true h)
among_first n (x ∷ xs) h = go (eqb x n) refl h (among_first n xs)
  where
    go : (here : Bool) → eqb x n ≡ here → here || among n xs ≡ true
        → (among n xs ≡ true → (suc (length (without n xs)) ≡ length xs) × Perm xs (n ∷ without n xs))
        → (suc (length (pick here xs (x ∷ without n xs))) ≡ suc (length xs)) × Perm (x ∷ xs) (n ∷ pick here xs (x ∷ without n xs))
    go true e h later = (refl, rw (eqb-true x n e) Perm.rfl)
    go false e h later =
        let (size, perm) = later h in
        (ap suc size, Perm.trans (Perm.cons x perm) (Perm.swap n x (without n xs)))

-- a number in front counts for no number below it
all_behind : (m n : ℕ) (xs : List ℕ) → m ≤ n → all_among m (n ∷ xs) ≡ all_among m xs
unfolding all_among among
all_behind zero n xs h = refl
all_behind (suc m) n xs h = rw (all_behind m n xs (omega arith), ne_eqb n m (λ e. omega arith))

-- n numbers, with each of those below n among them, are these
all_perm : (n : ℕ) (xs : List ℕ) → length xs ≡ n → all_among n xs ≡ true → Perm xs (below n)
unfolding all_among below
all_perm zero [] long h = Perm.rfl
all_perm zero (x ∷ xs) long h = absurd (omega arith)
all_perm (suc n) xs long h =
    let (fewer, here) = both (all_among n xs) (among n xs) h in
    let (size, perm) = among_first n xs here in
    let rest : List ℕ = without n xs in
    let left : all_among n rest ≡ true = sym (all_behind n n rest (omega arith)) ∙ sym (all_same n perm) ∙ fewer in
    Perm.trans perm (Perm.trans (Perm.cons n (all_perm n rest (omega arith) left)) (Perm.symm (perm_append_singleton n (below n))))

-- 256 cells, which are those of the first box in some order
abbrev pub Whole : List ℕ → Type 0
Whole cells = (length cells ≡ 256) × Perm cells (below 256)

-- .. is what the definition of a permutation says
pub whole_permutation : (cells : List ℕ) → Whole cells → permutation cells ≡ true
unfolding permutation
whole_permutation cells (long, perm) = rw (eq-eqb (length cells) 256 long) (all_same 256 perm ∙ first)
  where
    first : all_among 256 (below 256) ≡ true
    first = unfold all_among among below in refl

pub permutation_whole : (cells : List ℕ) → permutation cells ≡ true → Whole cells
unfolding permutation
permutation_whole cells h =
    let (long, all) = both (eqb (length cells) 256) (all_among 256 cells) h in
    let size : length cells ≡ 256 = eqb-true (length cells) 256 long in
    (size, all_perm 256 cells size all)

swap_whole : (c : List ℕ) (a b : ℕ) → a < 256 → b < 256 → Whole c → Whole (swap c a b)
swap_whole c a b ha hb (long, perm) = (simp length-set long, Perm.trans (swap_perm c a b (omega arith) (omega arith)) perm)

rounds_whole : (key : List ℕ) (n : ℕ) → n ≤ 256 → Whole (rounds key n).cells
unfolding rounds round round_j
rounds_whole key zero h = (below_length 256, Perm.rfl)
rounds_whole key (suc i) h = swap_whole (rounds key i).cells i (round_j key i (rounds key i)) h (omega arith) (rounds_whole key i (omega arith))

step_whole : (s : Rc4) → Whole s.cells → Whole (step s).cells
unfolding step next_i next_j
step_whole s w = swap_whole s.cells (next_i s) (next_j s) (omega arith) (omega arith) w

-- a permutation stays one under any draws
pub after_whole : (s : Rc4) (text : List ℕ) → Whole s.cells → Whole (after s text).cells
unfolding after
after_whole s [] w = w
after_whole s (x ∷ xs) w = after_whole (step s) xs (step_whole s w)

-- from a key, the box is a permutation of 0 to 255 before the first draw, and after every one
pub keyed_whole : (key : List ℕ) → Whole (key_schedule key).cells
unfolding key_schedule
keyed_whole key = rounds_whole key 256 (omega arith)

pub keyed_permutation : (key text : List ℕ) → Perm (after (key_schedule key) text).cells (below 256)
keyed_permutation key text = (after_whole (key_schedule key) text (keyed_whole key)).1

-- what the fields of the code's struct hold: 256 cells, and indices that are octets; a key gives them, and draws keep them
abbrev pub Sized : Rc4 → Type 0
Sized s = (length s.cells ≡ 256) × (s.i < 256) × (s.j < 256)

pub keyed_sized : (key : List ℕ) → Sized (key_schedule key)
keyed_sized key = ((keyed_whole key).0, unfold key_schedule in omega arith, unfold key_schedule in omega arith)

step_sized : (s : Rc4) → Sized s → Sized (step s)
unfolding step next_i next_j
step_sized s (long, hi, hj) = (simp length-set long, omega arith, omega arith)

pub after_sized : (s : Rc4) (text : List ℕ) → Sized s → Sized (after s text)
unfolding after
after_sized s [] h = h
after_sized s (x ∷ xs) h = after_sized (step s) xs (step_sized s h)

-- cells in order behind those below n are the numbers below 256
order_is : (n : ℕ) (cells : List ℕ) → in_order n cells ≡ true → below n ++ cells ≡ below 256
unfolding in_order below
order_is n [] h = append-nil (below n) ∙ ap below (eqb-true n 256 h)
order_is n (x ∷ xs) h =
    let (here, rest) = both (eqb x n) (in_order (n + 1) xs) h in
    let front : below (n + 1) ≡ below n ++ (n ∷ []) = rw (add-one n) in
    rw (eqb-true x n here, ← append_assoc (below n) (n ∷ []) xs, ← front) (order_is (n + 1) xs rest)

-- the state that a key schedule starts from is found to be it, and no other is
pub unkeyed_is : (s : Rc4) → is_unkeyed s ≡ true → s ≡ unkeyed
unfolding is_unkeyed below
unkeyed_is s h =
    let (indices, order) = both (eqb s.i 0 && eqb s.j 0) (in_order 0 s.cells) h in
    let (i0, j0) = both (eqb s.i 0) (eqb s.j 0) indices in
    let cells : s.cells ≡ below 256 = order_is 0 s.cells order in
    rw (eqb-true s.i 0 i0, eqb-true s.j 0 j0, cells)

pub unkeyed_found : is_unkeyed unkeyed ≡ true
unkeyed_found = unfold is_unkeyed in_order below in refl

-- its box is a permutation
pub unkeyed_permutation : (s : Rc4) → is_unkeyed s ≡ true → permutation s.cells ≡ true
unkeyed_permutation s h = rw (unkeyed_is s h) (whole_permutation (below 256) (below_length 256, Perm.rfl))
