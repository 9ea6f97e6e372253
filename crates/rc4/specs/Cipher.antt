-- RC4 in the words of 01, "Digests, DES and RC4". A state is the code's own struct: the box and both indices.
use Rattle.std.specs.Prelude.{Bool, true, false, ◌&&◌, ◌||◌, List, [], ◌∷◌, ◌++◌, ℕ, zero, suc, ◌+◌, ◌%◌, eqb, length, get_or, set}
use Rattle.std.specs.Int.Bits.{bit_xor}
use Rattle.rc4.specs.declared.Rc4.{Rc4}

-- a state, of its box and both indices
abbrev pub box : List ℕ → ℕ → ℕ → Rc4
box cells i j = record { cells = cells; i = i; j = j }

-- the numbers below n, in order
unfoldable pub below : ℕ → List ℕ
below zero = []
below (suc n) = below n ++ (n ∷ [])

-- "box[a], box[b] change places"
abbrev pub swap : List ℕ → ℕ → ℕ → List ℕ
swap cells a b = set (set cells a (get_or cells b 0)) b (get_or cells a 0)

-- "j becomes j + box[i] + key[i mod key length], mod 256"
unfoldable pub round_j : List ℕ → ℕ → Rc4 → ℕ
round_j key i s = (s.j + get_or s.cells i 0 + get_or key (i % length key) 0) % 256

-- round i of the key schedule: that j, "and box[i], box[j] change places"
unfoldable pub round : List ℕ → ℕ → Rc4 → Rc4
round key i s = box (swap s.cells i (round_j key i s)) i (round_j key i s)

-- "the box starts as 0 to 255. For i from 0 to 255": the state after the first n rounds
unfoldable pub rounds : List ℕ → ℕ → Rc4
rounds key zero = box (below 256) 0 0
rounds key (suc i) = round key i (rounds key i)

-- the state of a key: all rounds, "then i = j = 0"
unfoldable pub key_schedule : List ℕ → Rc4
key_schedule key = box (rounds key 256).cells 0 0

-- "a draw: i + 1", mod 256
unfoldable pub next_i : Rc4 → ℕ
next_i s = (s.i + 1) % 256

-- "j + box[i]", mod 256
unfoldable pub next_j : Rc4 → ℕ
next_j s = (s.j + get_or s.cells (next_i s) 0) % 256

-- "change places": the state after a draw
unfoldable pub step : Rc4 → Rc4
step s = box (swap s.cells (next_i s) (next_j s)) (next_i s) (next_j s)

-- "and give box[box[i] + box[j]], all mod 256": the octet that a draw from s gives
unfoldable pub drawn : Rc4 → ℕ
drawn s = get_or (step s).cells ((get_or (step s).cells (step s).i 0 + get_or (step s).cells (step s).j 0) % 256) 0

-- a text, each octet xored with a draw
unfoldable pub run : Rc4 → List ℕ → List ℕ
run s [] = []
run s (x ∷ xs) = bit_xor x (drawn s) ∷ run (step s) xs

-- the state after a text
unfoldable pub after : Rc4 → List ℕ → Rc4
after s [] = s
after s (x ∷ xs) = after (step s) xs

-- n stands in one of the cells
unfoldable pub among : ℕ → List ℕ → Bool
among n [] = false
among n (x ∷ xs) = eqb x n || among n xs

-- every number below n does
unfoldable pub all_among : ℕ → List ℕ → Bool
all_among zero cells = true
all_among (suc n) cells = all_among n cells && among n cells

-- "the box a permutation" (02, M-103): 256 cells, and every number from 0 to 255 stands in one of them
unfoldable pub permutation : List ℕ → Bool
permutation cells = eqb (length cells) 256 && all_among 256 cells

-- "0 to 255 in order, indices 0": the state that a key schedule starts from
abbrev pub unkeyed : Rc4
unkeyed = box (below 256) 0 0

-- cells that are the numbers from n to 255, in order
unfoldable pub in_order : ℕ → List ℕ → Bool
in_order n [] = eqb n 256
in_order n (x ∷ xs) = eqb x n && in_order (n + 1) xs

-- whether a state is that one
unfoldable pub is_unkeyed : Rc4 → Bool
is_unkeyed s = eqb s.i 0 && eqb s.j 0 && in_order 0 s.cells
