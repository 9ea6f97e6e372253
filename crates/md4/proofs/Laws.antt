-- An operation, and a block's rounds together.
use Rattle.std.proofs.Common.{◌≡◌, ◌∙◌, ℕ, ◌*◌, ◌<◌, ◌/◌, ◌%◌, ◌^◌, List, [], ◌∷◌, Bool, ltb, eqb, eqb→eq, ◌&&◌, get_or, arith}
use Rattle.std.proofs.Math.Facts.{and_yes, ltb_yes}
use Rattle.std.specs.Int.{w32, rotate_left}
use Rattle.octets.specs.Octets.{word_le}
use Rattle.octets.specs.Words.{◌⊞◌, rotl}
use Rattle.octets.specs.Below.{below}
use Rattle.blocks.specs.Blocks.{rounds}
use Rattle.blocks.specs.Laws.{add_swap, rotated_left, rounds_add}
use Rattle.md4.specs.Md4.{mixed, constant, places, shift, operation, added, compress}
use Rattle.md4.specs.declared.State.{State}

-- each place is the code's, and one of the sixteen words, by one test of them all
abbrev pub place : ℕ → ℕ
place t = get_or (0xfedcba9876543210 ∷ 0xfb73ea62d951c840 ∷ 0xf7b3d591e6a2c480 ∷ []) (t / 16) 0 / 2 ^ (4 * (t % 16)) % 16

placed : ℕ → Bool
placed t = eqb (place t) (get_or places t 0)

pub place_is : {x : ℕ} (t : ℕ) → t < 48 → x ≡ place t → (x ≡ get_or places t 0) × (x < 16)
unfolding places placed
place_is t h e = (e ∙ eqb→eq (place t) (get_or places t 0) (below placed 48 tt t h), omega arith)

-- and each rotation is by some places, not all
in_word : ℕ → Bool
in_word t = ltb 0 (shift t) && ltb (shift t) 32

pub shift_small : (t : ℕ) → t < 48 → (0 < shift t) × (shift t < 32)
unfolding shift in_word
shift_small t h =
    let (low, high) = and_yes (ltb 0 (shift t)) (ltb (shift t) 32) (below in_word 48 tt t h) in
    (ltb_yes low, ltb_yes high)

-- an operation, with the function's result added last
added_last : (a m w k : ℕ) → a ⊞ w ⊞ k ⊞ m ≡ a ⊞ m ⊞ w ⊞ k
added_last a m w k = rw (add_swap a m w, add_swap (a ⊞ w) m k)

pub operated : {p w k m n r : ℕ} (s : State) (block : List ℕ) (t : ℕ) → t < 48 → p ≡ get_or places t 0 → w ≡ word_le block (4 * p) → k ≡ constant t
    → m ≡ mixed t s.b s.c s.d → n ≡ shift t → r ≡ rotate_left w32 (s.a ⊞ w ⊞ k ⊞ m) n
    → ◌≡◌ {A = State} (record { a = s.d; b = r; c = s.b; d = s.c }) (operation block t s)
unfolding operation
operated {w = w} {k} {m} {r = r} s block t h ep ew ek em en er =
    let (low, high) = shift_small t h in
    let turned : r ≡ rotl (shift t) (s.a ⊞ w ⊞ k ⊞ m) = er ∙ rw en (rotated_left (shift t) (s.a ⊞ w ⊞ k ⊞ m) low high) in
    rw
    (turned, ew, ep, ek, em, added_last s.a (mixed t s.b s.c s.d) (word_le block (4 * get_or places t 0)) (constant t))

-- three rounds, added to the words before
pub block_done : {s₁ s₂ s₃ r : State} (s : State) (block : List ℕ) → s₁ ≡ rounds (operation block) 0 16 s → s₂ ≡ rounds (operation block) 16 16 s₁
    → s₃ ≡ rounds (operation block) 32 16 s₂ → r ≡ added s s₃ → r ≡ compress s block
unfolding compress
block_done s block e₁ e₂ e₃ er =
    rw (er, e₃, e₂, e₁, rounds_add (operation block) 0 16 16 s, rounds_add (operation block) 0 32 16 s)
