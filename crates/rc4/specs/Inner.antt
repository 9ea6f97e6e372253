-- What the contracts of functions over a box in place, of words, say beside RC4's own definitions.
use Rattle.std.specs.Prelude.{◌≡◌, Bool, List, [], ◌∷◌, ℕ, ◌+◌, ◌*◌, ◌%◌, ◌^◌, ◌<◌, ◌≤◌, length, get_or}
use Rattle.std.specs.Int.Bits.{bit_xor}
use Rattle.answer.specs.Answer.{pick}
use Rattle.octets.specs.Octets.{written}
use Rattle.rc4.specs.declared.Rc4.{Rc4}
use Rattle.rc4.specs.Cipher.{box, run, after, among}

-- the state of a box whose indices are carried on without being wrapped mod 256
abbrev pub wrapped : List ℕ → ℕ → ℕ → Rc4
wrapped cells i j = box cells (i % 256) (j % 256)

-- the cell that a draw from place i reads first
abbrev pub first_cell : List ℕ → ℕ → ℕ
first_cell cells i = get_or cells ((i + 1) % 256) 0

-- two lists, xored octet by octet as far as both go
abbrev pub xors : List ℕ → List ℕ → List ℕ
xors [] ys = []
xors (x ∷ xs) [] = []
xors (x ∷ xs) (y ∷ ys) = bit_xor x y ∷ xors xs ys

-- 256 cells, each of them an octet
pub record OctetCells (cells : List ℕ) : Type 0 where
  pub long : length cells ≡ 256
  pub octets : (k : ℕ) → get_or cells k 0 < 256

-- what a loop over a text asks: a box, indices with room to be carried on over the text, a buffer with room for it
pub record Ready (cells : List ℕ) (i j : ℕ) (text out : List ℕ) : Type 0 where
  pub whole : OctetCells cells
  pub i_near : i + length text < 2 ^ 30
  pub j_near : j + 255 * length text < 2 ^ 30
  pub room : length text ≤ length out

-- what it ensures of the box, the next j and the buffer
pub record Finished (cells : List ℕ) (i j : ℕ) (text out cells' : List ℕ) (j' : ℕ) (out' : List ℕ) : Type 0 where
  pub wrote : out' ≡ written (run (wrapped cells i j) text) out
  pub stepped : wrapped cells' (i + length text) j' ≡ after (wrapped cells i j) text
  pub whole : OctetCells cells'
  pub near : j' ≤ j + 255 * length text

-- marks for the numbers below 256: 1 where the number stands in one of the cells, else 0
abbrev pub mark : Bool → ℕ
mark here = pick here 1 0

unfoldable pub Marked : (cells marks : List ℕ) → Type 0
Marked cells marks = (length marks ≡ 256) × ((n : ℕ) → n < 256 → get_or marks n 0 ≡ mark (among n cells))
