-- What only private functions promise: what the code has in place of the tables of the standard.
use Rattle.std.specs.Prelude.{◌≡◌, List, [], ℕ, ◌+◌, ◌-◌, ◌*◌, ◌/◌, ◌%◌, ◌^◌, ◌<◌, ◌≤◌, length, get_or}
use Rattle.des.specs.Des.{selected}

-- R between its last bit and its first: each group of E(R) is six neighbours in it
abbrev pub ring : ℕ → ℕ
ring r = r % 2 * 2 ^ 33 + r * 2 + r / 2 ^ 31

-- numbers of bits of a block of w bits
pub record InBlock (w : ℕ) (row : List ℕ) : Type 0 where
  pub wide : w ≤ 64
  pub rule : (j : ℕ) → j < length row → (0 < get_or row j 0) × (get_or row j 0 ≤ w)

-- a table of them, of at most eight rows
pub record Places (w : ℕ) (table : List (List ℕ)) : Type 0 where
  pub few : length table ≤ 8
  pub rule : (i : ℕ) → i < length table → InBlock w (get_or table i [])

-- a table's selection from blocks of w bits, by n groups of four bits that stand p places from the right: a word for each group and
-- each of its sixteen values, whose bits stand q places to the right of where they belong
abbrev pub Parts : (w : ℕ) (table : List ℕ) (n p q : ℕ) (parts : List (List ℕ)) → Type 0
Parts w table n p q parts =
    (i v : ℕ) → i < n → v < 16 → get_or (get_or parts i []) v 0 * 2 ^ q ≡ selected w table (v * 2 ^ (p + 4 * (n - (i + 1))))
