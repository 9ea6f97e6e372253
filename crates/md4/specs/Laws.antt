-- What callers need: a text within the limit is answered with its digest, of 16 octets.
use Rattle.std.specs.Prelude.{◌≡◌, refl, List, ℕ, ◌≤◌, length}
use Rattle.std.proofs.Common.{le-ltb, Ok}
use Rattle.octets.specs.Octets.{longest_text}
use Rattle.md4.specs.Md4.{md4, md4_answer}

pub md4_done : (m : List ℕ) → length m ≤ longest_text → md4_answer m ≡ Ok (md4 m)
unfolding md4_answer
md4_done m h = rw (le-ltb longest_text (length m) h)

pub md4_length : (m : List ℕ) → length (md4 m) ≡ 16
unfolding md4
md4_length m = refl
