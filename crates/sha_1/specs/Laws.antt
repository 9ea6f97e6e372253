-- What callers need: a text within the limit is answered with its digest, of 20 octets.
use Rattle.std.specs.Prelude.{◌≡◌, refl, List, ℕ, ◌≤◌, length}
use Rattle.std.proofs.Common.{le-ltb, Ok}
use Rattle.octets.specs.Octets.{longest_text}
use Rattle.sha_1.specs.Sha1.{sha1, sha1_answer}

pub sha1_done : (m : List ℕ) → length m ≤ longest_text → sha1_answer m ≡ Ok (sha1 m)
unfolding sha1_answer
sha1_done m h = rw (le-ltb longest_text (length m) h)

pub sha1_length : (m : List ℕ) → length (sha1 m) ≡ 20
unfolding sha1
sha1_length m = refl
