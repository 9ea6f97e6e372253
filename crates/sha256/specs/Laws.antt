-- What callers need: texts within the limit are answered with their digest or code, of 32 octets.
use Rattle.std.specs.Prelude.{◌≡◌, refl, List, ℕ, ◌≤◌, length}
use Rattle.std.proofs.Common.{le-ltb, Ok}
use Rattle.octets.specs.Octets.{longest_text}
use Rattle.sha256.specs.Sha256.{sha256, sha256_answer}
use Rattle.sha256.specs.Hmac.{hmac, hmac_answer}

pub sha256_done : (m : List ℕ) → length m ≤ longest_text → sha256_answer m ≡ Ok (sha256 m)
unfolding sha256_answer
sha256_done m h = rw (le-ltb longest_text (length m) h)

pub hmac_done : (key text : List ℕ) → length key ≤ longest_text → length text ≤ longest_text → hmac_answer key text ≡ Ok (hmac key text)
unfolding hmac_answer
hmac_done key text hk ht = rw (le-ltb longest_text (length key) hk, le-ltb longest_text (length text) ht)

pub sha256_length : (m : List ℕ) → length (sha256 m) ≡ 32
unfolding sha256
sha256_length m = refl

pub hmac_length : (key text : List ℕ) → length (hmac key text) ≡ 32
unfolding hmac sha256
hmac_length key text = refl
