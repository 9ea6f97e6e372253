-- From a whole user name to a refusal or the octets that are hashed (RFC 2759, sections 4 and 8.2; 02, M-100).
use Rattle.std.specs.Prelude.{Bool, false, ◌||◌, List, [], ◌∷◌, ℕ, eqb, ltb, length}
use Rattle.answer.specs.Answer.{size, pick}
use Rattle.mschap.specs.Lengths.{longest_name}

-- what stands between a domain and a user name: "BIGCO\johndoe"
abbrev pub backslash : ℕ
backslash = 0x5C

-- whether an octet is among others
unfoldable pub holds : ℕ → List ℕ → Bool
holds x [] = false
holds x (y ∷ ys) = eqb y x || holds x ys

-- what follows the first of an octet among others
unfoldable pub following : ℕ → List ℕ → List ℕ
following x [] = []
following x (y ∷ ys) = pick (eqb y x) ys (following x ys)

-- 8.2: "Only the user name (as presented by the peer and excluding any prepended domain name)";
-- "Where a name holds 0x5C, hash only what follows the first one"
unfoldable pub hashed_name : List ℕ → List ℕ
hashed_name name = pick (holds backslash name) (following backslash name) name

-- "the limit of 256 is still tested on the whole name, first"
abbrev pub name_rows : List ℕ → List (ℕ × Bool)
name_rows name = (size, ltb longest_name (length name)) ∷ []
