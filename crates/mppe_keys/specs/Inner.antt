-- What only private functions promise.
use Rattle.std.specs.Prelude.{◌≡◌, List, ◌++◌, ℕ, length}
use Rattle.mppe_keys.specs.declared.Strength.{Strength}
use Rattle.mppe_keys.specs.Keys.{key_length, key_text, changes}

-- a hashed text that holds a start and a session key has, n key changes later, the new session key in place of the old
unfoldable pub Changed : Strength → ℕ → List ℕ → List ℕ → Type 0
Changed s n text text' =
    (start session rest : List ℕ) → length start ≡ key_length s → length session ≡ key_length s → text ≡ key_text start session ++ rest
    → text' ≡ key_text start (changes s start n session) ++ rest
