-- What only private functions promise.
use Rattle.std.specs.Prelude.{List, ◌++◌, ℕ, Result}
use Rattle.answer.specs.declared.Refusal.{Refusal}
use Rattle.answer.specs.Answer.{result_of}
use Rattle.sha256.specs.Sha256.{sha256_code, sha256}
use Rattle.sha256.specs.Hmac.{key_block}

-- a key as one block
unfoldable pub block_answer : List ℕ → Result (List ℕ) Refusal
block_answer key = result_of (sha256_code key) (key_block key)

-- the digest of a block and a text behind it
unfoldable pub behind_answer : (block text : List ℕ) → Result (List ℕ) Refusal
behind_answer block text = result_of (sha256_code text) (sha256 (block ++ text))
