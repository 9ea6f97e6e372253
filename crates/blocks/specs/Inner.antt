-- What the code of the digests promises.
use Rattle.std.specs.Prelude.{◌≡◌, List, [], ◌∷◌, ◌++◌, ℕ, ◌+◌, ltb, length, Result}
use Rattle.answer.specs.declared.Refusal.{Refusal}
use Rattle.answer.specs.Answer.{size, first_of, result_of}
use Rattle.octets.specs.declared.Order.{Order}
use Rattle.octets.specs.Octets.{longest_text}
use Rattle.blocks.specs.Blocks.{padding, absorbed, ending, tail_of}

-- a buffer that holds a message's last blocks, n octets of it
abbrev pub HoldsTail : Order → List ℕ → (bits n : ℕ) (buffer : List ℕ) → Type 0
HoldsTail order m bits n buffer = (n ≡ length (ending order m bits)) × (buffer ≡ tail_of order m bits)

module _ {S : Type 0} (compress : S → List ℕ → S) where
  -- the hash value of a message that goes on behind `prior` octets, whole blocks that gave s: for code that keeps no message whole
  unfoldable pub closed : Order → S → ℕ → List ℕ → S
  closed order s prior m = absorbed compress s (m ++ padding order (prior + length m))

  -- the same, where a text that is too long is refused
  unfoldable pub closed_answer : Order → S → ℕ → List ℕ → Result S Refusal
  closed_answer order s prior m = result_of (first_of ((size, ltb longest_text (length m)) ∷ [])) (closed order s prior m)
