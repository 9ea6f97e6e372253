-- What callers need: a key and a block of the right lengths are answered with the block enciphered, of 8 octets; and of any answer its number, and
-- its octets, which are 0 where it is a refusal.
use Rattle.std.specs.Prelude.{◌≡◌, refl, List, [], ◌∷◌, ℕ, length, replicate, Ok}
use Rattle.answer.specs.Answer.{size, wrong, on_done, number_of, value_of}
use Rattle.answer.specs.Laws.{right, number_first, value_result}
use Rattle.des.specs.Des.{encrypted, key_octets, block_octets, encrypt_code, encrypt_answer}

pub encrypt_done : (key block : List ℕ) → length key ≡ key_octets → length block ≡ block_octets → encrypt_answer key block ≡ Ok (encrypted key block)
unfolding encrypt_answer
encrypt_done key block hk hb = rw (right key_octets key hk, right block_octets block hb)

pub encrypted_length : (key block : List ℕ) → length (encrypted key block) ≡ block_octets
unfolding encrypted
encrypted_length key block = refl

pub encrypt_number : (key block : List ℕ) → number_of (encrypt_answer key block) ≡ encrypt_code key block
unfolding encrypt_answer
encrypt_number key block = number_first {A = List ℕ} ((size, wrong key_octets key) ∷ (size, wrong block_octets block) ∷ []) (encrypted key block) refl

pub encrypt_octets : (key block : List ℕ) → value_of (replicate block_octets 0) (encrypt_answer key block)
    ≡ on_done (encrypt_code key block) (encrypted key block) (replicate block_octets 0)
unfolding encrypt_answer
encrypt_octets key block = value_result (encrypt_code key block) (encrypted key block) (replicate block_octets 0)
