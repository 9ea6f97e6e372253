-- CCP's Reset-Request (RFC 1962, 3.3, in 02's words, M-103): "CCP code 14, length 4, four octets, else 1".
use Rattle.std.specs.Prelude.{Bool, not, List, [], ◌∷◌, ℕ, eqb, ltb, length, get_or, Result}
use Rattle.answer.specs.declared.Refusal.{Refusal}
use Rattle.answer.specs.Answer.{shape, room, wrong, first_of, on_done, result_of}
use Rattle.octets.specs.Octets.{big_endian, pair_at, written}

abbrev pub reset_request : ℕ
reset_request = 14

abbrev pub reset_length : ℕ
reset_length = 4

-- the request with an identifier
unfoldable pub reset_octets : ℕ → List ℕ
reset_octets identifier = reset_request ∷ identifier ∷ big_endian 2 reset_length

-- the rows of a request that is read
abbrev pub reset_rows : List ℕ → List (ℕ × Bool)
reset_rows request =
    (shape, wrong reset_length request)
    ∷ (shape, not (eqb (get_or request 0 0) reset_request))
    ∷ (shape, not (eqb (pair_at 2 request) reset_length))
    ∷ []

unfoldable pub reset_code : List ℕ → ℕ
reset_code request = first_of (reset_rows request)

-- the identifier of one that is not refused
unfoldable pub reset_answer : List ℕ → Result ℕ Refusal
reset_answer request = result_of (reset_code request) (get_or request 1 0)

-- what is answered to a buffer that it is written into, and the buffer then
unfoldable pub write_reset_code : List ℕ → ℕ
write_reset_code out = first_of ((room, ltb (length out) reset_length) ∷ [])

unfoldable pub write_reset_out : ℕ → List ℕ → List ℕ
write_reset_out identifier out = on_done (write_reset_code out) (written (reset_octets identifier) out) out
