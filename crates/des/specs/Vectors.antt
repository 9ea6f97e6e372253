-- A known answer, computed from the definitions alone.
use Rattle.std.specs.Prelude.{◌≡◌, refl, [], ◌∷◌, Ok}
use Rattle.des.specs.Des.{encrypt_answer, encrypted, enciphered, cipher_function, subkey, iterated, half, substituted, selected}
use Rattle.des.specs.Tables.{initial, inverse, expansion, permutation, boxes, choice1_c, choice1_d, choice2, shifts}

pub vector :
    encrypt_answer (0x12 ∷ 0x69 ∷ 0x5b ∷ 0xc9 ∷ 0xb7 ∷ 0xb7 ∷ 0xf8 ∷ []) (0x01 ∷ 0x23 ∷ 0x45 ∷ 0x67 ∷ 0x89 ∷ 0xab ∷ 0xcd ∷ 0xef ∷ [])
    ≡ Ok (0x85 ∷ 0xe8 ∷ 0x13 ∷ 0x54 ∷ 0x0f ∷ 0x0a ∷ 0xb4 ∷ 0x05 ∷ [])
unfolding encrypt_answer encrypted enciphered cipher_function subkey iterated half substituted selected initial inverse expansion permutation boxes choice1_c choice1_d choice2 shifts
vector = refl
