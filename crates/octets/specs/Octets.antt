-- Octets: numbers as octets in either order, results written into a lent buffer, and texts compared.
use Rattle.std.specs.Prelude.{ℕ, zero, suc, ◌+◌, ◌*◌, ◌/◌, ◌%◌, ◌^◌, ◌<◌, Bool, true, false, ◌&&◌, List, [], ◌∷◌, ◌++◌, reverse, length, take, drop, ◌==◌, nat_le, slice_index}
use Rattle.answer.specs.Answer.{pick}
use Rattle.octets.specs.declared.Order.{Order}
use Rattle.octets.specs.declared.Order.TheVariants.{HighestFirst, LowestFirst}

-- a list of octets, as every slice of them is one
abbrev pub Octets : List ℕ → Type 0
Octets l = (i : ℕ) → slice_index l i < 256

-- n as k octets, highest first
abbrev pub big_endian : ℕ → ℕ → List ℕ
big_endian zero n = []
big_endian (suc k) n = n / 256 ^ k % 256 ∷ big_endian k n

-- n as k octets, lowest first
abbrev pub little_endian : ℕ → ℕ → List ℕ
little_endian k n = reverse (big_endian k n)

-- n as k octets in the order named
abbrev pub octets_of : Order → ℕ → ℕ → List ℕ
octets_of HighestFirst k n = big_endian k n
octets_of LowestFirst k n = little_endian k n

-- words of 32 bits, one behind the other, as octets
abbrev pub words_of : Order → List ℕ → List ℕ
words_of order [] = []
words_of order (w ∷ ws) = octets_of order 4 w ++ words_of order ws

-- the number of octets, highest first; `joined` has those before them as a number already
abbrev pub joined : ℕ → List ℕ → ℕ
joined n [] = n
joined n (x ∷ xs) = joined (n * 256 + x) xs

abbrev pub from_big_endian : List ℕ → ℕ
from_big_endian [] = 0
from_big_endian (x ∷ xs) = joined x xs

-- the number of the two octets from a place on, highest first
abbrev pub pair_at : ℕ → List ℕ → ℕ
pair_at i l = from_big_endian (slice_index l i ∷ slice_index l (i + 1) ∷ [])

-- the word of 32 bits whose octets are those at i to i + 3, highest first
abbrev pub word_be : List ℕ → ℕ → ℕ
word_be b i = from_big_endian (slice_index b i ∷ slice_index b (i + 1) ∷ slice_index b (i + 2) ∷ slice_index b (i + 3) ∷ [])

-- the word of 32 bits whose octets are those at i to i + 3, lowest first
abbrev pub word_le : List ℕ → ℕ → ℕ
word_le b i = from_big_endian (slice_index b (i + 3) ∷ slice_index b (i + 2) ∷ slice_index b (i + 1) ∷ slice_index b i ∷ [])

-- a lent buffer with a result in front, and the rest as it was
abbrev pub written : (result buffer : List ℕ) → List ℕ
written result buffer = result ++ drop (length result) buffer

-- a lent buffer with a result from a place on, and the rest as it was
abbrev pub written_at : (at : ℕ) (result buffer : List ℕ) → List ℕ
written_at at result buffer = take at buffer ++ written result (drop at buffer)

-- the first where the result has room, and otherwise the buffer as it was
abbrev pub written_if_room : (result buffer : List ℕ) → List ℕ
written_if_room result buffer = pick (nat_le (length result) (length buffer)) (written result buffer) buffer

-- two texts are the same, octet by octet
unfoldable pub equal : (a b : List ℕ) → Bool
equal [] [] = true
equal [] (y ∷ ys) = false
equal (x ∷ xs) [] = false
equal (x ∷ xs) (y ∷ ys) = x == y && equal xs ys

-- the place in memory so many octets behind another: a block, and an octet in it
abbrev pub onward : (n : ℕ) (place : ℕ × ℕ) → ℕ × ℕ
onward n place = (place.0, n + place.1)

-- the longest text of a digest, an HMAC or RC4, and the longest key of an HMAC (01, "Lengths")
abbrev pub longest_text : ℕ
longest_text = 65535
