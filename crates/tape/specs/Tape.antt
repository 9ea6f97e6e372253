-- The bench tape, in the order and words of 02, M-109, with the limits of M-110. `k` is the largest number of groups, `most` the longest packet.
use Rattle.std.specs.Prelude.{◌≡◌, Bool, false, not, ◌↔◌, List, [], ◌∷◌, ◌++◌, ℕ, zero, suc, ◌+◌, ◌*◌, ◌-◌, ◌/◌, ◌%◌, ◌^◌, ◌<◌, eqb, ltb, length, take, drop, get_or, Result}
use Rattle.answer.specs.declared.Refusal.{Refusal}
use Rattle.answer.specs.Answer.{done, shape, room, size, pick, outside, first_of, on_done, result_of}
use Rattle.octets.specs.Octets.{Octets, written}
use Rattle.mppe.specs.Link.{front, shortest_plain, longest_plain}
use Rattle.tape.specs.declared.Next.{Next}

-- "The tape is octet 1, then records"
abbrev pub first_octet : ℕ
first_octet = 1

-- "Lengths 6 to" 32,002, those of sealed packets: "Plain packets go to 31,998, sealed to 32,002"
abbrev pub shortest_packet : ℕ
shortest_packet = front + shortest_plain

abbrev pub longest_packet : ℕ
longest_packet = front + longest_plain

-- "A fourth group is 1"
abbrev pub most_groups : ℕ
most_groups = 3

-- "length as groups of seven bits, lowest first, top bit set when more follows, shortest form only": of a length below 128 ^ k
unfoldable pub groups : (k n : ℕ) → List ℕ
groups zero n = []
groups (suc k) n = pick (ltb n 128) (n ∷ []) ((128 + n % 128) ∷ groups k (n / 128))

-- a tape begun: 2 where there is no octet for it
unfoldable pub begin_code : (out : List ℕ) → ℕ
begin_code out = first_of ((room, ltb (length out) 1) ∷ [])

unfoldable pub begin_answer : (out : List ℕ) → Result (Unit {0}) Refusal
begin_answer out = result_of (begin_code out) tt

unfoldable pub begin_out : (out : List ℕ) → List ℕ
begin_out out = on_done (begin_code out) (written (first_octet ∷ []) out) out

module _ (k : ℕ) where
  -- how many octets the record of a packet of n octets has
  abbrev pub record_size : ℕ → ℕ
  record_size n = length (groups k n) + n

  -- "records: length ..; then the packet"
  unfoldable pub record_of : List ℕ → List ℕ
  record_of packet = groups k (length packet) ++ packet

  unfoldable pub records_of : List (List ℕ) → List ℕ
  records_of [] = []
  records_of (p ∷ ps) = record_of p ++ records_of ps

  -- the tape of a list of packets
  unfoldable pub tape_of : List (List ℕ) → List ℕ
  tape_of ps = first_octet ∷ records_of ps

  module _ (most : ℕ) where
    -- "Writing another length is 1, before 2"
    unfoldable pub write_code : (packet out : List ℕ) → ℕ
    write_code packet out =
        first_of ((shape, outside shortest_packet most (length packet)) ∷ (room, ltb (length out) (record_size (length packet))) ∷ [])

    -- how many octets it wrote, or its refusal, and the lent buffer after it
    unfoldable pub write_answer : (packet out : List ℕ) → Result ℕ Refusal
    write_answer packet out = result_of (write_code packet out) (record_size (length packet))

    unfoldable pub write_out : (packet out : List ℕ) → List ℕ
    write_out packet out = on_done (write_code packet out) (written (record_of packet) out) out

-- a group in front of what those behind it say; 0 where they say 0, which is "a longer form" or no length
abbrev pub with_low : (low high : ℕ) → ℕ
with_low low zero = 0
with_low low (suc high) = low + 128 * suc high

-- the length that the groups in front of some octets say; 0, which no packet has, where they are cut, more than k or a longer form
unfoldable pub length_in : (k : ℕ) (octets : List ℕ) → ℕ
length_in zero octets = 0
length_in (suc k) [] = 0
length_in (suc k) (g ∷ octets) = pick (ltb g 128) g (with_low (g - 128) (length_in k octets))

-- what a read gives: the number, the packet, empty where there is none, and the offset
pub record Read : Type 0 where
  pub answer : ℕ
  pub packet : List ℕ
  pub offset : ℕ

abbrev pub reading : (code : ℕ) (packet : List ℕ) (offset : ℕ) → Read
reading code packet offset = record { answer = code; packet = packet; offset = offset }

-- where its packet stands on the tape: it ends at the offset after it
unfoldable pub next_of : Read → Next
next_of r = record { answer = result_of r.answer tt; start = r.offset - length r.packet; offset = r.offset }

-- "before these, a missing or bad first octet is 1, then an offset of 0 or past the end 3"
abbrev pub place_rows : (tape : List ℕ) (offset : ℕ) → List (ℕ × Bool)
place_rows tape offset = (shape, not (eqb (get_or tape 0 0) first_octet)) ∷ (size, outside 1 (length tape) offset) ∷ []

module _ (k : ℕ) where
  -- the length that stands at an offset, and the packet behind it
  abbrev pub length_at : (tape : List ℕ) (offset : ℕ) → ℕ
  length_at tape offset = length_in k (drop offset tape)

  abbrev pub packet_at : (tape : List ℕ) (offset : ℕ) → List ℕ
  packet_at tape offset = take (length_at tape offset) (drop (offset + length (groups k (length_at tape offset))) tape)

  module _ (most : ℕ) where
    -- "Other lengths, a longer form, .. or a cut record are 1", and "A fourth group is 1"
    abbrev pub record_rows : (tape : List ℕ) (offset : ℕ) → List (ℕ × Bool)
    record_rows tape offset =
        (shape, outside shortest_packet most (length_at tape offset))
        ∷ (shape, ltb (length tape - offset) (record_size k (length_at tape offset)))
        ∷ []

    -- "gives the next packet .. and the offset after it", or 1 "with the same offset"
    unfoldable pub record_read : (tape : List ℕ) (offset : ℕ) → Read
    record_read tape offset =
        let code : ℕ = first_of (record_rows tape offset) in
        on_done code (reading done (packet_at tape offset) (offset + record_size k (length_at tape offset))) (reading code [] offset)

    -- "at the end 0, no packet and the same offset"; what is refused before these, "with offset 0"
    unfoldable pub read_at : (tape : List ℕ) (offset : ℕ) → Read
    read_at tape offset =
        let code : ℕ = first_of (place_rows tape offset) in
        on_done code (pick (eqb offset (length tape)) (reading done [] offset) (record_read tape offset)) (reading code [] 0)

-- the first where there is a packet, else the second
abbrev pub on_packet : {A : Type 0} (packet : List ℕ) (some none : A) → A
on_packet [] some none = none
on_packet (x ∷ xs) some none = some

-- what reading on gives: the packets, and the number and offset of the read that gives no more of them
pub record Contents : Type 0 where
  pub packets : List (List ℕ)
  pub answer : ℕ
  pub offset : ℕ

abbrev pub ended : Read → Contents
ended r = record { packets = []; answer = r.answer; offset = r.offset }

abbrev pub behind : List ℕ → Contents → Contents
behind packet c = record { packets = packet ∷ c.packets; answer = c.answer; offset = c.offset }

-- that of a tape which holds these packets and nothing else
abbrev pub holding : (tape : List ℕ) → List (List ℕ) → Contents
holding tape ps = record { packets = ps; answer = done; offset = length tape }

-- each length up to that of the longest packet has at most k groups
abbrev pub Fits : (k most : ℕ) → Type 0
Fits k most = most < 128 ^ k

-- packets that a tape can hold
unfoldable pub Writable : (most : ℕ) → List (List ℕ) → Type 0
Writable most [] = Unit {0}
Writable most (p ∷ ps) = (outside shortest_packet most (length p) ≡ false) × Writable most ps

module _ (k most : ℕ) where
  -- reads from an offset on, each at the offset that the last gave, until one gives no packet; n bounds their number
  unfoldable pub read_on : (n : ℕ) (tape : List ℕ) (offset : ℕ) → Contents
  read_on zero tape offset = ended (read_at k most tape offset)
  read_on (suc n) tape offset =
      let r : Read = read_at k most tape offset in
      on_packet r.packet (behind r.packet (read_on n tape r.offset)) (ended r)

  -- a tape has fewer records than octets
  abbrev pub read_from : (tape : List ℕ) (offset : ℕ) → Contents
  read_from tape offset = read_on (length tape) tape offset

  -- "offset, 1 at first"
  unfoldable pub contents : (tape : List ℕ) → Contents
  contents tape = read_from tape 1

  -- "Each list's tape, and no other, reads back to it."
  unfoldable pub ReadsBack : Type 0
  ReadsBack =
      (tape : List ℕ) (ps : List (List ℕ)) → Octets tape
      → (contents tape ≡ holding tape ps) ↔ (Writable most ps × (tape ≡ tape_of k ps))

  -- a record written behind a tape, into the rest of its buffer, makes the tape of one packet more
  unfoldable pub WritesNext : Type 0
  WritesNext =
      (ps : List (List ℕ)) (p rest : List ℕ) → write_code k most p rest ≡ done
      → take (length (tape_of k ps) + record_size k (length p)) (tape_of k ps ++ write_out k most p rest) ≡ tape_of k (ps ++ (p ∷ []))
