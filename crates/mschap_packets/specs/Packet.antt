-- Challenge and Response packets (RFC 1994, section 4.1; RFC 2759, sections 3 and 4), as 01, "MS-CHAPv2", condenses them.
use Rattle.std.specs.Prelude.{Bool, not, ◌||◌, List, [], ◌∷◌, ◌++◌, ℕ, ◌+◌, ◌*◌, ◌-◌, eqb, ltb, length, take, drop, get_or, replicate, Result}
use Rattle.std.specs.List.{list_any}
use Rattle.answer.specs.declared.Refusal.{Refusal}
use Rattle.answer.specs.Answer.{shape, room, size, first_of, on_done, result_of, wrong}
use Rattle.octets.specs.Octets.{big_endian, written}
use Rattle.mschap_packets.specs.declared.Kind.{Kind}
use Rattle.mschap_packets.specs.declared.Kind.TheVariants as kinds
use Rattle.mschap_packets.specs.declared.Challenge.{Challenge}
use Rattle.mschap_packets.specs.declared.Response.{Response}

-- "Challenge: 16. NT-Response: 24.", "Name: 0 to 256" (01, "Lengths")
abbrev pub challenge_length : ℕ
challenge_length = 16

abbrev pub response_length : ℕ
response_length = 24

abbrev pub longest_name : ℕ
longest_name = 256

-- "Challenge: code 1", "Response: code 2"
abbrev pub packet_code : Kind → ℕ
packet_code kinds.Challenge = 1
packet_code kinds.Response = 2

-- "size 16", "size 49"
abbrev pub value_size : Kind → ℕ
value_size kinds.Challenge = 16
value_size kinds.Response = 49

-- the octets in front of a value: one of code, one of identifier, two of length, one of value size
abbrev pub header_length : ℕ
header_length = 5

-- "length at least 21", "length at least 54"
abbrev pub least_length : Kind → ℕ
least_length kind = header_length + value_size kind

-- "code, identifier, length (2, high octet first), value size", in front of the value
unfoldable pub header : (kind : Kind) (identifier n : ℕ) → List ℕ
header kind identifier n = packet_code kind ∷ identifier ∷ big_endian 2 n ++ value_size kind ∷ []

-- a packet with its value and name
unfoldable pub packet_of : (kind : Kind) (identifier : ℕ) (value name : List ℕ) → List ℕ
packet_of kind identifier value name = header kind identifier (least_length kind + length name) ++ value ++ name

-- a Response's value: "peer challenge 16, zero 8, NT-Response 24, zero 1"
unfoldable pub response_value : (peer response : List ℕ) → List ℕ
response_value peer response = peer ++ replicate 8 0 ++ response ++ replicate 1 0

-- n octets from a place of a packet on
abbrev pub part : (at n : ℕ) (packet : List ℕ) → List ℕ
part at n packet = take n (drop at packet)

-- the length that a packet names
abbrev pub length_field : List ℕ → ℕ
length_field packet = get_or packet 2 0 * 256 + get_or packet 3 0

-- the octets that are reserved, by their places in a packet: a Response has eight and one
abbrev pub reserved : Kind → List ℕ → List ℕ
reserved kinds.Challenge packet = []
reserved kinds.Response packet = part 21 8 packet ++ part 53 1 packet

-- whether one of them is not zero
abbrev pub any_set : List ℕ → Bool
any_set octets = list_any (λ octet. not (eqb octet 0)) octets

-- what is asked of a packet: "Packet readers: 1, 3"
abbrev pub read_rows : Kind → List ℕ → List (ℕ × Bool)
read_rows kind packet =
    (shape, ltb (length packet) (least_length kind))
    ∷ (shape, not (eqb (get_or packet 0 0) (packet_code kind)))
    ∷ (shape, not (eqb (get_or packet 4 0) (value_size kind)))
    ∷ (shape, ltb (length_field packet) (least_length kind))
    ∷ (shape, ltb (length packet) (length_field packet))
    ∷ (shape, any_set (reserved kind packet))
    ∷ (size, ltb longest_name (length_field packet - least_length kind))
    ∷ []

-- the code answered for a packet to be read
unfoldable pub read_code : Kind → List ℕ → ℕ
read_code kind packet = first_of (read_rows kind packet)

-- a Challenge read: its value is its challenge
unfoldable pub challenge_read : List ℕ → Result Challenge Refusal
challenge_read packet =
    result_of (read_code kinds.Challenge packet)
    (record { identifier = get_or packet 1 0; value = part header_length challenge_length packet })

-- a Response read: peer challenge and NT-Response by their places in the packet
unfoldable pub response_read : List ℕ → Result Response Refusal
response_read packet =
    result_of (read_code kinds.Response packet)
    (record {
      identifier = get_or packet 1 0;
      peer_challenge = part header_length challenge_length packet;
      nt_response = part 29 response_length packet;
    })

-- the name: "that part of the caller's packet", from the end of the value to the length field; "a refused packet gives the empty part";
-- "The part returned from a packet stays the whole name" (02, M-100)
unfoldable pub name_of : Kind → List ℕ → List ℕ
name_of kind packet =
    on_done (read_code kind packet) (part (least_length kind) (length_field packet - least_length kind) packet) []

-- where that part begins in the packet: behind the value; the empty part of a refused packet is its front
unfoldable pub name_at : Kind → List ℕ → ℕ
name_at kind packet = on_done (read_code kind packet) (least_length kind) 0

-- what is asked of a packet to be written, with or without a wrong length in its value: "Packet writers: 3, 2"
abbrev pub write_rows : (wrong_value : Bool) (packet name out : List ℕ) → List (ℕ × Bool)
write_rows wrong_value packet name out =
    (size, wrong_value) ∷ (size, ltb longest_name (length name)) ∷ (room, ltb (length out) (length packet)) ∷ []

-- the code answered for a packet to be written
unfoldable pub write_code : (wrong_value : Bool) (packet name out : List ℕ) → ℕ
write_code wrong_value packet name out = first_of (write_rows wrong_value packet name out)

-- the lent buffer, with the packet in front where it is written
unfoldable pub write_out : (wrong_value : Bool) (packet name out : List ℕ) → List ℕ
write_out wrong_value packet name out = on_done (write_code wrong_value packet name out) (written packet out) out

-- a Challenge written
unfoldable pub challenge_code : (identifier : ℕ) (challenge name out : List ℕ) → ℕ
challenge_code identifier challenge name out =
    write_code (wrong challenge_length challenge) (packet_of kinds.Challenge identifier challenge name) name out

unfoldable pub challenge_out : (identifier : ℕ) (challenge name out : List ℕ) → List ℕ
challenge_out identifier challenge name out =
    write_out (wrong challenge_length challenge) (packet_of kinds.Challenge identifier challenge name) name out

-- a Response written
unfoldable pub response_code : (identifier : ℕ) (peer response name out : List ℕ) → ℕ
response_code identifier peer response name out =
    write_code (wrong challenge_length peer || wrong response_length response)
    (packet_of kinds.Response identifier (response_value peer response) name)
    name
    out

unfoldable pub response_out : (identifier : ℕ) (peer response name out : List ℕ) → List ℕ
response_out identifier peer response name out =
    write_out (wrong challenge_length peer || wrong response_length response)
    (packet_of kinds.Response identifier (response_value peer response) name)
    name
    out
