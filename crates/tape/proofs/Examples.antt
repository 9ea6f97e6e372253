-- The lengths that 02 writes out, and a read of each kind.
use Rattle.std.specs.Prelude.{◌≡◌, refl, true, List, [], ◌∷◌, ℕ}
use Rattle.answer.specs.Answer.{done, shape, size}
use Rattle.mppe.specs.declared.Link.{Link}
use Rattle.mppe.specs.Link.{longest_plain, farthest, well_formed, refusal, open_code, open_result}
use Rattle.tape.specs.Tape.{longest_packet, most_groups, groups, length_in, Read, reading, record_of, records_of, tape_of, record_read, read_at}
use Rattle.tape.specs.Replay.{Step, step_of, held, replay_step, replay}

-- a length beside its groups, written and read
abbrev Stands : ℕ → List ℕ → Type 0
Stands n l = (groups most_groups n ≡ l) × (length_in most_groups l ≡ n)

-- "127 is 7F, 128 is 80 01, 1,502 is DE 0B"; "16,384 is 80 80 01 and 32,002 is 82 FA 01"; and 16,383, the last in two groups
pub lengths :
    Stands 127 (0x7F ∷ []) × Stands 128 (0x80 ∷ 0x01 ∷ []) × Stands 1502 (0xDE ∷ 0x0B ∷ []) × Stands 16383 (0xFF ∷ 0x7F ∷ [])
    × Stands 16384 (0x80 ∷ 0x80 ∷ 0x01 ∷ []) × Stands 32002 (0x82 ∷ 0xFA ∷ 0x01 ∷ [])
unfolding groups length_in
lengths = ((refl, refl), (refl, refl), (refl, refl), (refl, refl), (refl, refl), (refl, refl))

-- a tape of two packets, of six octets and of seven
abbrev six : List ℕ
six = 1 ∷ 2 ∷ 3 ∷ 4 ∷ 5 ∷ 6 ∷ []

abbrev seven : List ℕ
seven = 9 ∷ 8 ∷ 7 ∷ 6 ∷ 5 ∷ 4 ∷ 3 ∷ []

abbrev tape : List ℕ
tape = 1 ∷ 6 ∷ 1 ∷ 2 ∷ 3 ∷ 4 ∷ 5 ∷ 6 ∷ 7 ∷ 9 ∷ 8 ∷ 7 ∷ 6 ∷ 5 ∷ 4 ∷ 3 ∷ []

pub two_packets : tape_of most_groups (six ∷ seven ∷ []) ≡ tape
unfolding tape_of records_of record_of groups
two_packets = refl

abbrev at : List ℕ → ℕ → Read
at = read_at most_groups longest_packet

-- "A read .. gives the next packet .. and the offset after it; at the end 0, no packet and the same offset"
pub read_through : (at tape 1 ≡ reading done six 8) × (at tape 8 ≡ reading done seven 16) × (at tape 16 ≡ reading done [] 16)
unfolding groups length_in read_at record_read
read_through = (refl, refl, refl)

-- "Other lengths" (5 and 32,003), "a longer form" (in two groups and in three), a fourth group "or a cut record" (in its packet, and in its
-- groups) "are 1, with the same offset"
pub bad_records :
    (at (1 ∷ 5 ∷ six) 1 ≡ reading shape [] 1) × (at (1 ∷ 0x83 ∷ 0xFA ∷ 0x01 ∷ six) 1 ≡ reading shape [] 1)
    × (at (1 ∷ 0x86 ∷ 0 ∷ six) 1 ≡ reading shape [] 1) × (at (1 ∷ 0x86 ∷ 0x80 ∷ 0 ∷ six) 1 ≡ reading shape [] 1)
    × (at (1 ∷ 0x86 ∷ 0x80 ∷ 0x80 ∷ 1 ∷ six) 1 ≡ reading shape [] 1)
    × (at (1 ∷ 7 ∷ six) 1 ≡ reading shape [] 1) × (at (1 ∷ 0x86 ∷ 0x80 ∷ []) 1 ≡ reading shape [] 1)
unfolding groups length_in read_at record_read
bad_records = (refl, refl, refl, refl, refl, refl, refl)

-- "before these, a missing or bad first octet is 1, then an offset of 0 or past the end 3, both with offset 0"
pub bad_places :
    (at [] 0 ≡ reading shape [] 0) × (at (2 ∷ []) 5 ≡ reading shape [] 0) × (at tape 0 ≡ reading size [] 0)
    × (at tape 17 ≡ reading size [] 0)
unfolding read_at
bad_places = (refl, refl, refl, refl)

-- an offset inside a record is read as it stands: octet 7 of this tape is the first one's last, and says the length of a packet of six
pub inside_record : at tape 7 ≡ reading done (7 ∷ 9 ∷ 8 ∷ 7 ∷ 6 ∷ 5 ∷ []) 14
unfolding groups length_in read_at record_read
inside_record = refl

-- a replay of the tape with any well-formed record: neither packet begins with 00 FD, so both are refused with 1, record and room stay, and
-- the offset goes on all the same
module _ (l : Link) (room : List ℕ) (well : well_formed l ≡ true) where
  refused : (open_result longest_plain farthest l six room ≡ refusal shape l room) × (open_result longest_plain farthest l seven room ≡ refusal shape l room)
  unfolding open_result open_code
  refused = (rw well, rw well)

  abbrev step : ℕ → Step
  step offset = replay_step most_groups longest_plain farthest (held l room) tape offset

  steps :
      (step 1 ≡ step_of (refusal shape l room) 8) × (step 8 ≡ step_of (refusal shape l room) 16) × (step 16 ≡ step_of (refusal done l room) 16)
  unfolding replay_step
  steps = (rw (well, read_through.0, refused.0), rw (well, read_through.1, refused.1), rw (well, read_through.2))

  pub refused_through :
      replay most_groups longest_plain farthest 3 (held l room) tape 1
      ≡ step_of (refusal shape l room) 8 ∷ step_of (refusal shape l room) 16 ∷ step_of (refusal done l room) 16 ∷ []
  unfolding replay
  refused_through = rw (steps.0, steps.1, steps.2)
