-- The run of demand 3, in the order and words of 01, "The run of demand 3". `Demand3` at the end is the claim.
use Rattle.std.specs.Prelude.{◌≡◌, ◌≢◌, List, [], ◌∷◌, ℕ, suc, ◌-◌, ◌%◌, ◌<◌, ◌≤◌, length, get_or}
use Rattle.answer.specs.Answer.{done, first_of, on_done}
use Rattle.octets.specs.Octets.{written}
use Rattle.mppe_keys.specs.declared.Strength.{Strength}
use Rattle.mppe_keys.specs.declared.Mode.TheVariants.{Stateless}
use Rattle.mppe_keys.specs.Keys.{initial_key, key_change}
use Rattle.mppe.specs.declared.Link.{Link}
use Rattle.mppe.specs.Link.{counts, farthest, renewed, new_link, sealed_packet, Result, finished, refusal, plain_rows, seal_result, open_code, open_result}

-- "Whichever sealed packets the line loses, .. counted from the start too" (demand 3), "at most 2,047 lost in a row" (02, M-101): one
-- fewer than the farthest distance
abbrev pub most_lost : ℕ
most_lost = farthest - 1

-- a seal call: the plain packet, and the lent buffer
pub record SealCall : Type 0 where
  pub plain : List ℕ
  pub room : List ℕ

-- "A list of open calls says which of them are arrivals, and of which packet": the packet's number, then the lent octets and buffer
pub data OpenCall : Type 0 where
  arrival : ℕ → List ℕ → List ℕ → OpenCall
  other : List ℕ → List ℕ → OpenCall

abbrev pub octets_lent : OpenCall → List ℕ
octets_lent (arrival q octets room) = octets
octets_lent (other octets room) = octets

abbrev pub room_lent : OpenCall → List ℕ
room_lent (arrival q octets room) = room
room_lent (other octets room) = room

-- a packet that the history gives, with the plain packet sealed in it and the history's record for it
pub record Packet : Type 0 where
  pub plain : List ℕ
  pub octets : List ℕ
  pub link : Link

-- "It holds the number of packets sealed .. and a session key"
pub record History : Type 0 where
  pub number : ℕ
  pub session : List ℕ

-- "Both ends begin with one and the same record, that of a new link"; the sender's history "is fed the strength, the start key .."
module _ (s : Strength) (start : List ℕ) where
  abbrev pub first : Link
  first = (new_link s Stateless start).link

  -- "the number of packets sealed, at first 0, and a session key, at first the initial one"
  abbrev pub beginning : History
  beginning = record { number = 0; session = initial_key s start }

  -- "makes one key change"
  abbrev pub next_session : History → List ℕ
  next_session h = key_change s start h.session

  -- "Its packet has the number held, carries that number mod 4,096 as its count, and is sealed under the new session key. The
  -- history's record for it is the new link with that session key and count in place of its own."
  unfoldable pub packet_of : History → List ℕ → Packet
  packet_of h plain =
      record {
        plain = plain;
        octets = sealed_packet (next_session h) (h.number % counts) plain;
        link = renewed first (next_session h) (h.number % counts);
      }

  -- the packet of a number: its place in the list of all that are sealed
  unfoldable pub numbered : List Packet → ℕ → Packet
  numbered sealed q = get_or sealed q (record { plain = []; octets = []; link = first })

-- `limit` is the longest plain packet
module _ (limit : ℕ) where
  -- "Each call gets the record that the last call at its end handed back."
  unfoldable pub seal_run : Link → List SealCall → List Result
  seal_run l [] = []
  seal_run l (c ∷ cs) = let r : Result = seal_result limit l c.plain c.room in r ∷ seal_run r.outcome.link cs

  -- ".. and, for each seal call, the plain packet and the length of the lent buffer": which of 3, 4 and 2 applies
  unfoldable pub said_code : SealCall → ℕ
  said_code c = first_of (plain_rows limit c.plain (length c.room))

  module _ (s : Strength) (start : List ℕ) where
    -- "A seal call to which 3, 4 or 2 applies leaves both as they are; it answers the first that applies. Any other answers 0 and
    -- makes one key change .. Then the number goes up by one."
    unfoldable pub onward : History → SealCall → History
    onward h c = on_done (said_code c) (record { number = suc h.number; session = next_session s start h }) h

    -- the packets sealed, in order; "Another maker's sender that seals by demand 2 has the same history": no record enters it
    unfoldable pub packets : History → List SealCall → List Packet
    packets h [] = []
    packets h (c ∷ cs) = on_done (said_code c) (packet_of s start h c.plain ∷ packets (onward h c) cs) (packets (onward h c) cs)

    -- "Each seal call answers, writes and hands back what the history says; a refused one writes nothing and hands back the record
    -- of the packet before, or the new link": that record is `held`
    unfoldable pub said : History → Link → List SealCall → List Result
    said h held [] = []
    said h held (c ∷ cs) =
        let p : Packet = packet_of s start h c.plain in
        on_done (said_code c) (finished 1 p.link (written p.octets c.room)) (refusal (said_code c) held c.room)
        ∷ said (onward h c) (on_done (said_code c) p.link held) cs

-- `far` is the farthest distance that is opened
module _ (limit far : ℕ) where
  -- "Each call gets the record that the last call at its end handed back", at the receiver's end
  unfoldable pub open_run : Link → List OpenCall → List Result
  open_run l [] = []
  open_run l (c ∷ cs) = let r : Result = open_result limit far l (octets_lent c) (room_lent c) in r ∷ open_run r.outcome.link cs

  module _ (s : Strength) (start : List ℕ) (sealed : List Packet) where
    -- What is asked of the line. `most` is the largest number of packets lost in a row. `next` is one more than the number of the last
    -- arrival, at first 0, so q - next packets are lost before packet q. `held` is the record of the last arrival, or the new link.
    -- "An arrival is lent that packet's octets and nothing more, and room for its plain packet; the numbers rise from each arrival to
    -- the next. Packets with numbers between two neighbouring arrivals, or below the first one's, are lost before the later one ..;
    -- these stay within demand 3's limit. Every other call in the list is one that the table refuses with the record of the last
    -- arrival, or with the new link."
    unfoldable pub Meets : ℕ → ℕ → Link → List OpenCall → Type 0
    Meets most next held [] = Unit {0}
    Meets most next held (arrival q octets room ∷ cs) =
        let p : Packet = numbered s start sealed q in
        (q < length sealed) × (next ≤ q) × (q - next ≤ most) × (octets ≡ p.octets) × (length p.plain ≤ length room)
        × Meets most (suc q) p.link cs
    Meets most next held (other octets room ∷ cs) = (open_code limit far held octets (length room) ≢ done) × Meets most next held cs

    -- "Then each arrival answers 0, writes exactly its plain packet, reports one key change more than packets were lost before it, and
    -- hands back the history's record for it. Each refused call answers the first number that applies, reports 0, writes nothing and
    -- hands back that same record."
    unfoldable pub due : ℕ → Link → List OpenCall → List Result
    due next held [] = []
    due next held (arrival q octets room ∷ cs) =
        let p : Packet = numbered s start sealed q in
        finished (suc (q - next)) p.link (written p.plain room) ∷ due (suc q) p.link cs
    due next held (other octets room ∷ cs) = refusal (open_code limit far held octets (length room)) held room ∷ due next held cs

  -- "This is a single claim about the two lists, and not one for each call."
  unfoldable pub Demand3 : ℕ → Type 0
  Demand3 most =
      (s : Strength) (start : List ℕ) → (new_link s Stateless start).answer ≡ done → (seals : List SealCall) (opens : List OpenCall)
      → Meets s start (packets limit s start (beginning s start) seals) most 0 (first s start) opens
      → (seal_run limit (first s start) seals ≡ said limit s start (beginning s start) (first s start) seals)
      × (open_run (first s start) opens ≡ due s start (packets limit s start (beginning s start) seals) 0 (first s start) opens)
