-- The run of stateful modems, in the order and words of 02, M-103: "From one new stateful link at both ends, the sender also taking
-- Reset-Requests, under demand 3's rules of loss and arrival, with room lent and no open in between of anything else that answers 0 or 11,
-- an arriving packet is opened exactly when it has A or the one sealed before it was opened, and then to what was sealed; every other
-- answers 11." `StatefulRun` at the end is the claim.
use Rattle.std.specs.Prelude.{◌≡◌, Bool, true, false, ◌&&◌, ◌||◌, ◌≢◌, List, [], ◌∷◌, ℕ, suc, ◌+◌, ◌-◌, ◌%◌, ◌<◌, ◌≤◌, eqb, length, get_or}
use Rattle.answer.specs.Answer.{done, waiting, pick, first_of, on_done}
use Rattle.octets.specs.Octets.{written}
use Rattle.rc4.specs.declared.Rc4.{Rc4}
use Rattle.rc4.specs.Cipher.{unkeyed, key_schedule, after}
use Rattle.mppe_keys.specs.declared.Strength.{Strength}
use Rattle.mppe_keys.specs.declared.Mode.TheVariants.{Stateful}
use Rattle.mppe_keys.specs.Keys.{initial_key, key_change}
use Rattle.ccp.specs.Reset.{reset_rows}
use Rattle.mppe.specs.declared.Link.{Link}
use Rattle.mppe.specs.Link.{counts, new_count, link_of, renewed, with_box, new_link, packet_on, endings, Result, finished, unopened, refusal, seal_result, reset_outcome, open_code}
use Rattle.mppe_runs.specs.Run.{SealCall, OpenCall, arrival, other, said_code, open_run}

-- a call at the sender: a packet to be sealed, or the octets of a Reset-Request
pub data SendCall : Type 0 where
  seal : SealCall → SendCall
  reset : List ℕ → SendCall

-- what the sender's history holds: the number of packets sealed, the session key, RC4's box, and the mark
pub record History : Type 0 where
  pub number : ℕ
  pub session : List ℕ
  pub state : Rc4
  pub mark : Bool

-- a packet that the history gives: what was sealed, its octets, whether it has A, its session key, and the sender's record after it
pub record Packet : Type 0 where
  pub plain : List ℕ
  pub octets : List ℕ
  pub fresh : Bool
  pub session : List ℕ
  pub link : Link

module _ (s : Strength) (start : List ℕ) where
  -- "one new stateful link at both ends"
  abbrev pub first : Link
  first = (new_link s Stateful start).link

  abbrev pub beginning : History
  beginning = record { number = 0; session = initial_key s start; state = unkeyed; mark = true }

  -- the sender's record, which the history says
  abbrev pub held_by : History → Link
  held_by h = link_of s Stateful start h.session ((h.number + new_count) % counts) h.state h.mark

  -- the next packet's count ends in 0xFF
  abbrev pub ends : History → Bool
  ends h = eqb (h.number % 256) 255

  -- "changes key before a packet whose count ends in 0xFF"
  unfoldable pub next_session : History → List ℕ
  next_session h = pick (ends h) (key_change s start h.session) h.session

  -- "It keys RC4 afresh, with A set, exactly on those and where its mark is set"
  abbrev pub freshly : History → Bool
  freshly h = ends h || h.mark

  unfoldable pub box_used : History → Rc4
  box_used h = pick (freshly h) (key_schedule (next_session h)) h.state

  -- the history after the next packet: "draws on across packets", "and clears it"
  unfoldable pub sealed_on : History → List ℕ → History
  sealed_on h plain = record { number = suc h.number; session = next_session h; state = after (box_used h) plain; mark = false }

  -- the next packet
  unfoldable pub packet_of : History → List ℕ → Packet
  packet_of h plain =
      record {
        plain = plain;
        octets = packet_on (freshly h) (box_used h) (h.number % counts) plain;
        fresh = freshly h;
        session = next_session h;
        link = held_by (sealed_on h plain);
      }

  -- a Reset-Request "sets a stateful sender's mark"; other octets do not
  unfoldable pub asked : History → List ℕ → History
  asked h request =
      record { number = h.number; session = h.session; state = h.state; mark = on_done (first_of (reset_rows request)) true h.mark }

  unfoldable pub numbered : List Packet → ℕ → Packet
  numbered sealed q = get_or sealed q (record { plain = []; octets = []; fresh = false; session = []; link = first })

module _ (limit : ℕ) where
  -- "Each call gets the record that the last call at its end handed back."
  abbrev pub send_result : Link → SendCall → Result
  send_result l (seal c) = seal_result limit l c.plain c.room
  send_result l (reset request) = record { outcome = reset_outcome l request; buffer = [] }

  unfoldable pub send_run : Link → List SendCall → List Result
  send_run l [] = []
  send_run l (c ∷ cs) = send_result l c ∷ send_run (send_result l c).outcome.link cs

  module _ (s : Strength) (start : List ℕ) where
    -- the history after a call, the packets sealed, and what each call answers, writes and hands back
    unfoldable pub onward : History → SendCall → History
    onward h (seal c) = on_done (said_code limit c) (sealed_on s start h c.plain) h
    onward h (reset request) = asked s start h request

    unfoldable pub packets : History → List SendCall → List Packet
    packets h [] = []
    packets h (seal c ∷ cs) = on_done (said_code limit c) (packet_of s start h c.plain ∷ packets (onward h (seal c)) cs) (packets (onward h (seal c)) cs)
    packets h (reset request ∷ cs) = packets (onward h (reset request)) cs

    unfoldable pub said_of : History → SendCall → Result
    said_of h (seal c) =
        let p : Packet = packet_of s start h c.plain in
        on_done (said_code limit c) (finished (pick (ends s start h) 1 0) p.link (written p.octets c.room)) (refusal (said_code limit c) (held_by s start h) c.room)
    said_of h (reset request) =
        record { outcome = record { answer = first_of (reset_rows request); changes = 0; link = held_by s start (asked s start h request) }; buffer = [] }

    unfoldable pub said : History → List SendCall → List Result
    said h [] = []
    said h (c ∷ cs) = said_of h c ∷ said (onward h c) cs

-- `far` is the farthest distance that is opened, `sealed` the packets
module _ (limit far : ℕ) (s : Strength) (start : List ℕ) (sealed : List Packet) where
  -- "opened exactly when it has A or the one sealed before it was opened": `next` is one more than the number of the last arrival, and
  -- `was` says whether that was opened
  abbrev pub opened : (next : ℕ) (was : Bool) (q : ℕ) → Bool
  opened next was q = (numbered s start sealed q).fresh || (eqb q next && was)

  -- the key changes that packet q brings where the last arrival was the one before `next`: as many as numbers from next to q end in 0xFF
  abbrev pub made : (next q : ℕ) → ℕ
  made next q = endings (next + new_count) (suc (q - next))

  -- what an arrival of packet q gives: it is opened "to what was sealed" and leaves the record that the sender had after it, or it
  -- "answers 11": no octet written, the changes made and reported, count the arrived one, mark set
  unfoldable pub due_of : (next : ℕ) (was : Bool) (held : Link) (q : ℕ) (room : List ℕ) → Result
  due_of next was held q room =
      let p : Packet = numbered s start sealed q in
      pick (opened next was q) (finished (made next q) p.link (written p.plain room))
      (unopened (made next q) (with_box (renewed held p.session (q % counts)) (on_done (made next q) held.state (key_schedule p.session)) true) room)

  -- "demand 3's rules of loss and arrival": the numbers rise, at most `most` packets are lost in a row, counted from the start too, an
  -- arrival is lent that packet's octets and room for its plain packet; "no open in between of anything else that answers 0 or 11"
  unfoldable pub Meets : (most next : ℕ) (was : Bool) (held : Link) → List OpenCall → Type 0
  Meets most next was held [] = Unit {0}
  Meets most next was held (arrival q octets room ∷ cs) =
      let p : Packet = numbered s start sealed q in
      (q < length sealed) × (next ≤ q) × (q - next ≤ most) × (octets ≡ p.octets) × (length p.plain ≤ length room)
      × Meets most (suc q) (opened next was q) (due_of next was held q room).outcome.link cs
  Meets most next was held (other octets room ∷ cs) =
      (open_code limit far held octets (length room) ≢ done) × (open_code limit far held octets (length room) ≢ waiting) × Meets most next was held cs

  unfoldable pub due : (next : ℕ) (was : Bool) (held : Link) → List OpenCall → List Result
  due next was held [] = []
  due next was held (arrival q octets room ∷ cs) =
      due_of next was held q room ∷ due (suc q) (opened next was q) (due_of next was held q room).outcome.link cs
  due next was held (other octets room ∷ cs) = refusal (open_code limit far held octets (length room)) held room ∷ due next was held cs

-- the claim, about the two lists
unfoldable pub StatefulRun : (limit far most : ℕ) → Type 0
StatefulRun limit far most =
    (s : Strength) (start : List ℕ) → (new_link s Stateful start).answer ≡ done → (sends : List SendCall) (opens : List OpenCall)
    → Meets limit far s start (packets limit s start (beginning s start) sends) most 0 false (first s start) opens
    → (send_run limit (first s start) sends ≡ said limit s start (beginning s start) sends)
    × (open_run limit far (first s start) opens ≡ due limit far s start (packets limit s start (beginning s start) sends) 0 false (first s start) opens)
