-- Larger limits (02, M-110), in its words. Before them a length had at most `k` groups and a packet at most `most` octets, the plain one
-- `limit`; with them they have `k'`, `most'` and `limit'`.
use Rattle.std.specs.Prelude.{◌≡◌, false, List, ℕ, ◌+◌, ◌^◌, ◌<◌, ◌≤◌, length}
use Rattle.answer.specs.Answer.{done, outside}
use Rattle.mppe.specs.Link.{front}
use Rattle.tape.specs.Tape.{shortest_packet, tape_of, write_answer, write_out, read_at, Writable, contents}
use Rattle.tape.specs.Replay.{Held, replay_step}

-- the limits before: "a third group" was refused (02, M-109), and "Plain packet .. : 2 to 1,498" (01)
abbrev pub groups_before : ℕ
groups_before = 2

abbrev pub plain_before : ℕ
plain_before = 1498

-- what larger limits are: each length that was carried has at most `k` groups, and there are no fewer groups and no shorter packets than before
abbrev pub Carried : (k most : ℕ) → Type 0
Carried k most = most < 128 ^ k

abbrev pub NoFewer : (k k' : ℕ) → Type 0
NoFewer k k' = k ≤ k'

abbrev pub NoShorter : (most most' : ℕ) → Type 0
NoShorter most most' = most ≤ most'

module _ (k most k' most' : ℕ) where
  -- "Every tape that read without a refusal reads as before": each read of it ..
  unfoldable pub ReadsAsBefore : Type 0
  ReadsAsBefore =
      (tape : List ℕ) (offset : ℕ) → (read_at k most tape offset).answer ≡ done → read_at k' most' tape offset ≡ read_at k most tape offset

  -- .. and the reads from 1 on to its end
  unfoldable pub TapesAsBefore : Type 0
  TapesAsBefore = (tape : List ℕ) → (contents k most tape).answer ≡ done → contents k' most' tape ≡ contents k most tape

  -- what could be written is written as before, and makes the same tape
  unfoldable pub WritesAsBefore : Type 0
  WritesAsBefore =
      ((packet out : List ℕ) → outside shortest_packet most (length packet) ≡ false
      → (write_answer k' most' packet out ≡ write_answer k most packet out) × (write_out k' most' packet out ≡ write_out k most packet out))
      × ((ps : List (List ℕ)) → Writable most ps → tape_of k' ps ≡ tape_of k ps)

-- a step of a replay whose read was no refusal gives what it gave, whatever the record
unfoldable pub ReplaysAsBefore : (k limit k' limit' far : ℕ) → Type 0
ReplaysAsBefore k limit k' limit' far =
    (h : Held) (tape : List ℕ) (offset : ℕ) → (read_at k (front + limit) tape offset).answer ≡ done
    → replay_step k' limit' far h tape offset ≡ replay_step k limit far h tape offset
