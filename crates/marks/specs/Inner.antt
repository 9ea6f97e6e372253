-- What only private functions promise.
use Rattle.std.specs.Prelude.{◌≡◌, true, ◌&&◌, List, ℕ, suc, ◌+◌, ◌*◌, ◌/◌, eqb, length, take, drop, Option, Some, None, Result}
use Rattle.answer.specs.declared.Refusal.{Refusal}
use Rattle.answer.specs.Answer.{pick, result_of}
use Rattle.octets.specs.Octets.{equal}
use Rattle.mppe_keys.specs.declared.Mode.TheVariants.{Stateless}
use Rattle.mppe.specs.declared.Link.{Link}
use Rattle.mppe.specs.Link.{front, well_formed}
use Rattle.mppe_record.proofs.Laws.{Sized}
use Rattle.tape.specs.Tape.{Read, on_packet, read_at, contents}
use Rattle.marks.specs.declared.Mark.{Mark}
use Rattle.marks.specs.declared.Found.{Found}
use Rattle.marks.specs.Marks.{every, mark_length, mark_octets, agreeing, onward, marks_of}

-- a walk may begin with a record: it is well formed and stateless, and its parts have the sizes of the code's struct
abbrev pub Begins : Link → Type 0
Begins start = (well_formed start ≡ true) × (start.mode ≡ Stateless) × Sized start

-- what a walk holds behind the packet at its offset; none where there is no packet
unfoldable pub ahead : (k limit far : ℕ) → Mark → (tape : List ℕ) → Option Mark
ahead k limit far m tape =
    let r : Read = read_at k (front + limit) tape m.offset in
    on_packet r.packet (Some (onward k limit far m r.packet)) None

-- what a walk over a tape finds beside a list, or the refusal of the tape
unfoldable pub found : (k limit far : ℕ) (start : Link) (tape marks : List ℕ) → Result Found Refusal
found k limit far start tape marks =
    result_of (contents k (front + limit) tape).answer
    (record { marks = length (marks_of k limit far start tape); agreeing = agreeing (marks_of k limit far start tape) marks })

-- so many agree, and one more if all before it do and its octets stand behind them
unfoldable pub agreed_on : Mark → (marks : List ℕ) (n : ℕ) → ℕ
agreed_on m marks n = pick (eqb (suc n) (m.opened / every) && equal (mark_octets m) (take mark_length (drop (mark_length * n) marks))) (suc n) n
