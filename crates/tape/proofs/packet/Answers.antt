use Rattle.tape.specs.Tape.{longest_packet, most_groups}
use Rattle.tape.proofs.InnerLaws.{part_read, part_at}
use Rattle.tape.proofs.packet.Goals as goal

pub returns : goal.returns
returns c =
    let a = c.args in
    let is = c.read-next.ensures in
    (part_read most_groups longest_packet a.tape.now a.offset is, part_at most_groups longest_packet a.tape.now a.offset is a.tape.ref_ptr)
