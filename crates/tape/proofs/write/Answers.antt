use Rattle.tape.specs.Tape.{longest_packet, most_groups}
use Rattle.tape.proofs.InnerLaws.{write_whole}
use Rattle.tape.proofs.write.Goals as goal

pub returns : goal.returns
returns c =
    write_whole most_groups longest_packet c.args.packet.now c.args.out.now c.beyond_packet.ensures.is c.if-beyond_packet.false c.groups_of-front.ensures.0
    c.if-out-front.false c.put_groups.ensures c.put_packet.ensures
