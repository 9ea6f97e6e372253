use Rattle.tape.specs.Tape.{longest_packet, most_groups}
use Rattle.tape.proofs.InnerLaws.{record_other, record_cut, record_whole}
use Rattle.tape.proofs.read_record.Goals as goal

pub returns-then-beyond_packet : goal.returns-then-beyond_packet
returns-then-beyond_packet c =
    record_other most_groups longest_packet c.args.tape.now c.args.offset c.length_in-n.ensures c.beyond_packet.ensures.is c.if-beyond_packet.true c.nothing.ensures

pub returns-then-tape-offset : goal.returns-then-tape-offset
returns-then-tape-offset c =
    record_cut most_groups longest_packet c.args.tape.now c.args.offset c.length_in-n.ensures c.beyond_packet.ensures.is c.if-beyond_packet.false
    c.groups_of-front.ensures.0 c.if-tape-offset.true c.nothing-then-tape-offset.ensures

pub returns : goal.returns
returns c =
    record_whole most_groups longest_packet c.args.tape.now c.args.offset c.length_in-n.ensures c.beyond_packet.ensures.is c.if-beyond_packet.false
    c.groups_of-front.ensures.0 c.if-tape-offset.false
