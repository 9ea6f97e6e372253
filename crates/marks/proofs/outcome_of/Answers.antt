use lib.ListN.{length}
use Rattle.answer.specs.Laws.{within}
use Rattle.mppe.specs.Link.{longest_plain, farthest}
use Rattle.octets.specs.Laws.{count}
use Rattle.tape.specs.Tape.{shortest_packet, longest_packet}
use Rattle.marks.proofs.InnerLaws.{cut_opened}
use Rattle.marks.proofs.outcome_of.Goals as goal

pub slice_bounds-open-end : goal.slice_bounds-open-end
slice_bounds-open-end c = count 6 c.args.packet.now (within shortest_packet longest_packet (length c.args.packet.now) c.requires.1).0

pub returns : goal.returns
returns c = cut_opened longest_plain farthest c.args.link c.args.packet.now c.requires.0 c.requires.1 c.«open».ensures.0
