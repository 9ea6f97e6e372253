use Rattle.mppe.specs.Link.{longest_plain, farthest}
use Rattle.tape.specs.Tape.{most_groups}
use Rattle.tape.proofs.InnerLaws.{step_none, step_some}
use Rattle.tape.proofs.replay.Goals as goal

pub returns-then-next : goal.returns-then-next
returns-then-next c =
    let a = c.args in
    step_none most_groups longest_plain farthest a.link a.room.now a.tape.now a.offset c.well_formed-2.ensures c.if-not-well_formed.false c.read-next.ensures c.if-next.true c.number_of.ensures c.unmoved-then-next.ensures

pub returns : goal.returns
returns c =
    let a = c.args in
    step_some most_groups longest_plain farthest a.link a.room.now a.tape.now a.offset c.well_formed-2.ensures c.if-not-well_formed.false c.read-next.ensures c.if-next.false c.open-outcome.ensures.0 c.open-outcome.ensures.1
