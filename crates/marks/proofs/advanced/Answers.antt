use mathlib.Core.Path.{sym, ◌∙◌}
use native.Mathlib.Omega.{arith}
use borrow.Author.Tests.{eqb-true, eqb-false}
use Rattle.mppe.specs.Link.{longest_plain, farthest}
use Rattle.tape.specs.Tape.{most_groups}
use Rattle.marks.proofs.InnerLaws.{there, packet_fits, advances_none, advances}
use Rattle.marks.proofs.advanced.Goals as goal

pub returns-then-is_empty : goal.returns-then-is_empty
returns-then-is_empty c =
    advances_none most_groups longest_plain farthest c.args.at c.args.tape.now c.packet-packet.ensures.0
    (eqb-true _ 0 (sym c.is_empty.ensures ∙ c.if-is_empty.true))

pub outcome_of-outcome-requires : goal.outcome_of-outcome-requires
outcome_of-outcome-requires c =
    let some = there most_groups longest_plain c.args.tape.now c.args.at.offset c.packet-packet.ensures.0 (eqb-false _ 0 (sym c.is_empty.ensures ∙ c.if-is_empty.false)) in
    (c.requires.0.1, packet_fits most_groups longest_plain (omega arith) c.args.tape.now c.args.at.offset some c.packet-packet.ensures.0)

pub returns : goal.returns
returns c =
    let some = there most_groups longest_plain c.args.tape.now c.args.at.offset c.packet-packet.ensures.0 (eqb-false _ 0 (sym c.is_empty.ensures ∙ c.if-is_empty.false)) in
    advances most_groups longest_plain farthest (omega arith) c.args.at c.args.tape.now some c.read-next.ensures c.packet-packet.ensures.0 c.outcome_of-outcome.ensures
    c.counted.ensures
