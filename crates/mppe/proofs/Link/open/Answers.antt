use mathlib.Core.Path.{sym}
use Rattle.mppe.specs.Link.{longest_plain, farthest}
use Rattle.mppe.proofs.InnerLaws.{open_passed}
use Rattle.mppe.proofs.Link.open.Goals as goal

pub returns : goal.returns
returns c =
    open_passed longest_plain farthest c.args.self c.args.packet.now c.args.out.now (sym c.if-not-well_formed.ensures)
    (sym c.if-misshapen.ensures) c.pair.ensures c.open_data.ensures
