use Rattle.std.proofs.Common.{◌∙◌}
use Rattle.des.specs.declared.tables.TheConstants.{S_BOXES}
use Rattle.des.specs.Tables.{boxes}
use Rattle.des.proofs.Holding.{boxes_held}
use Rattle.des.proofs.substitute.Goals as goal

pub returns : goal.returns
unfolding boxes
returns c =
    let held = boxes_held S_BOXES tt _ _ c.requires.0 c.requires.1 in
    (c.from.ensures ∙ held.0, rw c.from.ensures held.1)
