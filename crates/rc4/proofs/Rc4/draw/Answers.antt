-- A draw by value is a draw in place over its cells as words.
use Rattle.rc4.proofs.Boxes.{zero_cells}
use Rattle.rc4.proofs.Draws.{step_octets}
use Rattle.rc4.proofs.Rc4.draw.Goals as goal

pub widen-requires : goal.widen-requires
widen-requires c = zero_cells

pub narrow-requires : goal.narrow-requires
narrow-requires c = step_octets _ c.advance-d.ensures.1 c.widen.ensures.1
