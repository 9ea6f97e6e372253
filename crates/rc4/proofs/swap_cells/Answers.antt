-- What is stored at b was the cell at a.
use Rattle.rc4.proofs.Boxes.{exchanged}
use Rattle.rc4.proofs.swap_cells.Goals as goal

pub returns : goal.returns
returns c =
    let a = c.args in
    exchanged a.cells.now a.a a.b c.requires.2
