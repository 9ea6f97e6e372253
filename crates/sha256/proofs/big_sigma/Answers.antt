use Rattle.blocks.specs.Laws.{rotated_right}
use Rattle.sha256.proofs.big_sigma.Goals as goal

pub returns : goal.returns
returns c =
    let a = c.args in
    let (i, i', j, j', n, n') = c.requires in
    rw
    (c.rotate_right.ensures, c.rotate_right-2.ensures, c.rotate_right-3.ensures, rotated_right a.i a.x i i', rotated_right a.j a.x j j', rotated_right a.n a.x n n')
