use Rattle.mppe_walk.proofs.Laws.{walk_read_lem}
use Rattle.mppe_walk.proofs.walk_in.Goals as goal

pub returns : goal.returns
returns c =
    walk_read_lem _ c.requires.0 c.requires.1 c.copy.ensures c.copy-2.ensures c.pair.ensures c.pair-2.ensures
    c.pair-3.ensures
