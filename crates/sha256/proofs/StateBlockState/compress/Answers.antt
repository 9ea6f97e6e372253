use Rattle.blocks.specs.Laws.{block_done}
use Rattle.sha256.specs.Sha256.{round, added, compress}
use Rattle.sha256.proofs.StateBlockState.compress.Goals as goal

pub returns : goal.returns
unfolding compress
returns c =
    block_done round added 16 _ _ c.schedule.ensures c.sixteen-s1.ensures c.sixteen-s2.ensures
    c.sixteen-s3.ensures c.sixteen-s4.ensures c.added.ensures
