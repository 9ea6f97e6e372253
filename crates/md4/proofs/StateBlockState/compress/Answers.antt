use Rattle.md4.proofs.Laws.{block_done}
use Rattle.md4.proofs.StateBlockState.compress.Goals as goal

pub returns : goal.returns
returns c =
    let x = c.words_in-x.ensures in
    block_done _ _ (c.round-s1.ensures _ x) (c.round-s2.ensures _ x) (c.round-s3.ensures _ x) c.added.ensures
