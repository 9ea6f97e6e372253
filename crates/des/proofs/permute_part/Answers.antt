use Rattle.des.specs.declared.tables.TheConstants.{P_PARTS}
use Rattle.des.specs.Tables.{permutation}
use Rattle.des.specs.Des.{selected}
use Rattle.des.proofs.Holding.{part_held}
use Rattle.des.proofs.permute_part.Goals as goal

pub returns : goal.returns
unfolding permutation selected
returns c = part_held 32 permutation 8 P_PARTS tt _ _ c.requires.0 c.requires.1
