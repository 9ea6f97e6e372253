use Rattle.des.specs.declared.tables.TheConstants.{PC2_C_PARTS, PC2_D_PARTS}
use Rattle.des.specs.Tables.{choice2}
use Rattle.des.specs.Des.{selected}
use Rattle.des.proofs.Holding.{parts_held}
use Rattle.des.proofs.Groups.{subkey_is}
use Rattle.des.proofs.choose_2.Goals as goal

pub returns : goal.returns
unfolding choice2 selected
returns c =
    subkey_is _ _ _ _ c.requires.1 (c.choose_half.ensures.1 28 24 (parts_held 56 choice2 7 28 24 PC2_C_PARTS tt)) (c.choose_half-2.ensures.1 0 0 (parts_held 56 choice2 7 0 0 PC2_D_PARTS tt))
