use Rattle.octets.specs.declared.Order.TheVariants.{LowestFirst}
use Rattle.blocks.specs.Laws.{words_at}
use Rattle.md4.proofs.Laws.{operated}
use Rattle.md4.proofs.operation.Goals as goal

pub returns : goal.returns
returns c = λ block held.
    operated _ _ _ c.requires c.place.ensures.0 (words_at LowestFirst block 16 _ held c.place.ensures.1) c.constant.ensures c.mixed.ensures c.shift.ensures c.rotate_left.ensures
