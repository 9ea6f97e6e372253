use Rattle.std.proofs.Common.{arith}
use Rattle.des.proofs.Holding.{places_held}
use Rattle.des.proofs.choose_1.Goals as goal

pub select-requires : goal.select-requires
select-requires c = places_held 56 _ (omega arith) (omega arith) tt
