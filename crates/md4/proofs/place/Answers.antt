use Rattle.std.proofs.Common.{refl}
use Rattle.md4.proofs.Laws.{place_is}
use Rattle.md4.proofs.place.Goals as goal

pub returns : goal.returns
returns c = place_is _ c.requires refl
