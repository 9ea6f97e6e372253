use Rattle.std.proofs.Common.{refl}
use Rattle.sha256.specs.Sha256.{k}
use Rattle.sha256.proofs.Laws.{rounded}
use Rattle.sha256.proofs.round.Goals as goal

pub returns : goal.returns
unfolding k
returns c =
    rounded c.args.w.now c.args.t c.args.s c.ch-chosen.ensures c.maj-majority.ensures c.big_sigma.ensures c.big_sigma-2.ensures
    refl refl refl
