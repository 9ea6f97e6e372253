use Rattle.host.proofs.Laws.{walk_closed}
use Rattle.host.proofs.close_walk.Goals as goal

pub returns : goal.returns
returns c = walk_closed c.args.walk.now c.requires c.copy_at.ensures
