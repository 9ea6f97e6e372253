use Rattle.bench.proofs.Laws.{put_together}
use Rattle.bench.proofs.link_at.Goals as goal

pub returns : goal.returns
returns c = put_together _ _ _ _ _ c.strength_of-strength.ensures c.mode_if-mode.ensures c.copy.ensures c.copy-2.ensures c.unkeyed.ensures
