use Rattle.sstp.proofs.InnerLaws.{material_laid}
use Rattle.sstp.proofs.fitted.Goals as goal

pub returns : goal.returns
returns c = rw c.copy_from_slice.ensures.after (material_laid _ c.args.material.now c.min-n.ensures)
