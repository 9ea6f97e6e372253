use Rattle.sstp.proofs.InnerLaws.{pair_laid}
use Rattle.sstp.proofs.both_keys.Goals as goal

pub returns : goal.returns
returns c = rw (c.copy_from_slice.ensures.after, c.copy_from_slice-2.ensures.after) (pair_laid c.args.first.now c.args.second.now c.requires.0 c.requires.1)
