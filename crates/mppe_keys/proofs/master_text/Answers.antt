use mathlib.Core.Path.{refl}
use lib.ListN.{replicate}
use Rattle.mppe_keys.specs.Keys.{magic1}
use Rattle.mppe_keys.proofs.InnerLaws.{master_laid}
use Rattle.mppe_keys.proofs.master_text.Goals as goal

pub returns : goal.returns
unfolding magic1
returns c = master_laid (replicate 67 0) c.args.hash.now c.args.response.now _ refl c.put.ensures c.put-2.ensures c.put-3.ensures c.requires.0 c.requires.1 refl
