use borrow.Author.Rules.{rules}
use Rattle.mppe_pieces.specs.Walk.{over}
use Rattle.mppe_pieces.proofs.over.Goals as goal

pub returns : goal.returns
unfolding over
returns c = search rules
