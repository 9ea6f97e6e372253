use borrow.Author.Rules.{rules}
use Rattle.marks.proofs.InnerLaws.{mark_laid}
use Rattle.marks.proofs.mark_octets.Goals as goal

pub returns : goal.returns
returns c = mark_laid c.args.mark (search rules) (search rules) c.front_octets-front.ensures c.copy.ensures c.copy_at.ensures c.copy_at-2.ensures
