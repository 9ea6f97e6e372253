use borrow.Author.Rules.{rules}
use Rattle.mppe_record.proofs.InnerLaws.{front_laid}
use Rattle.mppe_record.proofs.front_octets.Goals as goal

pub returns : goal.returns
returns c =
    front_laid _ (search rules, search rules, search rules, (search rules, search rules, search rules))
    ((c.bits_of.ensures, c.copy_at.ensures, c.copy_at-2.ensures, c.copy_at-3.ensures, c.copy_at-4.ensures))
