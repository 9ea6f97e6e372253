use borrow.Author.Rules.{rules}
use Rattle.mppe.proofs.InnerLaws.{deciphered_is}
use Rattle.mppe.proofs.Link.decipher.Goals as goal

pub returns : goal.returns
returns c =
    deciphered_is c.args.self.now c.args.fresh c.args.text.now c.args.out.now (search rules) c.requires.0 c.requires.1 c.requires.2
    c.key_length.ensures c.run_within.ensures
