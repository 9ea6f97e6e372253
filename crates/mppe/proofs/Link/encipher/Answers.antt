use mathlib.Core.Path.{◌≡◌}
use lib.ListN.{length}
use borrow.Author.Rules.{rules}
use Rattle.mppe.proofs.InnerLaws.{applied, drawn_on}
use Rattle.mppe.proofs.Link.encipher.Goals as goal

pub unwrap-requires : goal.unwrap-requires
unwrap-requires c =
    let long : length c.args.self.now.session ≡ 16 = search rules in
    (applied c.args.self.now c.args.fresh c.args.text.now c.args.out.now c.in-Stateless.is c.requires.0 c.requires.1 c.requires.2 long
    c.key_length.ensures c.apply.ensures).0

pub returns-in-Stateless : goal.returns-in-Stateless
returns-in-Stateless c =
    let long : length c.args.self.now.session ≡ 16 = search rules in
    let (_, kept, out) = applied c.args.self.now c.args.fresh c.args.text.now c.args.out.now c.in-Stateless.is c.requires.0 c.requires.1 c.requires.2 long
    c.key_length.ensures c.apply.ensures in
    (kept, out)

pub returns-in-Stateful : goal.returns-in-Stateful
returns-in-Stateful c =
    drawn_on c.args.self.now c.args.fresh c.args.text.now c.args.out.now c.in-Stateful.is c.cipher_of.ensures c.run_on.ensures
