use mathlib.Core.Path.{◌∙◌}
use native.Mathlib.Nat.{mod-eq_of_lt}
use borrow.Author.Rules.{rules}
use Rattle.rc4.proofs.Made.{made}
use Rattle.rc4.proofs.narrow.Goals as goal

pub returns : goal.returns
returns c =
    let words = c.args.words.now in
    made _ _ words 256 c.requires.long (λ i y q h call. (search rules, (search rules) ∙ mod-eq_of_lt (c.requires.octets i))) c.from_fn.ensures.items
