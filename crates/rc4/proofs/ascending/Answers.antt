use mathlib.Core.Path.{sym, ◌∙◌}
use borrow.Author.Rules.{rules}
use Rattle.rc4.specs.Cipher.{below}
use Rattle.rc4.proofs.Made.{made, below_at}
use Rattle.rc4.proofs.Permutation.{below_length}
use Rattle.rc4.proofs.ascending.Goals as goal

pub returns : goal.returns
returns c = made _ _ (below 256) 256 (below_length 256) (λ i y q h call. (search rules, (search rules) ∙ sym (below_at 256 i h))) c.from_fn.ensures.items
