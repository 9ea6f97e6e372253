use mathlib.Core.Path.{ap, sym, ◌∙◌}
use mathlib.Core.List.{List}
use Prim.Native.Nat.{ℕ}
use borrow.Author.Rules.{rules}
use Rattle.rc4.specs.Cipher.{box, below}
use Rattle.rc4.proofs.Made.{made, below_at}
use Rattle.rc4.proofs.Permutation.{below_length}
use Rattle.rc4.proofs.Rc4.unkeyed.Goals as goal

pub returns : goal.returns
returns c =
    ap (λ (cells : List ℕ). box cells 0 0)
    (made _ _ (below 256) 256 (below_length 256) (λ i y q h call. (search rules, (search rules) ∙ sym (below_at 256 i h))) c.from_fn.ensures.items)
