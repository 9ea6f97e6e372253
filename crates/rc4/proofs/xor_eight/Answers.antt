use mathlib.Core.Path.{sym, ◌∙◌}
use native.Mathlib.Omega.{arith}
use Rattle.rc4.specs.Inner.{xors}
use borrow.Author.Rules.{rules}
use Rattle.rc4.proofs.Made.{made, length_xors, xors_at}
use Rattle.rc4.proofs.xor_eight.Goals as goal

pub returns : goal.returns
returns c =
    let text = c.args.text.now in
    let octets = c.args.octets.now in
    let long = c.told-octets in
    c.copy_from_slice.ensures.after
    ∙ made _ _ (xors text octets) 8 (length_xors text octets (omega arith) ∙ c.requires.0)
    (λ i y q h call. (search rules, (search rules) ∙ sym (xors_at text octets i (omega arith) (omega arith)))) c.from_fn-both.ensures.items
