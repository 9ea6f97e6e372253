use native.Mathlib.Omega.{arith}
use mathlib.Core.Path.{◌≡◌, refl}
use lib.ListN.{length}
use borrow.Author.Rules.{rules}
use Rattle.mppe.proofs.InnerLaws.{zeros_more, zeros_not, zeros_end}
use Rattle.mppe.proofs.zeros_from.Goals as goal

pub loop-i-init : goal.loop-i-init
loop-i-init c = refl

pub returns-then-places-i-ne0 : goal.returns-then-places-i-ne0
returns-then-places-i-ne0 c =
    let a = c.args.places in
    let long : length a ≡ 16 = search rules in
    zeros_not a c.loop-i.i c.loop-i.invariant c.if-places-i-ne0.true (omega arith)

pub loop-i-preserved : goal.loop-i-preserved
loop-i-preserved c =
    let a = c.args.places in
    let long : length a ≡ 16 = search rules in
    zeros_more a c.loop-i.i c.loop-i.invariant c.if-places-i-ne0.false (omega arith)

pub returns : goal.returns
returns c =
    let a = c.args.places in
    let long : length a ≡ 16 = search rules in
    zeros_end a c.loop-i.i c.loop-i.invariant (omega arith)
