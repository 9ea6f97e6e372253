use mathlib.Core.Path.{◌≡◌, refl}
use native.Mathlib.Omega.{arith}
use Prim.Native.Nat.{◌<◌}
use lib.ListN.{length, get_or}
use borrow.Author.Rules.{rules}
use Rattle.rc4.proofs.Boxes.{copied_none, copied_more, copied_all}
use Rattle.rc4.proofs.widen.Goals as goal

pub loop-n-init : goal.loop-n-init
loop-n-init c = copied_none _ _ c.requires

pub loop-n-preserved : goal.loop-n-preserved
loop-n-preserved c =
    let l = c.loop-n in
    let long : length c.args.cells ≡ 256 = search rules in
    let read : c.from.result ≡ get_or c.args.cells l.n 0 = search rules in
    let low : c.from.result < 256 = search rules in
    copied_more _ _ l.n _ _ l.invariant read low long (omega arith) refl

pub returns : goal.returns
returns c =
    let l = c.loop-n in
    let long : length c.args.cells ≡ 256 = search rules in
    (copied_all _ _ _ l.invariant long (omega arith), l.invariant.whole)
