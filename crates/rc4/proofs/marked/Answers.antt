use mathlib.Core.Path.{◌≡◌}
use native.Mathlib.Omega.{arith}
use Prim.Native.Nat.{◌<◌}
use lib.ListN.{length, get_or}
use borrow.Author.Rules.{rules}
use Rattle.rc4.proofs.Marks.{marks_none, marks_more, marks_all}
use Rattle.rc4.proofs.marked.Goals as goal

pub loop-n-init : goal.loop-n-init
loop-n-init c = marks_none

pub loop-n-preserved : goal.loop-n-preserved
loop-n-preserved c =
    let l = c.loop-n in
    let long : length c.args.cells ≡ 256 = search rules in
    let read : c.from.result ≡ get_or c.args.cells l.n 0 = search rules in
    let low : c.from.result < 256 = search rules in
    marks_more c.args.cells l.marks l.n read low (omega arith) l.invariant

pub returns : goal.returns
returns c =
    let l = c.loop-n in
    let long : length c.args.cells ≡ 256 = search rules in
    let done : l.n ≡ 256 = omega arith in
    marks_all _ l.marks long (rw done at l.invariant)
