use Rattle.std.proofs.Common.{◌<◌, ◌∙◌, List, ℕ, ap, arith, take_all}
use Rattle.des.specs.Des.{selected}
use Rattle.des.proofs.Selection.{bits_lt}
use Rattle.des.proofs.select_row.Goals as goal

pub overflow_add-r : goal.overflow_add-r
overflow_add-r c = let h : c.loop-n.r < 256 = bits_lt _ _ _ _ _ c.loop-n.invariant (omega arith) (omega arith) in omega arith

pub returns : goal.returns
returns c =
    let l = c.loop-n in (
      l.invariant ∙ ap (λ (t : List ℕ). selected c.args.w t c.args.x) (take_all l.n-index c.args.row.now (omega arith)),
      bits_lt _ _ _ _ _ l.invariant (omega arith) (omega arith),
    )
