use Rattle.std.proofs.Common.{◌*◌, length, le-ltb, arith}
use Rattle.octets.specs.Octets.{longest_text}
use Rattle.blocks.specs.Inner.{closed_answer}
use Rattle.blocks.specs.Tails.{tail_fits}
use Rattle.blocks.specs.Laws.{closed_by}
use Rattle.blocks.proofs.closed.Goals as goal

pub slice_bounds-last-end : goal.slice_bounds-last-end
slice_bounds-last-end g c = tail_fits _ _ _ c.padded_tail-n.ensures

pub returns : goal.returns
unfolding closed_answer
returns g c =
    let a = c.args in
    let state = closed_by _ _ _ (64 * a.blocks) a.text.now c.absorbed-whole.ensures c.padded_tail-n.ensures c.absorbed.ensures (omega arith) (omega arith) in
    rw (le-ltb longest_text (length a.text.now) c.if-text-gt-LONGEST_TEXT.false, state, c.order.ensures)
