use Rattle.std.proofs.Common.{refl, sym, arith, ◌≡◌, ◌∙◌, take_all, length-set}
use Rattle.blocks.specs.Blocks.{schedule}
use Rattle.blocks.specs.Laws.{word_more}
use Rattle.blocks.proofs.words_in.Goals as goal

pub loop-i-init : goal.loop-i-init
unfolding schedule
loop-i-init c = (refl, refl)

pub loop-i-preserved : goal.loop-i-preserved
loop-i-preserved c =
    let l = c.loop-i in
    (simp length-set l.invariant.0, word_more _ l.w l.i l.invariant.1 c.word_at.ensures (omega arith))

pub returns : goal.returns
returns c =
    let l = c.loop-i in
    let done : l.i ≡ 16 = omega arith in
    sym (take_all 16 _ (omega arith)) ∙ (rw done at l.invariant.1)
