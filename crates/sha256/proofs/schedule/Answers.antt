use Rattle.std.proofs.Common.{◌≡◌, length, sym, ◌∙◌, take_all, length-set, length-append, length-drop, length-take-le, drop, arith}
use Rattle.std.proofs.lemmas.List.{take-append-le}
use Rattle.blocks.specs.Laws.{word_more, later, early_words}
use Rattle.sha256.specs.Sha256.{late_word}
use Rattle.sha256.proofs.Laws.{late}
use Rattle.sha256.proofs.schedule.Goals as goal

pub loop-t-init : goal.loop-t-init
loop-t-init c =
    let w = c.args.w.now in
    let first = c.copy_from_slice.new.self in
    let copied = c.copy_from_slice.ensures in
    let whole : length w ≡ 64 = c.told-w in
    let long : length first ≡ 16 = copied.len ∙ length-take-le 16 w (omega arith) in (
      length-append first (drop 16 w) ∙ rw (long, length-drop, whole),
      take-append-le 16 first (drop 16 w) (omega arith) ∙ take_all 16 first (omega arith) ∙ copied.after ∙ c.words_in.ensures
          ∙ sym (early_words late_word c.args.block.now 16 (omega arith)),
    )

pub loop-t-preserved : goal.loop-t-preserved
loop-t-preserved c =
    let l = c.loop-t in
    (simp length-set l.invariant.0, word_more _ l.w l.t l.invariant.1 (later late_word _ _ l.t (late l.w l.t c.late_word.ensures (omega arith)) (omega arith)) (omega arith))

pub returns : goal.returns
returns c =
    let l = c.loop-t in
    let done : l.t ≡ 64 = omega arith in
    sym (take_all 64 _ (omega arith)) ∙ (rw done at l.invariant.1)
