use Rattle.mppe_pieces.proofs.InnerLaws.{judged_both, judged_second}
use Rattle.mppe_pieces.proofs.Walk.judged_off.Goals as goal

pub returns-then-self-eq0 : goal.returns-then-self-eq0
returns-then-self-eq0 c = judged_both c.args.self c.args.piece.now c.if-self-eq0.true c.early.ensures c.if-early.false c.runs_off_protocol.ensures

pub returns : goal.returns
returns c =
    judged_second c.args.self c.args.piece.now c.if-self-ge-NUMBER.false c.if-self-eq0.false c.early.ensures c.if-early.false
    c.draw-drawn.ensures c.off_protocol.ensures
