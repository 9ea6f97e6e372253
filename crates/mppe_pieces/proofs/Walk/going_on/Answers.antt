use Rattle.std.specs.Prelude.{None}
use borrow.Author.Tests.{lt-ltb, ne_eqb}
use Rattle.mppe_pieces.proofs.InnerLaws.{GoesOn, goes_on_is, goes_off}
use Rattle.mppe_pieces.proofs.Walk.going_on.Goals as goal
use Rattle.mppe_pieces.proofs.Walk.going_on.Goals.{else-self-via-then-self+then-judged-eq-DONE+else-self-2, else-self-via-then-self+else-judged-eq-DONE, else-self-via-else-self}

pub returns-then-self-2 : goal.returns-then-self-2
returns-then-self-2 c =
    let on = goes_on_is c.args.self c.judge-judged.ensures c.if-self.true c.if-judged-eq-DONE.true c.if-self-2.true in
    record { is = on.is; on = on.on; fits = on.fits }

pub returns-else-self : goal.returns-else-self
returns-else-self c =
    let off : GoesOn c.args.self None =
    elim c.else-self.branch [
      | else-self-via-then-self+then-judged-eq-DONE+else-self-2 w ↦
          goes_off c.args.self c.judge-judged.ensures (rw (w.if-self.true, w.if-judged-eq-DONE.true, lt-ltb _ _ w.if-self-2.false))
      | else-self-via-then-self+else-judged-eq-DONE w ↦ goes_off c.args.self c.judge-judged.ensures (rw (w.if-self.true, ne_eqb _ _ w.if-judged-eq-DONE.false))
      | else-self-via-else-self w ↦ goes_off c.args.self c.judge-judged.ensures (rw w.if-self.false)
    ] in
    record { is = off.is; on = off.on; fits = off.fits }
