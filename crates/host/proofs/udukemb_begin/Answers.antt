use mathlib.Core.Path.{refl, ◌∙◌}
use native.Mathlib.Omega.{arith}
use Rattle.octets.specs.Laws.{count}
use Rattle.host.proofs.Laws.{begin_short, begin_none, begin_made, walk_told}
use Rattle.host.proofs.udukemb_begin.Goals as goal

pub returns-then-walk-ne-WALK_LENGTH : goal.returns-then-walk-ne-WALK_LENGTH
returns-then-walk-ne-WALK_LENGTH c = walk_told (begin_short _ _ _ _ c.if-walk-ne-WALK_LENGTH.true)

pub slice_bounds-read_record-end-2 : goal.slice_bounds-read_record-end-2
slice_bounds-read_record-end-2 c = count 295 c.args.walk.now (omega (arith, c.if-walk-ne-WALK_LENGTH.false))

pub returns-in-Err : goal.returns-in-Err
returns-in-Err c =
    let w = walk_told (begin_none _ _ _ _ c.if-walk-ne-WALK_LENGTH.false c.read_record.ensures c.in-Err.is refl c.close_walk.ensures) in
    (c.unopened.ensures ∙ w.0, w.1)

pub returns : goal.returns
returns c = walk_told (begin_made _ _ _ _ c.if-walk-ne-WALK_LENGTH.false c.read_record.ensures c.in-Ok.is c.begin-begun.ensures c.put_walk.ensures)
