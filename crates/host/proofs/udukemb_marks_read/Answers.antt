use mathlib.Core.Path.{sym, ◌∙◌}
use Rattle.host.proofs.Laws.{mark_refused, mark_roomless, mark_told_lem}
use Rattle.host.proofs.udukemb_marks_read.Goals as goal

pub returns-in-Err : goal.returns-in-Err
returns-in-Err c = mark_refused c.args.mark.now c.args.link_record.now (sym c.in-Err.is ∙ c.read.ensures) c.from.ensures

pub returns-then-code-ne-DONE : goal.returns-then-code-ne-DONE
returns-then-code-ne-DONE c =
    mark_roomless c.args.mark.now c.args.link_record.now (sym c.in-Ok.is ∙ c.read.ensures) c.record_octets-octets.ensures c.give-code.ensures c.if-code-ne-DONE.true

pub returns : goal.returns
returns c =
    mark_told_lem c.args.mark.now c.args.link_record.now (sym c.in-Ok.is ∙ c.read.ensures) c.record_octets-octets.ensures c.give-code.ensures c.if-code-ne-DONE.false
