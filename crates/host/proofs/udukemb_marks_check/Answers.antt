use mathlib.Core.Path.{◌∙◌}
use Rattle.host.proofs.Laws.{marks_unchecked, marks_checked_lem}
use Rattle.host.proofs.udukemb_marks_check.Goals as goal

pub returns-in-Err : goal.returns-in-Err
returns-in-Err c =
    let a = c.args in
    marks_unchecked a.link_record.now a.tape.now c.read_record.ensures a.marks.now c.in-Err.is c.from.ensures

pub returns : goal.returns
returns c =
    let a = c.args in
    c.checked_of.ensures ∙ marks_checked_lem a.link_record.now a.tape.now c.read_record.ensures a.marks.now c.in-Ok.is c.check.ensures
