use mathlib.Core.Path.{◌∙◌}
use Rattle.host.proofs.Laws.{marks_unwritten, marks_written_lem}
use Rattle.host.proofs.udukemb_marks_write.Goals as goal

pub returns-in-Err : goal.returns-in-Err
returns-in-Err c =
    let a = c.args in
    marks_unwritten a.link_record.now a.tape.now c.read_record.ensures a.out.now c.in-Err.is c.from.ensures

pub returns : goal.returns
returns c =
    let a = c.args in
    let all = marks_written_lem a.link_record.now a.tape.now c.read_record.ensures a.out.now c.in-Ok.is c.write.ensures in
    (c.written_of.ensures ∙ all.0, all.1)
