use mathlib.Core.Path.{◌∙◌}
use borrow.Author.Tests.{lt-leb}
use Rattle.marks.proofs.InnerLaws.{beyond_list}
use Rattle.marks.proofs.stands_at.Goals as goal

pub returns-else-end-marks : goal.returns-else-end-marks
returns-else-end-marks c = lt-leb _ _ c.if-end-marks.false ∙ beyond_list c.args.octets.now c.args.marks.now c.args.at c.requires.0 c.if-end-marks.false
