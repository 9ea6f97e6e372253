use Rattle.std.proofs.Common.{rules}
use Rattle.marks.proofs.begins.Goals as goal

pub returns-then-well_formed-clause-told : goal.returns-then-well_formed-clause-told
returns-then-well_formed-clause-told c stateless = (search rules, search rules, search rules)
