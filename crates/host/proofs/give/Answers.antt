use Rattle.host.proofs.Laws.{given_refused, given_room, given_done}
use Rattle.host.proofs.give.Goals as goal

pub returns-then-code-ne-DONE : goal.returns-then-code-ne-DONE
returns-then-code-ne-DONE c = given_refused _ _ _ c.if-code-ne-DONE.true

pub returns-then-out-res : goal.returns-then-out-res
returns-then-out-res c = given_room _ _ _ c.if-code-ne-DONE.false c.if-out-res.true

pub returns : goal.returns
returns c = given_done _ _ _ c.if-code-ne-DONE.false c.if-out-res.false c.copy.ensures
