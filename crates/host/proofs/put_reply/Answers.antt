use Rattle.host.proofs.Laws.{choice_written, choice_refused, choice_replied}
use Rattle.host.proofs.put_reply.Goals as goal

pub returns-then-number-ne-DONE : goal.returns-then-number-ne-DONE
returns-then-number-ne-DONE c =
    let w = choice_written _ _ c.only.ensures c.number_of-number.ensures c.write.ensures in
    (choice_refused _ _ w.0 c.if-number-ne-DONE.true c.refused_reply.ensures, w.1)

pub returns : goal.returns
returns c =
    let w = choice_written _ _ c.only.ensures c.number_of-number.ensures c.write.ensures in
    (choice_replied _ _ w.0 c.if-number-ne-DONE.false c.bits_of.ensures c.is_stateful.ensures, w.1)
