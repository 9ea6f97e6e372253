use mathlib.Core.Path.{ap, ◌∙◌}
use Rattle.std.specs.Prelude.{Ok}
use Rattle.host.proofs.Laws.{replied, reply_refused}
use Rattle.host.proofs.udukemb_option_reply.Goals as goal

pub returns-in-Ok-Accept : goal.returns-in-Ok-Accept
returns-in-Ok-Accept c = replied _ _ _ _ c.reply_to.ensures.0 (c.in-Ok-Accept.is ∙ ap (λ r. Ok r) c.in-Ok-Accept.field-0-is) c.put_reply.ensures

pub returns-in-Ok-CounterOffer : goal.returns-in-Ok-CounterOffer
returns-in-Ok-CounterOffer c = replied _ _ _ _ c.reply_to.ensures.0 (c.in-Ok-CounterOffer.is ∙ ap (λ r. Ok r) c.in-Ok-CounterOffer.field-0-is) c.put_reply-in-Ok-CounterOffer.ensures

pub returns-in-Err : goal.returns-in-Err
returns-in-Err c = replied _ _ _ _ c.reply_to.ensures.0 c.in-Err.is (reply_refused _ _ c.from.ensures c.refused_reply.ensures)
