use Rattle.answer.specs.Laws.{not_size}
use Rattle.bench.proofs.Laws.{ended_opens}
use Rattle.bench.proofs.bench_pieces.Goals as goal

pub returns-then-step-eq0 : goal.returns-then-step-eq0
returns-then-step-eq0 c = λ z. absurd (not_size z)

pub returns : goal.returns
returns c = ended_opens c.args.front.now c.args.text.now c.args.out.now _ _ c.link_at-link.ensures c.begin-begun.ensures c.feed_all-last.ensures c.end.ensures
