use mathlib.Core.Path.{ap, ◌∙◌}
use Rattle.std.specs.Slice.Iter.{chunks_rest}
use Rattle.bench.proofs.Laws.{cut_none, cut_more, cut_all}
use Rattle.bench.proofs.feed_all.Goals as goal

pub loop-piece-init : goal.loop-piece-init
loop-piece-init c =
    cut_none c.args.first c.args.out.now c.args.text.now
    (ap (λ i. chunks_rest i) c.into_iter-piece-iterator.ensures.into_iter_gives ∙ c.chunks-piece-items.ensures.rest)

pub loop-piece-preserved : goal.loop-piece-preserved
loop-piece-preserved c = cut_more _ _ c.loop-piece.invariant c.in-Some.ensures.steps.1.0 c.feed.ensures

pub returns : goal.returns
returns c = cut_all c.loop-piece.invariant c.in-None.ensures.steps.1.0
