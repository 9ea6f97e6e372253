use mathlib.Core.Path.{ap}
use Rattle.std.specs.Prelude.{is_ok}
use native.Mathlib.Omega.{arith}
use Rattle.mppe_pieces.proofs.InnerLaws.{feed_refused, feed_kept, feed_runs, feed_written, first_long}
use Rattle.mppe_pieces.proofs.Walk.feed.Goals as goal

pub returns-then-code-ne-DONE : goal.returns-then-code-ne-DONE
returns-then-code-ne-DONE c = feed_refused _ c.args.self c.args.piece.now c.args.out.now c.feed_code-code.ensures.code c.if-code-ne-DONE.true c.refused.ensures

pub returns-then-early : goal.returns-then-early
returns-then-early c =
    feed_kept c.args.self c.args.piece.now c.args.out.now c.feed_code-code.ensures.code c.if-code-ne-DONE.false c.early.ensures
    c.if-early.true c.kept.ensures

pub slice_bounds-run-count : goal.slice_bounds-run-count
slice_bounds-run-count c = omega (arith, first_long c.args.self.fed c.args.self.first c.args.out.now c.put_first.ensures (omega arith))

pub slice_bounds-run-start : goal.slice_bounds-run-start
slice_bounds-run-start c = omega (arith, first_long c.args.self.fed c.args.self.first c.args.out.now c.put_first.ensures (omega arith))

pub unwrap-drawn-requires : goal.unwrap-drawn-requires
unwrap-drawn-requires c =
    ap is_ok (feed_runs c.args.self c.args.piece.now c.args.out.now c.feed_code-code.ensures.code c.if-code-ne-DONE.false c.put_first.ensures c.run.ensures.0)

pub returns : goal.returns
returns c =
    feed_written c.args.self c.args.piece.now c.args.out.now c.feed_code-code.ensures.code c.if-code-ne-DONE.false
    c.early.ensures c.if-early.false c.put_first.ensures c.run.ensures c.unwrap-drawn.ensures c.went_on.ensures
