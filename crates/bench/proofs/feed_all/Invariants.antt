use Rattle.std.specs.Slice.Iter.{chunks_rest}
use Rattle.bench.proofs.Laws.{Cutting}
use Rattle.bench.proofs.feed_all.Given as goal

-- what is fed is cut from the text's front
abbrev pub invariant-loop-piece : goal.invariant-loop-piece
invariant-loop-piece l = Cutting l.initial.walk l.initial.out l.text (chunks_rest l.piece-iterator) l.walk l.out
