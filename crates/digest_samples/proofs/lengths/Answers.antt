use Rattle.std.proofs.Common.{sym, length-take-le, arith}
use Rattle.digest_samples.proofs.lengths.Goals as goal

pub slice_bounds-each-length : goal.slice_bounds-each-length
slice_bounds-each-length g c = sym (length-take-le 65535 c.fill.new.text (omega arith))
