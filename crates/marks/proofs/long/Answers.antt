use mathlib.Core.Path.{ap, ◌∙◌}
use Rattle.std.specs.Int.{w64, from_be_bytes}
use Rattle.marks.proofs.InnerLaws.{long_is}
use Rattle.marks.proofs.long.Goals as goal

pub returns : goal.returns
returns c =
    c.from_be_bytes.ensures ∙ ap (λ l. from_be_bytes w64 l) c.copy_from_slice.ensures.after ∙ long_is c.args.octets.now c.requires
