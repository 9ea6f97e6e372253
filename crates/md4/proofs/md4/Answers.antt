use Rattle.octets.specs.declared.Order.TheVariants.{LowestFirst}
use Rattle.blocks.specs.Laws.{digested}
use Rattle.md4.specs.Md4.{initial, compress, octets_in, md4, md4_answer}
use Rattle.md4.proofs.md4.Goals as goal

pub returns : goal.returns
unfolding md4_answer md4
returns c = digested compress LowestFirst initial octets_in _ c.initial.ensures c.in_ok-closed.ensures c.octets_in.ensures
