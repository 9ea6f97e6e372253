use Rattle.octets.specs.declared.Order.TheVariants.{HighestFirst}
use Rattle.blocks.specs.Laws.{digested}
use Rattle.sha256.specs.Sha256.{initial, compress, octets_in, sha256, sha256_answer}
use Rattle.sha256.proofs.sha256.Goals as goal

pub returns : goal.returns
unfolding sha256_answer sha256
returns c = digested compress HighestFirst initial octets_in _ c.initial.ensures c.in_ok-closed.ensures c.octets_in.ensures
