use Rattle.octets.specs.declared.Order.TheVariants.{HighestFirst}
use Rattle.blocks.specs.Laws.{digested}
use Rattle.sha_1.specs.Sha1.{initial, compress, octets_in, sha1, sha1_answer}
use Rattle.sha_1.proofs.sha1.Goals as goal

pub returns : goal.returns
unfolding sha1_answer sha1
returns c = digested compress HighestFirst initial octets_in _ c.initial.ensures c.in_ok-closed.ensures c.octets_in.ensures
