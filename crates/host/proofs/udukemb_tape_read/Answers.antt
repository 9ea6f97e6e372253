use Rattle.host.proofs.Laws.{read_told}
use Rattle.host.proofs.udukemb_tape_read.Goals as goal

pub returns : goal.returns
returns c = read_told c.read-next.ensures c.number_of.ensures
