use Rattle.tape.specs.Tape.{most_groups}
use Rattle.tape.proofs.InnerLaws.{before_groups}
use Rattle.tape.proofs.length_in.Goals as goal

pub loop-i-init : goal.loop-i-init
loop-i-init c = before_groups most_groups c.args.rest.now
