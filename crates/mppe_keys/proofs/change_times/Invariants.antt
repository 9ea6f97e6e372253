use Rattle.mppe_keys.specs.Inner.{Changed}
use Rattle.mppe_keys.proofs.change_times.Given as goal

abbrev pub invariant-loop : goal.invariant-loop
invariant-loop l = Changed l.strength l.counter l.initial.text l.text
