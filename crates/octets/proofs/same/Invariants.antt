use Rattle.std.proofs.Common.{◌≡◌, eqb, length, ◌&&◌}
use Rattle.octets.specs.Octets.{equal}
use Rattle.octets.proofs.same.Given as goal

abbrev pub invariant-loop-x : goal.invariant-loop-x
invariant-loop-x l =
    (length l.x-iterator.a.rest.now ≡ length l.x-iterator.b.rest.now)
    × (equal l.a l.b ≡ (eqb l.difference 0 && equal l.x-iterator.a.rest.now l.x-iterator.b.rest.now))
