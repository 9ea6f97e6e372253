use mathlib.Core.Path.{◌≡◌}
use Prim.Native.Nat.{◌≤◌}
use lib.ListN.{length, take}
use Rattle.octets.specs.Octets.{written}
use Rattle.tape.specs.Tape.{most_groups, groups}
use Rattle.tape.proofs.InnerLaws.{Left}
use Rattle.tape.proofs.put_groups.Given as goal

abbrev pub invariant-loop-octet : goal.invariant-loop-octet
invariant-loop-octet l =
    Left most_groups l.n l.octet-index l.left × (length (groups most_groups l.n) ≤ length l.initial.out)
    × (l.out ≡ written (take l.octet-index (groups most_groups l.n)) l.initial.out)
