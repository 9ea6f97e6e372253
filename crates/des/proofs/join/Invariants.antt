use Rattle.std.proofs.Common.{◌≡◌, ◌<◌, ◌^◌, take}
use Rattle.octets.specs.Octets.{joined}
use Rattle.des.proofs.join.Given as goal

abbrev pub invariant-loop-octet : goal.invariant-loop-octet
invariant-loop-octet l = (l.r ≡ joined 0 (take l.octet-index l.octets)) × (l.r < 256 ^ l.octet-index)
