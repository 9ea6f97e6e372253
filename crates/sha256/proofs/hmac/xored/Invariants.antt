use Rattle.std.proofs.Common.{◌≡◌, ◌++◌, take, drop}
use Rattle.sha256.specs.Hmac.{xored}
use Rattle.sha256.proofs.hmac.xored.Given as goal

abbrev pub invariant-loop-octet : goal.invariant-loop-octet
invariant-loop-octet l = l.octet-items ≡ xored l.pad (take l.octet-index l.initial.octet-items) ++ drop l.octet-index l.initial.octet-items
