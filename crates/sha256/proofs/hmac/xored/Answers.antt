use Rattle.std.proofs.Common.{refl, arith}
use Rattle.sha256.proofs.HmacLaws.{xored_all, xored_more}
use Rattle.sha256.proofs.hmac.xored.Goals as goal

pub loop-octet-init : goal.loop-octet-init
loop-octet-init c = refl

pub loop-octet-preserved : goal.loop-octet-preserved
loop-octet-preserved c = xored_more _ _ c.loop-octet.octet-index c.loop-octet.invariant (omega arith)

pub returns : goal.returns
returns c = xored_all _ _ c.loop-octet.octet-index c.loop-octet.invariant (omega arith)
