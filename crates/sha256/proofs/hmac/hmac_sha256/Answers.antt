use Rattle.sha256.proofs.HmacLaws.{coded}
use Rattle.sha256.proofs.hmac.hmac_sha256.Goals as goal

pub returns : goal.returns
returns c = coded _ _ c.in_ok-block.ensures c.xored.ensures c.in_ok-inner.ensures c.xored-2.ensures c.digest_behind-2.ensures
