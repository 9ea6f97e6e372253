use Rattle.sha256.proofs.HmacLaws.{key_short, key_long}
use Rattle.sha256.proofs.hmac.key_block.Goals as goal

pub returns-in_ok-sha256 : goal.returns-in_ok-sha256
returns-in_ok-sha256 c = key_long _ c.in_ok-sha256.ensures c.copy.ensures c.if-key-gt64.true

pub returns-else-key-gt64 : goal.returns-else-key-gt64
returns-else-key-gt64 c = key_short _ c.copy-else-key-gt64.ensures c.if-key-gt64.false
