use Rattle.mppe_keys.proofs.InnerLaws.{front_hashed}
use Rattle.mppe_keys.proofs.key_digest.Goals as goal

pub returns : goal.returns
returns g c = front_hashed _ _ _ c.put_key_text.ensures c.digest_of.ensures
