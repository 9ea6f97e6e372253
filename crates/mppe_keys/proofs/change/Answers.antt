use mathlib.Core.Path.{refl}
use Rattle.mppe_keys.proofs.InnerLaws.{changed_once}
use Rattle.mppe_keys.proofs.change.Goals as goal

pub returns : goal.returns
returns c = changed_once _ _ c.key_octets-k.ensures.0 c.told-text c.digest_of-digest.ensures c.put_next_key.ensures refl
