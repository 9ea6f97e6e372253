use Rattle.mppe_keys.proofs.InnerLaws.{key_changed}
use Rattle.mppe_keys.proofs.changed.Goals as goal

pub returns : goal.returns
returns c = key_changed _ _ _ _ _ _ c.key_octets-k.ensures.0 c.put_key_text.ensures c.change_times.ensures c.placed.ensures c.requires.0 c.requires.1
