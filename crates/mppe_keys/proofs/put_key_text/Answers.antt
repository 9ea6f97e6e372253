use Rattle.mppe_keys.proofs.InnerLaws.{text_put}
use Rattle.mppe_keys.proofs.put_key_text.Goals as goal

pub returns : goal.returns
returns c = text_put _ _ _ c.put.ensures c.put-2.ensures c.put-3.ensures c.put-4.ensures
