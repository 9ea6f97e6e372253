use Rattle.mppe_keys.proofs.InnerLaws.{next_put, interim_applied}
use Rattle.mppe_keys.proofs.put_next_key.Goals as goal

pub unwrap-requires : goal.unwrap-requires
unwrap-requires c = interim_applied c.args.strength c.args.interim.now c.args.out.now c.apply.ensures.0 c.requires.0 c.requires.1

pub returns : goal.returns
returns c = next_put _ _ _ c.apply.ensures.1 c.reduce_front.ensures c.requires.0 c.requires.1
