use Rattle.mschap.specs.Mschap.{magic1, magic2, hash_hash, signature}
use Rattle.mschap.proofs.signature.Goals as goal

pub returns : goal.returns
unfolding magic1 magic2 hash_hash signature
returns c = cc
