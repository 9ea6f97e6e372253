use Rattle.std.proofs.Common.{ap, arith, length}
use Rattle.mschap.proofs.Laws.{hashed_short}
use Rattle.mschap.proofs.challenge_hash.Goals as goal

pub sha1_of-digest-requires : goal.sha1_of-digest-requires
sha1_of-digest-requires c = omega (arith, ap length c.hashed_name.ensures, hashed_short c.args.name.now)
