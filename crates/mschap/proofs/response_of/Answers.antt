use Rattle.std.proofs.Common.{ap, ◌++◌, List, ℕ, replicate}
use Rattle.mschap.proofs.InnerLaws.{response_joined}
use Rattle.mschap.proofs.response_of.Goals as goal

pub returns : goal.returns
returns c =
    response_joined _ _ (ap (λ (hash : List ℕ). hash ++ replicate 5 0) c.copy_from_slice.ensures.after) c.encipher-first.ensures
    c.encipher-second.ensures c.encipher-third.ensures c.join.ensures
