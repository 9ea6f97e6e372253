use Rattle.sha_1.proofs.Laws.{one_round}
use Rattle.sha_1.proofs.round.Goals as goal

pub returns : goal.returns
returns c =
    one_round _ _ _ _ _ _ c.requires c.ring_word-word.ensures (rw (c.rotate_left.ensures, c.f.ensures, c.k.ensures)) c.rotate_left-2.ensures
