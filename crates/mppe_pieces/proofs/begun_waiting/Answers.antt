use mathlib.Core.Path.{refl}
use Rattle.mppe_pieces.proofs.InnerLaws.{key_made, box_made, waiting_is}
use Rattle.mppe_pieces.proofs.begun_waiting.Goals as goal

pub returns : goal.returns
returns c =
    let a = c.args in
    let key = key_made a.link a.header a.changes c.requires c.changed-session.ensures.0 in
    waiting_is a.link a.header c.requires key
    (box_made a.link a.header a.changes c.changed-session.ensures.1 c.requires key c.cipher-state.ensures) refl
    c.over.ensures
