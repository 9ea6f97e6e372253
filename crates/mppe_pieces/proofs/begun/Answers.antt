use mathlib.Core.Path.{◌∙◌}
use Rattle.mppe_pieces.proofs.InnerLaws.{key_made, state_made, begun_is}
use Rattle.mppe_pieces.proofs.begun.Goals as goal

pub returns : goal.returns
returns c =
    let a = c.args in
    let key = key_made a.link a.header a.changes c.requires.0 c.changed-session.ensures.0 in
    c.unchanged.ensures
    ∙ begun_is a.link a.header a.total key
    (state_made a.link a.header a.changes c.changed-session.ensures.1 c.requires.0 key c.keys_afresh.ensures c.cipher-state.ensures)
