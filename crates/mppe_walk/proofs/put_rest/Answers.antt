use mathlib.Core.Path.{◌≡◌}
use borrow.Author.Rules.{rules}
use lib.ListN.{length}
use Rattle.mppe_walk.proofs.Laws.{rest_laid, rest_left}
use Rattle.mppe_walk.proofs.put_rest.Goals as goal

pub returns-then-octets-ne-WALK_LENGTH : goal.returns-then-octets-ne-WALK_LENGTH
returns-then-octets-ne-WALK_LENGTH c = rest_left c.args.walk _ c.if-octets-ne-WALK_LENGTH.true

pub returns : goal.returns
returns c =
    -- what the walk's struct holds
    let long : length c.args.walk.state.cells ≡ 256 = search rules in
    rest_laid c.args.walk c.args.octets.now c.if-octets-ne-WALK_LENGTH.false long c.key_octets-keyed.ensures c.fed_octets-fed.ensures
    c.copy_at.ensures c.copy_at-2.ensures c.copy_at-3.ensures c.copy_at-4.ensures
