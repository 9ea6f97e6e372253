use mathlib.Core.Path.{◌≡◌}
use lib.ListN.{length}
use borrow.Author.Rules.{rules}
use Rattle.mppe_walk.proofs.Laws.{key_laid}
use Rattle.mppe_walk.proofs.key_octets.Goals as goal

pub returns : goal.returns
returns c =
    -- what the walk's struct holds
    let long : length c.args.walk.session ≡ 16 = search rules in
    key_laid c.args.walk long c.yes_number.ensures c.copy.ensures c.copy_at.ensures (search rules)
