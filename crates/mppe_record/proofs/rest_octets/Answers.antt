use mathlib.Core.Path.{◌≡◌}
use lib.ListN.{length}
use borrow.Author.Rules.{rules}
use Rattle.mppe_record.proofs.InnerLaws.{rest_laid}
use Rattle.mppe_record.proofs.rest_octets.Goals as goal

pub returns : goal.returns
returns c =
    -- what the link's struct holds
    let long : length c.args.link.state.cells ≡ 256 = search rules in
    rest_laid c.args.link long (c.is_stateful.ensures, c.yes_number.ensures, c.yes_number-2.ensures, c.copy.ensures, c.copy_at.ensures)
