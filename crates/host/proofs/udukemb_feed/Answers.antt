use borrow.Author.Rules.{rules}
use Rattle.host.specs.Host.{feed_walked}
use Rattle.host.proofs.Laws.{walked_none, fed_made, seal_told}
use Rattle.host.proofs.udukemb_feed.Goals as goal

pub returns-in-Err : goal.returns-in-Err
unfolding feed_walked
returns-in-Err c = seal_told (walked_none _ _ _ c.read_walk.ensures c.in-Err.is c.from.ensures)

pub returns : goal.returns
unfolding feed_walked
returns c =
    let lent-walk = c.args.walk.now in
    seal_told (fed_made lent-walk _ _ (search rules) c.read_walk.ensures c.in-Ok.is c.feed-fed.ensures c.put_rest.ensures)
