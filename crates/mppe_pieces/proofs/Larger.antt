-- What a larger limit leaves as it was (02, M-110): every call on a packet whose total is not above the smaller one.
use Rattle.std.specs.Prelude.{◌≡◌, List, ℕ, ◌≤◌}
use Rattle.answer.specs.Laws.{outside_larger}
use Rattle.mppe.specs.declared.Link.{Link}
use Rattle.mppe.specs.Link.{shortest_plain}
use Rattle.mppe_pieces.specs.declared.Walk.{Walk}
use Rattle.mppe_pieces.specs.Walk.{begin_code, begin_step, goes_on, feed_code, feed_result, end_code, end_step}

module _ (limit limit' far : ℕ) (larger : limit ≤ limit') where
  pub begin_larger : (l : Link) (four : List ℕ) (total lent : ℕ) → total ≤ limit
      → begin_step limit' far l four total lent ≡ begin_step limit far l four total lent
  unfolding begin_step begin_code
  begin_larger l four total lent fits = rw (outside_larger shortest_plain limit limit' total fits larger)

  -- a walk made by hand included
  module _ (w : Walk) (fits : w.total ≤ limit) where
    goes_on_larger : goes_on limit' far w ≡ goes_on limit far w
    unfolding goes_on
    goes_on_larger = rw (outside_larger shortest_plain limit limit' w.total fits larger)

    pub feed_larger : (piece out : List ℕ) → feed_result limit' far w piece out ≡ feed_result limit far w piece out
    unfolding feed_result feed_code
    feed_larger piece out = rw goes_on_larger

    pub end_larger : end_step limit' far w ≡ end_step limit far w
    unfolding end_step end_code
    end_larger = rw goes_on_larger
