-- What a larger limit leaves as it was (02, M-110): everything about a packet that is not above the smaller one.
use Rattle.std.specs.Prelude.{◌≡◌, List, ℕ, ◌+◌, ◌≤◌, length}
use Rattle.std.proofs.Common.{arith}
use Rattle.answer.specs.Laws.{outside_larger}
use Rattle.mppe.specs.declared.Link.{Link}
use Rattle.mppe.specs.Link.{shortest_plain, front, seal_code, seal_result, open_code, open_result, judged}

module _ (limit limit' : ℕ) (larger : limit ≤ limit') where
  -- seal, open, and what a header is judged by, refusals included
  pub seal_larger : (l : Link) (plain out : List ℕ) → length plain ≤ limit → seal_result limit' l plain out ≡ seal_result limit l plain out
  unfolding seal_result seal_code
  seal_larger l plain out fits = rw (outside_larger shortest_plain limit limit' (length plain) fits larger)

  pub open_larger : (far : ℕ) (l : Link) (packet out : List ℕ) → length packet ≤ front + limit
      → open_result limit' far l packet out ≡ open_result limit far l packet out
  unfolding open_result open_code
  open_larger far l packet out fits =
      rw (outside_larger (front + shortest_plain) (front + limit) (front + limit') (length packet) fits (omega arith))

  pub judged_larger : (far : ℕ) (l : Link) (h n : ℕ) → n ≤ limit → judged limit' far l h n ≡ judged limit far l h n
  unfolding judged
  judged_larger far l h n fits = rw (outside_larger shortest_plain limit limit' n fits larger)
