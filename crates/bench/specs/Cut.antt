-- A text fed in pieces.
use Rattle.std.specs.Prelude.{◌≡◌, List, ℕ}
use Rattle.mppe.specs.Link.{longest_plain, farthest}
use Rattle.mppe_pieces.specs.declared.Walk.{Walk}
use Rattle.mppe_pieces.specs.Pieces.{joined, feed_all}

-- pieces that are the text, and what feeding them in turn leaves of a walk and a buffer
pub record Cut (first : Walk) (out text : List ℕ) (last : Walk) (out' : List ℕ) : Type 0 where
  pub pieces : List (List ℕ)
  pub whole : joined pieces ≡ text
  pub left : feed_all longest_plain farthest first out pieces ≡ record { walk = last; buffer = out' }
