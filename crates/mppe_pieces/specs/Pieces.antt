-- The users' request M-104 as one claim, for both modes, for every limit of a plain packet and for every farthest distance.
use Rattle.std.specs.Prelude.{◌≡◌, ◌≢◌, true, List, [], ◌∷◌, ◌++◌, ℕ, ◌≤◌, eqb, length}
use Rattle.answer.specs.Answer.{done, shape, not_record, waiting, pick}
use Rattle.octets.specs.Octets.{written}
use Rattle.mppe.specs.declared.Link.{Link}
use Rattle.mppe.specs.declared.Outcome.{Outcome}
use Rattle.mppe.specs.Link.{front, well_formed, header_in, plain_for, Result, open_result}
use Rattle.mppe_pieces.specs.declared.Walk.{Walk}
use Rattle.mppe_pieces.specs.declared.Step.{Step}
use Rattle.mppe_pieces.specs.Walk.{Fed, over, on_with, early, closes, begin_step, feed_result, end_step}

-- the data of all pieces
unfoldable pub joined : List (List ℕ) → List ℕ
joined [] = []
joined (p ∷ ps) = p ++ joined ps

-- what the last feed left
pub record Left : Type 0 where
  pub walk : Walk
  pub buffer : List ℕ

-- "each call got walk and buffer as the last one left them", whatever it answered
unfoldable pub feed_all : (limit far : ℕ) (w : Walk) (out : List ℕ) (pieces : List (List ℕ)) → Left
feed_all limit far w out [] = record { walk = w; buffer = out }
feed_all limit far w out (p ∷ ps) = let r : Fed = feed_result limit far w p out in feed_all limit far r.step.walk r.buffer ps

-- from begin to the end
unfoldable pub walked : (limit far : ℕ) (l : Link) (four : List ℕ) (total lent : ℕ) (out : List ℕ) (pieces : List (List ℕ)) → Fed
walked limit far l four total lent out pieces =
    let r : Left = feed_all limit far (begin_step limit far l four total lent).walk out pieces in
    record { step = end_step limit far r.walk; buffer = r.buffer }

-- number, report and record of a call
abbrev pub outcome_in : Step → Outcome
outcome_in s = record { answer = s.answer; changes = s.changes; link = s.walk.link }

-- "buffer, record and report" after the end
abbrev pub result_of : Fed → Result
result_of r = record { outcome = outcome_in r.step; buffer = r.buffer }

pub record Pieces (limit far : ℕ) : Type 0 where
  -- "At a good end, if from begin on each call got walk and buffer as the last one left them, buffer, record and report equal the one-call
  -- form for every cutting"
  pub equal : (l : Link) (four : List ℕ) (total lent : ℕ) (out : List ℕ) (pieces : List (List ℕ))
      → (walked limit far l four total lent out pieces).step.answer ≡ done
      → result_of (walked limit far l four total lent out pieces) ≡ open_result limit far l (four ++ joined pieces) out
  -- where one call opens, every cutting has a good begin and a good end
  pub opens : (l : Link) (four out : List ℕ) (pieces : List (List ℕ)) → length four ≡ front
      → (open_result limit far l (four ++ joined pieces) out).outcome.answer ≡ done
      → ((begin_step limit far l four (length (joined pieces)) (length out)).answer ≡ done)
      × ((walked limit far l four (length (joined pieces)) (length out) out pieces).step.answer ≡ done)
  -- "the order is that of open without 4; a refused begin gives a closed walk": what begin refuses, 11 included, open refuses with the same
  -- report and record, whatever the data
  pub refuses : (l : Link) (four text out : List ℕ) → length four ≡ front
      → (begin_step limit far l four (length text) (length out)).answer ≢ done
      → (open_result limit far l (four ++ text) out ≡ record { outcome = outcome_in (begin_step limit far l four (length text) (length out)); buffer = out })
      × ((begin_step limit far l four (length text) (length out)).walk ≡ over (begin_step limit far l four (length text) (length out)).walk.link)
  -- "A feed writes its piece opened, both protocol octets together": while the walk is live every piece was taken, and the buffer has them
  -- opened, or is as lent before both protocol octets are there
  pub so_far : (l : Link) (four : List ℕ) (total lent : ℕ) (out : List ℕ) (pieces : List (List ℕ))
      → total ≤ length out
      → (feed_all limit far (begin_step limit far l four total lent).walk out pieces).walk.live ≡ true
      → ((feed_all limit far (begin_step limit far l four total lent).walk out pieces).walk.fed ≡ length (joined pieces))
      × ((feed_all limit far (begin_step limit far l four total lent).walk out pieces).buffer
      ≡ pick (early (length (joined pieces))) out (written (plain_for l (header_in four) (joined pieces)) out))
  -- "Only a good end or a begin that answers 11 moves the link record or reports changes"
  pub unmoved : (l : Link) (four : List ℕ) (total lent : ℕ) (out : List ℕ) (pieces : List (List ℕ))
      → (begin_step limit far l four total lent).answer ≢ waiting → (walked limit far l four total lent out pieces).step.answer ≢ done
      → ((walked limit far l four total lent out pieces).step.walk.link ≡ l) × ((walked limit far l four total lent out pieces).step.changes ≡ 0)

-- and of every call on every walk
pub record Calls (limit far : ℕ) : Type 0 where
  -- a begin but for 11
  pub begun : (l : Link) (four : List ℕ) (total lent : ℕ) → (begin_step limit far l four total lent).answer ≢ waiting
      → ((begin_step limit far l four total lent).walk.link ≡ l) × ((begin_step limit far l four total lent).changes ≡ 0)
  -- "a refused begin gives a closed walk"
  pub closed : (l : Link) (four : List ℕ) (total lent : ℕ) → (begin_step limit far l four total lent).answer ≢ done
      → (begin_step limit far l four total lent).walk ≡ over (begin_step limit far l four total lent).walk.link
  -- a feed
  pub fed : (w : Walk) (piece out : List ℕ)
      → ((feed_result limit far w piece out).step.walk.link ≡ w.link) × ((feed_result limit far w piece out).step.changes ≡ 0)
  -- "A piece beyond the total is 3 .. these and a 4 close the walk; octets written by earlier pieces stay"; 7 and 2 hand it back
  pub refused : (w : Walk) (piece out : List ℕ) → (feed_result limit far w piece out).step.answer ≢ done
      → ((feed_result limit far w piece out).buffer ≡ out)
      × ((feed_result limit far w piece out).step.walk ≡ pick (closes (feed_result limit far w piece out).step.answer) (over w.link) w)
  -- "an end before it is 1", and closes the walk; 7 hands it back
  pub unended : (w : Walk) → (end_step limit far w).answer ≢ done
      → ((end_step limit far w).walk ≡ pick (eqb (end_step limit far w).answer shape) (over w.link) w) × ((end_step limit far w).changes ≡ 0)
  -- a good end leaves a walk that is over, and a well-formed record; it reports no more changes than the farthest distance
  pub ended : (w : Walk) → (end_step limit far w).answer ≡ done
      → ((end_step limit far w).walk ≡ over (end_step limit far w).walk.link) × (well_formed (end_step limit far w).walk.link ≡ true)
      × ((end_step limit far w).changes ≤ far)
  -- "every later call on a closed or ended walk is 7", and changes nothing
  pub later : (l : Link) (piece out : List ℕ)
      → (feed_result limit far (over l) piece out ≡ record { step = on_with not_record (over l); buffer = out })
      × (end_step limit far (over l) ≡ on_with not_record (over l))
