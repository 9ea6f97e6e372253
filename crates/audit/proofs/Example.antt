-- That conditions of the laws matter, and that they can be met.
use Rattle.std.specs.Prelude.{◌≡◌, Bool, true, false, ◌≢◌, List, [], ◌∷◌, ◌++◌, ℕ, suc, ◌-◌, ◌/◌, ◌%◌, ◌<◌, ◌≤◌, length, get_or, replicate}
use Rattle.std.proofs.Common.{sym, ap, ◌∙◌, suc-ne-zero, arith}
use Rattle.octets.specs.Octets.{written}
use Rattle.rc4.specs.declared.Rc4.{Rc4}
use Rattle.rc4.specs.Cipher.{unkeyed, key_schedule, after}
use Rattle.mppe_keys.specs.declared.Strength.{Strength}
use Rattle.mppe_keys.specs.declared.Strength.TheVariants.{Bits40, Bits128}
use Rattle.mppe_keys.specs.declared.Mode.TheVariants.{Stateless}
use Rattle.mppe_keys.specs.Keys.{key_length, head_of, begins, initial_key, changes, placed}
use Rattle.mppe_keys.proofs.Laws.{key_most, placed_length, initial_key_length, changes_length}
use Rattle.mppe.specs.declared.Link.{Link}
use Rattle.mppe.specs.Link.{longest_plain, farthest, counts, zeros, well_formed, packet_on, finished}
use Rattle.mppe.proofs.Laws.{unkeyed_fits, Box, after_box, keyed_box}
use Rattle.mppe_runs.proofs.Line.{Sealable, key_at as key_after, record_at, packet_at, open_arrival}
use Rattle.mppe_runs.proofs.Stateful.{key_at, held_at, made_at, fresh_opens}
use Rattle.audit.specs.Laws.{changed, first, second, alone}

-- a record made by hand, of its strength and session key
abbrev hand_made : Strength → List ℕ → Link
hand_made s session = record { strength = s; mode = Stateless; start = replicate 16 0; session = session; count = 0; state = unkeyed; waiting = false }

-- no change is not the identity on one that has an octet behind its session key: the octet is cleared ..
abbrev octet_behind : Link
octet_behind = hand_made Bits40 (replicate 15 0 ++ 1 ∷ [])

pub not_the_identity : changed 0 octet_behind ≢ octet_behind
unfolding changed changes placed
not_the_identity e = suc-ne-zero 0 (sym (ap (λ (l : Link). get_or l.session 15 0) e))

-- .. nor on a well-formed one whose session key has not its places: they are filled
abbrev without_places : Link
without_places = hand_made Bits128 []

pub well_without_places : well_formed without_places ≡ true
unfolding well_formed zeros begins head_of
well_without_places = unkeyed_fits Stateless

pub not_without_places : changed 0 without_places ≢ without_places
unfolding changed changes placed
not_without_places e = suc-ne-zero 15 (ap (λ (l : Link). length l.session) e)

-- Two packets i and j of one sender, from the record of a receiver that is done with those before `next`: at every strength and from every start key,
-- whatever is in them, all three opens that `reports_add` speaks of answer 0.
module _ (s : Strength) (start : List ℕ) (h : length start ≡ key_length s) (next i j : ℕ) (low : next ≤ i) (later : i < j) (near : j - next < farthest)
    (p q a b : List ℕ) (p-can : Sealable longest_plain p) (q-can : Sealable longest_plain q) (p-fits : length p ≤ length a) (q-fits : length q ≤ length b) where
  -- a session key in its 16 places, after any number of key changes
  places : (n : ℕ) → length (placed (changes s start n (initial_key s start))) ≡ 16
  places n = placed_length _ (omega (arith, changes_length s start n (initial_key s start) (initial_key_length s start), key_most s))

  -- in stateless mode the reports are i - next + 1 and j - i, and alone j - next + 1
  abbrev at : Link
  at = record_at s start next

  abbrev pᵢ : List ℕ
  pᵢ = (packet_at s start i p).octets

  abbrev qⱼ : List ℕ
  qⱼ = (packet_at s start j q).octets

  pub stateless_places : length at.session ≡ 16
  unfolding record_at key_after
  stateless_places = places next

  pub stateless_opens :
      (first longest_plain farthest at pᵢ qⱼ a b ≡ finished (suc (i - next)) (record_at s start (suc i)) (written p a))
      × (second longest_plain farthest at pᵢ qⱼ a b ≡ finished (j - i) (record_at s start (suc j)) (written q b))
      × (alone longest_plain farthest at pᵢ qⱼ a b ≡ finished (suc (j - next)) (record_at s start (suc j)) (written q b))
  stateless_opens =
      let one = open_arrival s start h longest_plain farthest next i p a (omega arith) p-can low (omega arith) p-fits in
      let between : suc (j - suc i) ≡ j - i = omega arith in (
        one,
        rw one (open_arrival s start h longest_plain farthest (suc i) j q b (omega arith) q-can (omega arith) (omega arith) q-fits ∙ rw between),
        open_arrival s start h longest_plain farthest next j q b (omega arith) q-can (omega arith) near q-fits,
      )

  -- in stateful mode, where both packets have bit A: the reports are the counts ending in 0xFF
  module _ (state : Rc4) (mark : Bool) (box : Box state) where
    abbrev held : Link
    held = held_at s start next state mark

    abbrev freshly : ℕ → List ℕ → List ℕ
    freshly n plain = packet_on true (key_schedule (key_at s start (suc n))) (n % counts) plain

    abbrev left : ℕ → List ℕ → Link
    left n plain = held_at s start (suc n) (after (key_schedule (key_at s start (suc n))) plain) false

    pub stateful_places : length held.session ≡ 16
    unfolding held_at key_at
    stateful_places = places (next / 256)

    pub stateful_opens :
        (first longest_plain farthest held (freshly i p) (freshly j q) a b ≡ finished (made_at s start h longest_plain next i) (left i p) (written p a))
        × (second longest_plain farthest held (freshly i p) (freshly j q) a b ≡ finished (made_at s start h longest_plain (suc i) j) (left j q) (written q b))
        × (alone longest_plain farthest held (freshly i p) (freshly j q) a b ≡ finished (made_at s start h longest_plain next j) (left j q) (written q b))
    stateful_opens =
        let one = fresh_opens s start h longest_plain farthest next i state mark p a box (omega arith) low (omega arith) p-can p-fits in
        let after_one = after_box (key_schedule (key_at s start (suc i))) p (keyed_box (key_at s start (suc i))) in (
          one,
          rw one (fresh_opens s start h longest_plain farthest (suc i) j _ false q b after_one (omega arith) (omega arith) (omega arith) q-can q-fits),
          fresh_opens s start h longest_plain farthest next j state mark q b box (omega arith) (omega arith) near q-can q-fits,
        )
