-- A run at the limits of demand 3's schedule, for every strength and start key: the most packets that may be lost in a row are lost from
-- the start, and as many twice more, the last time across the wrap of the count. So the limit is no smaller than stated; and what the
-- claim says of this run.
use Rattle.std.specs.Prelude.{◌≡◌, List, [], ◌∷◌, map, replicate}
use Rattle.std.proofs.Math.Path.{refl, ap}
use Prim.Native.Nat.{ℕ, zero, suc, ◌+◌, ◌<◌, ◌≤◌}
use Rattle.std.proofs.Common.{arith}
use Rattle.std.proofs.Math.Dec.{lit≤}
use Rattle.std.proofs.Math.ListN.{length}
use Rattle.answer.specs.Answer.{done}
use Rattle.mppe_keys.specs.declared.Strength.{Strength}
use Rattle.mppe_keys.specs.declared.Mode.TheVariants.{Stateless}
use Rattle.mppe.specs.Link.{longest_plain, farthest, new_link, Result}
use Rattle.mppe_runs.specs.Run.{most_lost, SealCall, OpenCall, arrival, Packet, History, first, beginning, said_code, packet_of, onward, packets, numbered, open_run, Meets, due, Demand3}
use Rattle.mppe_runs.proofs.Demand3.{demand_3_base}

abbrev pub plain : List ℕ
plain = 0x00 ∷ 0x21 ∷ []

abbrev call : SealCall
call = record { plain = plain; room = replicate 6 0 }

-- the packets that arrive, and how many are sealed
abbrev early : ℕ
early = most_lost

abbrev middle : ℕ
middle = suc early + most_lost

abbrev wrapped : ℕ
wrapped = suc middle + most_lost

abbrev pub calls : ℕ → List SealCall
calls n = replicate n call

module _ (s : Strength) (start : List ℕ) where
  pub sealed_length : (n : ℕ) (h : History) → length (packets longest_plain s start h (calls n)) ≡ n
  unfolding packets said_code
  sealed_length zero h = refl
  sealed_length (suc n) h = ap suc (sealed_length n (onward longest_plain s start h call))

  pub sealed_plain : (n i : ℕ) (h : History) → i < n → (numbered s start (packets longest_plain s start h (calls n)) i).plain ≡ plain
  unfolding packets said_code numbered packet_of
  sealed_plain zero i h low = absurd (omega arith)
  sealed_plain (suc n) zero h low = refl
  sealed_plain (suc n) (suc i) h low = sealed_plain n i (onward longest_plain s start h call) (omega arith)

  abbrev pub sealed : ℕ → List Packet
  sealed n = packets longest_plain s start (beginning s start) (calls n)

  abbrev pub opens : List Packet → List OpenCall
  opens ps = arrives early ∷ arrives middle ∷ arrives wrapped ∷ []
    where
      arrives : ℕ → OpenCall
      arrives q = arrival q (numbered s start ps q).octets (replicate 2 0)

  pub meets : (n : ℕ) → wrapped < n → Meets longest_plain farthest s start (sealed n) most_lost 0 (first s start) (opens (sealed n))
  unfolding Meets
  meets n h =
      let long = sealed_length n (beginning s start) in
      let fits : (q : ℕ) → q < n → length (numbered s start (sealed n) q).plain ≤ 2 = λ q low. rw (sealed_plain n q (beginning s start) low) (lit≤ tt) in (
        omega (arith, long),
        lit≤ tt,
        lit≤ tt,
        refl,
        fits early (omega arith),
        (omega (arith, long), lit≤ tt, lit≤ tt, refl, fits middle (omega arith), (omega (arith, long), lit≤ tt, lit≤ tt, refl, fits wrapped h, tt)),
      )

  -- the key changes that open reports
  abbrev reported : Result → ℕ
  reported r = r.outcome.changes

  -- all arrivals are as far as may be
  pub run_opens : (new_link s Stateless start).answer ≡ done → (n : ℕ) → wrapped < n
      → map reported (open_run longest_plain farthest (first s start) (opens (sealed n))) ≡ farthest ∷ farthest ∷ farthest ∷ []
  unfolding Demand3 due
  run_opens ok n h = ap (map reported) (demand_3_base s start ok (calls n) (opens (sealed n)) (meets n h)).1
