-- A run that meets demand 3's schedule, for every strength and start key: noise comes before the first arrival, of four packets the line
-- brings the first behind the second and loses the last, the second is handed to open twice, and noise comes before the third. So the
-- claim is not empty; and what it says of this run. First, what is due to any call that is no arrival.
use Rattle.std.specs.Prelude.{◌≡◌, List, [], ◌∷◌, ◌++◌, map, ℕ, ◌≤◌, length, replicate}
use Rattle.std.proofs.Math.Path.{refl, ap, subst⁻¹}
use Rattle.std.proofs.Common.{◌∙◌, arith, lit<}
use Rattle.std.proofs.Math.Dec.{lit≤}
use Rattle.answer.specs.Answer.{done, shape, size, repeat, late}
use Rattle.mppe_keys.specs.declared.Strength.{Strength}
use Rattle.mppe_keys.specs.declared.Mode.TheVariants.{Stateless}
use Rattle.mppe_keys.specs.Keys.{key_length, changes}
use Rattle.mppe.specs.declared.Link.{Link}
use Rattle.mppe.specs.Link.{longest_plain, farthest, new_link, Result, finished, refusal, open_code}
use Rattle.mppe_runs.specs.Run.{most_lost, SealCall, OpenCall, arrival, other, Packet, seal_run, open_run, first, beginning, said_code, packet_of, onward, packets, said, numbered, Meets, due, Demand3}
use Rattle.mppe_runs.proofs.Line.{key_at, record_at, history_at, packet_at, start_length, first_is_lem, well_at, packet_is, repeat_code, late_code}
use Rattle.mppe_runs.proofs.Demand3.{demand_3_base}

-- what is due to a call that is no arrival, also where no schedule is met: the first number that applies, and nothing moves
pub due_other : (limit far : ℕ) (s : Strength) (start : List ℕ) (sealed : List Packet) (next : ℕ) (held : Link) (octets room : List ℕ) (cs : List OpenCall)
    → due limit far s start sealed next held (other octets room ∷ cs)
    ≡ refusal (open_code limit far held octets (length room)) held room ∷ due limit far s start sealed next held cs
unfolding due
due_other limit far s start sealed next held octets room cs = refl

abbrev plain₀ : List ℕ
plain₀ = 0x00 ∷ 0x21 ∷ 0x45 ∷ []

abbrev plain₁ : List ℕ
plain₁ = 0x00 ∷ 0x21 ∷ 0x46 ∷ 0x47 ∷ []

abbrev plain₂ : List ℕ
plain₂ = 0x00 ∷ 0x57 ∷ []

abbrev plain₃ : List ℕ
plain₃ = 0x00 ∷ 0x57 ∷ 0x60 ∷ []

-- octets that are no packet
abbrev pub noise : List ℕ
noise = 0x00 ∷ 0xFD ∷ []

-- the number that a call answers
abbrev answered : Result → ℕ
answered r = r.outcome.answer

-- the second call is refused: its packet is too short
abbrev pub seals : List SealCall
seals =
    record { plain = plain₀; room = replicate 7 0 }
    ∷ record { plain = 0x00 ∷ []; room = replicate 7 0 }
    ∷ record { plain = plain₁; room = replicate 9 0 }
    ∷ record { plain = plain₂; room = replicate 6 0 }
    ∷ record { plain = plain₃; room = replicate 7 0 }
    ∷ []

module _ (s : Strength) (start : List ℕ) where
  abbrev pub sealed : List Packet
  sealed = packets longest_plain s start (beginning s start) seals

  abbrev pub opens : List Packet → List OpenCall
  opens ps =
      other noise []
      ∷ arrival 1 (numbered s start ps 1).octets (replicate 5 0)
      ∷ other (numbered s start ps 1).octets (replicate 4 0)
      ∷ other (numbered s start ps 0).octets (replicate 3 0)
      ∷ other noise []
      ∷ arrival 2 (numbered s start ps 2).octets (replicate 2 0)
      ∷ []

  -- what open gives: 1, two key changes for the second packet, 6, 10, 1, and one key change for the third
  abbrev pub opened : List Packet → List Result
  opened ps =
      refusal shape (first s start) []
      ∷ finished 2 (numbered s start ps 1).link (plain₁ ++ (0 ∷ []))
      ∷ refusal repeat (numbered s start ps 1).link (replicate 4 0)
      ∷ refusal late (numbered s start ps 1).link (replicate 3 0)
      ∷ refusal shape (numbered s start ps 1).link []
      ∷ finished 1 (numbered s start ps 2).link plain₂
      ∷ []

  -- four packets are sealed
  abbrev four : List Packet
  four = packet_at s start 0 plain₀ ∷ packet_at s start 1 plain₁ ∷ packet_at s start 2 plain₂ ∷ packet_at s start 3 plain₃ ∷ []

  sealed_four : length start ≡ key_length s → sealed ≡ four
  unfolding packets said_code onward history_at key_at changes
  sealed_four h = rw (← packet_is s start h 0 plain₀, ← packet_is s start h 1 plain₁, ← packet_is s start h 2 plain₂, ← packet_is s start h 3 plain₃)

  -- the repeat is refused with 6, the packet that comes late with 10, the noise with 1
  again : length start ≡ key_length s → open_code longest_plain farthest (numbered s start four 1).link (numbered s start four 1).octets 4 ≡ repeat
  unfolding numbered packet_at
  again h = repeat_code s start h longest_plain farthest 1 plain₁ 4 (refl, refl)

  overtaken : length start ≡ key_length s → open_code longest_plain farthest (numbered s start four 1).link (numbered s start four 0).octets 3 ≡ late
  unfolding numbered packet_at
  overtaken h = late_code s start h longest_plain farthest 2 0 plain₀ 3 (refl, refl) (lit< tt) (lit< tt)

  noise_at : length start ≡ key_length s → (m : ℕ) → open_code longest_plain farthest (record_at s start m) noise 0 ≡ shape
  unfolding open_code
  noise_at h m = rw (well_at s start h m)

  pub noise_first : length start ≡ key_length s → open_code longest_plain farthest (first s start) noise 0 ≡ shape
  noise_first h = rw (first_is_lem s start h) (noise_at h 0)

  noise_next : length start ≡ key_length s → open_code longest_plain farthest (numbered s start four 1).link noise 0 ≡ shape
  unfolding numbered packet_at
  noise_next h = noise_at h 2

  meets_four : length start ≡ key_length s → Meets longest_plain farthest s start four most_lost 0 (first s start) (opens four)
  unfolding Meets
  meets_four h =
      let (long₁, long₂) : (length (numbered s start four 1).plain ≤ 5) × (length (numbered s start four 2).plain ≤ 2) =
      unfold numbered packet_at in (lit≤ tt, lit≤ tt) in
      let third : Meets longest_plain farthest s start four most_lost 2 (numbered s start four 1).link (arrival 2 (numbered s start four 2).octets (replicate 2 0) ∷ []) =
      unfold Meets in (lit< tt, lit≤ tt, lit≤ tt, refl, long₂, tt) in (
        (λ z. omega (arith, noise_first h, z)),
        (lit< tt, lit≤ tt, lit≤ tt, refl, long₁, ((λ z. omega (arith, again h, z)), ((λ z. omega (arith, overtaken h, z)), ((λ z. omega (arith, noise_next h, z)), third)))),
      )

  pub meets : (new_link s Stateless start).answer ≡ done → Meets longest_plain farthest s start sealed most_lost 0 (first s start) (opens sealed)
  meets ok =
      let h = start_length s start ok in
      subst⁻¹ (λ (ps : List Packet). Meets longest_plain farthest s start ps most_lost 0 (first s start) (opens ps)) (sealed_four h) (meets_four h)

  due_four : length start ≡ key_length s → due longest_plain farthest s start four 0 (first s start) (opens four) ≡ opened four
  unfolding due numbered packet_at
  due_four h = rw (noise_first h, again h, overtaken h, noise_next h)

  -- the claim, of this run
  pub run_seals : (new_link s Stateless start).answer ≡ done → map answered (seal_run longest_plain (first s start) seals) ≡ done ∷ size ∷ done ∷ done ∷ done ∷ []
  unfolding Demand3 said said_code onward packet_of
  run_seals ok = ap (map answered) (demand_3_base s start ok seals (opens sealed) (meets ok)).0

  pub run_opens : (new_link s Stateless start).answer ≡ done → open_run longest_plain farthest (first s start) (opens sealed) ≡ opened sealed
  unfolding Demand3
  run_opens ok =
      let h = start_length s start ok in
      (demand_3_base s start ok seals (opens sealed) (meets ok)).1 ∙ rw (sealed_four h) (due_four h)
