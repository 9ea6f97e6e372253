-- A run at both bounds of M-105, for every strength and start key: noise comes first, then a packet as far ahead as may be from the start;
-- the first packet comes as late as may be, and the newest a second time; 2,047 packets are lost before the next; behind the wrap of the
-- count one is overtaken and comes late, then one as late as may be and the newest again, without room, and the line goes on. So the claim
-- is not empty, and the bounds are no smaller than stated. Nor can they be larger: the claim with either of them one wider is false.
use Rattle.std.specs.Prelude.{◌≡◌, ◌≢◌, length, get_or, replicate}
use Rattle.std.proofs.Math.Path.{refl, sym, ap}
use Rattle.std.proofs.Common.{◌∙◌, zero-add, arith, lit<}
use mathlib.Core.List.{List, [], ◌∷◌}
use Prim.Native.Nat.{ℕ, suc, ◌+◌, ◌<◌, ◌≤◌}
use Rattle.std.proofs.Math.Dec.{lit≤}
use Rattle.answer.specs.Answer.{done, shape, repeat, late}
use Rattle.answer.specs.Laws.{never}
use Rattle.mppe_keys.specs.declared.Strength.{Strength}
use Rattle.mppe_keys.specs.declared.Strength.TheVariants.{Bits40}
use Rattle.mppe_keys.specs.declared.Mode.TheVariants.{Stateless}
use Rattle.mppe_keys.specs.Keys.{changes}
use Rattle.mppe.specs.declared.Link.{Link}
use Rattle.mppe.specs.declared.Outcome.{Outcome}
use Rattle.mppe.specs.Link.{longest_plain, farthest, new_link, header_in, data_in, Result, finished, refusal, data_rows, open_code, open_result}
use Rattle.mppe.proofs.Laws.{open_answers}
use Rattle.mppe_runs.specs.Run.{OpenCall, arrival, other, Packet, first, beginning, numbered, open_run}
use Rattle.mppe_runs.specs.AnyOrderRun.{most_ahead, most_behind, due_to, next_after, MeetsAny, due_any, AnyOrder}
use Rattle.mppe_runs.proofs.Line.{key_at, record_at, history_at, packet_at, start_length, first_is_lem, AllAt, packets_at, numbered_at, beyond_code, round_code}
use Rattle.mppe_runs.proofs.AnyOrder.{any_order_base}
use Rattle.mppe_runs.proofs.Example.{noise, noise_first}
use Rattle.mppe_runs.proofs.AtLimit.{plain, calls, sealed_length, sealed_plain, sealed}

-- the users' numbers
pub bounds : (most_ahead ≡ 2048) × (most_behind ≡ 2047)
bounds = (refl, refl)

-- a buffer for the plain packet
abbrev room : List ℕ
room = 0 ∷ 0 ∷ []

-- what is due to a call that is no arrival, also where no schedule is met
pub due_any_other : (limit far : ℕ) (s : Strength) (start : List ℕ) (sealed : List Packet) (next : ℕ) (held : Link) (octets lent : List ℕ) (cs : List OpenCall)
    → due_any limit far s start sealed next held (other octets lent ∷ cs)
    ≡ refusal (open_code limit far held octets (length lent)) held lent ∷ due_any limit far s start sealed next held cs
unfolding due_any
due_any_other limit far s start sealed next held octets lent cs = refl

module _ (s : Strength) (start : List ℕ) where
  -- packet q comes, with this buffer lent
  abbrev comes : List Packet → (q : ℕ) (lent : List ℕ) → OpenCall
  comes ps q lent = arrival q (numbered s start ps q).octets lent

  abbrev pub opens : List Packet → List OpenCall
  opens ps =
      other noise []
      ∷ comes ps 2047 room
      ∷ comes ps 0 room
      ∷ comes ps 2047 room
      ∷ comes ps 4095 room
      ∷ comes ps 4097 room
      ∷ comes ps 4096 room
      ∷ comes ps 2050 []
      ∷ comes ps 4097 []
      ∷ comes ps 4098 room
      ∷ []

  -- what open gives
  abbrev pub opened : List Packet → List Result
  opened ps =
      refusal shape (first s start) []
      ∷ finished 2048 (link 2047) plain
      ∷ refusal late (link 2047) room
      ∷ refusal repeat (link 2047) room
      ∷ finished 2048 (link 4095) plain
      ∷ finished 2 (link 4097) plain
      ∷ refusal late (link 4097) room
      ∷ refusal late (link 4097) []
      ∷ refusal repeat (link 4097) []
      ∷ finished 1 (link 4098) plain
      ∷ []
    where
      link : ℕ → Link
      link q = (numbered s start ps q).link

  -- the plain packet in each
  plain_of : (n q : ℕ) → q < n → (numbered s start (sealed s start n) q).plain ≡ plain
  plain_of n q low = sealed_plain s start n q (beginning s start) low

  -- one arrival that meets a schedule of any bounds, and none
  module _ (ahead behind n : ℕ) where
    abbrev MeetsOn : ℕ → Link → List OpenCall → Type 0
    MeetsOn next held cs = MeetsAny longest_plain farthest s start (sealed s start n) ahead behind next held cs

    meets_one : (next q : ℕ) (lent : List ℕ) (held : Link) (cs : List OpenCall) → q < n → suc q ≤ next + ahead → next ≤ suc q + behind
        → (next ≤ q → 2 ≤ length lent) → MeetsOn (next_after next q) (due_to next held q (numbered s start (sealed s start n) q) lent).outcome.link cs
        → MeetsOn next held (comes (sealed s start n) q lent ∷ cs)
    unfolding MeetsAny
    meets_one next q lent held cs known near back fits rest =
        (omega (arith, sealed_length s start n (beginning s start)), near, back, refl, (λ low. rw (plain_of n q known) (fits low)), rest)

    meets_other : (next : ℕ) (octets lent : List ℕ) (held : Link) (cs : List OpenCall) → open_code longest_plain farthest held octets (length lent) ≢ done
        → MeetsOn next held cs → MeetsOn next held (other octets lent ∷ cs)
    unfolding MeetsAny
    meets_other next octets lent held cs refused rest = (refused, rest)

    meets_none : (next : ℕ) (held : Link) → MeetsOn next held []
    unfolding MeetsAny
    meets_none next held = tt

  pub meets : (new_link s Stateless start).answer ≡ done → (n : ℕ) → 4098 < n
      → MeetsAny longest_plain farthest s start (sealed s start n) most_ahead most_behind 0 (first s start) (opens (sealed s start n))
  meets ok n h =
      let one = meets_one most_ahead most_behind n in
      meets_other most_ahead most_behind n 0 noise [] _ _ (λ z. omega (arith, noise_first s start (start_length s start ok), z))
      (one 0 2047 room _ _ (omega arith) (lit≤ tt) (lit≤ tt) (λ _. lit≤ tt)
      (one 2048 0 room _ _ (omega arith) (lit≤ tt) (lit≤ tt) (λ _. lit≤ tt)
      (one 2048 2047 room _ _ (omega arith) (lit≤ tt) (lit≤ tt) (λ _. lit≤ tt)
      (one 2048 4095 room _ _ (omega arith) (lit≤ tt) (lit≤ tt) (λ _. lit≤ tt)
      (one 4096 4097 room _ _ (omega arith) (lit≤ tt) (lit≤ tt) (λ _. lit≤ tt)
      (one 4098 4096 room _ _ (omega arith) (lit≤ tt) (lit≤ tt) (λ _. lit≤ tt)
      (one 4098 2050 [] _ _ (omega arith) (lit≤ tt) (lit≤ tt) (λ z. absurd (omega (arith, z)))
      (one 4098 4097 [] _ _ (omega arith) (lit≤ tt) (lit≤ tt) (λ z. absurd (omega (arith, z)))
      (one 4098 4098 room _ _ h (lit≤ tt) (lit≤ tt) (λ _. lit≤ tt) (meets_none most_ahead most_behind n 4099 _))))))))))

  -- the claim, of this run
  pub run_opens : (new_link s Stateless start).answer ≡ done → (n : ℕ) → 4098 < n
      → open_run longest_plain farthest (first s start) (opens (sealed s start n)) ≡ opened (sealed s start n)
  unfolding AnyOrder due_any
  run_opens ok n h =
      (any_order_base s start ok (calls n) (opens (sealed s start n)) (meets ok n h)).1
      ∙ rw (noise_first s start (start_length s start ok), plain_of n 2047 (omega arith), plain_of n 4095 (omega arith), plain_of n 4097 (omega arith), plain_of n 4098 h)

  -- the packets of the run, by their numbers
  packet_of_lem : (new_link s Stateless start).answer ≡ done → (n q : ℕ) → q < n → numbered s start (sealed s start n) q ≡ packet_at s start q plain
  packet_of_lem ok n q low =
      let h = start_length s start ok in
      let all : AllAt s start h longest_plain 0 (sealed s start n) = unfold history_at key_at changes in packets_at s start h longest_plain 0 (calls n) in
      let (at, _) = numbered_at s start h longest_plain 0 (sealed s start n) q all (omega (arith, sealed_length s start n (beginning s start))) in
      (rw (zero-add q) at at) ∙ ap (packet_at s start q) (plain_of n q low)

  -- what a result at a place says
  abbrev at : List Result → ℕ → Outcome
  at rs k = (get_or rs k (refusal done (first s start) [])).outcome

  -- one packet farther ahead is late, where the claim would have it opened
  farther_ahead : (new_link s Stateless start).answer ≡ done → (n : ℕ) → 2048 < n → AnyOrder longest_plain farthest (suc most_ahead) most_behind → ⊥
  unfolding AnyOrder due_any open_run
  farther_ahead ok n low claim =
      let h = start_length s start ok in
      let ps : List Packet = sealed s start n in
      let line = meets_one (suc most_ahead) most_behind n 0 2048 room (first s start) [] low (lit≤ tt) (lit≤ tt) (λ _. lit≤ tt) (meets_none (suc most_ahead) most_behind n 2049 _) in
      let due : (open_result longest_plain farthest (first s start) (numbered s start ps 2048).octets room).outcome.answer ≡ done =
      ap (λ (rs : List Result). (at rs 0).answer) (claim s start ok (calls n) (comes ps 2048 room ∷ []) line).1 in
      let code : open_code longest_plain farthest (first s start) (numbered s start ps 2048).octets 2 ≡ late =
      rw (first_is_lem s start h, packet_of_lem ok n 2048 low) (beyond_code s start h longest_plain farthest 0 2048 plain 2 (refl, refl) (lit≤ tt) (lit< tt)) in
      absurd (omega (arith, sym code ∙ sym (open_answers longest_plain farthest (first s start) (numbered s start ps 2048).octets room) ∙ due))

  -- one packet farther behind is not late, where the claim would have it refused
  farther_behind : (new_link s Stateless start).answer ≡ done → (n : ℕ) → 2048 < n → AnyOrder longest_plain farthest most_ahead (suc most_behind) → ⊥
  unfolding AnyOrder due_any open_run
  farther_behind ok n low claim =
      let h = start_length s start ok in
      let ps : List Packet = sealed s start n in
      let one = meets_one most_ahead (suc most_behind) n in
      let cs : List OpenCall = comes ps 2047 room ∷ comes ps 2048 room ∷ comes ps 0 room ∷ [] in
      let line =
      one 0 2047 room (first s start) _ (omega arith) (lit≤ tt) (lit≤ tt) (λ _. lit≤ tt)
      (one 2048 2048 room _ _ low (lit≤ tt) (lit≤ tt) (λ _. lit≤ tt)
      (one 2049 0 room _ _ (omega arith) (lit≤ tt) (lit≤ tt) (λ _. lit≤ tt) (meets_none most_ahead (suc most_behind) n 2049 _))) in
      let run : open_run longest_plain farthest (first s start) cs ≡ due_any longest_plain farthest s start ps 0 (first s start) cs = (claim s start ok (calls n) cs line).1 in
      let held : (at (open_run longest_plain farthest (first s start) cs) 1).link ≡ (numbered s start ps 2048).link = ap (λ (rs : List Result). (at rs 1).link) run in
      let due : (at (open_run longest_plain farthest (first s start) cs) 2).answer ≡ late = ap (λ (rs : List Result). (at rs 2).answer) run in
      let record_is : (numbered s start ps 2048).link ≡ record_at s start 2049 = rw (packet_of_lem ok n 2048 low) (unfold packet_at in refl) in
      let packet : List ℕ = (packet_at s start 0 plain).octets in
      let answer : (open_result longest_plain farthest (record_at s start 2049) packet room).outcome.answer ≡ late =
      rw (held, record_is, packet_of_lem ok n 0 (omega arith)) at due in
      let (code, _) = round_code s start h longest_plain farthest 2049 0 plain 2 (refl, refl) (lit< tt) (lit≤ tt) (lit≤ tt) in
      never late (data_rows (record_at s start 2049) (header_in packet) (data_in packet) 2) refl refl
      (sym code ∙ sym (open_answers longest_plain farthest (record_at s start 2049) packet room) ∙ answer)

-- a start key to make the link with
abbrev key : List ℕ
key = replicate 8 0

pub no_farther_ahead : AnyOrder longest_plain farthest (suc most_ahead) most_behind → ⊥
no_farther_ahead = farther_ahead Bits40 key (unfold new_link in refl) 2049 (lit< tt)

pub no_farther_behind : AnyOrder longest_plain farthest most_ahead (suc most_behind) → ⊥
no_farther_behind = farther_behind Bits40 key (unfold new_link in refl) 2049 (lit< tt)
