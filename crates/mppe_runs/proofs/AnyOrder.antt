-- M-105, proved: for every limit of a plain packet, every farthest distance, and all numbers ahead and behind that together leave one count
-- for the newest opened.
use Rattle.std.specs.Prelude.{◌≡◌, Bool, ◌≢◌, eqb, ltb, length}
use Rattle.std.proofs.Math.Path.{refl, sym, ap, subst, subst₂}
use Rattle.std.proofs.Common.{◌∙◌, zero-add, arith, lit<, lit≤, ltb-true, ltb-false, eqb-true}
use Rattle.std.proofs.Math.Bool.{true, false}
use mathlib.Core.List.{List, [], ◌∷◌}
use Prim.Native.Nat.{ℕ, suc, ◌+◌, ◌-◌, ◌<◌, ◌≤◌}
use Rattle.std.proofs.lemmas.Bool.{eqb-false}
use Rattle.answer.specs.Answer.{done, repeat, late, pick}
use Rattle.answer.specs.Laws.{by_test, test_under}
use Rattle.octets.specs.Octets.{written}
use Rattle.mppe_keys.specs.declared.Strength.{Strength}
use Rattle.mppe_keys.specs.Keys.{key_length, changes}
use Rattle.mppe.specs.declared.Link.{Link}
use Rattle.mppe.specs.Link.{longest_plain, farthest, Result, finished, refusal, open_code, open_result}
use Rattle.mppe.proofs.Laws.{open_other, no_waiting}
use Rattle.mppe_runs.specs.Run.{OpenCall, arrival, other, Packet, History, open_run, beginning, packets, numbered}
use Rattle.mppe_runs.specs.AnyOrderRun.{most_ahead, most_behind, LeavesNewest, due_to, next_after, MeetsAny, due_any, AnyOrder}
use Rattle.mppe_runs.proofs.Line.{Sealable, key_at, record_at, history_at, packet_at, start_length, first_is_lem, seals_all, AllAt, packets_at, numbered_at, open_arrival, repeat_code, late_code}

module _ (s : Strength) (start : List ℕ) (h : length start ≡ key_length s) (limit far : ℕ) where
  -- a call that the table refuses changes nothing
  refused_at : (next : ℕ) (octets lent : List ℕ) (code : ℕ) → open_code limit far (record_at s start next) octets (length lent) ≡ code → code ≢ done
      → open_result limit far (record_at s start next) octets lent ≡ refusal code (record_at s start next) lent
  refused_at next octets lent code e not0 =
      let l : Link = record_at s start next in
      let not11 = no_waiting limit far l octets (length lent) (unfold record_at in refl) in
      open_other limit far l octets lent (λ z. not0 (sym e ∙ z)) not11 ∙ ap (λ n. refusal n l lent) e

  module _ (ahead behind : ℕ) (within : ahead ≤ far) (bound : LeavesNewest far behind) where
    -- the newest opened is refused with 6, one behind it with 10
    behind_code : (next q : ℕ) (plain : List ℕ) (lent : ℕ) → Sealable limit plain → q < next → next ≤ suc q + behind
        → open_code limit far (record_at s start next) (packet_at s start q plain).octets lent ≡ pick (eqb (suc q) next) repeat late
    behind_code next q plain lent can low back =
        by_test (eqb (suc q) next) (λ e. rw (← eqb-true (suc q) next e) (repeat_code s start h limit far q plain lent can)) λ e.
        let apart : suc q < next = omega (arith, eqb-false (suc q) next e) in
        late_code s start h limit far next q plain lent can apart (omega arith)

    -- so an arrival gets what is due
    arrives : (next q : ℕ) (plain lent : List ℕ) → Sealable limit plain → suc q ≤ next + ahead → next ≤ suc q + behind
        → (next ≤ q → length plain ≤ length lent)
        → open_result limit far (record_at s start next) (packet_at s start q plain).octets lent ≡ due_to next (record_at s start next) q (packet_at s start q plain) lent
    unfolding packet_at
    arrives next q plain lent can near back fits = by_test (ltb q next) refused opened
      where
        some : (t : Bool) → pick t repeat late ≢ done
        some true z = absurd (omega arith)
        some false z = absurd (omega arith)

        refused : ltb q next ≡ true
            → open_result limit far (record_at s start next) (packet_at s start q plain).octets lent ≡ refusal (pick (eqb (suc q) next) repeat late) (record_at s start next) lent
        refused e =
            refused_at next (packet_at s start q plain).octets lent (pick (eqb (suc q) next) repeat late)
            (behind_code next q plain (length lent) can (ltb-true q next e) back) (some (eqb (suc q) next))

        opened : ltb q next ≡ false
            → open_result limit far (record_at s start next) (packet_at s start q plain).octets lent ≡ finished (suc (q - next)) (record_at s start (suc q)) (written plain lent)
        opened e =
            let low : next ≤ q = ltb-false q next e in
            open_arrival s start h limit far next q plain lent (omega arith) can low (omega arith) (fits low)

    -- and leaves the record of the newest opened
    leaves : (next q : ℕ) (plain lent : List ℕ)
        → (due_to next (record_at s start next) q (packet_at s start q plain) lent).outcome.link ≡ record_at s start (next_after next q)
    unfolding packet_at
    leaves next q plain lent = test_under (λ (r : Result). r.outcome.link) (ltb q next) _ _ ∙ sym (test_under (record_at s start) (ltb q next) next (suc q))

    -- the receiver's results
    opens_all : (ps : List Packet) (next : ℕ) (cs : List OpenCall) → AllAt s start h limit 0 ps
        → MeetsAny limit far s start ps ahead behind next (record_at s start next) cs
        → open_run limit far (record_at s start next) cs ≡ due_any limit far s start ps next (record_at s start next) cs
    unfolding open_run due_any MeetsAny
    opens_all ps next [] all line = refl
    opens_all ps next (arrival q octets lent ∷ cs) all (known, near, back, same, fits, rest) =
        let p : Packet = numbered s start ps q in
        let (at, can) = numbered_at s start h limit 0 ps q all known in
        let is : p ≡ packet_at s start q p.plain = rw (zero-add q) at at in
        let due : Result = due_to next (record_at s start next) q p lent in
        let given : open_result limit far (record_at s start next) octets lent ≡ due =
        ap (λ (o : List ℕ). open_result limit far (record_at s start next) o lent) (same ∙ ap (λ (p : Packet). p.octets) is)
        ∙ arrives next q p.plain lent can (omega arith) (omega arith) (λ low. fits (omega (arith, low)))
        ∙ ap (λ (p : Packet). due_to next (record_at s start next) q p lent) (sym is) in
        let left : due.outcome.link ≡ record_at s start (next_after next q) =
        ap (λ (p : Packet). (due_to next (record_at s start next) q p lent).outcome.link) is ∙ leaves next q p.plain lent in
        let line : MeetsAny limit far s start ps ahead behind (next_after next q) (record_at s start (next_after next q)) cs =
        subst (λ (l : Link). MeetsAny limit far s start ps ahead behind (next_after next q) l cs) left rest in
        let later : open_run limit far due.outcome.link cs ≡ due_any limit far s start ps (next_after next q) due.outcome.link cs =
        rw left (opens_all ps (next_after next q) cs all line) in
        rw given (ap (λ (rs : List Result). due ∷ rs) later)
    opens_all ps next (other octets lent ∷ cs) all (not0, rest) =
        let code : ℕ = open_code limit far (record_at s start next) octets (length lent) in
        rw (refused_at next octets lent code refl not0)
        (ap (λ (rs : List Result). refusal code (record_at s start next) lent ∷ rs) (opens_all ps next cs all rest))

-- M-105 for every limit, every farthest distance and all bounds that fit it
pub any_order : (limit far ahead behind : ℕ) → ahead ≤ far → LeavesNewest far behind → AnyOrder limit far ahead behind
unfolding AnyOrder
any_order limit far ahead behind within bound s start ok seals opens line =
    let h = start_length s start ok in
    let sealed : List Packet = packets limit s start (history_at s start 0) seals in
    let beginning-is : beginning s start ≡ history_at s start 0 = unfold history_at key_at changes in refl in
    let line-is : MeetsAny limit far s start sealed ahead behind 0 (record_at s start 0) opens =
    subst₂ (λ (b : History) (l : Link). MeetsAny limit far s start (packets limit s start b seals) ahead behind 0 l opens) beginning-is (first_is_lem s start h) line in
    rw (first_is_lem s start h, beginning-is)
    (seals_all s start h limit 0 seals, opens_all s start h limit far ahead behind within bound sealed 0 opens (packets_at s start h limit 0 seals) line-is)

-- M-105 at the users' limits
pub any_order_base : AnyOrder longest_plain farthest most_ahead most_behind
any_order_base = any_order longest_plain farthest most_ahead most_behind (lit≤ tt) (lit< tt)
