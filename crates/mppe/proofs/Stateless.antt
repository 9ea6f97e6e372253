-- "Stateless links behave as before" (02, M-103): what seal and open gave before there was another mode, and that with a stateless record
-- they give it.
use Rattle.std.specs.Prelude.{◌≡◌, Bool, eqb, ltb, length, take, drop}
use Rattle.std.proofs.Math.Path.{refl}
use Rattle.std.proofs.Common.{sym, ap, ◌∙◌, suc-ne-zero}
use Rattle.std.proofs.Math.Bool.{true, false, not}
use mathlib.Core.List.{List, [], ◌∷◌, ◌++◌}
use Prim.Native.Nat.{ℕ, zero, suc}
use borrow.Author.Tests.{not-false, ne_eqb}
use Rattle.answer.specs.Answer.{done, not_record, flags, repeat, late, room, protocol, waiting, first_of, on_done}
use Rattle.answer.specs.Laws.{clear, rows_pass, rows_stop}
use Rattle.octets.specs.Octets.{written}
use Rattle.rc4.specs.declared.Rc4.{Rc4}
use Rattle.rc4.specs.Cipher.{key_schedule, after}
use Rattle.mppe_keys.specs.declared.Mode.TheVariants.{Stateless}
use Rattle.mppe_keys.specs.Keys.{key_change, changes, rc4}
use Rattle.mppe.specs.declared.Link.{Link}
use Rattle.mppe.specs.Link.{well_formed, start_key_in, session_key_in, renewed, with_box, kept_box, off_protocol, sealed_packet, header_in, data_in, count_of, lacks, bit_a, bit_d, changes_over, Result, finished, refusal, plain_rows, next_count, next_changes, next_key, keys_afresh, next_box, seal_code, seal_result, away_for, changes_for, key_for, opens, state_for, plain_for, front_rows, data_rows, open_rows, open_code, open_result}
use Rattle.mppe.proofs.Laws.{no_waiting, well_box, fits_unmarked}

-- "Sender: count + 1 mod 4,096, one key change, then RC4 freshly keyed with the session key over the plain packet"
abbrev pub key_before : Link → List ℕ
key_before l = key_change l.strength (start_key_in l) (session_key_in l)

unfoldable pub seal_before : (limit : ℕ) (l : Link) (plain out : List ℕ) → Result
seal_before limit l plain out =
    let code : ℕ = seal_code limit l plain (length out) in
    on_done code (finished 1 (renewed l (key_before l) (next_count l)) (written (sealed_packet (key_before l) (next_count l) plain) out)) (refusal code l out)

-- "Receiver: .. that many key changes, then RC4, then last count = arrived", and the order 7, 1, 5, 6, 10, 2, 4
abbrev pub opened_before : Link → ℕ → List ℕ
opened_before l h = changes l.strength (start_key_in l) (away_for l h) (session_key_in l)

abbrev pub open_rows_before : (limit far : ℕ) → Link → List ℕ → ℕ → List (ℕ × Bool)
open_rows_before limit far l packet lent =
    let h : ℕ = header_in packet in
    front_rows limit l packet
    ++ (flags, lacks bit_a h)
    ∷ (flags, lacks bit_d h)
    ∷ (repeat, eqb (away_for l h) 0)
    ∷ (late, ltb far (away_for l h))
    ∷ (room, ltb lent (length (data_in packet)))
    ∷ (protocol, off_protocol (rc4 (opened_before l h) (data_in packet)))
    ∷ []

unfoldable pub open_before : (limit far : ℕ) (l : Link) (packet out : List ℕ) → Result
open_before limit far l packet out =
    let code : ℕ = first_of (open_rows_before limit far l packet (length out)) in
    let h : ℕ = header_in packet in
    on_done code (finished (away_for l h) (renewed l (opened_before l h) (count_of h)) (written (rc4 (opened_before l h) (data_in packet)) out)) (refusal code l out)

-- two results that are the same where a number is 0
same_done : {A : Type 0} {result result' : A} (refused : A) (code : ℕ) → (code ≡ done → result ≡ result') → on_done code result refused ≡ on_done code result' refused
same_done refused zero e = e refl
same_done refused (suc n) e = refl

-- what a stateless record keeps
kept_is : (l : Link) (left : Rc4) → l.mode ≡ Stateless → kept_box l left ≡ l.state
kept_is l left mode = rw mode

settled_is : (l : Link) (key : List ℕ) (count : ℕ) → l.mode ≡ Stateless → well_formed l ≡ true → with_box (renewed l key count) l.state false ≡ renewed l key count
settled_is l key count mode well =
    let unmarked : l.waiting ≡ false = fits_unmarked l.mode l.state l.waiting mode (well_box l well) in
    rw unmarked

module _ (l : Link) (mode : l.mode ≡ Stateless) where
  changes_next : next_changes l ≡ 1
  unfolding changes_over
  changes_next = rw mode

  key_next : next_key l ≡ key_before l
  unfolding next_key changes
  key_next = rw changes_next

  fresh_next : keys_afresh l ≡ true
  fresh_next = rw changes_next

  box_next : next_box l ≡ key_schedule (key_before l)
  unfolding next_box
  box_next = rw (fresh_next, key_next)

  pub stateless_seal : (limit : ℕ) (plain out : List ℕ) → seal_result limit l plain out ≡ seal_before limit l plain out
  unfolding seal_result seal_before
  stateless_seal limit plain out = same_done (refusal (seal_code limit l plain (length out)) l out) (seal_code limit l plain (length out)) λ e.
      let well = well_sealed e in
      rw (kept_is l (after (next_box l) plain) mode, fresh_next, box_next, key_next, changes_next, settled_is l (key_before l) (next_count l) mode well)
    where
      well_sealed : seal_code limit l plain (length out) ≡ done → well_formed l ≡ true
      well_sealed e = unfold seal_code in not-false (well_formed l) (clear not_record ((not_record, not (well_formed l)) ∷ plain_rows limit plain (length out)) refl e).0

  changes_for_lem : (h : ℕ) → changes_for l h ≡ away_for l h
  unfolding changes_over
  changes_for_lem h = rw mode

  key_for_lem : (h : ℕ) → key_for l h ≡ opened_before l h
  unfolding key_for
  key_for_lem h = rw (changes_for_lem h)

  state_for_lem : (h : ℕ) → lacks bit_a h ≡ false → state_for l h ≡ key_schedule (opened_before l h)
  unfolding state_for
  state_for_lem h set = rw (set, key_for_lem h)

  plain_for_lem : (h : ℕ) (text : List ℕ) → lacks bit_a h ≡ false → plain_for l h text ≡ rc4 (opened_before l h) text
  unfolding plain_for
  plain_for_lem h text set = rw (state_for_lem h set)

  -- the table gives the number that it gave
  same_code : (limit far : ℕ) (packet : List ℕ) (lent : ℕ) → open_code limit far l packet lent ≡ first_of (open_rows_before limit far l packet lent)
  unfolding open_code
  same_code limit far packet lent = go (first_of early) refl
    where
      h : ℕ
      h = header_in packet

      early : List (ℕ × Bool)
      early = take 7 (open_rows_before limit far l packet lent)

      rest : List (ℕ × Bool)
      rest = drop 7 (open_rows_before limit far l packet lent)

      rows_are : open_rows limit far l packet lent ≡ early ++ (waiting, not (opens l h)) ∷ data_rows l h (data_in packet) lent
      rows_are = rw mode

      behind : lacks bit_a h ≡ false → first_of ((waiting, not (opens l h)) ∷ data_rows l h (data_in packet) lent) ≡ first_of rest
      behind set = rw (set, plain_for_lem h (data_in packet) set)

      go : (code : ℕ) → first_of early ≡ code → first_of (open_rows limit far l packet lent) ≡ first_of (early ++ rest)
      go zero e =
          let set : lacks bit_a h ≡ false = (clear flags early refl e).0 in
          ap first_of rows_are ∙ rows_pass early ((waiting, not (opens l h)) ∷ data_rows l h (data_in packet) lent) refl e
          ∙ behind set ∙ sym (rows_pass early rest refl e)
      go (suc n) e =
          let some : first_of early ≡ done → ⊥ = λ z. suc-ne-zero n (sym e ∙ z) in
          ap first_of rows_are ∙ rows_stop early ((waiting, not (opens l h)) ∷ data_rows l h (data_in packet) lent) some ∙ sym (rows_stop early rest some)

  pub stateless_open : (limit far : ℕ) (packet out : List ℕ) → open_result limit far l packet out ≡ open_before limit far l packet out
  unfolding open_result open_before
  stateless_open limit far packet out =
      let code : ℕ = open_code limit far l packet (length out) in
      rw (ne_eqb code waiting (no_waiting limit far l packet (length out) mode), same_code limit far packet (length out))
      (same_done (refusal (first_of (open_rows_before limit far l packet (length out))) l out) (first_of (open_rows_before limit far l packet (length out))) λ e.
      let rows : List (ℕ × Bool) = open_rows_before limit far l packet (length out) in
      let h : ℕ = header_in packet in
      let well = not-false (well_formed l) (clear not_record rows refl e).0 in
      let set : lacks bit_a h ≡ false = (clear flags rows refl e).0 in
      rw (kept_is l (after (state_for l h) (data_in packet)) mode, plain_for_lem h (data_in packet) set, key_for_lem h, changes_for_lem h, settled_is l (opened_before l h) (count_of h) mode well))
