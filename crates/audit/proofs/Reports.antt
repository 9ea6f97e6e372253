-- A packet opened behind another call, and alone: `opens_alike` at the end.
use Rattle.std.specs.Prelude.{◌≡◌, refl, Bool, true, false, not, ◌≢◌, List, eqb, ltb, length, take, drop}
use Rattle.std.proofs.Math.Path.{sym}
use Rattle.std.proofs.Common.{ap, ◌∙◌, zero-add, arith, ne_eqb, ltb-false, eqb-true}
use Rattle.std.proofs.lemmas.Bool.{false≢true, eqb-false}
use Prim.Native.Nat.{ℕ, ◌+◌, ◌%◌, ◌<◌, ◌≤◌}
use Rattle.answer.specs.Answer.{done, repeat, late, waiting, first_of}
use Rattle.answer.specs.Laws.{clear, rows_passed}
use Rattle.rc4.specs.declared.Rc4.{Rc4}
use Rattle.rc4.specs.Cipher.{after}
use Rattle.mppe_keys.specs.declared.Mode.{Mode}
use Rattle.mppe_keys.specs.declared.Mode.TheVariants.{Stateless, Stateful}
use Rattle.mppe_keys.specs.Keys.{by_mode}
use Rattle.mppe_keys.proofs.Laws.{changes_add}
use Rattle.mppe.specs.declared.Link.{Link}
use Rattle.mppe.specs.Link.{counts, well_formed, start_key_in, session_key_in, with_box, renewed, kept_box, bit_a, header_in, data_in, count_of, lacks, changes_over, away_for, changes_for, key_for, box_for, opens_by, state_for, plain_for, Result, finished, open_rows, open_code, open_result}
use Rattle.mppe.proofs.Laws.{well_parts, changed_back, changes_over_add, distance_back, distance_add, open_answers, open_other, open_done, open_waits, open_record, waits_stateful}

-- `limit` is the longest plain packet, `far` the farthest distance that is opened
module _ (limit far : ℕ) where
  -- a distance from 1 to the farthest: that of every packet which is opened, and of every one that is waited for
  abbrev Near : Link → ℕ → Type 0
  Near l h = (0 < away_for l h) × (away_for l h ≤ far)

  near_is : (l : Link) (h : ℕ) → eqb (away_for l h) 0 ≡ false → ltb far (away_for l h) ≡ false → Near l h
  near_is l h new close = (some (away_for l h) (eqb-false (away_for l h) 0 new), ltb-false far (away_for l h) close)
    where
      some : (n : ℕ) → n ≢ 0 → 0 < n
      some n new = omega arith

  module _ (l : Link) (packet out : List ℕ) where
    abbrev rows : List (ℕ × Bool)
    rows = open_rows limit far l packet (length out)

    first_is_lem : (code : ℕ) → (open_result limit far l packet out).outcome.answer ≡ code → first_of rows ≡ code
    unfolding open_code
    first_is_lem code e = sym (open_answers limit far l packet out) ∙ e

    opened_near : (open_result limit far l packet out).outcome.answer ≡ done → Near l (header_in packet)
    opened_near e =
        let none = first_is_lem done e in
        near_is l (header_in packet) (clear repeat rows refl none).0 (clear late rows refl none).0

    waited_near : (open_result limit far l packet out).outcome.answer ≡ waiting → Near l (header_in packet)
    waited_near e =
        let none = rows_passed waiting (take 7 rows) (drop 7 rows) refl (first_is_lem waiting e) in
        near_is l (header_in packet) (clear repeat (take 7 rows) refl none).0 (clear late (take 7 rows) refl none).0

    -- an opened one that is farther away than 1 has bit A
    opened_fresh : (open_result limit far l packet out).outcome.answer ≡ done → 1 < away_for l (header_in packet) → lacks bit_a (header_in packet) ≡ false
    opened_fresh e above =
        by (lacks bit_a (header_in packet)) (ne_eqb (away_for l (header_in packet)) 1 (λ one. omega arith)) (clear waiting rows refl (first_is_lem done e)).0
      where
        by : (t : Bool) → eqb (away_for l (header_in packet)) 1 ≡ false → not (opens_by t (away_for l (header_in packet)) l.waiting) ≡ false → t ≡ false
        by false apart shut = refl
        by true apart shut = absurd (false≢true (sym (rw apart at shut)))

  -- a record that has moved on to a header's count and key, with a box that is its own in stateless mode
  module _ (half : far + far ≤ counts) (l : Link) (whole : well_formed l ≡ true) (places : length l.session ≡ 16) (h : ℕ) (near : Near l h)
      (state : Rc4) (mark : Bool) (own : (drawn : Rc4) → by_mode l.mode state drawn ≡ kept_box l drawn) where
    abbrev behind : Link
    behind = with_box (renewed l (key_for l h) (count_of h)) state mark

    -- how far a later header is from it, the key changes that it brings, its key, and its box where it has bit A
    away_add : (k : ℕ) → Near behind k → Near l k → away_for l h + away_for behind k ≡ away_for l k
    away_add k next alone = distance_add l.count (count_of h) (count_of k) (well_parts l whole).0 (below h) (below k) (within near.1 next.1) alone.0
      where
        below : (n : ℕ) → count_of n < counts
        below n = omega arith

        within : {a b : ℕ} → a ≤ far → b ≤ far → a + b ≤ counts
        within ha hb = omega (arith, half, ha, hb)

    changes_for_lem : (k : ℕ) → away_for l h + away_for behind k ≡ away_for l k → changes_for l h + changes_for behind k ≡ changes_for l k
    changes_for_lem k away =
        let at : (l.count + away_for l h) % counts ≡ count_of h = distance_back l.count (count_of h) (well_parts l whole).0 (omega arith) in
        ap (λ c. changes_for l h + changes_over l.mode c (away_for behind k)) (sym at) ∙ changes_over_add l.mode l.count (away_for l h) (away_for behind k)
        ∙ ap (changes_over l.mode l.count) away

    key_for_lem : (k : ℕ) → changes_for l h + changes_for behind k ≡ changes_for l k → key_for behind k ≡ key_for l k
    unfolding key_for
    key_for_lem k made = rw (changed_back l (changes_for l h) places, changes_add l.strength (start_key_in l) (changes_for l h) (changes_for behind k) (session_key_in l), made)

    state_for_lem : (k : ℕ) → lacks bit_a k ≡ false → key_for behind k ≡ key_for l k → state_for behind k ≡ state_for l k
    unfolding state_for
    state_for_lem k fresh key = rw (fresh, key)

    opens_behind : (q b : List ℕ) → (open_result limit far behind q b).outcome.answer ≡ done → (open_result limit far l q b).outcome.answer ≡ done
        → open_result limit far l q b
        ≡ finished (changes_for l h + (open_result limit far behind q b).outcome.changes) (open_result limit far behind q b).outcome.link (open_result limit far behind q b).buffer
    unfolding plain_for
    opens_behind q b e e' =
        let k : ℕ = header_in q in
        let next = opened_near behind q b e in
        let away = away_add k next (opened_near l q b e') in
        let made = changes_for_lem k away in
        let key = key_for_lem k made in
        let state_is = state_for_lem k (opened_fresh l q b e' (omega (arith, away, near.0, next.0))) key in
        rw (open_done limit far behind q b e, open_done limit far l q b e', made, key, state_is, own (after (state_for l k) (data_in q)))

  -- opened behind another call or alone, a packet gives the same octets and leaves the same record
  module _ (half : far + far ≤ counts) (l : Link) (places : length l.session ≡ 16) (p q a b : List ℕ) (opened : (open_result limit far l q b).outcome.answer ≡ done) where
    abbrev Alike : Result → Type 0
    Alike r =
        (open_result limit far r.outcome.link q b).outcome.answer ≡ done
        → open_result limit far l q b
        ≡ finished (r.outcome.changes + (open_result limit far r.outcome.link q b).outcome.changes) (open_result limit far r.outcome.link q b).outcome.link
        (open_result limit far r.outcome.link q b).buffer

    whole : well_formed l ≡ true
    whole = open_record limit far l q b done opened refl

    behind_opened : (open_result limit far l p a).outcome.answer ≡ done → Alike (open_result limit far l p a)
    behind_opened e = rw (open_done limit far l p a e) λ next.
        opens_behind half l whole places (header_in p) (opened_near l p a e) _ false (by l.mode (after (state_for l (header_in p)) (data_in p))) q b next opened
      where
        by : (m : Mode) (left drawn : Rc4) → by_mode m (by_mode m l.state left) drawn ≡ by_mode m l.state drawn
        by Stateless left drawn = refl
        by Stateful left drawn = refl

    behind_waited : (open_result limit far l p a).outcome.answer ≡ waiting → Alike (open_result limit far l p a)
    behind_waited e = rw (open_waits limit far l p a e) λ next.
        opens_behind half l whole places (header_in p) (waited_near l p a e) (box_for l (header_in p)) true (λ drawn. rw (waits_stateful limit far l p a e)) q b next opened

    behind_refused : open_code limit far l p (length a) ≢ done → open_code limit far l p (length a) ≢ waiting → Alike (open_result limit far l p a)
    behind_refused not0 not11 = rw (open_other limit far l p a not0 not11) λ next. rw (open_done limit far l q b opened, zero-add)

    pub opens_alike : Alike (open_result limit far l p a)
    opens_alike = by (eqb code done) (eqb code waiting) refl refl
      where
        code : ℕ
        code = open_code limit far l p (length a)

        by : (t w : Bool) → eqb code done ≡ t → eqb code waiting ≡ w → Alike (open_result limit far l p a)
        by true w e f = behind_opened (open_answers limit far l p a ∙ eqb-true code done e)
        by false true e f = behind_waited (open_answers limit far l p a ∙ eqb-true code waiting f)
        by false false e f = behind_refused (eqb-false code done e) (eqb-false code waiting f)
