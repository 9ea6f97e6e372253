-- The ways out of the calls.
use mathlib.Core.Path.{◌≡◌, refl, sym, ap, ◌∙◌}
use Rattle.std.specs.Prelude.{Bool, true, false, Ok, Err}
use mathlib.Core.List.{List, [], ◌∷◌, ◌++◌, append-nil, append_assoc}
use Prim.Native.Nat.{ℕ, ◌+◌, ◌*◌, ◌-◌}
use native.Mathlib.Omega.{arith}
use lib.Dec.{eqb}
use lib.ListN.{length, take, drop, get_or, replicate, length-append, length-drop, length-replicate, take-append-drop, drop_of_length-le}
use lib.Seq.{length-take-le, take_all, take_at}
use Rattle.answer.specs.declared.Refusal.{Refusal}
use Rattle.answer.specs.declared.Refusal.TheVariants.{Record}
use Rattle.answer.specs.Answer.{not_record, first_of, result_of, value_of, wrong}
use Rattle.answer.specs.Laws.{right, not_right}
use Rattle.octets.specs.Octets.{big_endian, written, written_at}
use Rattle.octets.specs.Laws.{append_more, grown}
use Rattle.mppe.specs.declared.Link.{Link}
use Rattle.mppe_record.specs.Record.{yes_number, no_choice, record_length, record_octets, no_record}
use Rattle.mppe_record.proofs.Laws.{read_refused}
use Rattle.mppe_pieces.specs.declared.Walk.{Walk}
use Rattle.mppe_walk.specs.Walk.{key_octets, state_octets, fed_octets, walk_length, rest_octets, walk_octets, rest_put, front_read, walk_in, walk_read}

-- a part copied behind another fills what was left
filled : {t₁ t₂ : List ℕ} (first second : List ℕ) (n : ℕ) → t₁ ≡ first ++ replicate (length second) 0 → length first ≡ n
    → t₂ ≡ written_at n (take (length t₁ - n) second) t₁ → t₂ ≡ first ++ second
filled first second n e₁ h e₂ =
    let all : length second - length second ≡ 0 = omega arith in
    let none : replicate {A = ℕ} (length second - length second) 0 ≡ [] = ap (λ k. replicate {A = ℕ} k 0) all in
    append_more first second n (length second) e₁ e₂ (sym h) (omega arith) ∙ ap (λ z. (first ++ second) ++ z) none ∙ append-nil (first ++ second)

-- live, header and session key
pub key_laid : {y high low : ℕ} {t₁ t₂ : List ℕ} (w : Walk) → length w.session ≡ 16 → y ≡ yes_number w.live
    → t₁ ≡ written (take 19 (y ∷ high ∷ low ∷ [])) (replicate 19 0)
    → t₂ ≡ written_at 3 (take (length t₁ - 3) w.session) t₁ → high ∷ low ∷ [] ≡ big_endian 2 w.header → (t₂ ≡ key_octets w) × (length t₂ ≡ 19)
unfolding key_octets
key_laid {y} {high} {low} w hs ey e₁ e₂ eh =
    let laid = filled (y ∷ high ∷ low ∷ []) w.session 3 (e₁ ∙ rw hs) refl e₂ in
    (laid ∙ ap (λ t. y ∷ t ++ w.session) eh ∙ rw ey, ap length laid ∙ omega arith)

-- what stands behind the record, one part behind the other, and nothing where the octets are not 577
pub rest_laid : {key fed t₁ t₂ t₃ t₄ : List ℕ} (w : Walk) (octets : List ℕ) → length octets ≡ walk_length → length w.state.cells ≡ 256
    → (key ≡ key_octets w) × (length key ≡ 19) → fed ≡ fed_octets w → t₁ ≡ written_at 295 (take (length octets - 295) key) octets
    → t₂ ≡ written_at 314 (take (length t₁ - 314) (w.state.i ∷ w.state.j ∷ [])) t₁
    → t₃ ≡ written_at 316 (take (length t₂ - 316) w.state.cells) t₂ → t₄ ≡ written_at 572 (take (length t₃ - 572) fed) t₃ → t₄ ≡ rest_put w octets
unfolding rest_put rest_octets state_octets
rest_laid {key} {fed} w octets h hc (ek, hk) el e₁ e₂ e₃ e₄ =
    let hl : length fed ≡ 5 = ap length el ∙ unfold fed_octets in refl in
    let front : List ℕ = take 295 octets in
    let behind : List ℕ = drop 295 octets in
    let two : List ℕ = w.state.i ∷ w.state.j ∷ [] in
    let cells : List ℕ = w.state.cells in
    let hb : length behind ≡ 282 = length-drop 295 octets ∙ omega arith in
    let hf : length front ≡ 295 = length-take-le 295 octets (omega arith) in
    let h₁ : length (front ++ key) ≡ 314 = length-append front key ∙ omega arith in
    let h₂ : length (front ++ key ++ two) ≡ 316 = length-append (front ++ key) two ∙ omega arith in
    let h₃ : length (front ++ key ++ two ++ cells) ≡ 572 = length-append (front ++ key ++ two) cells ∙ omega arith in
    let r₁ : List ℕ = drop (length key) behind in
    let r₂ : List ℕ = drop 2 r₁ in
    let r₃ : List ℕ = drop (length cells) r₂ in
    let d₁ = length-drop (length key) behind in
    let d₂ = length-drop 2 r₁ in
    let d₃ = length-drop (length cells) r₂ in
    let g₁ = grown front behind key 295 (sym (take-append-drop 295 octets)) e₁ hf (omega arith) in
    let g₂ = grown (front ++ key) r₁ two 314 g₁ e₂ h₁ (omega arith) in
    let g₃ = grown (front ++ key ++ two) r₂ cells 316 g₂ e₃ h₂ (omega arith) in
    let g₄ = grown (front ++ key ++ two ++ cells) r₃ fed 572 g₃ e₄ h₃ (omega arith) in
    let none = drop_of_length-le r₃ {i = length fed} (omega arith) in
    g₄ ∙ rw (none, append-nil, right walk_length octets h, ← ek, ← el) (together front key two cells fed)
  where
    together : (front key two cells fed : List ℕ) → front ++ key ++ two ++ cells ++ fed ≡ front ++ (key ++ (two ++ cells) ++ fed)
    together front key two cells fed =
        ap (λ t. t ++ fed) (append_assoc (front ++ key) two cells ∙ append_assoc front key (two ++ cells)) ∙ append_assoc front (key ++ (two ++ cells)) fed

pub rest_left : (w : Walk) (octets : List ℕ) → (length octets ≡ walk_length → ⊥) → octets ≡ rest_put w octets
unfolding rest_put
rest_left w octets h = rw (not_right walk_length octets h)

-- the whole walk
pub walk_laid : {front t₁ t₂ : List ℕ} (w : Walk) → front ≡ record_octets w.link → length front ≡ record_length
    → t₁ ≡ written (take 577 front) (replicate 577 0) → t₂ ≡ rest_put w t₁ → t₂ ≡ walk_octets w
unfolding rest_put walk_octets
walk_laid {front} {t₁} w ef hf e₁ e₂ =
    let laid : t₁ ≡ front ++ replicate 282 0 = e₁ ∙ rw (take_all 577 front (omega arith), hf) in
    let long : length t₁ ≡ walk_length = ap length laid ∙ length-append front (replicate 282 0) ∙ omega arith in
    let first : take record_length t₁ ≡ front = ap (take record_length) laid ∙ take_at front (replicate 282 0) record_length hf in
    e₂ ∙ rw (right walk_length t₁ long, first, ef)

-- a part copied
copied : {r : List ℕ} (n : ℕ) (part : List ℕ) → r ≡ written (take n part) (replicate n 0) → length part ≡ n → r ≡ part
copied n part e h =
    let none = drop_of_length-le (replicate {A = ℕ} n 0) {i = length part} (omega (arith, length-replicate {A = ℕ} n 0)) in
    e ∙ rw (take_all n part (omega arith), none, append-nil)

-- the walk in 577 octets
pub walk_read_lem : {link : Link} {session cells : List ℕ} {header total fed : ℕ} (octets : List ℕ) → front_read octets ≡ Ok link
    → length octets ≡ walk_length → session ≡ written (take 16 (take 16 (drop 298 octets))) (replicate 16 0)
    → cells ≡ written (take 256 (take 256 (drop 316 octets))) (replicate 256 0) → header ≡ get_or octets 296 0 * 256 + get_or octets 297 0
    → total ≡ get_or octets 572 0 * 256 + get_or octets 573 0 → fed ≡ get_or octets 574 0 * 256 + get_or octets 575 0
    → ◌≡◌ {A = Walk}
    (record {
      live = eqb (get_or octets 295 0) 1;
      link = link;
      header = header;
      session = session;
      state = record { cells = cells; i = get_or octets 314 0; j = get_or octets 315 0 };
      total = total;
      fed = fed;
      first = get_or octets 576 0;
    })
    (walk_in octets)
unfolding walk_in
walk_read_lem octets el h ek ec eh et ef =
    let key = copied 16 (take 16 (drop 298 octets)) ek (length-take-le 16 (drop 298 octets) (omega (arith, length-drop 298 octets))) in
    let cells = copied 256 (take 256 (drop 316 octets)) ec (length-take-le 256 (drop 316 octets) (omega (arith, length-drop 316 octets))) in
    rw (ap (value_of no_record) el, key, cells, eh, et, ef)

-- octets that begin with no record hold no walk
pub front_refused : {e : Refusal} (octets : List ℕ) → front_read octets ≡ Err e → Err e ≡ walk_read octets
unfolding walk_read
front_refused octets h = rw (read_refused (take record_length octets) h, h) (go (wrong walk_length octets))
  where
    go : (t : Bool) → Err Record ≡ result_of (first_of ((not_record, t) ∷ (not_record, true) ∷ (not_record, no_choice (get_or octets 295 0)) ∷ [])) (walk_in octets)
    go true = refl
    go false = refl
