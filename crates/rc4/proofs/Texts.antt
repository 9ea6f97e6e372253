-- A whole text: the parts of a run put together, what a run answers, and one that is judged by its first two octets.
use mathlib.Core.Path.{◌≡◌, sym, ◌∙◌}
use mathlib.Core.Bool.{Bool, true, false}
use mathlib.Core.Logic.{◌⊎◌, ⊎_elim}
use mathlib.Core.List.{List, [], ◌∷◌, ◌++◌, append_assoc, append-nil}
use Prim.Native.Nat.{ℕ, ◌+◌, ◌-◌, ◌%◌, ◌<◌, ◌≤◌}
use native.Mathlib.Omega.{arith}
use lib.ListN.{length, get_or, take, drop, length-append, length-drop, take-append-drop, drop_of_length-le}
use lib.Seq.{take_all, take_at, drop_at, drop-drop, length-take-le}
use Rattle.std.specs.Prelude.{Ok}
use Rattle.answer.specs.Answer.{done, protocol, pick, outside, first_of, result_of}
use Rattle.answer.specs.Laws.{refusals, rows_pass, outside_low, outside_high, outside_none, ok_only}
use Rattle.octets.specs.Octets.{from_big_endian, pair_at, written}
use Rattle.rc4.specs.declared.Rc4.{Rc4}
use Rattle.rc4.specs.Cipher.{box, key_schedule, run, after}
use Rattle.rc4.specs.Inner.{wrapped, Ready, Finished}
use Rattle.rc4.specs.Answers.{keyed_if, number_code}
use Rattle.rc4.proofs.Laws.{run_length, run_cut, after_cut}
use Rattle.rc4.proofs.Draws.{unwrapped}

-- a part from m on is what is left
part_rest : (m : ℕ) (l : List ℕ) → take (length l - m) (drop m l) ≡ drop m l
part_rest m l = take_all (length l - m) (drop m l) (rw length-drop (omega arith))

pub part_rest_length : (m : ℕ) (l : List ℕ) → length (take (length l - m) (drop m l)) ≡ length l - m
part_rest_length m l = rw part_rest (length-drop m l)

-- the whole eights of a text
pub eights_length : (text : List ℕ) → length (take (length text - length text % 8) text) ≡ length text - length text % 8
eights_length text = length-take-le (length text - length text % 8) text (omega arith)

-- a result in two parts, the second written behind the first
written_cut : (front rest out : List ℕ) → front ++ written rest (drop (length front) out) ≡ written (front ++ rest) out
written_cut front rest out = rw (length-append, drop-drop, append_assoc)

-- a text cut at m, its rest run into the buffer from m on
module _ (s s₁ : Rc4) (text : List ℕ) (m : ℕ) (first : s₁ ≡ after s (take m text)) where
  after_parts : (s₂ : Rc4) → s₂ ≡ after s₁ (take (length text - m) (drop m text)) → s₂ ≡ after s text
  after_parts s₂ second =
      second ∙ rw (part_rest, first, ← after_cut s (take m text) (drop m text), take-append-drop)

  written_parts : (out out₁ zs : List ℕ) → out₁ ≡ written (run s (take m text)) out
      → zs ≡ written (run s₁ (take (length text - m) (drop m text))) (take (length out₁ - m) (drop m out₁)) → m ≤ length text
      → take m out₁ ++ (zs ++ drop (length out₁ - m) (drop m out₁)) ≡ written (run s text) out
  written_parts out out₁ zs wrote-first wrote-second h =
      let front = run s (take m text) in
      let rest = run s₁ (drop m text) in
      let sized : length front ≡ m = run_length s (take m text) ∙ length-take-le m text h in
      let took : take m out₁ ≡ front = rw wrote-first (take_at front (drop (length front) out) m sized) in
      let kept : drop m out₁ ≡ drop (length front) out = rw wrote-first (drop_at front (drop (length front) out) m sized) in
      let none : drop (length out₁ - m) (drop m out₁) ≡ [] = drop_of_length-le (drop m out₁) {i = length out₁ - m} (rw length-drop (omega arith)) in
      let second : zs ≡ written rest (drop (length front) out) = wrote-second ∙ rw (part_rest m text, part_rest m out₁, kept) in
      let whole : front ++ rest ≡ run s text = rw (first, ← run_cut s (take m text) (drop m text), take-append-drop) in
      rw (took, none, second, append-nil, written_cut front rest out, whole)

-- the same of the loops over a box in place
pub finished_parts : {c c₁ c₂ text out out₁ zs : List ℕ} {i j j₁ j₂ : ℕ} (m : ℕ) → Finished c i j (take m text) out c₁ j₁ out₁
    → Finished c₁ (i + m) j₁ (take (length text - m) (drop m text)) (take (length out₁ - m) (drop m out₁)) c₂ j₂ zs → m ≤ length text
    → Finished c i j text out c₂ j₂ (take m out₁ ++ (zs ++ drop (length out₁ - m) (drop m out₁)))
finished_parts {c} {c₁} {c₂} {text} {out} {out₁} {zs} {i} {j} {j₁} {j₂} m f g h =
    let s = wrapped c i j in
    let s₁ = wrapped c₁ (i + m) j₁ in
    let size : length (take m text) ≡ m = length-take-le m text h in
    let rest = part_rest_length m text in
    let sum : i + m + length (take (length text - m) (drop m text)) ≡ i + length text = omega arith in
    let first : s₁ ≡ after s (take m text) = rw size at f.stepped in
    record {
      wrote = written_parts s s₁ text m first out out₁ zs f.wrote g.wrote h;
      stepped = after_parts s s₁ text m first (wrapped c₂ (i + length text) j₂) (rw sum at g.stepped);
      whole = g.whole;
      near = omega (arith, f.near, g.near);
    }

-- what a loop over the front of a text asks ..
pub ready_front : {c text out : List ℕ} {i j : ℕ} (m : ℕ) → Ready c i j text out → m ≤ length text → Ready c i j (take m text) out
ready_front {text = text} m r h =
    let size = length-take-le m text h in
    record { whole = r.whole; i_near = omega (arith, r.i_near); j_near = omega (arith, r.j_near); room = omega (arith, r.room) }

-- .. and one over what is left
pub ready_rest : {c c₁ text out out₁ : List ℕ} {i j j₁ : ℕ} (m : ℕ) → Ready c i j text out → Finished c i j (take m text) out c₁ j₁ out₁ → length out₁ ≡ length out
    → m ≤ length text → Ready c₁ (i + m) j₁ (take (length text - m) (drop m text)) (take (length out₁ - m) (drop m out₁))
ready_rest {text = text} {out₁ = out₁} m r f kept h =
    let size = length-take-le m text h in
    let left = part_rest_length m text in
    let room = part_rest_length m out₁ in
    record { whole = f.whole; i_near = omega (arith, r.i_near); j_near = omega (arith, r.j_near, f.near); room = omega (arith, r.room) }

-- a run by value, from one over its cells as words in place, narrowed and with its indices wrapped at the end
pub whole_text : (s : Rc4) {words words' c text out out' : List ℕ} (i j j₁ : ℕ) {i' j' : ℕ} → words ≡ s.cells → i ≡ s.i → j ≡ s.j
    → Finished words i j text out words' j₁ out' → c ≡ words' → i' ≡ (i + length text) % 256 → j' ≡ j₁ % 256 → i < 256 → j < 256
    → (box c i' j' ≡ after s text) × (out' ≡ written (run s text) out)
whole_text s i j j₁ ec ei ej f ec' ei' ej' hi hj =
    let same = unwrapped s i j ec ei ej hi hj in
    (rw (ec', ei', ej') (rw same at f.stepped), rw same at f.wrote)

-- rows that do not refuse leave it to those behind them
pub behind_rows : {y : Unit {0}} {n : ℕ} (rows rest : List (ℕ × Bool)) → refusals rows ≡ true → Ok y ≡ result_of (first_of rows) tt → first_of rest ≡ n
    → first_of (rows ++ rest) ≡ n
behind_rows rows rest all h behind = rows_pass rows rest all (ok_only (first_of rows) tt (sym h)).0 ∙ behind

-- the state of a key where RC4 is keyed afresh, else the one given, over its cells as words
module _ (s : Rc4) (fresh : Bool) (key : List ℕ) where
  module _ {words : List ℕ} {i j : ℕ} (ec : words ≡ (keyed_if s fresh key).cells) (ei : i ≡ pick fresh 0 s.i) (ej : j ≡ pick fresh 0 s.j) (hi : i < 256) (hj : j < 256) where
    indices : (i ≡ (keyed_if s fresh key).i) × (j ≡ (keyed_if s fresh key).j)
    unfolding keyed_if key_schedule
    indices = by fresh ei ej
      where
        by : (fresh : Bool) → i ≡ pick fresh 0 s.i → j ≡ pick fresh 0 s.j → (i ≡ (pick fresh (key_schedule key) s).i) × (j ≡ (pick fresh (key_schedule key) s).j)
        by true ei ej = (ei, ej)
        by false ei ej = (ei, ej)

    pub words_state : keyed_if s fresh key ≡ wrapped words i j
    words_state = sym (unwrapped (keyed_if s fresh key) i j ec indices.0 indices.1 hi hj)

    pub words_made : {text out words' c out' : List ℕ} {i' j' : ℕ} (last : ℕ) → Finished words i j text out words' last out' → c ≡ words'
        → i' ≡ (i + length text) % 256 → j' ≡ last % 256
        → (box c i' j' ≡ after (keyed_if s fresh key) text) × (out' ≡ written (run (keyed_if s fresh key) text) out)
    words_made last f ec' ei' ej' = whole_text (keyed_if s fresh key) i j last ec indices.0 indices.1 f ec' ei' ej' hi hj

-- the first two octets, run into a buffer of their own: their number ..
pair_two : {n : ℕ} {two : List ℕ} (s : Rc4) (text : List ℕ) → two ≡ written (run s (take 2 text)) (0 ∷ 0 ∷ [])
    → n ≡ from_big_endian (get_or two 0 0 ∷ get_or two 1 0 ∷ []) → 2 ≤ length text → n ≡ pair_at 0 (run s text)
unfolding run
pair_two s [] e en h = absurd (omega arith)
pair_two s (x ∷ []) e en h = absurd (omega arith)
pair_two s (x ∷ y ∷ text) e en h = en ∙ rw e

module _ (s : Rc4) (text : List ℕ) (lowest highest : ℕ) {n : ℕ} {two : List ℕ} (e : two ≡ written (run s (take 2 text)) (0 ∷ 0 ∷ []))
    (en : n ≡ from_big_endian (get_or two 0 0 ∷ get_or two 1 0 ∷ [])) (long : 2 ≤ length text) where
  pub number_off : (n < lowest) ⊎ ((lowest ≤ n) × (highest < n)) → number_code lowest highest (run s text) ≡ protocol
  number_off h = rw (← pair_two s text e en long, off)
    where
      off : outside lowest highest n ≡ true
      off = ⊎_elim (λ low. outside_low lowest highest n low) (λ high. outside_high lowest highest n high.0 high.1) h

  pub number_within : lowest ≤ n → n ≤ highest → number_code lowest highest (run s text) ≡ done
  number_within low high = rw (← pair_two s text e en long, outside_none lowest highest n low high)

-- .. and from there into the buffer lent
pub ready_two : {c text out : List ℕ} {i j : ℕ} → Ready c i j text out → 2 ≤ length text → Ready c i j (take 2 text) (0 ∷ 0 ∷ [])
ready_two {text = text} r h =
    let front = ready_front 2 r h in
    record { whole = front.whole; i_near = front.i_near; j_near = front.j_near; room = omega (arith, length-take-le 2 text h) }

pub lent_two : {c c₁ two ys : List ℕ} {i j j₁ : ℕ} (text out : List ℕ) → Finished c i j (take 2 text) (0 ∷ 0 ∷ []) c₁ j₁ two → ys ≡ two
    → 2 ≤ length text → length text ≤ length out
    → Finished c i j (take 2 text) out c₁ j₁ (ys ++ drop 2 out) × (length (ys ++ drop 2 out) ≡ length out)
lent_two {c} {two = two} {ys} {i} {j} text out f e h fits =
    let plain = run (wrapped c i j) (take 2 text) in
    let size : length plain ≡ 2 = run_length (wrapped c i j) (take 2 text) ∙ length-take-le 2 text h in
    let same : two ≡ plain = f.wrote ∙ rw (drop_of_length-le {A = ℕ} (0 ∷ 0 ∷ []) {i = length plain} (omega arith), append-nil) in
    (record { wrote = rw (e, same, size); stepped = f.stepped; whole = f.whole; near = f.near }, rw (length-append, length-drop, e, same, size) (omega arith))
