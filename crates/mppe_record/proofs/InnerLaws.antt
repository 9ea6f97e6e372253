-- The octets of a record, laid one part behind the other.
use mathlib.Core.Path.{◌≡◌, refl, sym, ap, ◌∙◌}
use mathlib.Core.Bool.{Bool, true, false}
use mathlib.Core.List.{List, [], ◌∷◌, ◌++◌, append-nil}
use Prim.Native.Nat.{ℕ, ◌-◌, ◌/◌, ◌%◌}
use native.Mathlib.Omega.{arith}
use lib.ListN.{length, take, replicate, length-append}
use lib.Seq.{take_all}
use Rattle.octets.specs.Octets.{written, written_at}
use Rattle.octets.specs.Laws.{append_more}
use Rattle.mppe_keys.specs.Keys.{bits_of, by_mode}
use Rattle.mppe.specs.declared.Link.{Link}
use Rattle.mppe_record.specs.Record.{yes_number, front_octets, rest_octets, record_octets}
use Rattle.mppe_record.proofs.Laws.{two_octets, Sized, front_octets_length}

-- the octets of a record, one part behind the other
pub front_laid : {b : ℕ} {t₁ t₂ t₃ t₄ : List ℕ} (l : Link) → Sized l
    → (b ≡ bits_of l.strength) × (t₁ ≡ written_at 0 (take 35 (b ∷ [])) (replicate 35 0))
    × (t₂ ≡ written_at 1 (take (length t₁ - 1) l.start) t₁) × (t₃ ≡ written_at 17 (take (length t₂ - 17) l.session) t₂)
    × (t₄ ≡ written_at 33 (take (length t₃ - 33) (l.count / 256 ∷ l.count % 256 ∷ [])) t₃) → (t₄ ≡ front_octets l) × (length t₄ ≡ 35)
unfolding front_octets
front_laid {b} {t₁} {t₂} {t₃} {t₄} l (hs, hk, hc, hb) (eb, e₁, e₂, e₃, e₄) =
    let g₁ = append_more [] (b ∷ []) 0 35 refl e₁ refl (omega arith) in
    let g₂ = append_more (b ∷ []) l.start 1 34 g₁ e₂ refl (omega arith) in
    let g₃ = append_more (b ∷ l.start) l.session 17 (34 - length l.start) g₂ e₃ (omega arith) (omega arith) in
    let both : length ((b ∷ l.start) ++ l.session) ≡ 33 = length-append (b ∷ l.start) l.session ∙ omega arith in
    let left : ℕ = 34 - length l.start - length l.session in
    let last : List ℕ = l.count / 256 ∷ l.count % 256 ∷ [] in
    let g₄ = append_more ((b ∷ l.start) ++ l.session) last 33 left g₃ e₄ (sym both) (omega arith) in
    let all : left - 2 ≡ 0 = omega arith in
    let none : replicate {A = ℕ} (left - 2) 0 ≡ [] = ap (λ n. replicate {A = ℕ} n 0) all in
    let front : List ℕ = ((b ∷ l.start) ++ l.session) ++ last in
    let is : t₄ ≡ front_octets l = unfold front_octets in (g₄ ∙ ap (λ z. front ++ z) none ∙ append-nil front ∙ rw (eb, two_octets l.count hc)) in
    (is, ap length is ∙ front_octets_length l (hs, hk, hc, hb))

-- the octets behind these
pub rest_laid : {stateful : Bool} {m k : ℕ} {t₁ t₂ : List ℕ} (l : Link) → length l.state.cells ≡ 256
    → (stateful ≡ by_mode l.mode false true) × (m ≡ yes_number stateful) × (k ≡ yes_number l.waiting)
    × (t₁ ≡ written (take 260 (m ∷ k ∷ l.state.i ∷ l.state.j ∷ [])) (replicate 260 0)) × (t₂ ≡ written_at 4 (take (length t₁ - 4) l.state.cells) t₁)
    → (t₂ ≡ rest_octets l) × (length t₂ ≡ 260)
unfolding rest_octets
rest_laid {stateful} {m} {k} {t₁} {t₂} l hl (es, em, ek, e₁, e₂) =
    let four : List ℕ = m ∷ k ∷ l.state.i ∷ l.state.j ∷ [] in
    let g₂ = append_more four l.state.cells 4 256 e₁ e₂ refl (omega arith) in
    let all : 256 - length l.state.cells ≡ 0 = omega arith in
    let none : replicate {A = ℕ} (256 - length l.state.cells) 0 ≡ [] = ap (λ n. replicate {A = ℕ} n 0) all in
    let whole : t₂ ≡ four ++ l.state.cells = g₂ ∙ ap (λ z. (four ++ l.state.cells) ++ z) none ∙ append-nil (four ++ l.state.cells) in
    (whole ∙ rw (em, es, ek), ap length whole ∙ omega arith)

-- the whole record
pub record_laid : {front rest t₁ t₂ : List ℕ} (l : Link) → (front ≡ front_octets l) × (length front ≡ 35) → (rest ≡ rest_octets l) × (length rest ≡ 260)
    → t₁ ≡ written (take 295 front) (replicate 295 0) → t₂ ≡ written_at 35 (take (length t₁ - 35) rest) t₁ → t₂ ≡ record_octets l
unfolding record_octets
record_laid {front} {rest} {t₁} l (ef, hf) (er, hr) e₁ e₂ =
    let laid : t₁ ≡ front ++ replicate 260 0 = e₁ ∙ rw (take_all 295 front (omega arith), hf) in
    let g₂ = append_more front rest 35 260 laid e₂ (sym hf) (omega arith) in
    let none : replicate {A = ℕ} (260 - length rest) 0 ≡ [] = ap (λ n. replicate {A = ℕ} (260 - n) 0) hr in
    g₂ ∙ ap (λ z. (front ++ rest) ++ z) none ∙ append-nil (front ++ rest) ∙ rw (ef, er)
