-- The words of the schedule, and a round.
use Rattle.std.proofs.Common.{◌≡◌, List, ℕ, ◌-◌, ◌≤◌, get_or, get_or-take, take, arith}
use Rattle.octets.specs.Words.{◌⊞◌}
use Rattle.blocks.specs.Laws.{add_swap}
use Rattle.sha256.specs.Sha256.{ch, maj, Σ₀, Σ₁, k, late_word, round}
use Rattle.sha256.specs.declared.State.{State}

-- a word made from those before it looks at no other
pub late : {x : ℕ} (w : List ℕ) (t : ℕ) → x ≡ late_word w t → 16 ≤ t → x ≡ late_word (take t w) t
late w t ex h =
    rw
    (ex, get_or-take t w (t - 2) 0 (omega arith), get_or-take t w (t - 7) 0 (omega arith), get_or-take t w (t - 15) 0 (omega arith), get_or-take t w (t - 16) 0 (omega arith))

-- a round, its sums in the code's order
added_last : (h σ c k w : ℕ) → h ⊞ k ⊞ w ⊞ c ⊞ σ ≡ h ⊞ σ ⊞ c ⊞ k ⊞ w
added_last h σ c k w = rw (add_swap h σ c, add_swap (h ⊞ c) σ k, add_swap (h ⊞ c ⊞ k) σ w, add_swap h c k, add_swap (h ⊞ k) c w)

pub rounded : {c j σ σ' m a e : ℕ} (w : List ℕ) (t : ℕ) (s : State) → c ≡ ch s.e s.f s.g → j ≡ maj s.a s.b s.c → σ ≡ Σ₁ s.e → σ' ≡ Σ₀ s.a
    → m ≡ s.h ⊞ get_or k t 0 ⊞ get_or w t 0 ⊞ c ⊞ σ → a ≡ m ⊞ (σ' ⊞ j) → e ≡ s.d ⊞ m
    → ◌≡◌ {A = State} (record { a = a; b = s.a; c = s.b; d = s.c; e = e; f = s.e; g = s.f; h = s.g }) (round w t s)
unfolding round
rounded w t s ec ej eσ eσ' em ea ee =
    rw (ea, ee, em, ec, ej, eσ, eσ', added_last s.h (Σ₁ s.e) (ch s.e s.f s.g) (get_or k t 0) (get_or w t 0))
