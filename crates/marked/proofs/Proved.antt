-- The fourteen marked cases, proved.
use Rattle.std.specs.Prelude.{◌≡◌, refl, Bool, true, false, List, ◌∷◌, ◌++◌, ℕ, length}
use Rattle.std.proofs.Common.{◌∙◌, arith}
use Rattle.answer.specs.Answer.{late, outside, first_of}
use Rattle.answer.specs.Laws.{rows_pass}
use Rattle.mppe_keys.specs.declared.Mode.{Mode}
use Rattle.mppe_keys.specs.declared.Mode.TheVariants.{Stateless, Stateful}
use Rattle.mppe_keys.specs.Keys.{by_mode, head_of, reduced}
use Rattle.ccp.specs.Option.{mode_of, strengths_of, word_of}
use Rattle.ccp.specs.Answers.{read_code, supported_bits, read_answer, reply_code, chosen, reply_with, reply_answer}
use Rattle.mppe.specs.declared.Link.{Link}
use Rattle.mppe.specs.Link.{shortest_plain, longest_plain, farthest, well_formed, header, header_in, refusal, front_rows, header_rows, data_rows, open_code, open_result}
use Rattle.mppe.proofs.Laws.{open_other, front_none}
use Rattle.marked.specs.Marked.{AllEqual, cases}

-- the claim
pub marked_cases : AllEqual cases
unfolding read_answer read_code supported_bits mode_of strengths_of reply_answer reply_code chosen reply_with word_of reduced head_of
marked_cases = (refl, (refl, (refl, (refl, (refl, (refl, (refl, (refl, (refl, (refl, (refl, (refl, (refl, (refl, tt))))))))))))))

-- "K4's distance stands, but such a packet is refused" (02, M-101): with 10, whatever its data are and the room lent, with a record whose
-- last count is 0
pub k4_late : (l : Link) (text out : List ℕ) → well_formed l ≡ true → l.count ≡ 0 → outside shortest_plain longest_plain (length text) ≡ false
    → open_result longest_plain farthest l (0x00 ∷ 0xFD ∷ header true 4095 ++ text) out ≡ refusal late l out
unfolding open_code
k4_late l text out well last long =
    let packet : List ℕ = 0x00 ∷ 0xFD ∷ header true 4095 ++ text in
    let h : ℕ = header_in packet in
    let rest : List (ℕ × Bool) = header_rows farthest l h ++ data_rows l h text (length out) in
    let refused : first_of rest ≡ late = rw (last, same l.mode) in
    let code : open_code longest_plain farthest l packet (length out) ≡ late =
    rows_pass (front_rows longest_plain l packet) rest refl (front_none longest_plain l true 4095 text well long) ∙ refused in
    open_other longest_plain farthest l packet out (λ z. omega (arith, code, z)) (λ z. omega (arith, code, z)) ∙ rw code
  where
    same : (m : Mode) → by_mode m false false ≡ false
    same Stateless = refl
    same Stateful = refl
