-- The ways out of calls that hand on what others gave.
use mathlib.Core.Path.{◌≡◌, refl, sym, ap, ◌∙◌}
use mathlib.Core.Bool.{Bool, false}
use mathlib.Core.List.{List, [], ◌∷◌, ◌++◌, append_assoc, append-nil}
use Prim.Native.Nat.{ℕ}
use native.Mathlib.Omega.{arith}
use lib.ListN.{length, take, replicate}
use Rattle.answer.specs.Answer.{done}
use Rattle.octets.specs.Octets.{written}
use Rattle.rc4.specs.declared.Rc4.{Rc4}
use Rattle.rc4.specs.Cipher.{unkeyed}
use Rattle.mppe_keys.specs.declared.Strength.{Strength}
use Rattle.mppe_keys.specs.declared.Mode.{Mode}
use Rattle.mppe_keys.specs.Keys.{mode_if}
use Rattle.mppe.specs.declared.Link.{Link}
use Rattle.mppe.specs.Link.{longest_plain, farthest, Result, open_result}
use Rattle.mppe_pieces.specs.declared.Walk.{Walk}
use Rattle.mppe_pieces.specs.declared.Step.{Step}
use Rattle.mppe_pieces.specs.Walk.{Fed, begin_step, feed_result, end_step}
use Rattle.mppe_pieces.specs.Pieces.{joined, feed_all, walked}
use Rattle.mppe_pieces.proofs.Laws.{pieces, feed_more, joined_more}
use Rattle.bench.specs.Copied.{copied, strength_of, link_at}
use Rattle.bench.specs.Cut.{Cut}

-- a record put together from a strength, a mode, two keys copied over zeros, and a box
pub put_together : {s : Strength} {mode : Mode} {first second : List ℕ} {state : Rc4} (bits40 stateful : Bool) (start session : List ℕ) (count : ℕ)
    → s ≡ strength_of bits40 → mode ≡ mode_if stateful → first ≡ written (take 16 start) (replicate 16 0)
    → second ≡ written (take 16 session) (replicate 16 0) → state ≡ unkeyed
    → record { strength = s; mode = mode; start = first; session = second; count = count; state = state; waiting = false }
    ≡ link_at bits40 stateful start session count
unfolding link_at copied
put_together bits40 stateful start session count es em e f eb = rw (es, em, e, f, eb)

-- a text being fed in pieces: what is left of it
pub record Cutting (first : Walk) (out text rest : List ℕ) (walk : Walk) (out' : List ℕ) : Type 0 where
  pub pieces : List (List ℕ)
  pub whole : joined pieces ++ rest ≡ text
  pub left : feed_all longest_plain farthest first out pieces ≡ record { walk = walk; buffer = out' }

-- none, one piece more, and all
pub cut_none : {rest : List ℕ} (first : Walk) (out text : List ℕ) → rest ≡ text → Cutting first out text rest first out
cut_none first out text e = record { pieces = []; whole = unfold joined in e; left = unfold feed_all in refl }

pub cut_more : {first walk : Walk} {out₀ out out' text rest : List ℕ} {fed : Step} (p rest' : List ℕ) → Cutting first out₀ text rest walk out
    → rest ≡ p ++ rest' → (fed ≡ (feed_result longest_plain farthest walk p out).step) × (out' ≡ (feed_result longest_plain farthest walk p out).buffer)
    → Cutting first out₀ text rest' fed.walk out'
cut_more {first} {walk} {out₀} {out} p rest' cut e (es, eo) =
    record {
      pieces = cut.pieces ++ p ∷ [];
      whole = rw (joined_more cut.pieces p, append_assoc) (rw e at cut.whole);
      left = feed_more longest_plain farthest first out₀ cut.pieces p _ cut.left ∙ rw (es, eo);
    }

pub cut_all : {first last : Walk} {out out' text rest : List ℕ} → Cutting first out text rest last out' → length rest ≡ 0 → Cut first out text last out'
cut_all {rest = []} cut none = record { pieces = cut.pieces; whole = sym (append-nil (joined cut.pieces)) ∙ cut.whole; left = cut.left }
cut_all {rest = x ∷ rest} cut none = absurd (omega (arith, none))

-- a walk that ends well has opened what one call opens
run_is : {begun ended : Step} {last : Walk} {out' : List ℕ} (l : Link) (four out : List ℕ) (total lent : ℕ) (ps : List (List ℕ))
    → begun ≡ begin_step longest_plain farthest l four total lent → feed_all longest_plain farthest begun.walk out ps ≡ record { walk = last; buffer = out' }
    → ended ≡ end_step longest_plain farthest last → walked longest_plain farthest l four total lent out ps ≡ record { step = ended; buffer = out' }
unfolding walked
run_is l four out total lent ps eb left en = rw (← eb, left, en)

pub ended_opens : {given said : Link} {begun ended : Step} {last : Walk} {out' : List ℕ} (four text out : List ℕ) (total lent : ℕ) → given ≡ said
    → begun ≡ begin_step longest_plain farthest given four total lent → Cut begun.walk out text last out' → ended ≡ end_step longest_plain farthest last
    → ended.answer ≡ done → out' ≡ (open_result longest_plain farthest said (four ++ text) out).buffer
ended_opens {given} four text out total lent e eb cut en good =
    let run = run_is given four out total lent cut.pieces eb cut.left en in
    let same = (pieces longest_plain farthest).equal given four total lent out cut.pieces (ap (λ (f : Fed). f.step.answer) run ∙ good) in
    sym (ap (λ (f : Fed). f.buffer) run) ∙ ap (λ (r : Result). r.buffer) same
    ∙ ap (λ (t : List ℕ). (open_result longest_plain farthest given (four ++ t) out).buffer) cut.whole
    ∙ ap (λ (l : Link). (open_result longest_plain farthest l (four ++ text) out).buffer) e
