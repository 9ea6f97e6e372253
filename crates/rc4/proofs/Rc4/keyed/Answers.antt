use mathlib.Core.Path.{ap, sym, ◌∙◌}
use mathlib.Core.List.{List}
use Prim.Native.Nat.{ℕ}
use Rattle.std.specs.Prelude.{Ok}
use Rattle.answer.specs.Laws.{ok_only}
use Rattle.rc4.specs.Cipher.{box, key_schedule}
use Rattle.rc4.specs.Answers.{key_code, keyed_answer}
use Rattle.rc4.proofs.Rc4.keyed.Goals as goal

pub returns : goal.returns
unfolding keyed_answer key_schedule
returns c =
    let none = (ok_only (key_code c.args.key.now) tt (sym c.in_ok-check_key.ensures)).0 in
    rw none (ap (λ (cells : List ℕ). Ok (box cells 0 0)) (c.narrow.ensures ∙ c.key_schedule.ensures.0))
