use mathlib.Core.Path.{sym, ap, ◌∙◌}
use native.Mathlib.Omega.{arith}
use Rattle.std.specs.Prelude.{is_ok}
use Rattle.answer.specs.Answer.{value_of}
use Rattle.rc4.proofs.Laws.{run_done}
use Rattle.mppe.proofs.run_on.Goals as goal

pub unwrap-requires : goal.unwrap-requires
unwrap-requires c = ap is_ok (c.run.ensures.0 ∙ (run_done c.args.cipher c.args.text.now c.args.out.now (omega (arith, c.requires.0)) c.requires.1).0)

pub returns : goal.returns
returns c =
    let (state_is, run_is) = run_done c.args.cipher c.args.text.now c.args.out.now (omega (arith, c.requires.0)) c.requires.1 in
    (ap (value_of c.args.cipher) (sym c.unwrap.ensures ∙ c.run.ensures.0 ∙ state_is), c.run.ensures.1 ∙ run_is)
