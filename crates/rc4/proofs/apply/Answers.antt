-- The run over the box of the key.
use mathlib.Core.Path.{◌≡◌, refl, sym, ◌∙◌}
use Rattle.answer.specs.Answer.{done}
use Rattle.answer.specs.Laws.{ok_only}
use Rattle.rc4.specs.Cipher.{key_schedule}
use Rattle.rc4.specs.Answers.{key_rows, run_rows, run_code, apply_code, apply_answer, apply_out}
use Rattle.rc4.proofs.Texts.{behind_rows}
use Rattle.rc4.proofs.apply.Goals as goal

pub returns : goal.returns
unfolding apply_answer apply_out key_schedule
returns c =
    let a = c.args in
    let behind = (ok_only (run_code a.text.now a.out.now) tt (sym c.in_ok-check_text.ensures)).0 in
    let none : apply_code a.key.now a.text.now a.out.now ≡ done = behind_rows (key_rows a.key.now) (run_rows a.text.now a.out.now) refl c.in_ok-check_key.ensures behind in
    (rw none, (rw c.key_schedule.ensures.0 at c.run_words.ensures.wrote) ∙ rw none)
