-- A run by value is one in place over its cells as words.
use mathlib.Core.Path.{◌≡◌, refl, ◌∙◌}
use Prim.Native.Nat.{◌<◌}
use borrow.Author.Rules.{rules}
use lib.ListN.{length}
use Rattle.std.proofs.lemmas.Result.{err_from_is_err_and}
use Rattle.answer.specs.Answer.{done, protocol, pick}
use Rattle.rc4.specs.Cipher.{run}
use Rattle.rc4.specs.Answers.{keyed_if, numbered_rows, number_rows, number_code, within_code, within_answer, within_out}
use Rattle.rc4.proofs.Boxes.{zero_cells}
use Rattle.rc4.proofs.Texts.{behind_rows, words_state, words_made}
use Rattle.rc4.proofs.Rc4.run_within.Goals as goal

pub keyed_words-requires : goal.keyed_words-requires
keyed_words-requires c = (zero_cells, search rules)

pub returns-in_err-last : goal.returns-in_err-last
unfolding within_answer within_out
returns-in_err-last c =
    let a = c.args in
    let e = c.in_err-last.ensures in
    let ei : c.from-i.result ≡ pick a.fresh 0 a.self.i = (search rules) ∙ c.start.ensures in
    let ej : c.from-j.result ≡ pick a.fresh 0 a.self.j = (search rules) ∙ c.start-2.ensures in
    let hi : c.from-i.result < 256 = search rules in
    let hj : c.from-j.result < 256 = search rules in
    let same = words_state a.self a.fresh a.key.now c.keyed_words.ensures.0 ei ej hi hj in
    let plain = run (keyed_if a.self a.fresh a.key.now) a.text.now in
    let off : number_code a.lowest a.highest plain ≡ protocol = rw same e.0 in
    let code : within_code a.self a.fresh a.key.now a.lowest a.highest a.text.now a.out.now ≡ protocol =
    behind_rows (numbered_rows a.fresh a.key.now (length a.text.now) (length a.out.now)) (number_rows a.lowest a.highest plain) refl c.in_ok-check_numbered.ensures off in
    let p = err_from_is_err_and c.from_residual-in_err-last.result c.from_residual-in_err-last.ensures.1 in
    (rw (p.1, p.2, e.1, code), e.2 ∙ rw code)

pub returns : goal.returns
unfolding within_answer within_out
returns c =
    let a = c.args in
    let r = c.in_ok-last.ensures in
    let ei : c.from-i.result ≡ pick a.fresh 0 a.self.i = (search rules) ∙ c.start.ensures in
    let ej : c.from-j.result ≡ pick a.fresh 0 a.self.j = (search rules) ∙ c.start-2.ensures in
    let hi : c.from-i.result < 256 = search rules in
    let hj : c.from-j.result < 256 = search rules in
    let w = c.keyed_words.ensures.0 in
    let same = words_state a.self a.fresh a.key.now w ei ej hi hj in
    let plain = run (keyed_if a.self a.fresh a.key.now) a.text.now in
    let on : number_code a.lowest a.highest plain ≡ done = rw same r.0 in
    let code : within_code a.self a.fresh a.key.now a.lowest a.highest a.text.now a.out.now ≡ done =
    behind_rows (numbered_rows a.fresh a.key.now (length a.text.now) (length a.out.now)) (number_rows a.lowest a.highest plain) refl c.in_ok-check_numbered.ensures on in
    let made = words_made a.self a.fresh a.key.now w ei ej hi hj c.in_ok-last.last r.1 c.narrow.ensures refl refl in
    (rw (code, made.0), made.1 ∙ rw code)
