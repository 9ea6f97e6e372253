use native.Mathlib.Omega.{arith}
use Rattle.std.proofs.Common.{rules, ◌≡◌, ◌∙◌, Err}
use Rattle.octets.specs.Laws.{count}
use Rattle.mppe_walk.specs.Walk.{front_read}
use Rattle.mppe_walk.proofs.Laws.{front_refused}
use Rattle.mppe_walk.proofs.read_walk.Goals as goal

pub slice_bounds-read_record-end : goal.slice_bounds-read_record-end
slice_bounds-read_record-end c = count 295 c.args.octets.now (omega arith)

pub returns-in_err-link : goal.returns-in_err-link
returns-in_err-link c =
    let front : front_read c.args.octets.now ≡ Err c.in_err-link.field-0.0 = search rules in
    let given : c.from_residual.result ≡ Err c.in_err-link.field-0.0 = search rules in
    given ∙ front_refused c.args.octets.now front
