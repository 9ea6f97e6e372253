use Rattle.std.proofs.Common.{rules, ◌≡◌, ◌∙◌, sym, Err}
use Rattle.marks.proofs.InnerLaws.{held_in, weak_told}
use Rattle.marks.proofs.read.Goals as goal

pub returns-in_err-link : goal.returns-in_err-link
returns-in_err-link c =
    let held : held_in c.args.octets.now ≡ Err c.in_err-link.field-0.0 = search rules in
    let given : c.from_residual.result ≡ Err c.in_err-link.field-0.0 = search rules in
    given ∙ sym (weak_told c.args.octets.now c.if-octets-ne-MARK_LENGTH.false held)
