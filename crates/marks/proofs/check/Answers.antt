use Rattle.std.proofs.Common.{rules, ◌≡◌, ◌∙◌, refl, Err}
use Rattle.marks.proofs.InnerLaws.{check_ill, check_faulty, check_same, check_other}
use Rattle.marks.proofs.check.Goals as goal

pub returns-then-not-begins : goal.returns-then-not-begins
returns-then-not-begins c = check_ill c.args.start c.args.tape.now c.args.marks.now c.begins.ensures.is c.if-not-begins.true

pub returns-in_err-walked : goal.returns-in_err-walked
returns-in_err-walked c =
    let is : c.from_residual.result ≡ Err c.in_err-walked.field-0.0 = search rules in
    is ∙ check_faulty c.args.start c.args.tape.now c.args.marks.now (c.if-not-begins.ensures.told refl) c.in_err-walked.ensures.is

pub returns-then-walked : goal.returns-then-walked
returns-then-walked c = check_same c.args.start c.args.tape.now c.args.marks.now (c.if-not-begins.ensures.told refl) c.in_ok-walked.ensures.is c.if-walked.true

pub returns-else-walked : goal.returns-else-walked
returns-else-walked c = check_other c.args.start c.args.tape.now c.args.marks.now (c.if-not-begins.ensures.told refl) c.in_ok-walked.ensures.is c.if-walked.false
