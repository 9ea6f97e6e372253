use Rattle.std.proofs.Common.{rules, ◌≡◌, ◌∙◌, refl, arith, Err}
use Rattle.marks.proofs.InnerLaws.{write_ill, write_faulty, list_length, write_short, write_done}
use Rattle.marks.proofs.write.Goals as goal

pub returns-then-not-begins : goal.returns-then-not-begins
returns-then-not-begins c = write_ill c.args.start c.args.tape.now c.args.out.now c.begins.ensures.is c.if-not-begins.true

pub returns-in_err-walked : goal.returns-in_err-walked
returns-in_err-walked c =
    let is : c.from_residual.result ≡ Err c.in_err-walked.field-0.0 = search rules in
    let all = write_faulty c.args.start c.args.tape.now c.args.out.now (c.if-not-begins.ensures.told refl) c.in_err-walked.ensures.is in
    (is ∙ all.0, all.1)

pub returns-then-out-length : goal.returns-then-out-length
returns-then-out-length c = write_short c.args.start c.args.tape.now c.args.out.now (c.if-not-begins.ensures.told refl) c.in_ok-walked.ensures.is c.if-out-length.true

pub put_marks-requires : goal.put_marks-requires
put_marks-requires c =
    let begun = c.if-not-begins.ensures.told refl in
    (begun, omega (arith, c.if-out-length.false, list_length c.args.start c.args.tape.now c.args.out.now begun c.in_ok-walked.ensures.is))

pub returns : goal.returns
returns c =
    write_done c.args.start c.args.tape.now c.args.out.now (c.if-not-begins.ensures.told refl) c.in_ok-walked.ensures.is c.if-out-length.false c.put_marks.ensures
