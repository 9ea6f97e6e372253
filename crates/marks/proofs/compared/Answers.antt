use Rattle.std.proofs.Common.{rules, ◌≡◌, ◌∙◌, Ok, Err}
use Rattle.marks.proofs.InnerLaws.{begins_walk, goes_down, agrees_less, compares_first, compares_kept, compares_not, compares_last, compares_fault, compares_fits}
use Rattle.marks.proofs.compared.Goals as goal

pub loop-next-init : goal.loop-next-init
loop-next-init c = compares_first c.args.start c.args.tape.now c.args.marks.now c.requires

pub advanced-requires : goal.advanced-requires
advanced-requires c = begins_walk c.loop-next.invariant.1

pub agreed-agreeing-requires : goal.agreed-agreeing-requires
agreed-agreeing-requires c = agrees_less c.args.start c.args.tape.now c.loop-next.at c.in-Some.ensures c.is_kept.ensures c.args.marks.now c.loop-next.invariant c.if-is_kept.true

pub loop-next-smaller-then-is_kept : goal.loop-next-smaller-then-is_kept
loop-next-smaller-then-is_kept c = goes_down c.args.start c.args.tape.now c.loop-next.at c.in-Some.ensures c.is_kept.ensures _ c.loop-next.invariant.1

pub loop-next-preserved-then-is_kept : goal.loop-next-preserved-then-is_kept
loop-next-preserved-then-is_kept c =
    compares_kept c.args.start c.args.tape.now c.loop-next.at c.in-Some.ensures c.is_kept.ensures c.args.marks.now c.loop-next.invariant c.if-is_kept.true c.agreed-agreeing.ensures

pub loop-next-smaller : goal.loop-next-smaller
loop-next-smaller c = goes_down c.args.start c.args.tape.now c.loop-next.at c.in-Some.ensures c.is_kept.ensures _ c.loop-next.invariant.1

pub loop-next-preserved : goal.loop-next-preserved
loop-next-preserved c = compares_not c.args.start c.args.tape.now c.loop-next.at c.in-Some.ensures c.is_kept.ensures c.args.marks.now c.loop-next.invariant c.if-is_kept.false

pub returns-in_err-last-clause-is : goal.returns-in_err-last-clause-is
returns-in_err-last-clause-is c =
    let is : c.from_residual.result ≡ Err c.in_err-last.field-0.0 = search rules in
    let was : c.read-last.result.answer ≡ Err c.in_err-last.field-0.0 = search rules in
    is ∙ compares_fault c.args.start c.args.tape.now c.args.marks.now c.loop-next.at c.loop-next.invariant c.in_default.ensures c.read-last.ensures was

pub returns-clause-is : goal.returns-clause-is
returns-clause-is c =
    let was : c.read-last.result.answer ≡ Ok c.in_ok-last.field-0 = search rules in
    compares_last c.args.start c.args.tape.now c.args.marks.now c.loop-next.at c.loop-next.invariant c.in_default.ensures c.read-last.ensures was

pub returns-clause-fits : goal.returns-clause-fits
returns-clause-fits c = compares_fits c.args.start c.args.tape.now c.args.marks.now c.loop-next.at c.loop-next.invariant c.in_default.ensures
