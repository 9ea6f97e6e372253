use Rattle.mppe.specs.Link.{farthest}
use Rattle.mppe.proofs.InnerLaws.{data_waits, data_refused, data_passed, data_off, data_opened}
use Rattle.mppe.proofs.Link.open_data.Goals as goal

pub returns-then-judged-eq-WAITING : goal.returns-then-judged-eq-WAITING
returns-then-judged-eq-WAITING c =
    data_waits farthest c.args.self c.args.header c.args.text.now c.args.out.now c.moved.ensures.1 c.judge_header-judged.ensures
    c.if-judged-eq-WAITING.true c.moved.ensures.0 c.waited.ensures

pub returns-then-judged-ne-DONE : goal.returns-then-judged-ne-DONE
returns-then-judged-ne-DONE c =
    data_refused farthest c.args.self c.args.header c.args.text.now c.args.out.now c.judge_header-judged.ensures c.if-judged-eq-WAITING.false
    c.if-judged-ne-DONE.true c.refused.ensures

pub decipher-requires : goal.decipher-requires
decipher-requires c = (
  c.requires.1,
  c.requires.2,
  (data_passed farthest c.args.self c.args.header c.args.text.now _ c.judge_header-judged.ensures c.if-judged-ne-DONE.false).0,
)

pub returns-in_default : goal.returns-in_default
returns-in_default c =
    data_off farthest c.args.self c.args.header c.args.text.now c.args.out.now c.moved-next.ensures.1 c.judge_header-judged.ensures
    c.if-judged-ne-DONE.false c.moved-next.ensures.0 (c.lacks_a.ensures, c.afresh.ensures) c.decipher.ensures c.in_default.is
    c.refused-in_default.ensures

pub returns : goal.returns
returns c =
    data_opened farthest c.args.self c.args.header c.args.text.now c.args.out.now c.moved-next.ensures.1 c.judge_header-judged.ensures
    c.if-judged-ne-DONE.false c.moved-next.ensures.0 (c.lacks_a.ensures, c.afresh.ensures) c.decipher.ensures c.in-Ok.is c.settled.ensures
