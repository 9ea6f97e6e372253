use lib.ListN.{length}
use Rattle.mppe.specs.Link.{longest_plain}
use Rattle.mppe.proofs.InnerLaws.{seal_passed, behind_fits, fresh_stateless, seal_finished}
use Rattle.mppe.proofs.Link.seal.Goals as goal

pub encipher-kept-requires : goal.encipher-kept-requires
encipher-kept-requires c =
    let (bound, long, fits) = seal_passed longest_plain c.args.self c.args.plain.now (length c.args.out.now) c.seal_code-code.ensures c.if-code-ne-DONE.false in (
      fresh_stateless c.args.self _ c.changes_over-changes.ensures c.moved-next.ensures.0 c.afresh-fresh.ensures,
      long,
      behind_fits c.afresh-fresh.result c.next_count-count.result (length c.args.plain.now) c.args.out.now c.put_front.ensures fits,
    )

pub returns : goal.returns
returns c =
    seal_finished c.args.self c.args.plain.now c.args.out.now c.moved-next.ensures.1 c.seal_code-code.ensures c.if-code-ne-DONE.false
    c.next_count-count.ensures c.changes_over-changes.ensures c.moved-next.ensures.0 c.afresh-fresh.ensures c.put_front.ensures
    c.encipher-kept.ensures c.with_box.ensures
