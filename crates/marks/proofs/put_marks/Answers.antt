use Rattle.mppe.specs.Link.{longest_plain, farthest}
use Rattle.tape.specs.Tape.{most_groups}
use Rattle.marks.specs.Marks.{marks_octets, marks_of}
use Rattle.marks.proofs.InnerLaws.{begins_walk, goes_down, puts_first, puts_room, puts_kept, puts_not, puts_last, written_size}
use Rattle.marks.proofs.put_marks.Goals as goal

pub loop-next-init : goal.loop-next-init
loop-next-init c = puts_first c.args.start c.args.tape.now c.args.out.now c.requires.0

pub advanced-requires : goal.advanced-requires
advanced-requires c = begins_walk c.loop-next.invariant.1

pub put_mark-requires : goal.put_mark-requires
put_mark-requires c =
    puts_room c.args.start c.args.tape.now c.loop-next.at c.in-Some.ensures c.is_kept.ensures c.args.out.now c.requires.1 c.requires.0 c.loop-next.invariant c.if-is_kept.true

pub loop-next-smaller-then-is_kept : goal.loop-next-smaller-then-is_kept
loop-next-smaller-then-is_kept c = goes_down c.args.start c.args.tape.now c.loop-next.at c.in-Some.ensures c.is_kept.ensures _ c.loop-next.invariant.1

pub loop-next-preserved-then-is_kept : goal.loop-next-preserved-then-is_kept
loop-next-preserved-then-is_kept c =
    puts_kept c.args.start c.args.tape.now c.loop-next.at c.in-Some.ensures c.is_kept.ensures c.args.out.now c.loop-next.invariant c.if-is_kept.true c.put_mark.ensures

pub loop-next-smaller : goal.loop-next-smaller
loop-next-smaller c = goes_down c.args.start c.args.tape.now c.loop-next.at c.in-Some.ensures c.is_kept.ensures _ c.loop-next.invariant.1

pub loop-next-preserved : goal.loop-next-preserved
loop-next-preserved c = puts_not c.args.start c.args.tape.now c.loop-next.at c.in-Some.ensures c.is_kept.ensures c.args.out.now c.loop-next.invariant c.if-is_kept.false

pub shape_of-out : goal.shape_of-out
shape_of-out c =
    let all = marks_octets (marks_of most_groups longest_plain farthest c.args.start c.args.tape.now) in
    written_size all c.args.out.now c.requires.1 (puts_last c.args.start c.args.tape.now c.args.out.now c.loop-next.at c.loop-next.invariant c.in_default.ensures)

pub returns : goal.returns
returns c = puts_last c.args.start c.args.tape.now c.args.out.now c.loop-next.at c.loop-next.invariant c.in_default.ensures
