-- The octets before a place that is a multiple of eight and those behind it, put together by `finished_parts`.
use mathlib.Core.Path.{sym}
use native.Mathlib.Omega.{arith}
use lib.Seq.{length-take-le}
use Rattle.rc4.proofs.Texts.{part_rest_length, ready_front, ready_rest, finished_parts}
use Rattle.rc4.proofs.run_words.Goals as goal

pub slice_bounds-run_ones-end : goal.slice_bounds-run_ones-end
slice_bounds-run_ones-end c = sym (length-take-le _ _ c.before_eights-m.ensures.0)

pub run_ones-next-requires : goal.run_ones-next-requires
run_ones-next-requires c =
    ready_front _ c.requires c.before_eights-m.ensures.0

pub run_rest-requires : goal.run_rest-requires
run_rest-requires c =
    let m = c.before_eights-m.ensures in
    let left = part_rest_length c.before_eights-m.result c.args.text.now in
    (ready_rest _ c.requires c.run_ones-next.ensures c.run_ones-next.auto.out m.0, λ h. m.1 (omega arith))

pub returns : goal.returns
returns c = finished_parts _ c.run_ones-next.ensures c.run_rest.ensures c.before_eights-m.ensures.0
