-- The whole eights and what is left, put together by `finished_parts`. What `run_ones` asks of the buffer rests on `run_eights` keeping its length.
use mathlib.Core.Path.{sym}
use Prim.Native.Nat.{◌-◌, ◌%◌}
use native.Mathlib.Omega.{arith}
use lib.ListN.{length}
use Rattle.rc4.proofs.Texts.{eights_length, ready_front, ready_rest, finished_parts}
use Rattle.rc4.proofs.run_rest.Goals as goal

pub slice_bounds-run_eights-end : goal.slice_bounds-run_eights-end
slice_bounds-run_eights-end c = sym (eights_length c.args.text.now)

pub run_eights-next-requires : goal.run_eights-next-requires
run_eights-next-requires c =
    let text = c.args.text.now in
    let size = eights_length text in
    (ready_front (length text - length text % 8) c.requires.0 (omega arith), omega arith, λ h. c.requires.1 (omega arith))

pub run_ones-requires : goal.run_ones-requires
run_ones-requires c =
    ready_rest _ c.requires.0 c.run_eights-next.ensures c.run_eights-next.auto.out (omega arith)

pub returns : goal.returns
returns c = finished_parts _ c.run_eights-next.ensures c.run_ones.ensures (omega arith)
