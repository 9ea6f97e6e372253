use mathlib.Core.Path.{ap}
use mathlib.Core.List.{[], ◌∷◌}
use native.Mathlib.Omega.{arith}
use lib.ListN.{take}
use lib.Seq.{length-take-le}
use Rattle.std.specs.Prelude.{is_ok}
use Rattle.octets.specs.Laws.{count}
use Rattle.mppe_pieces.proofs.InnerLaws.{run_fits, number_runs}
use Rattle.mppe_pieces.proofs.runs_off_protocol.Goals as goal

pub slice_bounds-run-end : goal.slice_bounds-run-end
slice_bounds-run-end c = count 2 c.args.text.now c.requires

pub unwrap-requires : goal.unwrap-requires
unwrap-requires c =
    let two = length-take-le 2 c.args.text.now c.requires in
    ap is_ok (run_fits c.args.state (take 2 c.args.text.now) (0 ∷ 0 ∷ []) c.run.ensures.0 (omega (arith, two)) (omega (arith, two)))

pub returns : goal.returns
returns c = number_runs c.args.state c.args.text.now c.run.ensures.1 c.off_protocol.ensures c.requires
