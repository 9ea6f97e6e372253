use mathlib.Core.Path.{ap}
use mathlib.Core.List.{[], ◌∷◌}
use native.Mathlib.Omega.{arith}
use Rattle.std.specs.Prelude.{is_ok}
use Rattle.mppe_pieces.proofs.InnerLaws.{run_fits, kept_is}
use Rattle.mppe_pieces.proofs.Walk.kept.Goals as goal

pub unwrap-drawn-requires : goal.unwrap-drawn-requires
unwrap-drawn-requires c = ap is_ok (run_fits c.args.self.state c.args.piece.now (0 ∷ []) c.run.ensures.0 (omega (arith, c.requires)) (omega (arith, c.requires)))

pub returns : goal.returns
returns c = kept_is c.args.self c.args.piece.now c.requires c.run.ensures c.unwrap-drawn.ensures c.lone-first.ensures c.went_on.ensures
