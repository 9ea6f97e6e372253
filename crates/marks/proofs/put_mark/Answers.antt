use Prim.Native.Nat.{◌*◌, ◌-◌, ◌/◌}
use native.Mathlib.Omega.{arith}
use Rattle.marks.proofs.InnerLaws.{mark_put}
use Rattle.marks.proofs.put_mark.Goals as goal

pub returns : goal.returns
returns c = mark_put c.args.mark (51 * (c.args.mark.opened / 256 - 1)) c.args.out.now c.mark_octets-octets.ensures (omega (arith, c.requires.0, c.requires.1)) c.copy_at.ensures
