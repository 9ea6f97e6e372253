use Rattle.mppe.specs.Link.{zeros}
use lib.ListN.{drop}
use mathlib.Core.Path.{◌≡◌}
use Rattle.mppe.proofs.zeros_from.Given as goal

abbrev pub invariant-loop-i : goal.invariant-loop-i
invariant-loop-i l = zeros (drop l.from l.places) ≡ zeros (drop l.i l.places)
