use Rattle.basics.specs.Lists.{Updated}
use Rattle.algebra.specs.Coefficients.{sum_at}
use Rattle.algebra.proofs.poly.add.Given as goal

abbrev pub invariant-loop-j : goal.invariant-loop-j
invariant-loop-j g l = Updated l.j (sum_at (g.R.Ring.ops l.ring) l.initial.a l.b) l.initial.a l.a
