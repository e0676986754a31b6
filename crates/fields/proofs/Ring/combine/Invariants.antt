use Rattle.fields.specs.Rings.{Combined}
use Rattle.fields.proofs.Ring.combine.Given as goal

abbrev pub invariant-loop-i : goal.invariant-loop-i
invariant-loop-i g l = Combined (g.Self.Ring.ops l.self) l.width l.i l.coefficients l.rows l.sums
