use Rattle.basics.specs.Lists.{Updated}
use Rattle.codes.proofs.correct.inverse_points.Given as goal

abbrev pub invariant-loop-i : goal.invariant-loop-i
invariant-loop-i g l = Updated l.i (λ i. g.F.Field.inv l.field (g.F.Field.points l.field i)) l.initial.inverse-items l.inverse-items
