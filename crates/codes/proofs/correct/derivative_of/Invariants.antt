use Rattle.basics.specs.Lists.{Updated}
use Rattle.algebra.specs.Polynomials.{derivative}
use Rattle.algebra.specs.Recurrences.{at}
use Rattle.codes.proofs.correct.derivative_of.Given as goal

abbrev pub invariant-loop-j : goal.invariant-loop-j
invariant-loop-j g l = Updated l.j (derivative (g.R.Ring.ops l.ring) (at l.c)) l.initial.coefficient-items l.coefficient-items
