use Rattle.std.proofs.Common.{◌+◌}
use Rattle.basics.specs.Lists.{Updated}
use Rattle.algebra.specs.Recurrences.{at}
use Rattle.solver.specs.Stages.{mended}
use Rattle.solver.proofs.mend.Given as goal

-- the places below up + j are mended, and the others are as they were
abbrev pub invariant-loop-j : goal.invariant-loop-j
invariant-loop-j g l =
    Updated (l.up + l.j) (mended (g.R.Ring.ops l.ring) (at l.initial.c) l.a l.up (at l.before.c)) l.initial.c l.c
