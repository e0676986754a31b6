use Rattle.solver.specs.Stages.{Held}
use Rattle.solver.proofs.shortest_recurrence.Given as goal

-- c is least for the values so far
abbrev pub invariant-loop-i : goal.invariant-loop-i
invariant-loop-i g l = Held (g.F.Ring.ops l.field) l.values l.i l.l l.c l.before
