use Rattle.codes.proofs.Restoring.{Restored}
use Rattle.codes.proofs.Rowing.{Until}
use Rattle.codes.proofs.correct.correct_rows.Given as goal

abbrev pub invariant-loop-k : goal.invariant-loop-k
invariant-loop-k g l =
    Until (Restored (record { ring = g.F.Ring.ops l.field; point = g.F.Field.points l.field }) l.checks l.marked) l.width l.k l.initial.rows l.rows
