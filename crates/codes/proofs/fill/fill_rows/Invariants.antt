use Rattle.algebra.specs.Rows.{Filled}
use Rattle.codes.proofs.Rowing.{Until}
use Rattle.codes.proofs.fill.fill_rows.Given as goal

abbrev pub invariant-loop-k : goal.invariant-loop-k
invariant-loop-k g l =
    Until (Filled (record { ring = g.F.Ring.ops l.field; point = g.F.Field.points l.field }) l.columns) l.width l.k l.initial.rows l.rows
