use Rattle.codes.specs.Fill.{Tabled, power_of}
use Rattle.codes.proofs.rows.power_table.Given as goal

abbrev pub invariant-loop-i : goal.invariant-loop-i
invariant-loop-i g l = Tabled l.i l.count (power_of (g.F.Ring.ops l.field) (g.F.Field.points l.field)) l.powers-items
