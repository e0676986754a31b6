use Rattle.std.proofs.Common.{◌-◌, length, get_or}
use Rattle.fields.specs.Rings.{entry}
use Rattle.codes.specs.Fill.{Tabled}
use Rattle.codes.proofs.fill.weighted.Given as goal

abbrev pub invariant-loop-s : goal.invariant-loop-s
invariant-loop-s g l =
    Tabled l.s (length l.weights) (λ s k. (g.R.Ring.ops l.ring).mul (get_or l.weights k 0) (entry l.quotients (length l.weights - 1 - s) k)) l.fillers-items
