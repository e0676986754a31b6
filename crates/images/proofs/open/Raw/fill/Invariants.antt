use Rattle.std.proofs.Common.{◌+◌}
use Rattle.basics.specs.Lists.{Updated}
use Rattle.images.specs.Opening.{bytes_at, reading_at}
use Rattle.images.proofs.open.Raw.fill.Given as goal

abbrev pub invariant-loop-i : goal.invariant-loop-i
invariant-loop-i l = Updated l.i (λ i. reading_at (bytes_at l.self.bytes) (l.first + i)) l.initial.cells l.cells
