use Rattle.std.proofs.Common.{get_or, replicate}
use Rattle.basics.specs.Lists.{Updated}
use Rattle.fields.specs.Rings.{taken}
use Rattle.codes.proofs.rows.load.Given as goal

abbrev pub invariant-loop-i : goal.invariant-loop-i
invariant-loop-i l = Updated l.i (λ i. taken l.order (get_or l.symbols i 0)) (replicate 256 0) l.row
